-- `found_ok` meets its contract. Assumes nothing.
use borrow.Author.Rules.{rules}
use mathlib.Core.Path.{◌≡◌, sym, ◌∙◌}
use mathlib.Core.List.{List}
use Prim.Native.Nat.{ℕ}
use Rattle.std.specs.Prelude.{Result, Ok, Err}
use Rattle.std.specs.Result.{is_ok}
use Rattle.refusal.specs.declared.Refusal.{Refusal}
use Rattle.volume.specs.declared.Geometry.{Geometry}
use Rattle.frame.specs.Frame.{Frame}
use Rattle.inode_run.specs.declared.Spot.{Spot}
use Rattle.inode_run.specs.Find.{find_inode, found_of}
use Rattle.inode_run.proofs.FindLaws.{found-got}
use Rattle.inode_read.proofs.JudgeLaws.{found_no}
use Rattle.unlink_judge.specs.Unlink.{found_ok}
use Rattle.unlink_judge.proofs.UnlinkLaws.{found-is, found-not}
use Rattle.unlink_judge.proofs.found_ok.Goals as goal

found_as : (geo : Geometry) (img : List ℕ) (i : ℕ) → Frame geo img → (r : Result Spot Refusal) → r ≡ found_of (find_inode geo img i) → is_ok r ≡ found_ok geo img i
found_as geo img i fr (Ok s) e = sym (found-is geo img i fr s (found-got _ _ e))
found_as geo img i fr (Err x) e = sym (found-not geo img i x (found_no _ _ e))

pub returns : goal.returns
returns c = c.is_ok.ensures.value ∙ found_as _ _ _ c.requires c.find_inode.result c.find_inode.ensures
