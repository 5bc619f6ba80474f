-- `list_block` meets its contract: what is written and what is left to write is the whole listing. Assumes nothing.
use borrow.Author.Rules.{rules}
use mathlib.Core.Path.{◌≡◌, refl, sym, ◌∙◌}
use Prim.Native.Nat.{◌*◌, ◌-◌, ◌≤◌}
use native.Mathlib.Omega.{arith}
use lib.ListN.{length}
use Rattle.dirblock.specs.Walk.{walk_from}
use Rattle.dirblock.proofs.RecordLaws.{never-unused}
use Rattle.dirblock.proofs.WalkLaws.{sized}
use Rattle.dirtext.specs.Text.{walk_text, wrote}
use Rattle.dirtext.proofs.TextLaws.{line-room, line-next, listed-line, listed-end, listed-bad}
use Rattle.dirtext.proofs.list_block.Given as goal

abbrev pub invariant-loop-e : goal.invariant-loop-e
invariant-loop-e l = (l.pos ≤ length l.block) × (length l.out ≡ length l.initial.out) × (l.at ≤ 6 * l.pos) × (wrote l.at (walk_text l.block (walk_from l.o l.block l.pos)) l.out ≡ wrote 0 (walk_text l.block (walk_from l.o l.block 0)) l.initial.out)

abbrev pub decreases-loop-e : goal.decreases-loop-e
decreases-loop-e l = length l.block - l.pos
