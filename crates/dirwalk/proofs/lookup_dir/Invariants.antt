-- `lookup_dir` meets its contract: no block passed has the name. Assumes nothing.
use borrow.Author.Rules.{rules}
use mathlib.Core.Path.{◌≡◌}
use Prim.Native.Nat.{◌-◌}
use Rattle.dirfile.specs.Seek.{seek_from}
use Rattle.dirfile.proofs.SeekLaws.{said}
use Rattle.dirwalk.specs.Walk.{lookup_dir}
use Rattle.dirwalk.proofs.WalkLaws.{looks}
use Rattle.dirwalk.proofs.lookup_dir.Given as goal

abbrev pub invariant-loop-k : goal.invariant-loop-k
invariant-loop-k l = seek_from (said l.geo l.at l.size l.img (looks l.geo l.name)) (l.n - l.k) l.k ≡ lookup_dir l.geo l.at l.size l.img l.name
