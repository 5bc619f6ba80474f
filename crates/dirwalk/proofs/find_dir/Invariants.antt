-- `find_dir` meets its contract: no block passed has the name. Assumes nothing.
use borrow.Author.Rules.{rules}
use mathlib.Core.Path.{◌≡◌}
use Prim.Native.Nat.{◌-◌}
use Rattle.dirfile.specs.Seek.{seek_from}
use Rattle.dirfile.proofs.SeekLaws.{said}
use Rattle.dirwalk.specs.Walk.{find_dir}
use Rattle.dirwalk.proofs.WalkLaws.{finds}
use Rattle.dirwalk.proofs.find_dir.Given as goal

abbrev pub invariant-loop-k : goal.invariant-loop-k
invariant-loop-k l = seek_from (said l.geo l.at l.size l.img (finds l.geo l.name)) (l.n - l.k) l.k ≡ find_dir l.geo l.at l.size l.img l.name
