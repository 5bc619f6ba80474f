-- `list::measure` meets its contract: what was passed is counted. Assumes nothing.
use mathlib.Core.Path.{◌≡◌}
use Prim.Native.Nat.{◌-◌, ◌*◌, ◌≤◌}
use Rattle.attrrec.specs.Search.{list_from, list_in}
use Rattle.xattr.specs.Area.{gathered}
use Rattle.xattr.specs.Calls.{measured}
use Rattle.xattr.proofs.ListLaws.{plus}
use Rattle.xattr.proofs.list.measure.Given as goal

abbrev pub invariant-loop-e : goal.invariant-loop-e
invariant-loop-e l = (l.b ≤ l.a.size) × (l.n ≤ 2 * l.b) × (plus l.n (measured (list_from l.o (gathered l.a l.img) l.b)) ≡ measured (list_in l.o (gathered l.a l.img)))

abbrev pub decreases-loop-e : goal.decreases-loop-e
decreases-loop-e l = l.a.size - l.b
