-- `walk::find_in` meets its contract: no attribute passed has the text. Assumes nothing.
use mathlib.Core.Path.{◌≡◌}
use Prim.Native.Nat.{◌-◌, ◌≤◌}
use Rattle.attrrec.specs.Search.{search_from, named, find_in}
use Rattle.xattr.specs.Area.{gathered}
use Rattle.xattr.proofs.walk.find_in.Given as goal

abbrev pub invariant-loop-e : goal.invariant-loop-e
invariant-loop-e l = (l.b ≤ l.a.size) × (search_from (named (gathered l.a l.img) l.name) l.o (gathered l.a l.img) l.b ≡ find_in l.o (gathered l.a l.img) l.name)

abbrev pub decreases-loop-e : goal.decreases-loop-e
decreases-loop-e l = l.a.size - l.b
