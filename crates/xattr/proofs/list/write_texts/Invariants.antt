-- `list::write_texts` meets its contract: the texts of the attributes passed are written. Assumes nothing.
use mathlib.Core.Path.{◌≡◌}
use Prim.Native.Nat.{◌-◌, ◌≤◌}
use lib.ListN.{length}
use Rattle.xattr.specs.Area.{gathered}
use Rattle.xattr.proofs.ListLaws.{Writing}
use Rattle.xattr.proofs.list.write_texts.Given as goal

abbrev pub invariant-loop-e : goal.invariant-loop-e
invariant-loop-e l = (l.b ≤ l.a.size) × (length l.out ≡ length l.initial.out) × Writing l.o (gathered l.a l.img) l.initial.out l.out l.b l.n

abbrev pub decreases-loop-e : goal.decreases-loop-e
decreases-loop-e l = l.a.size - l.b
