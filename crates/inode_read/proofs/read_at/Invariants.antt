-- `read_at` meets its contract: after each turn the blocks before block i are read. Assumes nothing.
use mathlib.Core.Path.{◌≡◌}
use Prim.Native.Nat.{◌-◌, ◌≤◌}
use lib.ListN.{length}
use Rattle.inode_read.proofs.ReadLaws.{Reading}
use Rattle.inode_read.proofs.read_at.Given as goal

abbrev pub invariant-loop-done : goal.invariant-loop-done
invariant-loop-done l = (l.done ≤ l.n) × (length l.buf ≡ length l.initial.buf) × Reading l.geo l.at l.size l.img l.off l.n l.initial.buf l.buf l.i l.from l.done

abbrev pub decreases-loop-done : goal.decreases-loop-done
decreases-loop-done l = l.n - l.done
