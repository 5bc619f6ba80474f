-- `write_blocks` meets its contract: after each turn the blocks before block i are written. Assumes nothing.
use mathlib.Core.List.{List}
use Prim.Native.Nat.{ℕ, ◌-◌, ◌≤◌, ◌<◌}
use lib.ListN.{length}
use Rattle.volume.specs.declared.Geometry.{Geometry}
use Rattle.inode_read.proofs.ReadLaws.{Turn}
use Rattle.books.specs.Books.{Steady}
use Rattle.inode_write.proofs.WriteLaws.{Rest}
use Rattle.inode_write.proofs.write_blocks.Given as goal

-- in the loop: `done` bytes are written, and the blocks from i on, in the image as it is, lead to what all of them lead to at first
pub record Going (geo : Geometry) (at size off : ℕ) (buf : List ℕ) (held : ℕ) (start img : List ℕ) (i from done all : ℕ) : Type 0 where
  pub some : 0 < geo.bsize
  pub upto : done ≤ length buf
  pub turn : Turn geo.bsize off (length buf) i from done
  pub steady : Steady geo start img
  pub rest : Rest geo at size off buf some img i all start held

abbrev pub invariant-loop-done : goal.invariant-loop-done
invariant-loop-done l = Going l.geo l.at l.size l.off l.buf l.held l.initial.img l.img l.i l.from l.done l.all

abbrev pub decreases-loop-done : goal.decreases-loop-done
decreases-loop-done l = l.n - l.done
