-- `shrink_direct` meets its contract: the addresses from i on, in the image as it is, lead to what all of them lead to at first. Assumes nothing.
use mathlib.Core.Path.{◌≡◌}
use mathlib.Core.List.{List}
use Prim.Native.Nat.{ℕ, ◌-◌}
use Rattle.store.specs.Act.{each, leaves}
use Rattle.volume.specs.declared.Geometry.{Geometry}
use Rattle.inode.specs.declared.Shape.{Shape}
use Rattle.books.specs.Books.{Steady}
use Rattle.ialloc_tree.specs.Tree.{free_tree}
use Rattle.inode_truncate.specs.Truncate.{at_address, shrink_direct}
use Rattle.inode_truncate.proofs.shrink_direct.Given as goal

pub record Going (geo : Geometry) (at : ℕ) (s : Shape) (keep held : ℕ) (start img : List ℕ) (left i : ℕ) : Type 0 where
  pub steady : Steady geo start img
  pub same : leaves (each (λ i h. at_address geo at i (λ a. free_tree geo s 0 a i h)) (12 - i) i left) img ≡ leaves (shrink_direct geo at s keep held) start

abbrev pub invariant-loop-i : goal.invariant-loop-i
invariant-loop-i l = Going l.geo l.at l.s l.keep l.held l.initial.img l.img l.left l.i
