-- `free_lists` meets its contract: the lists from place i on, in the image as it is, lead to what all of them lead to at first. Assumes nothing.
use mathlib.Core.Path.{◌≡◌}
use mathlib.Core.List.{List}
use Prim.Native.Nat.{ℕ, ◌-◌}
use Rattle.store.specs.Act.{each, leaves}
use Rattle.volume.specs.declared.Geometry.{Geometry}
use Rattle.inode.specs.declared.Shape.{Shape}
use Rattle.mapping.specs.Mapping.{per_list}
use Rattle.books.specs.Books.{Steady}
use Rattle.ialloc_tree.specs.Tree.{free_tree}
use Rattle.inode_shrink.specs.Shrink.{entry_in, free_lists}
use Rattle.inode_shrink.proofs.free_lists.Given as goal

pub record Going (geo : Geometry) (s : Shape) (root : List ℕ) (u held : ℕ) (start img : List ℕ) (left i : ℕ) : Type 0 where
  pub steady : Steady geo start img
  pub same : leaves (each (λ i h. free_tree geo s 1 (entry_in geo root i) i h) (per_list geo - i) i left) img ≡ leaves (free_lists geo s (entry_in geo root) u held) start

abbrev pub invariant-loop-i : goal.invariant-loop-i
invariant-loop-i l = Going l.geo l.s l.root l.u l.held l.initial.img l.img l.left l.i
