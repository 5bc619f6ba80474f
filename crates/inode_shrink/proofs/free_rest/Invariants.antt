-- `free_rest` meets its contract: the addresses from i on, in the image as it is, lead to what all of them lead to at first. Assumes nothing.
use mathlib.Core.Path.{◌≡◌}
use mathlib.Core.List.{List}
use Prim.Native.Nat.{ℕ, ◌+◌, ◌-◌}
use Rattle.store.specs.Act.{each, leaves}
use Rattle.volume.specs.declared.Geometry.{Geometry}
use Rattle.inode.specs.declared.Shape.{Shape}
use Rattle.mapping.specs.Mapping.{per_list}
use Rattle.books.specs.Books.{Steady}
use Rattle.ialloc_tree.specs.Tree.{at_entry, free_tree}
use Rattle.inode_shrink.specs.Shrink.{free_rest}
use Rattle.inode_shrink.proofs.free_rest.Given as goal

pub record Going (geo : Geometry) (s : Shape) (a base u held : ℕ) (start img : List ℕ) (left i : ℕ) : Type 0 where
  pub steady : Steady geo start img
  pub same : leaves (each (at_entry (λ e i h. free_tree geo s 0 e (base + i) h) geo a) (per_list geo - i) i left) img ≡ leaves (free_rest geo s a base u held) start

abbrev pub invariant-loop-i : goal.invariant-loop-i
invariant-loop-i l = Going l.geo l.s l.a.0 l.base l.u l.held l.initial.img l.img l.left l.i
