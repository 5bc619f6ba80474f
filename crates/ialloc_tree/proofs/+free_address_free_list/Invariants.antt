-- The cycle of calls {free_address, free_list}: an address calls its list at the same level, which calls addresses one lower;
-- the measures are 2 * level + 1 and 2 * level.
use mathlib.Core.Path.{◌≡◌}
use mathlib.Core.List.{List}
use Prim.Native.Nat.{ℕ, ◌+◌, ◌-◌}
use Rattle.store.specs.Act.{each, leaves}
use Rattle.volume.specs.declared.Geometry.{Geometry}
use Rattle.inode.specs.declared.Shape.{Shape}
use Rattle.mapping.specs.Mapping.{per_list}
use Rattle.books.specs.Books.{Steady}
use Rattle.ialloc_tree.specs.Tree.{at_entry, free_tree}
use Rattle.ialloc_tree.proofs.+free_address_free_list.Given as goal

-- in the loop: the entries from i on, in the image as it is, lead to what all of them lead to at first
pub record Going (geo : Geometry) (s : Shape) (level a held : ℕ) (start img : List ℕ) (left i : ℕ) : Type 0 where
  pub steady : Steady geo start img
  pub same : leaves (each (at_entry (free_tree geo s (level - 1)) geo a) (per_list geo - i) i left) img ≡ leaves (each (at_entry (free_tree geo s (level - 1)) geo a) (per_list geo) 0 held) start

abbrev pub decreases-free_address : goal.decreases-free_address
decreases-free_address l = l.level + l.level + 1

abbrev pub decreases-free_list : goal.decreases-free_list
decreases-free_list l = l.level + l.level

abbrev pub invariant-free_list-loop-i : goal.invariant-free_list-loop-i
invariant-free_list-loop-i l = Going l.geo l.s l.level l.a.0 l.held l.initial.img l.img l.left l.i
