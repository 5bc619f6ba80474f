-- `free_addresses` meets its contract: the addresses from k on, in the image as it is, lead to what all of them lead to at first. Assumes nothing.
use mathlib.Core.Path.{◌≡◌}
use mathlib.Core.List.{List}
use Prim.Native.Nat.{ℕ, ◌-◌}
use Rattle.store.specs.Act.{each, leaves}
use Rattle.volume.specs.declared.Geometry.{Geometry}
use Rattle.inode.specs.declared.Shape.{Shape}
use Rattle.books.specs.Books.{Steady}
use Rattle.ialloc_free.specs.Free.{free_address}
use Rattle.ialloc_free.proofs.free_addresses.Given as goal

pub record Going (geo : Geometry) (s : Shape) (rec start img : List ℕ) (held k : ℕ) : Type 0 where
  pub steady : Steady geo start img
  pub same : leaves (each (free_address geo s rec) (15 - k) k held) img ≡ leaves (each (free_address geo s rec) 15 0 s.blocks) start

abbrev pub invariant-loop-k : goal.invariant-loop-k
invariant-loop-k l = Going l.geo l.s l.rec l.initial.img l.img l.held l.k
