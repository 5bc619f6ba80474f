-- `close_up` meets its contract: after each turn the blocks before block q are moved. Assumes nothing.
use borrow.Author.Rules.{rules}
use mathlib.Core.List.{List}
use Prim.Native.Nat.{ℕ}
use Rattle.volume.specs.declared.Geometry.{Geometry}
use Rattle.books.specs.Books.{Steady}
use Rattle.dirwrite.proofs.WriteLaws.{Closing}
use Rattle.dirwrite.proofs.close_up.Given as goal

-- in the loop: the layout is as it was, and the blocks from q on lead to what all of them lead to at first
pub record Going (geo : Geometry) (at size k : ℕ) (start img : List ℕ) (q : ℕ) : Type 0 where
  pub steady : Steady geo start img
  pub rest : Closing geo at size k start img q

abbrev pub invariant-loop-q : goal.invariant-loop-q
invariant-loop-q l = Going l.geo l.at l.size l.k l.initial.img l.img l.q
