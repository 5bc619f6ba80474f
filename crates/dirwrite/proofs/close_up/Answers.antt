-- `close_up` meets its contract: after each turn the blocks before block q are moved. Assumes nothing.
use borrow.Author.Rules.{rules}
use mathlib.Core.Path.{refl}
use native.Mathlib.Omega.{arith}
use Rattle.refusal.proofs.ExitLaws.{passed}
use Rattle.books.proofs.SteadyLaws.{steady-refl, steady-trans}
use Rattle.books.proofs.KeepLaws.{kept-left}
use Rattle.dirwrite.proofs.WriteLaws.{close-start, close-next, close-stop, close-end}
use Rattle.dirwrite.proofs.WriteKeeps.{keeps-move}
use Rattle.dirwrite.proofs.close_up.Goals as goal

pub loop-q-init : goal.loop-q-init
loop-q-init c = record { steady = steady-refl _ _ c.requires.0; rest = close-start _ _ _ _ _ }

pub returns-in_err-move_block : goal.returns-in_err-move_block
returns-in_err-move_block c =
    let g = c.loop-q.invariant in
    rw (passed _ _ c.from_residual.ensures) (close-stop _ _ _ _ _ _ _ g.rest (omega (arith, c.loop-q-test.true)) c.in_err-move_block.ensures refl)

pub loop-q-preserved : goal.loop-q-preserved
loop-q-preserved c =
    let g = c.loop-q.invariant in
    record {
      steady = steady-trans _ g.steady (kept-left _ (keeps-move _ _ c.requires.2 _ _) g.steady.frame c.move_block.ensures);
      rest = close-next _ _ _ _ _ _ _ g.rest (omega (arith, c.loop-q-test.true)) c.in_ok-move_block.ensures refl;
    }

pub returns : goal.returns
returns c = close-end _ _ _ _ _ _ _ c.loop-q.invariant.rest (omega (arith, c.loop-q-test.false))
