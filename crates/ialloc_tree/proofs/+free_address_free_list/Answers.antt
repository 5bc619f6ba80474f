-- `free_address` and `free_list` meet their contracts, below a measure. Assumes nothing.
use mathlib.Core.Path.{refl, sym, ◌∙◌}
use native.Mathlib.Omega.{arith}
use Rattle.store.proofs.ActLaws.{each_start, step-good, step-bad}
use Rattle.refusal.proofs.ExitLaws.{passed}
use Rattle.inode.proofs.SizeLaws.{units}
use Rattle.books.proofs.SteadyLaws.{steady-refl, steady-trans, steady-run}
use Rattle.books.proofs.KeepLaws.{kept-left}
use Rattle.ialloc_tree.proofs.TreeLaws.{walk_none, walk-leaf, walk-bad, walk-list, list-good, list-bad, list-end, keeps-tree}
use Rattle.ialloc_tree.proofs.+free_address_free_list.Goals as goal

pub free_address-returns-then-a-eq0 : goal.free_address-returns-then-a-eq0
free_address-returns-then-a-eq0 t c = walk_none _ _ _ _ _ _ _ _ c.if-a-eq0.true

pub free_address-returns-then-level-eq0 : goal.free_address-returns-then-level-eq0
free_address-returns-then-level-eq0 t c = c.free_block.ensures ∙ walk-leaf _ _ _ _ _ _ _ c.if-a-eq0.false _ c.if-level-eq0.true

pub free_address-returns-then-not-run_ok : goal.free_address-returns-then-not-run_ok
free_address-returns-then-not-run_ok t c = walk-bad _ _ _ _ _ _ _ c.if-a-eq0.false _ c.if-level-eq0.false (sym c.run_ok.ensures ∙ c.if-not-run_ok.true)

pub free_address-returns : goal.free_address-returns
free_address-returns t c =
    c.free_list.ensures
    ∙ walk-list _ _ _ _ _ _ _ c.if-a-eq0.false _ c.if-level-eq0.false (sym c.run_ok.ensures ∙ c.if-not-run_ok.false)

pub free_list-per_list-per-requires : goal.free_list-per_list-per-requires
free_list-per_list-per-requires t c = (units _ c.requires.0.sizes).block_top

pub free_list-loop-i-init : goal.free_list-loop-i-init
free_list-loop-i-init t c = record { steady = steady-refl _ _ c.requires.0; same = each_start _ _ 0 _ _ }

pub free_list-entry-next-requires : goal.free_list-entry-next-requires
free_list-entry-next-requires t c =
    (c.loop-i.invariant.steady.frame, steady-run _ c.loop-i.invariant.steady _ _ ∙ c.requires.1, rw (← c.per_list-per.ensures.0) c.loop-i-test.true)

pub free_list-returns-in_err-left : goal.free_list-returns-in_err-left
free_list-returns-in_err-left t c =
    rw (passed _ _ c.from_residual.ensures)
    (step-bad _ _ _ (list-bad _ _ _ _ c.per_list-per.ensures.0 _ _ _ _ c.loop-i.invariant.same c.loop-i-test.true _ c.entry-next.ensures c.in_err-left.ensures refl) refl)

pub free_list-loop-i-preserved : goal.free_list-loop-i-preserved
free_list-loop-i-preserved t c =
    record {
      steady = steady-trans _ c.loop-i.invariant.steady (kept-left _ (keeps-tree _ _ _ _ _ _) c.loop-i.invariant.steady.frame c.in_ok-left.ensures);
      same = list-good _ _ _ _ c.per_list-per.ensures.0 _ _ _ _ c.loop-i.invariant.same c.loop-i-test.true _ c.entry-next.ensures c.in_ok-left.ensures refl;
    }

pub free_list-returns : goal.free_list-returns
free_list-returns t c =
    c.free_own.ensures ∙ step-good _ _ _ (list-end _ _ _ _ c.per_list-per.ensures.0 _ _ _ _ c.loop-i.invariant.same c.loop-i-test.false) refl
