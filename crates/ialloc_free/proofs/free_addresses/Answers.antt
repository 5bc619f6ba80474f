-- `free_addresses` meets its contract: the addresses from k on, in the image as it is, lead to what all of them lead to at first. Assumes nothing.
use borrow.Author.Rules.{rules}
use mathlib.Core.Path.{refl}
use Rattle.refusal.proofs.ExitLaws.{passed}
use Rattle.store.proofs.ActLaws.{each_start}
use Rattle.books.proofs.SteadyLaws.{steady-refl, steady-trans}
use Rattle.books.proofs.KeepLaws.{kept-left}
use Rattle.ialloc_tree.proofs.TreeLaws.{keeps-tree}
use Rattle.ialloc_free.proofs.FreeLaws.{addresses-good, addresses-bad, addresses-end}
use Rattle.ialloc_free.proofs.free_addresses.Goals as goal

pub loop-k-init : goal.loop-k-init
loop-k-init c = record { steady = steady-refl _ _ c.requires.0; same = each_start _ _ 0 _ _ }

pub returns-in_err-held : goal.returns-in_err-held
returns-in_err-held c =
    rw (passed _ _ c.from_residual.ensures)
    (addresses-bad _ _ _ _ _ _ _ c.loop-k.invariant.same c.loop-k-test.true _ _ c.lists_of.ensures c.read_address-a.ensures c.in_err-held.ensures refl)

pub loop-k-preserved : goal.loop-k-preserved
loop-k-preserved c =
    record {
      steady = steady-trans _ c.loop-k.invariant.steady (kept-left _ (keeps-tree _ _ _ _ _ _) c.loop-k.invariant.steady.frame c.in_ok-held.ensures);
      same = addresses-good _ _ _ _ _ _ _ c.loop-k.invariant.same c.loop-k-test.true _ _ c.lists_of.ensures c.read_address-a.ensures c.in_ok-held.ensures refl;
    }

pub returns : goal.returns
returns c = addresses-end _ _ _ _ _ _ _ c.loop-k.invariant.same c.loop-k-test.false
