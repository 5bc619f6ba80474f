-- `free_lists` meets its contract: the lists from place i on, in the image as it is, lead to what all of them lead to at first. Assumes nothing.
use mathlib.Core.Path.{refl}
use native.Mathlib.Omega.{arith}
use Prim.Native.Nat.{◌-◌}
use Rattle.refusal.proofs.ExitLaws.{passed}
use Rattle.inode.proofs.SizeLaws.{units}
use Rattle.books.proofs.SteadyLaws.{steady-refl, steady-trans}
use Rattle.books.proofs.KeepLaws.{kept-left}
use Rattle.ialloc_tree.proofs.TreeLaws.{keeps-tree}
use Rattle.inode_shrink.proofs.ShrinkLaws.{lists-left, lists-good, lists-bad, lists-end, per_bytes}
use Rattle.inode_shrink.proofs.free_lists.Goals as goal

pub per_list-per-requires : goal.per_list-per-requires
per_list-per-requires c = (units _ c.requires.0.sizes).block_top

pub loop-i-init : goal.loop-i-init
loop-i-init c = record { steady = steady-refl _ _ c.requires.0; same = lists-left _ _ _ _ _ _ }

pub entry_in-next-requires : goal.entry_in-next-requires
entry_in-next-requires c =
    let k = c.requires in
    omega (arith, c.loop-i-test.true, c.per_list-per.ensures.0, per_bytes _ _ k.0, k.1)

pub free_address-requires : goal.free_address-requires
free_address-requires c = c.loop-i.invariant.steady.frame

pub returns-in_err-left : goal.returns-in_err-left
returns-in_err-left c =
    rw (passed _ _ c.from_residual.ensures) (lists-bad _ _ _ _ c.per_list-per.ensures.0 _ _ _ _ c.loop-i.invariant.same c.loop-i-test.true _ c.entry_in-next.ensures c.in_err-left.ensures refl)

pub loop-i-preserved : goal.loop-i-preserved
loop-i-preserved c =
    record {
      steady = steady-trans _ c.loop-i.invariant.steady (kept-left _ (keeps-tree _ _ _ _ _ _) c.loop-i.invariant.steady.frame c.in_ok-left.ensures);
      same = lists-good _ _ _ _ c.per_list-per.ensures.0 _ _ _ _ c.loop-i.invariant.same c.loop-i-test.true _ c.entry_in-next.ensures c.in_ok-left.ensures refl;
    }

pub returns : goal.returns
returns c = lists-end _ _ _ _ c.per_list-per.ensures.0 _ _ _ _ c.loop-i.invariant.same c.loop-i-test.false
