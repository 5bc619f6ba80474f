-- `shrink_direct` meets its contract: the addresses from i on, in the image as it is, lead to what all of them lead to at first. Assumes nothing.
use mathlib.Core.Path.{refl}
use native.Mathlib.Omega.{arith}
use Prim.Native.Nat.{◌-◌}
use Rattle.refusal.proofs.ExitLaws.{passed}
use Rattle.books.proofs.SteadyLaws.{steady-refl, steady-trans}
use Rattle.books.proofs.KeepLaws.{kept-left}
use Rattle.ialloc_tree.proofs.TreeLaws.{keeps-tree}
use Rattle.inode_truncate.proofs.ZoneLaws.{direct-left, direct_good, direct-bad, direct-end}
use Rattle.inode_truncate.proofs.shrink_direct.Goals as goal

pub loop-i-init : goal.loop-i-init
loop-i-init c = record { steady = steady-refl _ _ c.requires.0; same = direct-left _ _ _ _ _ _ }

pub read_address-a-requires : goal.read_address-a-requires
read_address-a-requires c =
    (rw c.loop-i.invariant.steady.long c.requires.1, omega (arith, c.loop-i-test.true))

pub free_address-requires : goal.free_address-requires
free_address-requires c = c.loop-i.invariant.steady.frame

pub returns-in_err-left : goal.returns-in_err-left
returns-in_err-left c =
    rw (passed _ _ c.from_residual.ensures) (direct-bad _ _ _ _ _ _ _ c.loop-i.invariant.same c.loop-i-test.true _ c.read_address-a.ensures c.in_err-left.ensures refl)

pub loop-i-preserved : goal.loop-i-preserved
loop-i-preserved c =
    record {
      steady = steady-trans _ c.loop-i.invariant.steady (kept-left _ (keeps-tree _ _ _ _ _ _) c.loop-i.invariant.steady.frame c.in_ok-left.ensures);
      same = direct_good _ _ _ _ _ _ _ c.loop-i.invariant.same c.loop-i-test.true _ c.read_address-a.ensures c.in_ok-left.ensures refl;
    }

pub returns : goal.returns
returns c = direct-end _ _ _ _ _ _ _ c.loop-i.invariant.same c.loop-i-test.false
