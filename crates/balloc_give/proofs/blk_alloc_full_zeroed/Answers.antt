-- `blk_alloc_full_zeroed` meets its contract: the block given lies in the image, and is zeroed. Assumes nothing.
use Rattle.std.proofs.Common.{refl, arith, rules}
use Rattle.refusal.proofs.ExitLaws.{passed}
use Rattle.balloc_give.proofs.GiveLaws.{zeroed-in, zeroed-made, zeroed-not}
use Rattle.balloc_give.proofs.blk_alloc_full_zeroed.Goals as goal

pub address_at-requires : goal.address_at-requires
address_at-requires c =
    let i = zeroed-in _ _ _ _ _ c.in_ok-a.ensures c.requires _ refl in
    omega arith

pub zero_bytes-requires : goal.zero_bytes-requires
zero_bytes-requires c =
    let i = zeroed-in _ _ _ _ _ c.in_ok-a.ensures c.requires _ refl in
    omega (arith, c.address_at.ensures)

pub returns : goal.returns
returns c =
    zeroed-made _ _ _ _ _ c.in_ok-a.ensures _ refl _ (rw (← c.address_at.ensures) c.zero_bytes.ensures)

pub returns-in_err-a : goal.returns-in_err-a
returns-in_err-a c = rw (passed _ _ c.from_residual.ensures) (zeroed-not _ _ _ _ _ c.in_err-a.ensures _ refl)
