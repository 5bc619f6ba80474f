-- `write_found` meets its contract. Assumes nothing.
use mathlib.Core.Path.{refl, sym}
use native.Mathlib.Omega.{arith}
use Rattle.refusal.proofs.ExitLaws.{passed}
use Rattle.inode.proofs.SizeLaws.{units}
use Rattle.mapping.proofs.MappingLaws.{per-most}
use Rattle.inode_write.proofs.CallLaws.{limit_small, judged-fits, found-judged, found-done, found-stop}
use Rattle.inode_write.proofs.write_found.Goals as goal

pub write_at-requires : goal.write_at-requires
write_at-requires c =
    let k = c.requires in
    let l = judged-fits _ _ _ _ _ (sym c.in_ok-judge_write.ensures) in
    (k.0, k.1, k.2, omega (arith, l, limit_small _ (per-most _ _ k.0) (units _ k.0.sizes).block_top))

pub returns : goal.returns
returns c = found-done _ _ _ _ _ c.in_ok-judge_write.ensures refl c.in_ok-write_at.ensures refl

pub returns-in_err-write_at : goal.returns-in_err-write_at
returns-in_err-write_at c = rw (passed _ _ c.from_residual-in_err-write_at.ensures) (found-stop _ _ _ _ _ c.in_ok-judge_write.ensures refl c.in_err-write_at.ensures refl)

pub returns-in_err-judge_write : goal.returns-in_err-judge_write
returns-in_err-judge_write c = rw (passed _ _ c.from_residual.ensures) (found-judged _ _ _ _ _ c.in_err-judge_write.ensures refl)
