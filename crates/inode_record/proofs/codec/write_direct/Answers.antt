-- `codec::write_direct` meets its contract: after k turns the first k addresses are written. Assumes nothing.
use borrow.Author.Rules.{rules}
use mathlib.Core.Path.{◌≡◌}
use native.Mathlib.Omega.{arith}
use Rattle.inode_record.proofs.SlotLaws.{row-none, row_step}
use Rattle.inode_record.proofs.codec.write_direct.Goals as goal

pub loop-k-init : goal.loop-k-init
loop-k-init c = (search rules, row-none _ _ _ _ c.args.list _)

pub loop-k-preserved : goal.loop-k-preserved
loop-k-preserved c =
    let a = c.args in
    (search rules, row_step _ _ _ _ a.list a.img.now _ c.loop-k.invariant.1 c.put.ensures)

pub returns : goal.returns
returns c = let e : c.loop-k.k ≡ 12 = omega arith in rw (← e) (cc)
