-- `count_inode` meets its contract. Assumes nothing.
use Rattle.std.proofs.Common.{refl, rules}
use Rattle.store.proofs.StoreLaws.{apply_if-yes}
use Rattle.frame.proofs.WriteLaws.{count-frame}
use Rattle.volume.specs.declared.Count.TheVariants.{Nifree}
use Rattle.ialloc_give.proofs.MarkLaws.{counted-left}
use Rattle.ialloc_give.proofs.count_inode.Goals as goal

pub put_total_if-requires : goal.put_total_if-requires
put_total_if-requires c =
    rw (c.put_count_if.ensures, apply_if-yes refl _ _) (count-frame _ _ c.requires.0 _ Nifree _ c.requires.1)

pub returns : goal.returns
returns c =
    counted-left _ _ _ _ c.group_count-n.result c.read_total-t.result _ _ c.group_count-n.ensures c.count_after.ensures c.put_count_if.ensures c.read_total-t.ensures c.total_after.ensures c.put_total_if.ensures
