-- `inode_in_group` meets its contract: the group is searched if it counts an inode. Assumes nothing.
use Rattle.std.proofs.Common.{sym, ◌∙◌, rules}
use Rattle.balloc_give.specs.Give.{positive}
use Rattle.ialloc_give.proofs.ChooseLaws.{found_in, passed}
use Rattle.ialloc_give.proofs.inode_in_group.Goals as goal

pub returns-then-n : goal.returns-then-n
unfolding positive
returns-then-n c =
    c.first_clear_bit.ensures ∙ found_in _ _ _ _ c.used_at-at.ensures.0 (rw (← c.group_count-n.ensures) c.if-n.true)

pub returns : goal.returns
unfolding positive
returns c = sym (passed _ _ _ (rw (← c.group_count-n.ensures) c.if-n.false))
