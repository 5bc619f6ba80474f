-- `put_shrunk` meets its contract. Assumes nothing.
use mathlib.Core.Path.{ap, ◌∙◌}
use Rattle.inode.proofs.SizeLaws.{units}
use Rattle.inode_truncate.specs.Truncate.{first_gone}
use Rattle.inode_truncate.proofs.RecordLaws.{shrunk-apply}
use Rattle.inode_truncate.proofs.put_shrunk.Goals as goal

pub first_gone-k-requires : goal.first_gone-k-requires
first_gone-k-requires c = (units _ c.requires.0.sizes).block_top

pub returns : goal.returns
returns c =
    shrunk-apply _ _ _ _ _ (c.first_gone-k.ensures.0 ∙ ap (first_gone _) c.keep_of.ensures) _ _ _ _ c.put_size.ensures c.put_blocks.ensures c.zero_bytes.ensures
