-- `copy_root` meets its contract. Assumes nothing.
use borrow.Author.Rules.{rules}
use mathlib.Core.Path.{◌≡◌}
use native.Mathlib.Omega.{arith}
use lib.ListN.{length}
use Rattle.inode.proofs.SizeLaws.{units}
use Rattle.inode_shrink.proofs.ShrinkLaws.{list_bytes, copied}
use Rattle.inode_shrink.proofs.copy_root.Goals as goal

pub address_at-requires : goal.address_at-requires
address_at-requires c = let k = c.requires in omega (arith, list_bytes _ _ k.0 _ k.1)

pub copy_bytes-requires : goal.copy_bytes-requires
copy_bytes-requires c =
    let k = c.requires in
    let n : length c.args.root.now ≡ 65536 = search rules in
    (omega (arith, n, (units _ k.0.sizes).block_top), omega (arith, list_bytes _ _ k.0 _ k.1, c.address_at.ensures))

pub returns : goal.returns
returns c =
    let k = c.requires in
    let n : length c.args.root.now ≡ 65536 = search rules in
    copied _ _ k.0 _ k.1 _ _ n (rw c.address_at.ensures at c.copy_bytes.ensures)
