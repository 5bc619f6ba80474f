-- `write_block` meets its contract. Assumes nothing.
use mathlib.Core.Path.{sym, ◌∙◌}
use native.Mathlib.Omega.{arith}
use Rattle.frame.proofs.Places.{run_inside}
use Rattle.inode_write.proofs.RunLaws.{hole-room, at_room}
use Rattle.inode_write.proofs.WriteLaws.{piece-made, block_at, block-hole, block-past, block-bad}
use Rattle.inode_write.proofs.write_block.Goals as goal

pub address_at-requires : goal.address_at-requires
address_at-requires c =
    let k = c.requires in
    let q = at_room _ _ k.0 _ _ _ _ (omega (arith, k.3)) k.4 k.5 _ _ (sym c.run_of.ensures ∙ c.in-At.is) in
    omega (arith, run_inside _ _ k.0 _ _ q.0, k.0.laid.high)

pub overflow_add-address_at : goal.overflow_add-address_at
overflow_add-address_at c =
    let k = c.requires in
    let q = at_room _ _ k.0 _ _ _ _ (omega (arith, k.3)) k.4 k.5 _ _ (sym c.run_of.ensures ∙ c.in-At.is) in
    omega (arith, run_inside _ _ k.0 _ _ q.0, k.0.laid.high, q.1, c.address_at.ensures)

pub copy_bytes-requires : goal.copy_bytes-requires
copy_bytes-requires c =
    let k = c.requires in
    let q = at_room _ _ k.0 _ _ _ _ (omega (arith, k.3)) k.4 k.5 _ _ (sym c.run_of.ensures ∙ c.in-At.is) in
    (omega (arith, run_inside _ _ k.0 _ _ q.0, q.1, c.address_at.ensures), k.6)

pub fill_hole-requires : goal.fill_hole-requires
fill_hole-requires c =
    let k = c.requires in
    let q = hole-room _ _ k.0 _ _ _ _ (omega (arith, k.3)) k.4 k.5 _ (sym c.run_of.ensures ∙ c.in-Hole.is) in
    (k.0, k.1, k.2, q.0, q.1, k.6)

pub returns-in-At : goal.returns-in-At
returns-in-At c = block_at _ _ _ _ _ _ _ _ (sym c.run_of.ensures ∙ c.in-At.is) (piece-made _ _ 0 _ _ _ _ c.address_at.ensures c.copy_bytes.ensures)

pub returns-in-Hole : goal.returns-in-Hole
returns-in-Hole c = c.fill_hole.ensures ∙ block-hole _ _ _ _ _ _ _ _ (sym c.run_of.ensures ∙ c.in-Hole.is)

pub returns-in-Past : goal.returns-in-Past
returns-in-Past c = block-past _ _ _ _ _ _ _ _ (sym c.run_of.ensures ∙ c.in-Past.is)

pub returns-in-Bad : goal.returns-in-Bad
returns-in-Bad c = block-bad _ _ _ _ _ _ _ _ (sym c.run_of.ensures ∙ c.in-Bad.is)
