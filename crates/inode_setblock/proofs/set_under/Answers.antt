-- `set_under` meets its contract. Assumes nothing.
use mathlib.Core.Path.{◌∙◌}
use native.Mathlib.Omega.{arith}
use Rattle.inode_setblock.proofs.SetLaws.{under-direct, under-new, under-old, one-below}
use Rattle.inode_setblock.proofs.set_under.Goals as goal

pub returns-then-level-eq0 : goal.returns-then-level-eq0
returns-then-level-eq0 c = under-direct _ _ _ _ _ _ _ _ c.if-level-eq0.true c.put_record.ensures

pub set_root-requires : goal.set_root-requires
set_root-requires c = let k = c.requires in (k.0, k.1, k.2, omega (arith, k.3), one-below _ _ _ c.if-level-eq0.false k.4)

pub returns-then-r-eq0 : goal.returns-then-r-eq0
returns-then-r-eq0 c = c.set_root.ensures ∙ under-new _ _ _ _ _ _ _ _ c.read_address-r.ensures _ c.if-level-eq0.false c.if-r-eq0.true

pub set_in-requires : goal.set_in-requires
set_in-requires c = let k = c.requires in (k.0, omega (arith, k.3), one-below _ _ _ c.if-level-eq0.false k.4)

pub returns : goal.returns
returns c = c.set_in.ensures ∙ under-old _ _ _ _ _ _ _ _ c.read_address-r.ensures _ c.if-level-eq0.false c.if-r-eq0.false
