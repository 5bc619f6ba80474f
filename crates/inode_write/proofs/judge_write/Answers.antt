-- `judge_write` meets its contract. Assumes nothing.
use borrow.Author.Tests.{leb-true}
use mathlib.Core.Path.{sym, ◌∙◌}
use native.Mathlib.Omega.{arith}
use Prim.Native.Nat.{◌+◌}
use Rattle.inode.proofs.SizeLaws.{units}
use Rattle.mapping.proofs.MappingLaws.{per-most}
use Rattle.inode_write.specs.Calls.{limit_of}
use Rattle.inode_write.proofs.CallLaws.{limit_small, judged-in-place, judged-unsized, judged-big, judged-grow}
use Rattle.inode_write.proofs.judge_write.Goals as goal

pub returns-then-n-is_in_place : goal.returns-then-n-is_in_place
returns-then-n-is_in_place c = judged-in-place _ _ _ _ _ _ c.is_in_place.ensures c.if-n-is_in_place.true

pub returns-then-n-is_sized : goal.returns-then-n-is_sized
returns-then-n-is_sized c = judged-unsized _ _ _ _ _ _ c.is_in_place.ensures c.if-n-is_in_place.false _ c.is_sized.ensures c.if-n-is_sized.true

pub in_limit-requires : goal.in_limit-requires
in_limit-requires c = (units _ c.requires.0.sizes).block_top

pub returns-then-not-in_limit : goal.returns-then-not-in_limit
returns-then-not-in_limit c = judged-big _ _ _ _ _ _ c.is_in_place.ensures c.if-n-is_in_place.false _ c.is_sized.ensures c.if-n-is_sized.false _ c.in_limit.ensures (c.if-not-in_limit.true)

pub overflow_add-off : goal.overflow_add-off
overflow_add-off c =
    let k = c.requires in
    let a = c.args in
    let l = leb-true (a.off + a.n) (limit_of a.geo) (sym c.in_limit.ensures ∙ c.if-not-in_limit.false) in
    omega (arith, l, limit_small a.geo (per-most _ _ k.0) (units _ k.0.sizes).block_top)

pub returns : goal.returns
returns c =
    c.grow_rule.ensures
    ∙ judged-grow _ _ _ _ _ _ c.is_in_place.ensures c.if-n-is_in_place.false _ c.is_sized.ensures c.if-n-is_sized.false _ c.in_limit.ensures (c.if-not-in_limit.false) _ c.max.ensures
