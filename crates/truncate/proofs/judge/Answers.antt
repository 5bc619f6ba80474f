-- `judge` meets its contract. Assumes nothing.
use mathlib.Core.Path.{sym, ◌∙◌}
use Rattle.inode.proofs.SizeLaws.{units}
use Rattle.truncate.proofs.CallLaws.{judge-text, judge-far, judge-shrinks, judge-triple, judge-grows}
use Rattle.truncate.proofs.judge.Goals as goal

pub returns-then-is_in_place-new : goal.returns-then-is_in_place-new
returns-then-is_in_place-new c = judge-text _ _ _ _ _ (rw (← c.is_in_place.ensures) c.if-is_in_place-new.true)

pub zones_bytes-requires : goal.zones_bytes-requires
zones_bytes-requires c = (units _ c.requires.0.sizes).block_top

pub returns-then-zones_bytes-new : goal.returns-then-zones_bytes-new
returns-then-zones_bytes-new c = judge-far _ _ _ _ _ (rw (← c.is_in_place.ensures) c.if-is_in_place-new.false) (rw (← c.zones_bytes.ensures) c.if-zones_bytes-new.true)

pub returns-then-ends_before : goal.returns-then-ends_before
returns-then-ends_before c =
    judge-shrinks _ _ _ _ _ (rw (← c.is_in_place.ensures) c.if-is_in_place-new.false) (rw (← c.zones_bytes.ensures) c.if-zones_bytes-new.false) c.if-new-s.true (sym c.ends_before.ensures ∙ c.if-ends_before.true)

pub returns-then-new-s : goal.returns-then-new-s
returns-then-new-s c =
    judge-triple _ _ _ _ _ (rw (← c.is_in_place.ensures) c.if-is_in_place-new.false) (rw (← c.zones_bytes.ensures) c.if-zones_bytes-new.false) c.if-new-s.true (sym c.ends_before.ensures ∙ c.if-ends_before.false)

pub returns : goal.returns
returns c =
    c.grow_rule.ensures ∙ judge-grows _ _ _ _ _ (rw (← c.is_in_place.ensures) c.if-is_in_place-new.false) (rw (← c.zones_bytes.ensures) c.if-zones_bytes-new.false) c.if-new-s.false
