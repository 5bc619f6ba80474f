-- `place_of` meets its contract. Assumes nothing.
use native.Mathlib.Omega.{arith}
use Rattle.mapping.proofs.ZoneLaws.{place-direct, place-first, place-second, place-third, place-past}
use Rattle.mapping.proofs.place_of.Goals as goal

pub returns-then-n-lt12 : goal.returns-then-n-lt12
returns-then-n-lt12 c = place-direct _ _ c.if-n-lt12.true

pub returns-then-n-second : goal.returns-then-n-second
returns-then-n-second c = place-first _ _ (omega arith) _ c.span-second.ensures.0 c.if-n-second.true

pub returns-then-n-third : goal.returns-then-n-third
returns-then-n-third c = place-second _ _ (omega arith) _ c.span-second.ensures.0 (omega arith) _ c.span.ensures.0 c.if-n-third.true

pub returns-then-n-end : goal.returns-then-n-end
returns-then-n-end c =
    place-third _ _ (omega arith) _ c.span-second.ensures.0 (omega arith) _ c.span.ensures.0 (omega arith) _
    c.span-2.ensures.0
    c.if-n-end.true

pub returns : goal.returns
returns c =
    place-past _ _ (omega arith) _ c.span-second.ensures.0 (omega arith) _ c.span.ensures.0 (omega arith) _
    c.span-2.ensures.0
    (omega arith)
