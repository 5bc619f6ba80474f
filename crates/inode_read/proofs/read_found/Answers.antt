-- `read_found` meets its contract. Assumes nothing.
use mathlib.Core.Path.{sym, ap, ◌∙◌}
use Prim.Native.Nat.{◌-◌}
use native.Mathlib.Nat.{min-le_left, min-le_right}
use native.Mathlib.Omega.{arith}
use lib.ListN.{length}
use Rattle.inode_read.specs.Calls.{read_answer}
use Rattle.inode_read.proofs.CallLaws.{read_none, read-in-place, read-unsized, read-blocks}
use Rattle.inode_read.proofs.read_found.Goals as goal

pub returns-then-n-eq0 : goal.returns-then-n-eq0
returns-then-n-eq0 c = sym (ap read_answer (read_none _ _ _ _ _ _ (sym c.asked-n.ensures ∙ c.if-n-eq0.true)))

pub returns-then-is_in_place : goal.returns-then-is_in_place
returns-then-is_in_place c = sym (ap read_answer (read-in-place _ _ _ _ _ _ (λ z. c.if-n-eq0.false (c.asked-n.ensures ∙ z)) (sym c.is_in_place.ensures ∙ c.if-is_in_place.true)))

pub returns-then-not-is_sized : goal.returns-then-not-is_sized
returns-then-not-is_sized c =
    sym (ap read_answer (read-unsized _ _ _ _ _ _ (λ z. c.if-n-eq0.false (c.asked-n.ensures ∙ z)) (sym c.is_in_place.ensures ∙ c.if-is_in_place.false) (sym c.is_sized.ensures ∙ c.if-not-is_sized.true)))

pub read_at-requires : goal.read_at-requires
read_at-requires c =
    let s = c.args in
    let p = c.requires in
    let n = c.asked-n.ensures in
    let some = c.if-n-eq0.false in
    let room = min-le_left (length s.buf.now) (s.s.shape.size - s.off) in
    let left = min-le_right (length s.buf.now) (s.s.shape.size - s.off) in
    (p.0, p.1, omega (arith, some), omega (arith, n, room), omega (arith, n, left, some))

pub returns : goal.returns
returns c =
    c.read_at.ensures
    ∙ sym (ap read_answer (read-blocks _ _ _ _ _ _ (λ z. c.if-n-eq0.false (c.asked-n.ensures ∙ z)) (sym c.is_in_place.ensures ∙ c.if-is_in_place.false) (sym c.is_sized.ensures ∙ c.if-not-is_sized.false) c.asked-n.result c.asked-n.ensures))
