-- `next_from` meets its contract: no record of the blocks passed is listed. Assumes nothing.
use borrow.Author.Rules.{rules}
use mathlib.Core.Path.{refl, sym, ap, ◌∙◌}
use Prim.Native.Nat.{◌-◌, ◌≤◌, ◌/◌}
use native.Mathlib.Omega.{arith}
use lib.ListN.{length}
use Rattle.field.specs.Field.{part}
use Rattle.field.proofs.Laws.{length-part}
use Rattle.std.specs.Prelude.{Ok}
use Rattle.refusal.proofs.ExitLaws.{passed}
use Rattle.dirfile.specs.Block.{dir_block}
use Rattle.dirnext.specs.Next.{next_answer}
use Rattle.dirnext.proofs.NextLaws.{fetch_refused, fetch_long, among-end, among-unread, turn-told, turn-next, turn-bad, from_start, told_pair, told_inside}
use Rattle.dirnext.proofs.next_from.Goals as goal

pub loop-k-init : goal.loop-k-init
loop-k-init c = (refl, from_start _ _ _ _ _ _)

pub returns-in_err-fetch : goal.returns-in_err-fetch
returns-in_err-fetch c =
    let s = c.args in
    let k = c.loop-k in
    rw (passed _ _ c.from_residual.ensures) (ap next_answer (sym (among-unread s.geo s.at s.size s.img.now (s.size / 512) k.k k.pos k.buf c.loop-k-test.true _ (fetch_refused _ _ _ _ c.in_err-fetch.ensures refl)) ∙ k.invariant.1))

pub slice_bounds-listed_from-end : goal.slice_bounds-listed_from-end
slice_bounds-listed_from-end c =
    let s = c.args in
    let k = c.loop-k in
    omega (arith, c.requires.2, k.invariant.0, fetch_long k.buf c.fetch.new.buf _ (dir_block s.geo s.at s.size s.img.now k.k) c.fetch.ensures)

pub tell-requires : goal.tell-requires
unfolding part
tell-requires c =
    let s = c.args in
    let p = c.requires in
    let k = c.loop-k in
    let l = c.loop-k-test.true in
    let new = c.fetch.new.buf in
    let long : 512 ≤ length new = omega (arith, p.2, k.invariant.0, fetch_long k.buf new _ (dir_block s.geo s.at s.size s.img.now k.k) c.fetch.ensures) in
    let i = told_inside _ (part 512 0 new) _ _ (length-part 512 0 new long) (ap Ok (sym c.in-Some.is) ∙ c.in_ok-s.ensures) in
    (omega (arith, i.ends), omega (arith, i.ends), i.small)

pub returns-in-Some : goal.returns-in-Some
unfolding part
returns-in-Some c =
    let s = c.args in
    let p = c.requires in
    let k = c.loop-k in
    let l = c.loop-k-test.true in
    let new = c.fetch.new.buf in
    let t = turn-told s.geo s.img.now p.0 s.at s.size (s.size / 512) k.k k.pos k.buf l (omega (arith, l)) (omega (arith, p.2, k.invariant.0)) new _ c.in_ok-fetch.ensures refl in
    let r = t _ (ap Ok (sym c.in-Some.is) ∙ c.in_ok-s.ensures) in told_pair new _ c.tell.ensures (sym k.invariant.1 ∙ r)

pub returns-in_err-s : goal.returns-in_err-s
unfolding part
returns-in_err-s c =
    let s = c.args in
    let p = c.requires in
    let k = c.loop-k in
    let l = c.loop-k-test.true in
    let new = c.fetch.new.buf in
    let t = turn-bad s.geo s.img.now p.0 s.at s.size (s.size / 512) k.k k.pos k.buf l (omega (arith, l)) (omega (arith, p.2, k.invariant.0)) new _ c.in_ok-fetch.ensures refl in
    rw (passed _ _ c.from_residual-in_err-s.ensures) (ap next_answer (sym (t c.in_err-s.ensures) ∙ k.invariant.1))

pub loop-k-preserved : goal.loop-k-preserved
unfolding part
loop-k-preserved c =
    let s = c.args in
    let p = c.requires in
    let k = c.loop-k in
    let l = c.loop-k-test.true in
    let new = c.fetch.new.buf in
    let t = turn-next s.geo s.img.now p.0 s.at s.size (s.size / 512) k.k k.pos k.buf l (omega (arith, l)) (omega (arith, p.2, k.invariant.0)) new _ c.in_ok-fetch.ensures refl in
    (fetch_long k.buf new _ (dir_block s.geo s.at s.size s.img.now k.k) c.fetch.ensures ∙ k.invariant.0, sym (t (ap Ok (sym c.in_default.is) ∙ c.in_ok-s.ensures)) ∙ k.invariant.1)

pub returns : goal.returns
returns c = let k = c.loop-k in ap next_answer (sym (among-end _ _ _ _ _ _ _ _ (omega (arith, c.loop-k-test.false))) ∙ k.invariant.1)
