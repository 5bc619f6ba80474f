-- `count_free` meets its contract: the total is that of the bytes passed. Assumes nothing.
use mathlib.Core.Path.{◌≡◌, sym, ap, ◌∙◌}
use Prim.Native.Nat.{ℕ, ◌+◌, ◌*◌, ◌/◌, ◌%◌}
use native.Mathlib.Omega.{arith}
use Rattle.bits.specs.Bits.{free_frags}
use Rattle.bits.proofs.CountLaws.{frags-none, frags-le}
use Rattle.bits_count.proofs.count_free.Goals as goal

pub loop-i-init : goal.loop-i-init
loop-i-init c = sym (frags-none _ _)

pub overflow_add-total : goal.overflow_add-total
overflow_add-total c = let a = c.args in omega (arith, frags-le a.img.now a.at (8 * c.loop-i.i + 8))

pub loop-i-preserved : goal.loop-i-preserved
loop-i-preserved c =
    let a = c.args in
    let i = c.loop-i.i in
    let e : 8 * (i + 1) ≡ 8 * i + 8 = omega arith in
    rw e (omega (arith, c.frags_in_byte-total.ensures))

pub returns-then-rest-eq0 : goal.returns-then-rest-eq0
returns-then-rest-eq0 c = let e : 8 * c.loop-i.i ≡ c.args.n = omega arith in c.loop-i.invariant ∙ ap (free_frags _ _) e

pub overflow_add-result : goal.overflow_add-result
overflow_add-result c =
    let a = c.args in
    let e : c.loop-i.i ≡ a.n / 8 = omega arith in
    let t = c.loop-i.invariant ∙ ap (λ (i : ℕ). free_frags a.img.now a.at (8 * i)) e in
    omega (arith, frags-le a.img.now a.at (8 * (a.n / 8) + a.n % 8))

pub returns : goal.returns
returns c =
    let a = c.args in
    let e : c.loop-i.i ≡ a.n / 8 = omega arith in
    let q : 8 * (a.n / 8) + a.n % 8 ≡ a.n = omega arith in
    cc
