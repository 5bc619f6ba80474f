-- `count_map` meets its contract: the counts are those of the bytes passed. Assumes nothing.
use mathlib.Core.Path.{◌≡◌, sym, ap, ◌∙◌}
use Prim.Native.Nat.{◌+◌, ◌*◌, ◌/◌, min}
use native.Mathlib.Nat.{mul-add, mul-le-mul_right, mul-div-le, div-le_self}
use native.Mathlib.Omega.{arith}
use Rattle.bits.specs.Bits.{free_blocks, free_frags}
use Rattle.bits.proofs.BitsLaws.{frag-some}
use Rattle.bits.proofs.CountLaws.{blocks-none, blocks-le, frags-none, frags-le, blocks-free, pass-here, pass-end, pass-byte}
use Rattle.bits_count.proofs.count_map.Goals as goal

pub nonzero_div-nb : goal.nonzero_div-nb
nonzero_div-nb c = frag-some _ c.requires.0

pub loop-i-init : goal.loop-i-init
loop-i-init c =
    let z : min (c.per_byte-per.result * 0) (c.args.n / c.args.frag) ≡ 0 = omega arith in
    let w : min 0 c.args.n ≡ 0 = omega arith in
    (rw z (sym (blocks-none _ _ _)), rw w (sym (frags-none _ _)))

pub overflow_mul-per : goal.overflow_mul-per
overflow_mul-per c = omega (arith, mul-le-mul_right c.loop-i.i c.per_byte-per.ensures.2)

pub overflow_add-per : goal.overflow_add-per
overflow_add-per c = omega (arith, mul-le-mul_right c.loop-i.i c.per_byte-per.ensures.2)

pub overflow_mul-per-in-loop-i : goal.overflow_mul-per-in-loop-i
overflow_mul-per-in-loop-i c = omega (arith, mul-le-mul_right c.loop-i.i c.per_byte-per.ensures.2)

pub blocks_in_byte-blocks-requires : goal.blocks_in_byte-blocks-requires
blocks_in_byte-blocks-requires c =
    pass-byte _ _ c.args.n _ c.requires.0 c.per_byte-per.ensures.0 _ _ _ c.min-to.ensures c.loop-i-test.true c.requires.1

pub overflow_add-blocks : goal.overflow_add-blocks
overflow_add-blocks c =
    let per = c.per_byte-per in
    let e = pass-here _ _ c.args.n _ c.requires.0 per.ensures.0 c.loop-i-test.true in
    let q = c.loop-i.invariant.0 ∙ ap (free_blocks c.args.frag c.args.img.now c.args.at) e in
    omega (arith, c.blocks_in_byte-blocks.ensures, blocks-le c.args.frag c.args.img.now c.args.at c.min-to.result, div-le_self c.args.n c.args.frag)

pub overflow_add-frags : goal.overflow_add-frags
overflow_add-frags c =
    let w : min (8 * c.loop-i.i) c.args.n ≡ 8 * c.loop-i.i = omega arith in
    let q = c.loop-i.invariant.1 ∙ ap (free_frags c.args.img.now c.args.at) w in
    omega (arith, c.frags_in_byte-frags.ensures, frags-le c.args.img.now c.args.at (8 * c.loop-i.i + c.min.result))

pub loop-i-preserved : goal.loop-i-preserved
loop-i-preserved c =
    let per = c.per_byte-per in
    let e = pass-here _ _ c.args.n _ c.requires.0 per.ensures.0 c.loop-i-test.true in
    let w : min (8 * c.loop-i.i) c.args.n ≡ 8 * c.loop-i.i = omega arith in
    let t : min (per.result * (c.loop-i.i + 1)) (c.args.n / c.args.frag) ≡ c.min-to.result = omega (arith, mul-add per.result c.loop-i.i 1, c.min-to.ensures) in
    let v : min (8 * (c.loop-i.i + 1)) c.args.n ≡ 8 * c.loop-i.i + c.min.result = omega (arith, c.min.ensures) in
    let q = c.loop-i.invariant.0 ∙ ap (free_blocks c.args.frag c.args.img.now c.args.at) e in
    let p = c.loop-i.invariant.1 ∙ ap (free_frags c.args.img.now c.args.at) w in
    (rw t (omega (arith, c.blocks_in_byte-blocks.ensures)), rw v (omega (arith, c.frags_in_byte-frags.ensures)))

pub returns : goal.returns
returns c =
    let per = c.per_byte-per in
    let e = pass-end _ _ c.args.n c.loop-i.i c.requires.0 per.ensures.0 (omega arith) in
    let w : min (8 * c.loop-i.i) c.args.n ≡ c.args.n = omega arith in
    let b = c.loop-i.invariant.0 ∙ ap (free_blocks c.args.frag c.args.img.now c.args.at) e in
    let f = c.loop-i.invariant.1 ∙ ap (free_frags c.args.img.now c.args.at) w in
    (b, f, rw (b, f) (blocks-free _ _ _ _ (frag-some _ c.requires.0) c.args.n (mul-div-le c.args.n c.args.frag)))
