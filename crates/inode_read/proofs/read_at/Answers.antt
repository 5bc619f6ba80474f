-- `read_at` meets its contract: after each turn the blocks before block i are read. Assumes nothing.
use borrow.Author.Rules.{rules}
use mathlib.Core.Path.{refl, sym, ◌∙◌}
use Prim.Native.Nat.{◌+◌}
use native.Mathlib.Omega.{arith}
use Rattle.refusal.proofs.ExitLaws.{passed}
use Rattle.inode_read.proofs.ReachLaws.{block-some, run-reaches}
use Rattle.inode_read.proofs.ReadLaws.{reading-start, reading-stop, reading-next, reading-end, turn_small, turn-piece, reading-long}
use Rattle.inode_read.proofs.read_at.Goals as goal

pub nonzero_div-i : goal.nonzero_div-i
nonzero_div-i c = block-some _ c.requires.0.sizes

pub nonzero_rem-from : goal.nonzero_rem-from
nonzero_rem-from c = block-some _ c.requires.0.sizes

pub loop-done-init : goal.loop-done-init
loop-done-init c = (search rules, refl, reading-start _ _ _ _ _ _ _ (block-some _ c.requires.0.sizes) c.requires.2)

pub overflow_sub-geo : goal.overflow_sub-geo
overflow_sub-geo c = omega (arith, c.loop-done.invariant.2.turn.inside c.loop-done-test.true)

pub read_piece-requires : goal.read_piece-requires
read_piece-requires c =
    let s = c.args in
    let p = c.requires in
    let k = c.loop-done in
    let t = turn-piece s.geo.bsize s.off s.n (block-some _ p.0.sizes) k.i k.from k.done k.invariant.2.turn c.loop-done-test.true c.min-num.result c.min-num.ensures in (
      run-reaches s.geo s.img.now p.0 s.at s.size k.i (k.from + c.min-num.result) (omega (arith, t.some)) t.within_block (omega (arith, t.reach, p.4)) c.run_of-r.result c.run_of-r.ensures,
      omega (arith, t.asked, k.invariant.1, p.3),
      p.0.laid.high,
    )

pub returns-in_err-read_piece : goal.returns-in_err-read_piece
returns-in_err-read_piece c =
    let s = c.args in
    let k = c.loop-done in
    rw (passed _ _ c.from_residual.ensures) (reading-stop s.geo s.at s.size s.img.now s.off s.n s.buf.now (block-some _ c.requires.0.sizes) k.buf k.i k.from k.done k.invariant.2 c.loop-done-test.true
    c.run_of-r.result c.run_of-r.ensures c.min-num.result _ c.read_piece.ensures.1 (sym c.in_err-read_piece.ensures.0))

pub overflow_add-done : goal.overflow_add-done
overflow_add-done c =
    let s = c.args in
    let k = c.loop-done in
    omega (arith, (turn-piece s.geo.bsize s.off s.n (block-some _ c.requires.0.sizes) k.i k.from k.done k.invariant.2.turn c.loop-done-test.true c.min-num.result c.min-num.ensures).asked)

pub overflow_add-i : goal.overflow_add-i
overflow_add-i c =
    let s = c.args in
    let k = c.loop-done in
    omega (arith, turn_small s.geo.bsize s.off s.n (block-some _ c.requires.0.sizes) k.i k.from k.done k.invariant.2.turn c.loop-done-test.true, c.requires.4)

pub loop-done-smaller : goal.loop-done-smaller
loop-done-smaller c =
    let s = c.args in
    let k = c.loop-done in
    let l = c.loop-done-test.true in
    omega (arith, l, (turn-piece s.geo.bsize s.off s.n (block-some _ c.requires.0.sizes) k.i k.from k.done k.invariant.2.turn l c.min-num.result c.min-num.ensures).some)

pub loop-done-preserved : goal.loop-done-preserved
loop-done-preserved c =
    let s = c.args in
    let p = c.requires in
    let k = c.loop-done in
    let l = c.loop-done-test.true in
    let b = block-some _ p.0.sizes in
    let t = turn-piece s.geo.bsize s.off s.n b k.i k.from k.done k.invariant.2.turn l c.min-num.result c.min-num.ensures in
    let reach = run-reaches s.geo s.img.now p.0 s.at s.size k.i (k.from + c.min-num.result) (omega (arith, t.some)) t.within_block (omega (arith, t.reach, p.4)) c.run_of-r.result c.run_of-r.ensures in
    let next =
    reading-next s.geo s.at s.size s.img.now s.off s.n s.buf.now b k.buf k.i k.from k.done k.invariant.2 l
    c.run_of-r.result c.run_of-r.ensures c.min-num.result _ c.read_piece.ensures.1 (sym c.in_ok-read_piece.ensures.0) c.min-num.ensures reach in
    (t.asked, reading-long s.geo s.at s.size s.img.now s.off s.n s.buf.now next, next)

pub returns : goal.returns
returns c =
    let s = c.args in
    let k = c.loop-done in
    reading-end s.geo s.at s.size s.img.now s.off s.n s.buf.now (block-some _ c.requires.0.sizes) k.buf k.i k.from k.done k.invariant.2 (omega (arith, c.loop-done-test.false)) k.invariant.0
