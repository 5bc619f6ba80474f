-- `write_blocks` meets its contract: after each turn the blocks before block i are written. Assumes nothing.
use mathlib.Core.Path.{◌≡◌, refl, ap, ◌∙◌}
use mathlib.Core.List.{List}
use native.Mathlib.Omega.{arith}
use Prim.Native.Nat.{ℕ, ◌-◌, ◌<◌, min}
use lib.ListN.{length}
use Rattle.refusal.proofs.ExitLaws.{passed}
use Rattle.volume.specs.declared.Geometry.{Geometry}
use Rattle.inode_read.proofs.ReachLaws.{block-some}
use Rattle.inode_read.proofs.ReadLaws.{Piece, turn-start, turn-next, turn_small, turn-piece}
use Rattle.books.proofs.SteadyLaws.{steady-refl, steady-trans}
use Rattle.books.proofs.KeepLaws.{kept-left}
use Rattle.inode_write.proofs.WriteLaws.{rest-start, rest-next, rest-stop, rest_end}
use Rattle.inode_write.proofs.WriteKeeps.{keeps_piece}
use Rattle.inode_write.proofs.write_blocks.Invariants.{Going}
use Rattle.inode_write.proofs.write_blocks.Goals as goal

-- what the turn writes
piece : {geo : Geometry} {at size off : ℕ} {buf : List ℕ} {held : ℕ} {start img : List ℕ} {i from done all : ℕ} → Going geo at size off buf held start img i from done all
    → done < length buf → (num : ℕ) → num ≡ min (geo.bsize - from) (length buf - done) → Piece geo.bsize off (length buf) i from done num
piece g l num e = turn-piece _ _ _ g.some _ _ _ g.turn l num e

-- the piece's length is the least of the two, whatever number stands for what is left
least : (a b j num : ℕ) → num ≡ min a j → j ≡ b → num ≡ min a b
least a b j num e h = e ∙ ap (min a) h

pub nonzero_div-i : goal.nonzero_div-i
nonzero_div-i c = block-some _ c.requires.0.sizes

pub nonzero_rem-from : goal.nonzero_rem-from
nonzero_rem-from c = block-some _ c.requires.0.sizes

pub loop-done-init : goal.loop-done-init
loop-done-init c =
    let k = c.requires in
    let b = block-some _ k.0.sizes in
    record { some = b; upto = omega arith; turn = turn-start _ _ _ b k.3; steady = steady-refl _ _ k.0; rest = rest-start _ _ _ _ _ b _ _ }

pub overflow_sub-geo : goal.overflow_sub-geo
overflow_sub-geo c = omega (arith, c.loop-done.invariant.turn.inside c.loop-done-test.true)

pub write_block-requires : goal.write_block-requires
write_block-requires c =
    let k = c.requires in
    let g = c.loop-done.invariant in
    let p = piece g c.loop-done-test.true _ (least _ _ _ _ c.min-num.ensures (omega arith)) in
    (g.steady.frame, omega (arith, g.steady.long, k.1), k.2, p.some, p.within_block, omega (arith, p.reach, k.4), p.asked)

pub returns-in_err-all : goal.returns-in_err-all
returns-in_err-all c =
    let g = c.loop-done.invariant in
    rw (passed _ _ c.from_residual.ensures) (rest-stop _ _ _ _ _ g.some _ _ _ _ _ g.turn _ _ g.rest c.loop-done-test.true _ (least _ _ _ _ c.min-num.ensures (omega arith)) c.in_err-all.ensures refl)

pub overflow_add-done : goal.overflow_add-done
overflow_add-done c = omega (arith, (piece c.loop-done.invariant c.loop-done-test.true _ (least _ _ _ _ c.min-num.ensures (omega arith))).asked)

pub overflow_add-i : goal.overflow_add-i
overflow_add-i c =
    let g = c.loop-done.invariant in
    omega (arith, turn_small _ _ _ g.some _ _ _ g.turn c.loop-done-test.true, c.requires.4)

pub loop-done-smaller : goal.loop-done-smaller
loop-done-smaller c = omega (arith, c.loop-done-test.true, (piece c.loop-done.invariant c.loop-done-test.true _ (least _ _ _ _ c.min-num.ensures (omega arith))).some)

pub loop-done-preserved : goal.loop-done-preserved
loop-done-preserved c =
    let k = c.requires in
    let g = c.loop-done.invariant in
    let l = c.loop-done-test.true in
    let e = (least _ _ _ _ c.min-num.ensures (omega arith)) in
    let p = piece g l _ e in
    record {
      some = g.some;
      upto = p.asked;
      turn = turn-next _ _ _ g.some _ _ _ g.turn l _ e;
      steady = steady-trans _ g.steady (kept-left _ (keeps_piece _ _ k.2 _ _ _ _ _ _ p.some p.within_block (omega (arith, p.reach, k.4)) p.asked _) g.steady.frame c.in_ok-all.ensures);
      rest = rest-next _ _ _ _ _ g.some _ _ _ _ _ g.turn _ _ g.rest l _ e c.in_ok-all.ensures refl;
    }

pub returns : goal.returns
returns c = let g = c.loop-done.invariant in rest_end _ _ _ _ _ g.some _ _ _ _ _ g.turn _ _ g.rest (omega (arith, c.loop-done-test.false))
