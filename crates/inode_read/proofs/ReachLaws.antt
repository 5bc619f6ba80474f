-- A block holds what the file's size asks of it, and its run lies in the image. Assumes nothing.
use Rattle.std.specs.Prelude.{Some}
use mathlib.Core.Path.{◌≡◌, refl, sym, ap, subst, ◌∙◌}
use mathlib.Core.Bool.{Bool, true, false}
use mathlib.Core.List.{List}
use mathlib.Core.Logic.{⊎_elim}
use Prim.Native.Nat.{ℕ, ◌+◌, ◌-◌, ◌*◌, ◌/◌, ◌%◌, ◌≤◌, ◌<◌}
use native.Mathlib.Nat.{div-add-mod', le-div_iff_mul-le, mul-div_left, mul-div_right, mul_comm, lt-div-mul-add}
use native.Mathlib.Omega.{arith}
use Rattle.volume.specs.declared.Geometry.{Geometry}
use Rattle.volume.specs.declared.FragNum.{FragNum}
use Rattle.sound.specs.Test.{Sized}
use Rattle.frame.specs.Frame.{Frame, run_okb}
use Rattle.frame.proofs.Places.{order, run_is, run_inside}
use Rattle.inode.specs.declared.Extent.{Extent}
use Rattle.inode.specs.Size.{pick, extent_of, held_at}
use Rattle.inode.proofs.SizeLaws.{size-is, units, held-block, held-tail}
use Rattle.mapping.specs.declared.Mapped.{Mapped}
use Rattle.mapping.specs.Mapping.{mapped}
use Rattle.inode_run.specs.declared.Run.{Run}
use Rattle.inode_run.specs.Run.{run_for, run_at}
use Rattle.inode_run.proofs.RunLaws.{run-at-is}
use Rattle.inode_read.specs.Read.{Reaches}

pub block-some : (geo : Geometry) → Sized geo → 0 < geo.bsize
block-some geo z = omega (arith, (units geo z).block)

-- the block holds `held` bytes, `end` of them at least, in whole fragments
pub record Covers (geo : Geometry) (size i end : ℕ) : Type 0 where
  pub held : ℕ
  pub is : held_at geo size i ≡ Some held
  pub far : end ≤ held
  pub whole : held / geo.fsize * geo.fsize ≡ held

module _ (geo : Geometry) (z : Sized geo) (size i end : ℕ) (some : 0 < end) (l : end ≤ geo.bsize) (h : i * geo.bsize + end ≤ size) where
  blocks_is : (extent_of geo size).blocks ≡ size / geo.bsize
  blocks_is = ap (λ (e : Extent). e.blocks) (size-is geo.bsize geo.fsize size)

  frags-is : (extent_of geo size).frags ≡ (size % geo.bsize + (geo.fsize - 1)) / geo.fsize
  frags-is = ap (λ (e : Extent). e.frags) (size-is geo.bsize geo.fsize size)

  -- a whole block
  within_block : i < size / geo.bsize → Covers geo size i end
  within_block b =
      let u = units geo z in
      let unit : 0 < geo.fsize = omega (arith, u.unit) in
      record {
        held = geo.bsize;
        is = held-block geo size i (omega (arith, blocks_is));
        far = l;
        whole = ap (λ (x : ℕ). x / geo.fsize * geo.fsize) (sym u.frags) ∙ ap (λ (x : ℕ). x * geo.fsize) (mul-div_right geo.frag unit) ∙ mul_comm geo.frag geo.fsize ∙ u.frags;
      }

  -- the tail
  in_tail : size / geo.bsize ≡ i → Covers geo size i end
  in_tail b =
      let u = units geo z in
      let unit : 0 < geo.fsize = omega (arith, u.unit) in
      let f = (size % geo.bsize + (geo.fsize - 1)) / geo.fsize in
      let split : size / geo.bsize * geo.bsize + size % geo.bsize ≡ size = div-add-mod' size geo.bsize in
      let same : size / geo.bsize * geo.bsize ≡ i * geo.bsize = ap (λ (x : ℕ). x * geo.bsize) b in
      let rest : end ≤ size % geo.bsize = omega arith in
      let up : size % geo.bsize + (geo.fsize - 1) < f * geo.fsize + geo.fsize = lt-div-mul-add unit in
      let one : 1 ≤ f = (le-div_iff_mul-le {k = geo.fsize} unit).1 (omega arith) in
      record {
        held = (extent_of geo size).frags * geo.fsize;
        is = held-tail geo size i (omega (arith, blocks_is)) (omega (arith, blocks_is, frags-is));
        far = rw frags-is (omega arith);
        whole = ap (λ (x : ℕ). x * geo.fsize) (mul-div_left (extent_of geo size).frags unit);
      }

  pub held-covers : Covers geo size i end
  held-covers =
      let u = units geo z in
      let most : i ≤ size / geo.bsize = (le-div_iff_mul-le {k = geo.bsize} (omega (arith, u.block))).1 (omega arith) in
      ⊎_elim within_block (λ r. ⊎_elim (λ e. in_tail (sym e)) (λ g. absurd (let y : ⊥ = omega arith in y)) r) (order i (size / geo.bsize))

-- the part of a block that the size asks for lies in the image
module _ (geo : Geometry) (img : List ℕ) (fr : Frame geo img) (at size i end : ℕ) (some : 0 < end) (l : end ≤ geo.bsize) (h : i * geo.bsize + end ≤ size) where
  pub run-reaches : (r : Run) → r ≡ run_at geo at size img i → Reaches geo img r end
  run-reaches r e =
      let c = held-covers geo fr.sizes size i end some l h in
      subst (λ (r : Run). Reaches geo img r end) (sym (e ∙ run-at-is geo at size img i ∙ ap (λ (x : _). run_for geo img x (mapped geo at img i)) c.is))
      (go c (mapped geo at img i))
    where
      fits : (c : Covers geo size i end) (a : FragNum) (b : Bool) → run_okb geo img a.0 (c.held / geo.fsize) ≡ b → Reaches geo img (pick b (Run.At a c.held) Run.Bad) end
      fits c a true ok = omega (arith, run_inside geo img fr a.0 (c.held / geo.fsize) (run_is geo img a.0 (c.held / geo.fsize) ok), c.whole, c.far)
      fits c a false ok = tt {0}

      go : (c : Covers geo size i end) (m : Mapped) → Reaches geo img (run_for geo img (Some c.held) m) end
      go c (Mapped.At a) = fits c a (run_okb geo img a.0 (c.held / geo.fsize)) refl
      go c Mapped.Hole = tt {0}
      go c Mapped.Bad = tt {0}
      go c Mapped.Past = tt {0}
