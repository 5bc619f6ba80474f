-- A file that may grow owns at its new size what it owns at its old one. Assumes nothing.
use mathlib.Core.Path.{◌≡◌, refl, sym, ap, subst, ◌∙◌}
use mathlib.Core.Bool.{Bool, true, false}
use mathlib.Core.List.{List}
use mathlib.Core.Logic.{◌⊎◌, inl, inr, ⊎_elim}
use Prim.Native.Nat.{ℕ, ◌+◌, ◌-◌, ◌*◌, ◌/◌, ◌%◌, ◌≤◌, ◌<◌}
use native.Mathlib.Nat.{div-add-mod', div-mul-le_self, le-div_iff_mul-le, le_of_mul-le-mul_right, mul_comm}
use native.Mathlib.Omega.{arith}
use native.Mathlib.Decide.{dec_lt, ℕ_discrete}
use borrow.Author.Tests.{lt-ltb}
use Rattle.store.specs.Where.{Range}
use Rattle.store.specs.Act.{got}
use Rattle.volume.specs.declared.Geometry.{Geometry}
use Rattle.sound.specs.Test.{Sized}
use Rattle.bits.proofs.UptoLaws.{true-not-false}
use Rattle.frame.specs.Frame.{Frame, RunOk}
use Rattle.frame.proofs.Places.{order}
use Rattle.inode.specs.declared.Extent.{Extent}
use Rattle.inode.specs.declared.Shape.{Shape}
use Rattle.inode.specs.Size.{pick, extent_of, held_at}
use Rattle.inode.specs.Shape.{sized, in_place}
use Rattle.inode.proofs.SizeLaws.{size-is, units, tail-fits, held-block, held-tail}
use Rattle.mapping.specs.Mapping.{per_list, mapped}
use Rattle.inode_grow.specs.Grow.{tail_then, tail_short, tail_held, grow_rule}
use Rattle.inode_grow.proofs.GrowLaws.{then-block, then_tail}
use Rattle.written.specs.Own.{Pos, levels, Valid, node_at, addresses, block_index, bytes_of, length_at, Claims, Own, Ended}
use Rattle.written.proofs.NodeLaws.{IsList, IsData, length_list, length_data}
use Rattle.written.proofs.MapOwn.{Indexed, landing_at, mapped-node, place_indexed}

div_mono : (b x y : ℕ) → 0 < b → x ≤ y → x / b ≤ y / b
div_mono b x y p l = (le-div_iff_mul-le {k = b} {x = x / b} {y = y} p).1 (omega (arith, div-mul-le_self x b, l))

-- ---- how much a block holds, before and after

module _ (geo : Geometry) (z : Sized geo) (old new : ℕ) (l : old ≤ new) where
  abbrev before : Extent
  before = extent_of geo old

  abbrev after : Extent
  after = extent_of geo new

  some : 0 < geo.bsize
  some = let u = units geo z in omega (arith, u.block)

  unit : 0 < geo.fsize
  unit = let u = units geo z in omega (arith, u.unit)

  blocks_is : (s : ℕ) → (extent_of geo s).blocks ≡ s / geo.bsize
  blocks_is s = ap (λ (e : Extent). e.blocks) (size-is geo.bsize geo.fsize s)

  frags-is : (s : ℕ) → (extent_of geo s).frags ≡ (s % geo.bsize + (geo.fsize - 1)) / geo.fsize
  frags-is s = ap (λ (e : Extent). e.frags) (size-is geo.bsize geo.fsize s)

  blocks-grow : before.blocks ≤ after.blocks
  blocks-grow = omega (arith, blocks_is old, blocks_is new, div_mono geo.bsize old new some l)

  -- a part of a block takes a fragment at least, and a larger part as many or more
  frags-some : (s : ℕ) → s / geo.bsize * geo.bsize < s → 1 ≤ (extent_of geo s).frags
  frags-some s b =
      let q = (le-div_iff_mul-le {k = geo.fsize} {x = 1} {y = s % geo.bsize + (geo.fsize - 1)} unit).1 (omega (arith, div-add-mod' s geo.bsize, b)) in
      omega (arith, frags-is s, q)

  frags-grow : after.blocks ≡ before.blocks → before.frags ≤ after.frags
  frags-grow e =
      let same : new / geo.bsize * geo.bsize ≡ old / geo.bsize * geo.bsize = ap (λ (n : ℕ). n * geo.bsize) (sym (blocks_is new) ∙ e ∙ blocks_is old) in
      let more : old % geo.bsize ≤ new % geo.bsize = omega (arith, same, div-add-mod' old geo.bsize, div-add-mod' new geo.bsize, l) in
      omega (arith, frags-is old, frags-is new, div_mono geo.fsize (old % geo.bsize + (geo.fsize - 1)) (new % geo.bsize + (geo.fsize - 1)) unit (omega (arith, more)))

  frags-most : (s : ℕ) → (extent_of geo s).frags ≤ geo.frag
  frags-most s = let u = units geo z in le_of_mul-le-mul_right {k = geo.fsize} (omega (arith, tail-fits geo s z, mul_comm geo.frag geo.fsize, u.frags)) unit

  -- ---- a tail that is not short stays

  short-when : old < new → 0 < before.frags → before.frags < geo.frag → before.frags < tail_then geo old new → tail_short geo old new ≡ true
  unfolding tail_short
  short-when a b c d = rw (lt-ltb _ _ a, lt-ltb _ _ b, lt-ltb _ _ c, lt-ltb _ _ d) refl

  module _ (long : tail_short geo old new ≡ false) (one : 1 ≤ before.frags) where
    not_short : old < new → before.frags < geo.frag → before.frags < tail_then geo old new → ⊥
    not_short a c d = true-not-false (short-when a one c d) long

    block-full : before.blocks < after.blocks → before.frags ≡ geo.frag
    block-full b =
        let grew : old < new = by (dec_lt old new) in
        go (dec_lt before.frags geo.frag) grew
      where
        by : Dec (old < new) → old < new
        by (yes a) = a
        by (no a) = let e : old ≡ new = omega arith in absurd (let y : ⊥ = omega (arith, b, ap (λ (s : ℕ). (extent_of geo s).blocks) e) in y)

        go : Dec (before.frags < geo.frag) → old < new → before.frags ≡ geo.frag
        go (yes c) a = absurd (not_short a c (omega (arith, c, then-block geo old new b)))
        go (no c) a = omega (arith, c, frags-most old)

    tail-same : after.blocks ≡ before.blocks → after.frags ≡ before.frags
    tail-same e = go (dec_lt old new) (dec_lt before.frags after.frags)
      where
        go : Dec (old < new) → Dec (before.frags < after.frags) → after.frags ≡ before.frags
        go (no a) d = let s : old ≡ new = omega arith in ap (λ (n : ℕ). (extent_of geo n).frags) (sym s)
        go (yes a) (no d) = omega (arith, d, frags-grow e)
        go (yes a) (yes d) = absurd (not_short a (omega (arith, d, frags-most new)) (omega (arith, d, then_tail geo old new (omega (arith, e)))))

  -- a block before the end holds what it held
  pub held_same : (i : ℕ) → i * geo.bsize < old → (before.blocks ≡ i → tail_short geo old new ≡ false) → bytes_of (held_at geo new i) ≡ bytes_of (held_at geo old i)
  held_same i b short = by (order i before.blocks)
    where
      most : i ≤ before.blocks
      most = let q = (le-div_iff_mul-le {k = geo.bsize} {x = i} {y = old} some).1 (omega (arith, b)) in omega (arith, q, blocks_is old)

      tail : before.blocks ≡ i → bytes_of (held_at geo new i) ≡ bytes_of (held_at geo old i)
      tail e =
          let there : old / geo.bsize * geo.bsize < old = (let m = ap (λ (n : ℕ). n * geo.bsize) (sym (blocks_is old) ∙ e) in omega (arith, m, b)) in
          let one = frags-some old there in
          let held = held-tail geo old i (omega (arith, e)) (omega (arith, e, one)) in
          ⊎_elim
          (λ g. let full = block-full (short e) one g in
          let u = units geo z in
          ap bytes_of (held-block geo new i (omega (arith, e, g))) ∙ sym (ap bytes_of held ∙ ap (λ (n : ℕ). n * geo.fsize) full ∙ mul_comm geo.frag geo.fsize ∙ u.frags))
          (λ r. let same : after.blocks ≡ before.blocks = ⊎_elim (λ g. sym g) (λ g. absurd (let y : ⊥ = omega (arith, g, blocks-grow) in y)) r in
          let frags = tail-same (short e) one same in
          ap bytes_of (held-tail geo new i (omega (arith, e, same)) (omega (arith, e, same, frags, one))) ∙ ap (λ (n : ℕ). n * geo.fsize) frags ∙ sym (ap bytes_of held))
          (order before.blocks after.blocks)

      by : (i < before.blocks) ⊎ ((i ≡ before.blocks) ⊎ (before.blocks < i)) → bytes_of (held_at geo new i) ≡ bytes_of (held_at geo old i)
      by (inl g) = ap bytes_of (held-block geo new i (omega (arith, g, blocks-grow)) ∙ sym (held-block geo old i g))
      by (inr (inl e)) = tail (sym e)
      by (inr (inr g)) = absurd (let y : ⊥ = omega (arith, g, most) in y)

-- ---- what is owned

-- the lengths are all that the size decides
module _ (geo : Geometry) (old new : ℕ) (top : ℕ → ℕ) (img : List ℕ) (same : (c : Pos) → Valid geo c → (node_at geo img top c ≡ 0 → ⊥) → length_at geo new c ≡ length_at geo old c) where
  pub claim-size : (c : Pos) (j : ℕ) → Claims geo new top img c j → Claims geo old top img c j
  claim-size c j p = record { valid = p.valid; live = p.live; byte = subst (λ (n : ℕ). Range (node_at geo img top c * geo.fsize) n j) (same c p.valid p.live) p.byte }

  pub own-size : Own geo old top img → Own geo new top img
  own-size own =
      record {
        once = λ c d j p q. own.once c d j (claim-size c j p) (claim-size d j q);
        ok = λ c j p. subst (λ (n : ℕ). RunOk geo img (node_at geo img top c) (n / geo.fsize)) (sym (same c p.valid p.live)) (own.ok c j (claim-size c j p));
        used = λ c j p f. own.used c j (claim-size c j p) f;
      }

-- a tail that has an address is not lengthened
module _ (geo : Geometry) (at : ℕ) (s : Shape) (new : ℕ) (img : List ℕ) (fr : Frame geo img) (own : Own geo s.size (addresses geo at img) img) (has : sized s ≡ true) (plain : in_place s ≡ false) {u : Unit {0}} (may : grow_rule geo at s new img ≡ got u) where
  tail-stays : (c : Pos) → Indexed geo (extent_of geo s.size).blocks c → (node_at geo img (addresses geo at img) c ≡ 0 → ⊥) → tail_short geo s.size new ≡ false
  unfolding grow_rule
  tail-stays c p live = by (tail_short geo s.size new) refl (rw (has, plain) at may)
    where
      by : (b : Bool) → tail_short geo s.size new ≡ b → pick b (tail_held (mapped geo at img (extent_of geo s.size).blocks)) (got (tt {0})) ≡ got u → b ≡ false
      by false e m = refl
      by true e m =
          let there = mapped-node geo s.size at img fr own (extent_of geo s.size).blocks c p ∙ landing_at (node_at geo img (addresses geo at img) c) live in
          absurd (let q = sym (ap tail_held there) ∙ m in let y : ◌≡◌ {A = ℕ} 0 1 = cc in let f : ⊥ = omega arith in f)

  -- so every place has the length that it had
  pub lengths-stay : s.size ≤ new → Ended geo s.size (addresses geo at img) img → (c : Pos) → Valid geo c → (node_at geo img (addresses geo at img) c ≡ 0 → ⊥) → length_at geo new c ≡ length_at geo s.size c
  lengths-stay l ended c v live = go (ℕ_discrete c.depth (levels c.root))
    where
      go : Dec (IsData c) → length_at geo new c ≡ length_at geo s.size c
      go (no n) = let k : IsList c = omega (arith, v.depth, n) in length_list geo new c k ∙ sym (length_list geo s.size c k)
      go (yes e) =
          let i = block_index (per_list geo) c.root c.slot in
          length_data geo new c e
          ∙ held_same geo fr.sizes s.size new l i (ended.before c v e live) (λ h. tail-stays c (subst (λ (i : ℕ). Indexed geo i c) (sym h) (place_indexed geo c v e)) live)
          ∙ sym (length_data geo s.size c e)

-- what ends before the old size ends before the new
pub ended_grows : (geo : Geometry) (old new : ℕ) (top : ℕ → ℕ) (img : List ℕ) → old ≤ new → Ended geo old top img → Ended geo new top img
ended_grows geo old new top img l e = record { before = λ c v d n. let q = e.before c v d n in omega (arith, q, l) }
