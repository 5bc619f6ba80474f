-- What a run of map bits made 0 or 1 does to the fresh counts: one law for a block given, a block back and fragments back. Assumes nothing.
use mathlib.Core.Path.{◌≡◌, refl, sym, ap, ◌∙◌}
use mathlib.Core.Bool.{true}
use mathlib.Core.List.{List}
use mathlib.Core.Logic.{inl, inr, ⊎_elim}
use Prim.Native.Nat.{ℕ, ◌+◌, ◌-◌, ◌*◌, ◌/◌, ◌≤◌, ◌<◌}
use native.Mathlib.Nat.{mul-add, mul-le-mul_left, mul-div-le, div-add-mod}
use native.Mathlib.Decide.{dec_lt}
use native.Mathlib.Omega.{arith}
use Rattle.field.specs.Field.{Kept}
use Rattle.volume.specs.declared.Geometry.{Geometry}
use Rattle.volume.specs.declared.Count.{Count}
use Rattle.volume.specs.Volume.{byte_at, cg_at, count_place, count_at, total_at}
use Rattle.volume.proofs.Laws.{count-place, total-place, kept-count, kept-total, kept-group}
use Rattle.bits.specs.Upto.{sum, as_bit}
use Rattle.bits.specs.Bits.{is_frag, bit_at, bits_are, block_free, put_bits_at, free_blocks, free_frags}
use Rattle.bits.proofs.UptoLaws.{as_bit-false, sum-more, sum-split, sum-same}
use Rattle.bits.proofs.BitsLaws.{frag_cases, bits-fail, free-bits, kept-bit_at, kept-put_bits_at, bit_at-outside}
use Rattle.bits.proofs.ChangeLaws.{blocks-same, frags-put, blocks-put}
use Rattle.sound.specs.Sound.{group_at, free_at}
use Rattle.frame.specs.Frame.{Frame, Outside}
use Rattle.frame.proofs.Places.{spots}
use Rattle.frame.proofs.Stores.{record_apart}
use Rattle.frame.proofs.WriteLaws.{bits-frame-at}
use Rattle.balloc_take.specs.Run.{BackRun}
use Rattle.balloc_take.proofs.TestLaws.{run-byte}
use Rattle.balloc_count.specs.Recount.{blocks_of, loose_of, total_blocks, total_loose, total_free}
use Rattle.balloc_count.proofs.FreshLaws.{total-blocks-is, total-loose-is, counted, blocks-agree, loose-agree, total-joined}

-- ---- a count of every group, before and after

-- in group g it fell by p and rose by q; elsewhere it is as it was
pub record Moved (ncg : ℕ) (before after : ℕ → ℕ) (g p q : ℕ) : Type 0 where
  pub here : after g + p ≡ before g + q
  pub elsewhere : (h : ℕ) → h < ncg → (h ≡ g → ⊥) → after h ≡ before h

-- the sum moved with it
pub moved-sum : {ncg : ℕ} {before after : ℕ → ℕ} {g p q : ℕ} → g < ncg → Moved ncg before after g p q → sum after ncg + p ≡ sum before ncg + q
moved-sum {ncg} {before} {after} {g} {p} {q} l m =
    let r = ncg - (g + 1) in
    let e : g + 1 + r ≡ ncg = omega arith in
    rw (← e)
    (omega (
      arith,
      m.here,
      sum-split after (g + 1) r,
      sum-split before (g + 1) r,
      sum-more after g,
      sum-more before g,
      sum-same after before g (λ k u. m.elsewhere k (omega arith) (λ z. omega arith)),
      sum-same (λ (k : ℕ). after (g + 1 + k)) (λ (k : ℕ). before (g + 1 + k)) r (λ k u. m.elsewhere (g + 1 + k) (omega arith) (λ z. omega arith)),
    ))

-- ---- the run

-- the image with the bits of the n fragments from f of group g made v
abbrev pub with_bits : ℕ → Geometry → ℕ → ℕ → ℕ → List ℕ → List ℕ
with_bits v geo g f n img = put_bits_at v img (free_at geo g img) f n

-- the free blocks and the free fragments of ys, where group g's map stands in img
abbrev own_blocks : Geometry → ℕ → List ℕ → List ℕ → ℕ
own_blocks geo g img ys = free_blocks geo.frag ys (free_at geo g img) ((group_at geo g img).ndblk / geo.frag)

abbrev own_frags : Geometry → ℕ → List ℕ → List ℕ → ℕ
own_frags geo g img ys = free_frags ys (free_at geo g img) (group_at geo g img).ndblk

-- a run whose bits are all u is made v; the block that it stands in was wholly free (1) or not (0), and then is or is not
pub record RunMade (geo : Geometry) (img : List ℕ) (g f n u v was is : ℕ) : Type 0 where
  pub run : BackRun geo img g f n
  pub two : v < 2
  pub were : bits_are u img (free_at geo g img) f n ≡ true
  pub before : as_bit (block_free geo.frag img (free_at geo g img) (f / geo.frag)) ≡ was
  pub after : as_bit (block_free geo.frag (with_bits v geo g f n img) (free_at geo g img) (f / geo.frag)) ≡ is

-- a block that the group's end cuts has a fragment past the end, and so is never free
cut-block : (nd h frag : ℕ) → is_frag frag ≡ true → frag * h < nd → (h < nd / frag → ⊥) → (nd < frag * h + frag) × (nd < (nd + 7) / 8 * 8)
cut-block nd h =
    frag_cases (λ (k : ℕ). k * h < nd → (h < nd / k → ⊥) → (nd < k * h + k) × (nd < (nd + 7) / 8 * 8))
    (λ l n. (omega arith, omega arith)) (λ l n. (omega arith, omega arith)) (λ l n. (omega arith, omega arith)) (λ l n. (omega arith, omega arith))

cut-not-free : (geo : Geometry) (img : List ℕ) → Frame geo img → (g h : ℕ) → g < geo.ncg → geo.frag * h < (group_at geo g img).ndblk → (h < (group_at geo g img).ndblk / geo.frag → ⊥)
    → as_bit (block_free geo.frag img (free_at geo g img) h) ≡ 0
cut-not-free geo img fr g h l a n =
    let at = free_at geo g img in
    let nd = (group_at geo g img).ndblk in
    let c = cut-block nd h geo.frag fr.sizes.frag a n in
    let e : geo.frag * h + (nd - geo.frag * h) ≡ nd = omega arith in
    let z : bit_at img at (geo.frag * h + (nd - geo.frag * h)) ≡ 0 = ap (bit_at img at) e ∙ fr.never g l nd (inl (omega arith, c.1)) in
    as_bit-false (free-bits geo.frag img at h ∙ bits-fail 1 img at (geo.frag * h) geo.frag (nd - geo.frag * h) (omega arith) (λ q. omega arith))

module _ {geo : Geometry} {img : List ℕ} {g f n u v was is : ℕ} (r : RunMade geo img g f n u v was is) where
  pub made-frame : Frame geo (with_bits v geo g f n img)
  made-frame = let b = r.run in bits-frame-at geo img b.frame v g f n r.two b.group b.in_byte b.within b.some b.may

  -- the one byte that changes, and what it is not
  byte-kept : Kept (free_at geo g img + f / 8) 1 img (with_bits v geo g f n img)
  byte-kept = kept-put_bits_at v img (free_at geo g img) f n

  byte-apart : (k i m : ℕ) → k < geo.ncg → cg_at geo k + i + m ≤ byte_at geo k geo.iblkno → (g ≡ k → i + m ≤ 168) → Outside (free_at geo g img + f / 8) 1 (cg_at geo k + i) m
  byte-apart k i m l w a =
      let fr = r.run.frame in
      let lg = r.run.group in
      let s = spots geo img fr g lg in
      let t = r.run.within in
      let o = r.run.some in
      ⊎_elim (λ x. inl (omega arith)) (λ x. inr (omega arith))
      (record_apart geo img fr g ((group_at geo g img).freeoff + f / 8) 1 k i m lg l (omega arith) w (λ e. let b = a e in inl (omega arith)))

  field_apart : (k i m : ℕ) → k < geo.ncg → i + m ≤ 168 → Outside (free_at geo g img + f / 8) 1 (cg_at geo k + i) m
  field_apart k i m l b = let s = spots geo img r.run.frame k l in byte-apart k i m l (omega arith) (λ _. b)

  pub made-group : (k : ℕ) → k < geo.ncg → group_at geo k (with_bits v geo g f n img) ≡ group_at geo k img
  made-group k l =
      kept-group byte-kept geo.order (cg_at geo k)
      (⊎_elim (λ x. inl (omega arith)) (λ x. inr (omega arith)) (field_apart k 20 4 l (omega arith)))
      (⊎_elim (λ x. inl (omega arith)) (λ x. inr (omega arith)) (field_apart k 92 8 l (omega arith)))

  -- no count is touched
  pub made-count : (k : ℕ) (c : Count) → k < geo.ncg → count_at geo.order c (cg_at geo k) (with_bits v geo g f n img) ≡ count_at geo.order c (cg_at geo k) img
  made-count k c l = let p = count-place c in kept-count byte-kept geo.order c (cg_at geo k) (field_apart k (count_place c) 4 l (omega arith))

  pub made-total : (c : Count) → total_at geo.order c (with_bits v geo g f n img) ≡ total_at geo.order c img
  made-total c = let p = total-place c in let s = spots geo img r.run.frame g r.run.group in kept-total byte-kept geo.order c (inl (omega arith))

  -- the maps of the other groups
  made-bit : (k : ℕ) → k < geo.ncg → (k ≡ g → ⊥) → (x : ℕ) → x < (group_at geo k img).ndblk → bit_at (with_bits v geo g f n img) (free_at geo k img) x ≡ bit_at img (free_at geo k img) x
  made-bit k l ne x b =
      let s = spots geo img r.run.frame k l in
      kept-bit_at (free_at geo k img) x byte-kept
      (⊎_elim (λ y. inl (omega arith)) (λ y. inr (omega arith)) (byte-apart k ((group_at geo k img).freeoff + x / 8) 1 l (omega arith) (λ e. absurd (ne (sym e)))))

  -- the run in its block
  block-first : geo.frag * (f / geo.frag) ≤ f
  block-first = mul-div-le f geo.frag

  block_last : f + n ≤ geo.frag * (f / geo.frag) + geo.frag
  block_last = let b = r.run.within_block in omega (arith, div-add-mod f geo.frag)

  -- a block that the group's end cuts counts neither before nor after
  cut-blocks : (f / geo.frag < (group_at geo g img).ndblk / geo.frag → ⊥) → (was ≡ 0) × (is ≡ 0) × (own_blocks geo g img (with_bits v geo g f n img) ≡ own_blocks geo g img img)
  cut-blocks l =
      let b = r.run in
      let e = made-group g b.group in
      let nb = (group_at geo g img).ndblk / geo.frag in
      let q : nb ≤ f / geo.frag = omega arith in
      let w = b.within in
      let o = b.some in
      let a : geo.frag * (f / geo.frag) < (group_at geo g img).ndblk = omega (arith, block-first) in (
        sym r.before ∙ cut-not-free geo img b.frame g (f / geo.frag) b.group a l,
        sym r.after ∙ rw e at (cut-not-free geo (with_bits v geo g f n img) made-frame g (f / geo.frag) b.group (rw e a) (rw e l)),
        blocks-same img (with_bits v geo g f n img) (free_at geo g img) (geo.frag * nb)
            (λ x y. bit_at-outside v img (free_at geo g img) f n r.two b.in_byte (run-byte b) x (inl (omega (arith, mul-le-mul_left geo.frag q, block-first)))) geo.frag nb (omega arith),
      )

  own-blocks : own_blocks geo g img (with_bits v geo g f n img) + was ≡ own_blocks geo g img img + is
  own-blocks = go (dec_lt (f / geo.frag) ((group_at geo g img).ndblk / geo.frag))
    where
      go : Dec (f / geo.frag < (group_at geo g img).ndblk / geo.frag) → own_blocks geo g img (with_bits v geo g f n img) + was ≡ own_blocks geo g img img + is
      go (yes l) =
          rw (r.before, r.after) at
          (blocks-put v img (free_at geo g img) f n r.two r.run.in_byte (run-byte r.run) geo.frag (f / geo.frag) ((group_at geo g img).ndblk / geo.frag) l block-first block_last)
      go (no l) = let o = cut-blocks l in omega arith

  -- ---- how the fresh counts move

  own-counts : (ys : List ℕ) → Frame geo ys → group_at geo g ys ≡ group_at geo g img
      → (own_blocks geo g img ys ≡ blocks_of geo g ys) × (own_frags geo g img ys ≡ loose_of geo g ys + geo.frag * own_blocks geo g img ys)
  own-counts ys fy e = counted geo g ys fy {at = free_at geo g img} {n = (group_at geo g img).ndblk} (rw e) (rw e) refl refl

  pub blocks-moved : Moved geo.ncg (λ (k : ℕ). blocks_of geo k img) (λ (k : ℕ). blocks_of geo k (with_bits v geo g f n img)) g was is
  blocks-moved =
      let b = r.run in
      record {
        here = omega (arith, own-blocks, own-counts img b.frame refl, own-counts (with_bits v geo g f n img) made-frame (made-group g b.group));
        elsewhere = λ k l ne. blocks-agree geo k img (with_bits v geo g f n img) b.frame (made-group k l) (made-bit k l ne);
      }

  -- the fragments of a block that is whole are not loose
  pub loose-moved : Moved geo.ncg (λ (k : ℕ). loose_of geo k img) (λ (k : ℕ). loose_of geo k (with_bits v geo g f n img)) g (geo.frag * is + u * n) (geo.frag * was + v * n)
  loose-moved =
      let b = r.run in
      let img' = with_bits v geo g f n img in
      record {
        here = omega (
          arith,
          own-counts img b.frame refl,
          own-counts img' made-frame (made-group g b.group),
          frags-put v img (free_at geo g img) f n r.two b.in_byte (run-byte b) u (group_at geo g img).ndblk r.were b.within,
          ap (λ (x : ℕ). geo.frag * x) own-blocks,
          mul-add geo.frag (own_blocks geo g img img') was,
          mul-add geo.frag (own_blocks geo g img img) is,
        );
        elsewhere = λ k l ne. loose-agree geo k img img' b.frame (made-group k l) (made-bit k l ne);
      }

  -- and their totals
  pub total-blocks-moved : total_blocks geo (with_bits v geo g f n img) + was ≡ total_blocks geo img + is
  total-blocks-moved = rw (total-blocks-is geo img, total-blocks-is geo (with_bits v geo g f n img)) (moved-sum r.run.group blocks-moved)

  pub total-loose-moved : total_loose geo (with_bits v geo g f n img) + (geo.frag * is + u * n) ≡ total_loose geo img + (geo.frag * was + v * n)
  total-loose-moved = rw (total-loose-is geo img, total-loose-is geo (with_bits v geo g f n img)) (moved-sum r.run.group loose-moved)

  pub total-free-moved : total_free geo (with_bits v geo g f n img) + u * n ≡ total_free geo img + v * n
  total-free-moved =
      omega (
        arith,
        total-blocks-moved,
        total-loose-moved,
        total-joined geo img r.run.frame,
        total-joined geo (with_bits v geo g f n img) made-frame,
        ap (λ (x : ℕ). geo.frag * x) total-blocks-moved,
        mul-add geo.frag (total_blocks geo (with_bits v geo g f n img)) was,
        mul-add geo.frag (total_blocks geo img) is,
      )
