-- The laws of the tests of `specs/Take.antt`: sizes, runs, counts, and what a good run is. Assumes nothing.
use Rattle.std.specs.Prelude.{Result, Ok, Err}
use Rattle.std.proofs.Common.{◌≡◌, ℕ, zero, suc, ◌+◌, ◌-◌, ◌*◌, ◌/◌, ◌%◌, ◌^◌, ◌<◌, ◌≤◌, Bool, true, false, not, ◌&&◌, eqb, ltb, leb, List, length, get_or, sym, refl, ◌∙◌, mod-lt, mul_comm, one-mul, div-add-mod', zero-mul, arith, ltb-true, le-ltb, lt-ltb, eq-eqb, ne_eqb, eqb-true, le-leb, leb-true}
use native.Mathlib.Nat.{div-le_of_le-mul, dvd_of_mod-eq-zero, mod-mod_of_dvd}
use native.Mathlib.Decide.{dec_le, dec_lt}
use borrow.Author.Tests.{lt-leb}
use Rattle.refusal.specs.declared.Refusal.{Refusal}
use Rattle.refusal.specs.declared.Refusal.TheVariants.{Invalid, Damaged}
use Rattle.volume.specs.declared.Geometry.{Geometry}
use Rattle.volume.specs.declared.Count.TheVariants.{Nbfree, Nffree}
use Rattle.bits.specs.Bits.{is_frag, bits_are, put_bits, put_bits_at, block_free}
use Rattle.bits.proofs.UptoLaws.{both}
use Rattle.bits.proofs.BitsLaws.{frag_cases, frag-some, block_in_byte, bits-byte, free-bits, byte-stored}
use Rattle.sound.specs.Sound.{free_at}
use Rattle.frame.specs.Frame.{Frame, RunOk, run_okb}
use Rattle.frame.specs.Writes.{up}
use Rattle.frame.proofs.Places.{spots, map-byte, run_is, run-free}
use Rattle.balloc_take.specs.Take.{good_size, in_block, group_count, total, rises, falls, whole_then, block_fits, frags_fit, whole_fits, counts_fit, ask, take_test}
use Rattle.balloc_take.specs.Run.{BackRun}

-- ---- the size, and the block

module _ (geo : Geometry) (size : ℕ) where
  pub size-is : good_size geo size ≡ (ltb 0 size && eqb (size % geo.fsize) 0 && leb size geo.bsize)
  unfolding good_size
  size-is = refl

  pub size_top : good_size geo size ≡ true → size ≤ geo.bsize
  unfolding good_size
  size_top h = leb-true _ _ (both (ltb 0 size && eqb (size % geo.fsize) 0) (leb size geo.bsize) h).1

  -- a good size in whole fragments, at least one and at most a block
  pub size-frags : good_size geo size ≡ true → size / geo.fsize * geo.fsize ≡ size
  unfolding good_size
  size-frags h =
      let a = (both (ltb 0 size && eqb (size % geo.fsize) 0) (leb size geo.bsize) h).0 in
      let b = (both (ltb 0 size) (eqb (size % geo.fsize) 0) a).1 in
      omega (arith, div-add-mod' size geo.fsize, eqb-true (size % geo.fsize) 0 b)

  pub size-some : good_size geo size ≡ true → 0 < size / geo.fsize
  unfolding good_size
  size-some h =
      let a = (both (ltb 0 size && eqb (size % geo.fsize) 0) (leb size geo.bsize) h).0 in
      let l = ltb-true 0 size (both (ltb 0 size) (eqb (size % geo.fsize) 0) a).0 in
      go (size / geo.fsize) (size-frags h) l
    where
      go : (n : ℕ) → n * geo.fsize ≡ size → 0 < size → 0 < n
      go zero e l = omega (arith, zero-mul geo.fsize)
      go (suc n) e l = omega arith

  pub size-most : geo.fsize * geo.frag ≡ geo.bsize → good_size geo size ≡ true → size / geo.fsize ≤ geo.frag
  size-most e h = let t = size_top h in div-le_of_le-mul geo.fsize {m = size} {n = geo.frag} (omega arith)

  -- the whole block, by the size
  pub size-block : geo.fsize * geo.frag ≡ geo.bsize → good_size geo size ≡ true → size / geo.fsize ≡ geo.frag → size ≡ geo.bsize
  size-block e h q = sym (size-frags h) ∙ rw q (mul_comm geo.frag geo.fsize ∙ e)

pub block-is : (geo : Geometry) (a n : ℕ) → in_block geo a n ≡ leb (a % geo.frag + n) geo.frag
unfolding in_block
block-is geo a n = refl

-- as the code tests it, where nothing overflows
pub block-room : (geo : Geometry) (a n : ℕ) → 0 < geo.frag → leb n (geo.frag - a % geo.frag) ≡ in_block geo a n
block-room geo a n some =
    let l = mod-lt a {m = geo.frag} some in
    leb-shift n geo.frag (a % geo.frag) (omega arith) ∙ sym (block-is geo a n)
  where
    leb-shift : (n m r : ℕ) → r ≤ m → leb n (m - r) ≡ leb (r + n) m
    leb-shift n m r h = go (dec_le n (m - r))
      where
        go : Dec (n ≤ m - r) → leb n (m - r) ≡ leb (r + n) m
        go (yes q) = le-leb n (m - r) q ∙ sym (le-leb (r + n) m (omega arith))
        go (no q) = lt-leb n (m - r) (omega arith) ∙ sym (lt-leb (r + n) m (omega arith))

-- ---- one block, one map byte

pub frame-frag : {geo : Geometry} {img : List ℕ} → Frame geo img → 0 < geo.frag
frame-frag {geo} fr = frag-some geo.frag fr.sizes.frag

-- the run's place in its block, by the address and by the fragment of the group
pub frag_in_block : (geo : Geometry) (a : ℕ) → geo.fpg % geo.frag ≡ 0 → a % geo.fpg % geo.frag ≡ a % geo.frag
frag_in_block geo a e = mod-mod_of_dvd geo.frag a (dvd_of_mod-eq-zero geo.frag e)

-- what lies in one block stands in one byte
pub block-byte : (f n frag : ℕ) → is_frag frag ≡ true → f % frag + n ≤ frag → f % 8 + n ≤ 8
block-byte f n frag is h = frag_cases (λ (k : ℕ). f % k + n ≤ k → f % 8 + n ≤ 8) (λ h. omega arith) (λ h. omega arith) (λ h. omega arith) (λ h. omega arith) frag is h

-- the byte of the run is that of its block, whose first bit there is this
same-byte : (f frag : ℕ) → is_frag frag ≡ true → frag * (f / frag) / 8 ≡ f / 8
same-byte f = frag_cases (λ (k : ℕ). k * (f / k) / 8 ≡ f / 8) (omega arith) (omega arith) (omega arith) (omega arith)

first_bit : (f frag : ℕ) → is_frag frag ≡ true → frag * (f / frag) % 8 ≡ f % 8 - f % 8 % frag
first_bit f = frag_cases (λ (k : ℕ). k * (f / k) % 8 ≡ f % 8 - f % 8 % k) (omega arith) (omega arith) (omega arith) (omega arith)

module _ {geo : Geometry} {img : List ℕ} {g f n : ℕ} (r : BackRun geo img g f n) where
  pub run-frag : is_frag geo.frag ≡ true
  run-frag = r.frame.sizes.frag

  pub run-byte : free_at geo g img + f / 8 < length img
  run-byte = let s = spots geo img r.frame g r.group in let w = r.within in let o = r.some in omega (arith, map-byte geo img r.frame g f r.group (omega arith))

  -- the block's bits in its byte
  pub first-bit-in : f % 8 - f % 8 % geo.frag + geo.frag ≤ 8
  first-bit-in = rw (first_bit f geo.frag run-frag) at (block_in_byte (f / geo.frag) geo.frag run-frag)

  -- whether the block is whole, from the one byte with the run's bits made 1
  pub whole-byte : (y : ℕ) → y ≡ put_bits 1 n (f % 8) (get_or img (free_at geo g img + f / 8) 0)
      → eqb (y / 2 ^ (f % 8 - f % 8 % geo.frag) % 2 ^ geo.frag) (2 ^ geo.frag - 1) ≡ whole_then geo g f n img
  unfolding whole_then
  whole-byte y e =
      let at = free_at geo g img in
      let h = f / geo.frag in
      sym (free-bits geo.frag (put_bits_at 1 img at f n) at h
      ∙ bits-byte 1 (put_bits_at 1 img at f n) at (geo.frag * h) geo.frag (omega arith) (block_in_byte h geo.frag run-frag)
      ∙ rw (same-byte f geo.frag run-frag, first_bit f geo.frag run-frag, byte-stored 1 img at f n (omega arith) r.in_byte run-byte, ← e, one-mul (2 ^ geo.frag - 1)))

-- ---- the counts

module _ (w h x d : ℕ) (e : 256 ^ w ≡ h + h) where
  pub rises-high : h ≤ x → rises w x d ≡ true
  unfolding rises
  rises-high l = rw (le-ltb (x + x) (256 ^ w) (omega arith))

  pub rises-low : x < h → ltb d (h - x) ≡ rises w x d
  unfolding rises
  rises-low l = rw (lt-ltb (x + x) (256 ^ w) (omega arith)) (go (dec_lt d (h - x)))
    where
      go : Dec (d < h - x) → ltb d (h - x) ≡ not (leb (256 ^ w) (x + d + (x + d)))
      go (yes q) = rw (lt-ltb d (h - x) q, lt-leb (256 ^ w) (x + d + (x + d)) (omega arith))
      go (no q) = rw (le-ltb d (h - x) (omega arith), le-leb (256 ^ w) (x + d + (x + d)) (omega arith))

  pub falls-low : x < h → falls w x d ≡ true
  unfolding falls
  falls-low l = rw (lt-leb (256 ^ w) (x + x) (omega arith))

  pub falls-high : 0 < h → h ≤ x → leb d (x - h) ≡ falls w x d
  unfolding falls
  falls-high some l = rw (le-leb (256 ^ w) (x + x) (omega arith)) (go (dec_le d (x - h)))
    where
      go : Dec (d ≤ x - h) → leb d (x - h) ≡ not (ltb (x - d + (x - d)) (256 ^ w))
      go (yes q) = rw (le-leb d (x - h) q, le-ltb (x - d + (x - d)) (256 ^ w) (omega arith))
      go (no q) = rw (lt-leb d (x - h) (omega arith), lt-ltb (x - d + (x - d)) (256 ^ w) (omega arith))

module _ (geo : Geometry) (g f n : ℕ) (img : List ℕ) where
  pub fits-block : n ≡ geo.frag → counts_fit geo g f n img ≡ (rises 4 (group_count geo g Nbfree img) 1 && rises 8 (total geo Nbfree img) 1)
  unfolding counts_fit block_fits
  fits-block e = rw (eq-eqb n geo.frag e)

  -- fewer fragments than a block
  module _ (part : n ≡ geo.frag → ⊥) where
    pub fits_not : (rises 4 (group_count geo g Nffree img) n && rises 8 (total geo Nffree img) n) ≡ false → counts_fit geo g f n img ≡ false
    unfolding counts_fit frags_fit
    fits_not q = rw (ne_eqb n geo.frag part, q)

    module _ (q : (rises 4 (group_count geo g Nffree img) n && rises 8 (total geo Nffree img) n) ≡ true) where
      pub fits_whole : whole_then geo g f n img ≡ true
          → counts_fit geo g f n img
          ≡ (falls 4 (up 4 (group_count geo g Nffree img) n) geo.frag && falls 8 (up 8 (total geo Nffree img) n) geo.frag
          && (rises 4 (group_count geo g Nbfree img) 1 && rises 8 (total geo Nbfree img) 1))
      unfolding counts_fit frags_fit whole_fits block_fits
      fits_whole z = rw (ne_eqb n geo.frag part, q, z)

      pub fits-part : whole_then geo g f n img ≡ false → counts_fit geo g f n img ≡ true
      unfolding counts_fit frags_fit
      fits-part z = rw (ne_eqb n geo.frag part, q, z)

-- ---- the whole test

module _ (geo : Geometry) (a size : ℕ) (img : List ℕ) where
  pub test-size : good_size geo size ≡ false → take_test geo a size img ≡ Err Invalid
  unfolding take_test
  test-size e = rw e

  module _ (s : good_size geo size ≡ true) where
    pub test-block : in_block geo a (size / geo.fsize) ≡ false → take_test geo a size img ≡ Err Invalid
    unfolding take_test
    test-block e = rw (s, e)

    module _ (b : in_block geo a (size / geo.fsize) ≡ true) where
      pub test-place : run_okb geo img a (size / geo.fsize) ≡ false → take_test geo a size img ≡ Err Damaged
      unfolding take_test
      test-place e = rw (s, b, e)

      pub test-run : run_okb geo img a (size / geo.fsize) ≡ true
          → take_test geo a size img
          ≡ ask (bits_are 0 img (free_at geo (a / geo.fpg) img) (a % geo.fpg) (size / geo.fsize)) Damaged
          (ask (counts_fit geo (a / geo.fpg) (a % geo.fpg) (size / geo.fsize) img) Damaged (Ok tt))
      unfolding take_test
      test-run e = rw (s, b, e)

      -- a run that has its place
      pub back-run : Frame geo img → RunOk geo img a (size / geo.fsize) → BackRun geo img (a / geo.fpg) (a % geo.fpg) (size / geo.fsize)
      back-run fr r =
          let e = frag_in_block geo a fr.sizes.blocks in
          let l = leb-true (a % geo.frag + size / geo.fsize) geo.frag (sym (block-is geo a (size / geo.fsize)) ∙ b) in
          let q : a % geo.fpg % geo.frag + size / geo.fsize ≤ geo.frag = omega arith in
          record {
            frame = fr;
            group = r.group;
            some = size-some geo size s;
            most = size-most geo size fr.sizes.fsize s;
            within = r.within;
            within_block = q;
            in_byte = block-byte (a % geo.fpg) (size / geo.fsize) geo.frag fr.sizes.frag q;
            may = run-free geo img fr a (size / geo.fsize) r;
          }

-- the same run, its numbers as code has them
pub run_as : {geo : Geometry} {img : List ℕ} {g f n g' f' n' : ℕ} → BackRun geo img g f n → g' ≡ g → f' ≡ f → n' ≡ n → BackRun geo img g' f' n'
run_as r a b c = rw (a, b, c) r

-- whether the block is whole, from the map with the run's bits made 1
pub whole-is : (geo : Geometry) (g f n : ℕ) (img : List ℕ) → whole_then geo g f n img ≡ block_free geo.frag (put_bits_at 1 img (free_at geo g img) f n) (free_at geo g img) (f / geo.frag)
unfolding whole_then
whole-is geo g f n img = refl

-- what a test that is passed says
pub record Passed (geo : Geometry) (a size : ℕ) (img : List ℕ) : Type 0 where
  pub size_good : good_size geo size ≡ true
  pub within_block : in_block geo a (size / geo.fsize) ≡ true
  pub place : RunOk geo img a (size / geo.fsize)
  pub clear : bits_are 0 img (free_at geo (a / geo.fpg) img) (a % geo.fpg) (size / geo.fsize) ≡ true
  pub fits : counts_fit geo (a / geo.fpg) (a % geo.fpg) (size / geo.fsize) img ≡ true

asked : (t : Bool) (e : Refusal) (j : Result (Unit {0}) Refusal) → ask t e j ≡ Ok tt → (t ≡ true) × (j ≡ Ok tt)
asked true e j h = (refl, h)
asked false e j h = absurd (let z : ◌≡◌ {A = ℕ} 0 1 = cc in let y : ⊥ = omega arith in y)

module _ (geo : Geometry) (a size : ℕ) (img : List ℕ) (h : take_test geo a size img ≡ Ok tt) where
  pub test_good : Passed geo a size img
  unfolding take_test
  test_good =
      let s1 = asked (good_size geo size) Invalid _ h in
      let s2 = asked (in_block geo a (size / geo.fsize)) Invalid _ s1.1 in
      let s3 = asked (run_okb geo img a (size / geo.fsize)) Damaged _ s2.1 in
      let s4 = asked (bits_are 0 img (free_at geo (a / geo.fpg) img) (a % geo.fpg) (size / geo.fsize)) Damaged _ s3.1 in
      let s5 = asked (counts_fit geo (a / geo.fpg) (a % geo.fpg) (size / geo.fsize) img) Damaged _ s4.1 in
      record { size_good = s1.0; within_block = s2.0; place = run_is geo img a (size / geo.fsize) s3.0; clear = s4.0; fits = s5.0 }

  pub good-run : Frame geo img → BackRun geo img (a / geo.fpg) (a % geo.fpg) (size / geo.fsize)
  good-run fr = let p = test_good in back-run geo a size img p.size_good p.within_block fr p.place
