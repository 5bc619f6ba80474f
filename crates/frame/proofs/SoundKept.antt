-- Which stores keep a volume sound. A frame, the magics and the bounds of the counts make it so again. Assumes nothing.
use mathlib.Core.Path.{◌≡◌, refl, sym, ap, subst, ◌∙◌}
use mathlib.Core.Bool.{true}
use mathlib.Core.List.{List}
use mathlib.Core.Logic.{◌⊎◌, inl, inr, ⊎_elim}
use Prim.Native.Nat.{ℕ, zero, suc, ◌+◌, ◌-◌, ◌*◌, ◌/◌, ◌%◌, ◌^◌, ◌≤◌, ◌<◌}
use native.Mathlib.Nat.{mul_assoc, mul_comm}
use native.Mathlib.Decide.{dec_lt}
use native.Mathlib.Omega.{arith}
use lib.ListN.{length}
use lib.IntN.{nat_abs}
use Rattle.field.specs.Field.{Kept}
use Rattle.volume.specs.declared.Geometry.{Geometry}
use Rattle.volume.specs.declared.Count.{Count}
use Rattle.volume.specs.Volume.{sb_at, geometry_of, magic_at, byte_at, cg_at, group_magic_at, count_at, total_at, count_place, total_place}
use Rattle.volume.specs.Signed.{signed}
use Rattle.volume.proofs.Laws.{byte_at-mono, byte_at-next, byte_at-add, byte_at-inside, kept-magic, kept-group-magic, kept-count, kept-total, count-place, total-place}
use Rattle.sound.specs.Clauses.{fs_magic, cg_magic, reserved_from, soundb}
use Rattle.sound.specs.Sound.{group_at, SoundWith, Sound}
use Rattle.sound.proofs.Words.{sound-is, is-sound, power_is}
use Rattle.sound.proofs.Laws.{size_cases, frag_cases, placed, reserved-within}
use Rattle.frame.specs.Frame.{Never, Frame, Spots, Outside, RunOk}
use Rattle.frame.proofs.Places.{order, part_outside, frame-of, spots, run_past, run-apart}
use Rattle.frame.proofs.Stores.{counts-frame, totals-frame, run-frame}

-- what soundness asks beside a frame
-- the magics
pub record Marked (geo : Geometry) (img : List ℕ) : Type 0 where
  pub super : magic_at geo.order sb_at img ≡ fs_magic
  pub copies : (g : ℕ) → g < geo.ncg → magic_at geo.order (byte_at geo g geo.sblkno) img ≡ fs_magic
  pub groups : (g : ℕ) → g < geo.ncg → group_magic_at geo.order (cg_at geo g) img ≡ cg_magic

pub record Bounded (geo : Geometry) (img : List ℕ) : Type 0 where
  pub counts : (g : ℕ) → g < geo.ncg → (c : Count) → nat_abs (signed 4 (count_at geo.order c (cg_at geo g) img)) ≤ 2 ^ 31 - 9
  pub totals : (c : Count) → nat_abs (signed 8 (total_at geo.order c img)) ≤ 2 ^ 62

pub marked-of : (img : List ℕ) → soundb img ≡ true → Marked (geometry_of img) img
marked-of img h = let m = (sound-is img h).magics in record { super = m.super; copies = m.copies; groups = m.groups }

pub bounded-of : (img : List ℕ) → soundb img ≡ true → Bounded (geometry_of img) img
bounded-of img h = let m = (sound-is img h).counts in record { counts = m.counts; totals = m.totals }

sound_with : (geo : Geometry) (img : List ℕ) → Frame geo img → Marked geo img → Bounded geo img → SoundWith geo img
sound_with geo img fr m b =
    let s = fr.sizes in
    let l = fr.laid in
    record {
      magics = record { least = l.low; most = l.high; super = m.super; copies = m.copies; groups = m.groups };
      sizes = record {
        bsize = power_is geo.bsize s.bsize;
        frag = frag_cases geo.frag s.frag;
        fsize = s.fsize;
        ncg = s.ncg;
        ipg = (s.ipg, s.eights);
        fpg = (s.fpg, s.fpg_top, s.blocks);
        ndblk = λ g h. ((fr.head g h).some, (fr.head g h).span);
        inodes = s.inodes;
      };
      places = record {
        inside = λ g h. byte_at-inside geo g (group_at geo g img).ndblk (length img) (fr.head g h).inside;
        past = l.past;
        copy = l.copy;
        group = l.record_first;
        table = l.table;
        data_in = λ g h. (fr.head g h).data_in;
      };
      maps = λ g h. record { used = (fr.head g h).used_from; free = (fr.head g h).free_from; ended = (fr.head g h).map_end };
      bits = λ g h. record { past = λ f a b. fr.never g h f (inl (a, b)); reserved = λ f r. fr.never g h f (inr r) };
      counts = record { zero = fr.zero; counts = b.counts; totals = b.totals };
    }

pub sound_again : (geo : Geometry) (img : List ℕ) → Frame geo img → Marked geo img → Bounded geo img → soundb img ≡ true
sound_again geo img fr m b = is-sound img (subst (λ (g : Geometry). SoundWith g img) fr.same (sound_with geo img fr m b))

-- ---- fragments are whole multiples of 512 bytes, so that records of one kind never meet fields of another

unit-whole : (geo : Geometry) (img : List ℕ) → Frame geo img → geo.fsize % 512 ≡ 0
unit-whole geo img fr =
    let s = fr.sizes in
    let at : (k : ℕ) → geo.frag ≡ k → geo.fsize * k ≡ geo.bsize = λ k q. ap (λ (x : ℕ). geo.fsize * x) (sym q) ∙ s.fsize in
    let by : (c : ℕ) → geo.bsize ≡ 4096 * c → geo.fsize % 512 ≡ 0 = λ c e.
    let are : (m : ℕ) → geo.fsize ≡ 512 * m → geo.fsize % 512 ≡ 0 = λ m q. omega arith in
    ⊎_elim (λ q. are (8 * c) (omega (arith, at 1 q))) (λ x. ⊎_elim (λ q. are (4 * c) (omega (arith, at 2 q))) (λ x. ⊎_elim (λ q. are (2 * c) (omega (arith, at 4 q))) (λ q. are c (omega (arith, at 8 q))) x) x) (frag_cases geo.frag s.frag) in
    ⊎_elim (λ e. by 1 e) (λ x. ⊎_elim (λ e. by 2 e) (λ x. ⊎_elim (λ e. by 4 e) (λ x. ⊎_elim (λ e. by 8 e) (λ e. by 16 e) x) x) x)
    (size_cases geo.bsize s.bsize)

whole_multiple : (u x : ℕ) → u % 512 ≡ 0 → x * u ≡ 512 * (x * (u / 512))
whole_multiple u x h =
    let e : u ≡ u / 512 * 512 = omega arith in
    ap (λ (v : ℕ). x * v) e ∙ sym (mul_assoc x (u / 512) 512) ∙ mul_comm (x * (u / 512)) 512

whole-byte : (geo : Geometry) (img : List ℕ) → Frame geo img → (g f : ℕ) → byte_at geo g f ≡ 512 * (byte_at geo g f / 512)
unfolding byte_at
whole-byte geo img fr g f = omega (arith, whole_multiple geo.fsize (g * geo.fpg + f) (unit-whole geo img fr))

-- ---- the magics are kept

pub record MarksApart (geo : Geometry) (a n : ℕ) : Type 0 where
  pub super : Outside a n (sb_at + 1372) 4
  pub copies : (g : ℕ) → g < geo.ncg → Outside a n (byte_at geo g geo.sblkno + 1372) 4
  pub groups : (g : ℕ) → g < geo.ncg → Outside a n (cg_at geo g + 4) 4

pub marked-kept : (geo : Geometry) (a n : ℕ) (xs ys : List ℕ) → Kept a n xs ys → MarksApart geo a n → Marked geo xs → Marked geo ys
marked-kept geo a n xs ys k p m =
    record {
      super = kept-magic k geo.order sb_at p.super ∙ m.super;
      copies = λ g l. kept-magic k geo.order (byte_at geo g geo.sblkno) (p.copies g l) ∙ m.copies g l;
      groups = λ g l. kept-group-magic k geo.order (cg_at geo g) (p.groups g l) ∙ m.groups g l;
    }

-- ---- the bounds are kept

pub record CountsApart (geo : Geometry) (a n : ℕ) : Type 0 where
  pub counts : (g : ℕ) → g < geo.ncg → Outside a n (cg_at geo g + 28) 12
  pub totals : Outside a n (sb_at + 1016) 24

pub bounded-kept : (geo : Geometry) (a n : ℕ) (xs ys : List ℕ) → Kept a n xs ys → CountsApart geo a n → Bounded geo xs → Bounded geo ys
bounded-kept geo a n xs ys k p b =
    record {
      counts = λ g l c. let q = count-place c in
          rw (kept-count k geo.order c (cg_at geo g) (⊎_elim (λ x. inl (omega arith)) (λ x. inr (omega arith)) (p.counts g l))) (b.counts g l c);
      totals = λ c. let q = total-place c in
          rw (kept-total k geo.order c (⊎_elim (λ x. inl (omega arith)) (λ x. inr (omega arith)) p.totals)) (b.totals c);
    }

-- ---- the kinds of store

module _ (geo : Geometry) (xs : List ℕ) (fr : Frame geo xs) where
  -- where a copy's magic stands: in its own group, before the data
  copy-first : (g : ℕ) → byte_at geo g 0 ≤ byte_at geo g geo.sblkno + 1372
  copy-first g = let z : 0 ≤ geo.sblkno = omega arith in omega (arith, byte_at-mono geo g z)

  copy-last : (g : ℕ) → g < geo.ncg → byte_at geo g geo.sblkno + 1376 ≤ byte_at geo g geo.dblkno
  copy-last g l = let h = fr.head g l in (placed geo g (length xs) fr.laid (omega arith)).copy_end

  -- of two places that are whole multiples, one at i and one at j apart in every 512 bytes
  apart-whole : (p q i n j m : ℕ) → p ≡ 512 * (p / 512) → q ≡ 512 * (q / 512) → i % 512 + n ≤ 512 → j % 512 + m ≤ 512 → (i % 512 + n ≤ j % 512) ⊎ (j % 512 + m ≤ i % 512) → 0 < n → 0 < m → Outside (p + i) n (q + j) m
  apart-whole p q i n j m ep eq li lj o pn pm = go (dec_lt (q + j) (p + i))
    where
      go : Dec (q + j < p + i) → Outside (p + i) n (q + j) m
      go (yes h) = inl (⊎_elim (λ x. omega arith) (λ x. omega arith) o)
      go (no h) = inr (⊎_elim (λ x. omega arith) (λ x. omega arith) o)

  pub count-marks : (g : ℕ) (c : Count) → g < geo.ncg → MarksApart geo (cg_at geo g + count_place c) 4
  count-marks g c l =
      let q = count-place c in
      let s = spots geo xs fr g l in
      let w = whole-byte geo xs fr in
      record {
        super = inl (omega arith);
        copies = λ h lh. apart-whole (cg_at geo g) (byte_at geo h geo.sblkno) (count_place c) 4 1372 4 (w g geo.cblkno) (w h geo.sblkno) (omega arith) (omega arith) (inl (omega arith)) (omega arith) (omega arith);
        groups = λ h lh. apart-whole (cg_at geo g) (cg_at geo h) (count_place c) 4 4 4 (w g geo.cblkno) (w h geo.cblkno) (omega arith) (omega arith) (inr (omega arith)) (omega arith) (omega arith);
      }

  -- a copy's magic would have to begin between two multiples of 512 to meet a total
  total-copy : (t q : ℕ) → 1016 ≤ t → t + 8 ≤ 1040 → q ≡ 512 * (q / 512) → Outside (sb_at + t) 8 (q + 1372) 4
  total-copy t q lo hi e = go (dec_lt (q + 1372) (sb_at + t))
    where
      go : Dec (q + 1372 < sb_at + t) → Outside (sb_at + t) 8 (q + 1372) 4
      go (yes h) = inl (omega arith)
      go (no h) = inr (omega arith)

  pub total-marks : (c : Count) → MarksApart geo (sb_at + total_place c) 8
  total-marks c =
      let q = total-place c in
      record {
        super = inr (omega arith);
        copies = λ h l. total-copy (total_place c) (byte_at geo h geo.sblkno) q.0 q.1 (whole-byte geo xs fr h geo.sblkno);
        groups = λ h l. let s = spots geo xs fr h l in inr (omega arith);
      }

  -- n bytes inside group g past its record's fields, outside its copy's magic
  pub area-marks : (g a n : ℕ) → g < geo.ncg → cg_at geo g + 168 ≤ a → a + n ≤ byte_at geo g geo.fpg → Outside a n (byte_at geo g geo.sblkno + 1372) 4 → MarksApart geo a n
  area-marks g a n l lo hi own =
      let s = spots geo xs fr g l in
      record {
        super = inl (omega arith);
        copies = λ h lh. let t = spots geo xs fr h lh in
            ⊎_elim (λ k. inr (omega (arith, byte_at-next geo k, copy-first h)))
            (λ x. ⊎_elim (λ e. subst (λ (y : ℕ). Outside a n (byte_at geo y geo.sblkno + 1372) 4) e own) (λ k. inl (omega (arith, byte_at-next geo k, copy-last h lh))) x) (order g h);
        groups = λ h lh. let t = spots geo xs fr h lh in
            ⊎_elim (λ k. inr (omega (arith, byte_at-next geo k)))
            (λ x. ⊎_elim (λ e. let z : cg_at geo g ≡ cg_at geo h = ap (cg_at geo) e in inl (omega arith)) (λ k. inl (omega (arith, byte_at-next geo k))) x) (order g h);
      }

  pub area-counts : (g a n : ℕ) → g < geo.ncg → cg_at geo g + 168 ≤ a → a + n ≤ byte_at geo g geo.fpg → CountsApart geo a n
  area-counts g a n l lo hi =
      let s = spots geo xs fr g l in
      record {
        counts = λ h lh. let t = spots geo xs fr h lh in
            ⊎_elim (λ k. inr (omega (arith, byte_at-next geo k)))
            (λ x. ⊎_elim (λ e. let z : cg_at geo g ≡ cg_at geo h = ap (cg_at geo) e in inl (omega arith)) (λ k. inl (omega (arith, byte_at-next geo k))) x) (order g h);
        totals = inl (omega arith);
      }

  -- a store into a group's maps or inodes keeps soundness, if it keeps the frame and is not where the magic of the group's superblock copy stands
  pub area-sound : (g a n : ℕ) (ys : List ℕ) → g < geo.ncg → cg_at geo g + 168 ≤ a → a + n ≤ byte_at geo g geo.fpg → Outside a n (byte_at geo g geo.sblkno + 1372) 4
      → Kept a n xs ys → Marked geo xs → Bounded geo xs → Frame geo ys → soundb ys ≡ true
  area-sound g a n ys l lo hi own k m b fy =
      sound_again geo ys fy (marked-kept geo a n xs ys k (area-marks g a n l lo hi own) m) (bounded-kept geo a n xs ys k (area-counts g a n l lo hi) b)

  -- a store into a run of data keeps soundness
  pub run_sound : (a n : ℕ) (ys : List ℕ) → 0 < n → RunOk geo xs a n → Kept (a * geo.fsize) (n * geo.fsize) xs ys → Marked geo xs → Bounded geo xs → soundb ys ≡ true
  run_sound a n ys p r k m b =
      let at : (h i q : ℕ) → h < geo.ncg → byte_at geo h geo.sblkno ≤ i → i + q ≤ byte_at geo h geo.dblkno → Outside (a * geo.fsize) (n * geo.fsize) i q =
      λ h i q lh lo hi. part_outside (a * geo.fsize) (n * geo.fsize) (byte_at geo h (reserved_from geo h)) (byte_at geo h geo.dblkno - byte_at geo h (reserved_from geo h)) i q
      (omega (arith, byte_at-mono geo h (reserved-within geo h))) (omega (arith, byte_at-mono geo h (reserved-within geo h))) (run-apart geo xs fr a n r h lh) in
      let past = run_past geo xs fr a n r p in
      sound_again geo ys (run-frame geo xs fr a n ys p r k)
      (marked-kept geo (a * geo.fsize) (n * geo.fsize) xs ys k (record {
        super = inl (omega arith);
        copies = λ h lh. at h (byte_at geo h geo.sblkno + 1372) 4 lh (omega arith) (omega (arith, copy-last h lh));
        groups = λ h lh. let t = spots geo xs fr h lh in at h (cg_at geo h + 4) 4 lh (omega (arith, byte_at-mono geo h fr.laid.copy)) (omega arith);
      }) m)
      (bounded-kept geo (a * geo.fsize) (n * geo.fsize) xs ys k (record {
        counts = λ h lh. let t = spots geo xs fr h lh in at h (cg_at geo h + 28) 12 lh (omega (arith, byte_at-mono geo h fr.laid.copy)) (omega arith);
        totals = inl (omega arith);
      }) b)

  -- a count or a total stored keeps soundness, if it is within its bounds
  pub count-sound : (g : ℕ) (c : Count) (ys : List ℕ) → g < geo.ncg → Kept (cg_at geo g + count_place c) 4 xs ys → Marked geo xs → Bounded geo ys → soundb ys ≡ true
  count-sound g c ys l k m b =
      let q = count-place c in
      sound_again geo ys (counts-frame geo xs fr g (count_place c) 4 ys l q.0 q.1 k) (marked-kept geo (cg_at geo g + count_place c) 4 xs ys k (count-marks g c l) m) b

  pub total-sound : (c : Count) (ys : List ℕ) → Kept (sb_at + total_place c) 8 xs ys → Marked geo xs → Bounded geo ys → soundb ys ≡ true
  total-sound c ys k m b =
      let q = total-place c in
      sound_again geo ys (totals-frame geo xs fr (total_place c) 8 ys q.0 q.1 k) (marked-kept geo (sb_at + total_place c) 8 xs ys k (total-marks c) m) b
