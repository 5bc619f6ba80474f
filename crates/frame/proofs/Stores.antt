-- Which stores keep a frame: into counts, totals, maps, inodes and data. Assumes nothing.
use mathlib.Core.Path.{◌≡◌, refl, sym, ap, subst, ◌∙◌}
use mathlib.Core.List.{List}
use mathlib.Core.Logic.{◌⊎◌, inl, inr, ⊎_elim}
use Prim.Native.Nat.{ℕ, ◌+◌, ◌-◌, ◌*◌, ◌/◌, ◌%◌, ◌≤◌, ◌<◌}
use native.Mathlib.Omega.{arith}
use native.Mathlib.Decide.{dec_lt}
use lib.ListN.{length}
use Rattle.field.specs.Field.{Kept}
use Rattle.volume.specs.declared.Geometry.{Geometry}
use Rattle.volume.specs.Volume.{sb_at, geometry_of, byte_at, cg_at}
use Rattle.volume.proofs.Laws.{byte_at-mono, byte_at-next, kept-geometry, kept-group}
use Rattle.bits.specs.Bits.{bit_at}
use Rattle.bits.proofs.BitsLaws.{kept-bit_at}
use Rattle.sound.specs.Clauses.{reserved_from}
use Rattle.sound.specs.Sound.{group_at, free_at, used_at}
use Rattle.sound.specs.Test.{Laid}
use Rattle.sound.proofs.Laws.{reserved-within}
use Rattle.frame.specs.Frame.{Never, Frame, Spots, Outside, RunOk}
use Rattle.frame.proofs.Places.{order, part_outside, spots, run_past, run-apart}

-- ---- what a frame reads: the sizes, the group's fixed fields, the bits of fragments that are never free, inode 0's bit

pub frame-kept : (geo : Geometry) (xs ys : List ℕ) → Frame geo xs → length ys ≡ length xs → geometry_of ys ≡ geometry_of xs
    → ((h : ℕ) → h < geo.ncg → group_at geo h ys ≡ group_at geo h xs)
    → ((h : ℕ) → h < geo.ncg → (f : ℕ) → Never geo h xs f → bit_at ys (free_at geo h xs) f ≡ 0)
    → bit_at ys (used_at geo 0 xs) 0 ≡ 1
    → Frame geo ys
frame-kept geo xs ys fr long super group never used =
    record {
      same = fr.same ∙ sym super;
      sizes = fr.sizes;
      laid = subst (λ (m : ℕ). Laid geo m) (sym long) fr.laid;
      head = λ h l. rw (group h l, long) (fr.head h l);
      never = λ h l f n. rw (group h l) (never h l f (rw (group h l) at n));
      zero = rw (group 0 fr.laid.groups) used;
    }

-- the n bytes from a are none of those fields
pub record FieldsApart (geo : Geometry) (a n : ℕ) : Type 0 where
  pub super : Outside a n (sb_at + 8) 184
  pub ndblk : (h : ℕ) → h < geo.ncg → Outside a n (cg_at geo h + 20) 4
  pub offsets : (h : ℕ) → h < geo.ncg → Outside a n (cg_at geo h + 92) 8

module _ (geo : Geometry) (a n : ℕ) (xs ys : List ℕ) (fr : Frame geo xs) (k : Kept a n xs ys) where
  -- a store outside the fields, after which the bits are right
  pub bits-frame : FieldsApart geo a n
      → ((h : ℕ) → h < geo.ncg → (f : ℕ) → Never geo h xs f → bit_at ys (free_at geo h xs) f ≡ 0)
      → bit_at ys (used_at geo 0 xs) 0 ≡ 1
      → Frame geo ys
  bits-frame p never used =
      frame-kept geo xs ys fr k.long
      (kept-geometry k (⊎_elim (λ l. inl (omega arith)) (λ l. inr (omega arith)) p.super))
      (λ h l. kept-group k geo.order (cg_at geo h)
      (⊎_elim (λ l. inl (omega arith)) (λ l. inr (omega arith)) (p.ndblk h l)) (⊎_elim (λ l. inl (omega arith)) (λ l. inr (omega arith)) (p.offsets h l)))
      never used

  -- a bit of a map outside the bytes stored is as it was
  never-kept : (h f : ℕ) → h < geo.ncg → Outside a n (free_at geo h xs) (((group_at geo h xs).ndblk + 7) / 8) → Never geo h xs f → bit_at ys (free_at geo h xs) f ≡ 0
  never-kept h f l o v =
      let b : f / 8 < ((group_at geo h xs).ndblk + 7) / 8 = never-byte in
      kept-bit_at (free_at geo h xs) f k (⊎_elim (λ x. inl (omega arith)) (λ x. inr (omega arith)) o) ∙ fr.never h l f v
    where
      never-byte : f / 8 < ((group_at geo h xs).ndblk + 7) / 8
      never-byte = ⊎_elim (λ p. omega arith) (λ p. let d = (fr.head h l).data_in in omega arith) v

  zero-kept : Outside a n (used_at geo 0 xs) 1 → bit_at ys (used_at geo 0 xs) 0 ≡ 1
  zero-kept o = kept-bit_at (used_at geo 0 xs) 0 k (⊎_elim (λ x. inl (omega arith)) (λ x. inr (omega arith)) o) ∙ fr.zero

  -- a store outside the fields and the maps
  pub apart-frame : FieldsApart geo a n
      → ((h : ℕ) → h < geo.ncg → Outside a n (free_at geo h xs) (((group_at geo h xs).ndblk + 7) / 8))
      → Outside a n (used_at geo 0 xs) 1
      → Frame geo ys
  apart-frame p maps used = bits-frame p (λ h l f v. never-kept h f l (maps h l) v) (zero-kept used)

  -- a store past the superblock and outside every group's record and maps: into inodes or data
  pub areas-frame : 66912 ≤ a → ((h : ℕ) → h < geo.ncg → Outside a n (cg_at geo h) (byte_at geo h geo.iblkno - cg_at geo h)) → Frame geo ys
  areas-frame past o =
      let z : (h b m : ℕ) → h < geo.ncg → cg_at geo h ≤ b → b + m ≤ byte_at geo h geo.iblkno → Outside a n b m =
      λ h b m l u w. part_outside a n (cg_at geo h) (byte_at geo h geo.iblkno - cg_at geo h) b m u (omega arith) (o h l) in
      apart-frame
      (record {
        super = inl (omega arith);
        ndblk = λ h l. let t = spots geo xs fr h l in z h (cg_at geo h + 20) 4 l (omega arith) (omega arith);
        offsets = λ h l. let t = spots geo xs fr h l in z h (cg_at geo h + 92) 8 l (omega arith) (omega arith);
      })
      (λ h l. let t = spots geo xs fr h l in z h (free_at geo h xs) (((group_at geo h xs).ndblk + 7) / 8) l (omega arith) (omega arith))
      (let t = spots geo xs fr 0 fr.laid.groups in let u = fr.laid.inodes in z 0 (used_at geo 0 xs) 1 fr.laid.groups (omega arith) (omega arith))

-- ---- the kinds of store

module _ (geo : Geometry) (xs : List ℕ) (fr : Frame geo xs) where
  -- n bytes at j of group g's record are not the m bytes at i of group h's
  pub record_apart : (g j n h i m : ℕ) → g < geo.ncg → h < geo.ncg → cg_at geo g + j + n ≤ byte_at geo g geo.iblkno → cg_at geo h + i + m ≤ byte_at geo h geo.iblkno
      → (g ≡ h → (i + m ≤ j) ⊎ (j + n ≤ i)) → Outside (cg_at geo g + j) n (cg_at geo h + i) m
  record_apart g j n h i m lg lh wg wh q =
      let s = spots geo xs fr g lg in
      let t = spots geo xs fr h lh in
      ⊎_elim (λ k. inr (omega (arith, byte_at-next geo k)))
      (λ x. ⊎_elim (λ e. let z : cg_at geo g ≡ cg_at geo h = ap (cg_at geo) e in ⊎_elim (λ y. inl (omega arith)) (λ y. inr (omega arith)) (q e))
      (λ k. inl (omega (arith, byte_at-next geo k))) x)
      (order g h)

  pub fields-apart : (g j n : ℕ) → g < geo.ncg → cg_at geo g + j + n ≤ byte_at geo g geo.iblkno → (24 ≤ j) × ((j + n ≤ 92) ⊎ (100 ≤ j)) → FieldsApart geo (cg_at geo g + j) n
  fields-apart g j n lg w q =
      let s = spots geo xs fr g lg in
      record {
        super = inl (omega arith);
        ndblk = λ h l. let t = spots geo xs fr h l in record_apart g j n h 20 4 lg l w (omega arith) (λ _. inl (omega arith));
        offsets = λ h l. let t = spots geo xs fr h l in record_apart g j n h 92 8 lg l w (omega arith) (λ _. ⊎_elim (λ x. inr (omega arith)) (λ x. inl (omega arith)) q.1);
      }

  -- a store into the counts of a group
  pub counts-frame : (g j n : ℕ) (ys : List ℕ) → g < geo.ncg → 28 ≤ j → j + n ≤ 40 → Kept (cg_at geo g + j) n xs ys → Frame geo ys
  counts-frame g j n ys lg lo hi k =
      let s = spots geo xs fr g lg in
      apart-frame geo (cg_at geo g + j) n xs ys fr k
      (fields-apart g j n lg (omega arith) (omega arith, inl (omega arith)))
      (λ h lh. let t = spots geo xs fr h lh in
      let e : free_at geo h xs ≡ cg_at geo h + (group_at geo h xs).freeoff = refl in
      record_apart g j n h (group_at geo h xs).freeoff (((group_at geo h xs).ndblk + 7) / 8) lg lh (omega arith) (omega arith) (λ _. inr (omega arith)))
      (let t = spots geo xs fr 0 fr.laid.groups in let u = fr.laid.inodes in
      record_apart g j n 0 (group_at geo 0 xs).iusedoff 1 lg fr.laid.groups (omega arith) (omega arith) (λ _. inr (omega arith)))

  -- a store into the totals
  pub totals-frame : (j n : ℕ) (ys : List ℕ) → 1016 ≤ j → j + n ≤ 1040 → Kept (sb_at + j) n xs ys → Frame geo ys
  totals-frame j n ys lo hi k =
      apart-frame geo (sb_at + j) n xs ys fr k
      (record {
        super = inl (omega arith);
        ndblk = λ h l. let t = spots geo xs fr h l in inr (omega arith);
        offsets = λ h l. let t = spots geo xs fr h l in inr (omega arith);
      })
      (λ h l. let t = spots geo xs fr h l in inr (omega arith))
      (let t = spots geo xs fr 0 fr.laid.groups in inr (omega arith))

  -- a store into a group's inodes
  pub table-frame : (g a n : ℕ) (ys : List ℕ) → g < geo.ncg → byte_at geo g geo.iblkno ≤ a → a + n ≤ byte_at geo g geo.dblkno → Kept a n xs ys → Frame geo ys
  table-frame g a n ys lg lo hi k =
      let s = spots geo xs fr g lg in
      areas-frame geo a n xs ys fr k (omega arith)
      (λ h lh. let t = spots geo xs fr h lh in
      ⊎_elim (λ k. inr (omega (arith, byte_at-next geo k)))
      (λ x. ⊎_elim (λ e. let z : byte_at geo g geo.iblkno ≡ byte_at geo h geo.iblkno = ap (λ (y : ℕ). byte_at geo y geo.iblkno) e in inl (omega arith))
      (λ k. inl (omega (arith, byte_at-next geo k))) x)
      (order g h))

  -- a store into a run of data
  pub run-frame : (a n : ℕ) (ys : List ℕ) → 0 < n → RunOk geo xs a n → Kept (a * geo.fsize) (n * geo.fsize) xs ys → Frame geo ys
  run-frame a n ys p r k =
      areas-frame geo (a * geo.fsize) (n * geo.fsize) xs ys fr k (run_past geo xs fr a n r p)
      (λ h lh. let t = spots geo xs fr h lh in
      part_outside (a * geo.fsize) (n * geo.fsize) (byte_at geo h (reserved_from geo h)) (byte_at geo h geo.dblkno - byte_at geo h (reserved_from geo h)) (cg_at geo h) (byte_at geo h geo.iblkno - cg_at geo h)
      (byte_at-mono geo h (omega (arith, reserved-within geo h, fr.laid.copy)))
      (omega arith)
      (run-apart geo xs fr a n r h lh))

  -- a store into a group's free map after which no fragment that is never free is marked free
  pub map_frame : (g : ℕ) (ys : List ℕ) → g < geo.ncg → Kept (free_at geo g xs) (((group_at geo g xs).ndblk + 7) / 8) xs ys
      → ((f : ℕ) → Never geo g xs f → bit_at ys (free_at geo g xs) f ≡ 0)
      → Frame geo ys
  map_frame g ys lg k b =
      let s = spots geo xs fr g lg in
      let j = (group_at geo g xs).freeoff in
      let n = ((group_at geo g xs).ndblk + 7) / 8 in
      bits-frame geo (free_at geo g xs) n xs ys fr k
      (fields-apart g j n lg (omega arith) (omega arith, inr (omega arith)))
      (λ h lh f v. let t = spots geo xs fr h lh in
      let other : (g ≡ h → ⊥) → bit_at ys (free_at geo h xs) f ≡ 0 = λ ne.
      never-kept geo (free_at geo g xs) n xs ys fr k h f lh
      (record_apart g j n h (group_at geo h xs).freeoff (((group_at geo h xs).ndblk + 7) / 8) lg lh (omega arith) (omega arith) (λ e. absurd (ne e))) v in
      ⊎_elim (λ l. other (λ e. let w : ⊥ = omega arith in w))
      (λ x. ⊎_elim (λ e. subst (λ (y : ℕ). bit_at ys (free_at geo y xs) f ≡ 0) e (b f (subst (λ (y : ℕ). Never geo y xs f) (sym e) v))) (λ l. other (λ e. let w : ⊥ = omega arith in w)) x)
      (order g h))
      (let t = spots geo xs fr 0 fr.laid.groups in let u = fr.laid.inodes in
      zero-kept geo (free_at geo g xs) n xs ys fr k
      (record_apart g j n 0 (group_at geo 0 xs).iusedoff 1 lg fr.laid.groups (omega arith) (omega arith)
      (λ e. let z : free_at geo g xs ≡ free_at geo 0 xs = ap (λ (y : ℕ). free_at geo y xs) e in let c : cg_at geo g ≡ cg_at geo 0 = ap (cg_at geo) e in inl (omega arith))))

  -- a store into a group's inode map that keeps inode 0's bit
  pub used-frame : (g : ℕ) (ys : List ℕ) → g < geo.ncg → Kept (used_at geo g xs) (geo.ipg / 8) xs ys → bit_at ys (used_at geo 0 xs) 0 ≡ 1 → Frame geo ys
  used-frame g ys lg k b =
      let s = spots geo xs fr g lg in
      let j = (group_at geo g xs).iusedoff in
      bits-frame geo (used_at geo g xs) (geo.ipg / 8) xs ys fr k
      (fields-apart g j (geo.ipg / 8) lg (omega arith) (omega arith, inr (omega arith)))
      (λ h lh f v. let t = spots geo xs fr h lh in
      never-kept geo (used_at geo g xs) (geo.ipg / 8) xs ys fr k h f lh
      (record_apart g j (geo.ipg / 8) h (group_at geo h xs).freeoff (((group_at geo h xs).ndblk + 7) / 8) lg lh (omega arith) (omega arith)
      (λ e. let z : used_at geo g xs ≡ used_at geo h xs = ap (λ (y : ℕ). used_at geo y xs) e in let c : cg_at geo g ≡ cg_at geo h = ap (cg_at geo) e in inr (omega arith))) v)
      b
