-- What each test of `specs/Clauses.antt` shows when it passes, and what the code cites of the tests joined. Assumes nothing.
use Rattle.std.specs.Prelude.{Ok, Err}
use mathlib.Core.Path.{◌≡◌, refl, sym, ap, ◌∙◌}
use mathlib.Core.Bool.{Bool, true, false, ◌&&◌, ◌||◌}
use mathlib.Core.List.{List}
use mathlib.Core.Logic.{◌⊎◌, inl, inr, ⊎_elim}
use Prim.Native.Nat.{ℕ, zero, suc, ◌+◌, ◌-◌, ◌*◌, ◌/◌, ◌≤◌, ◌<◌}
use native.Mathlib.Nat.{mul-le-mul_right, lt_of_mul-lt-mul_right, add-mul}
use native.Mathlib.Omega.{arith}
use lib.ListN.{length}
use lib.Dec.{eqb}
use borrow.Author.Tests.{leb-true, ltb-true, eqb-true, le-leb}
use Rattle.volume.specs.declared.Geometry.{Geometry}
use Rattle.volume.specs.declared.Group.{Group}
use Rattle.volume.specs.Volume.{geometry_of, magic_at, byte_at, cg_at, group_magic_at, group_of}
use Rattle.volume.proofs.Laws.{le_product, byte_at-eq, byte_at-inside}
use Rattle.bits.specs.Upto.{all}
use Rattle.bits.specs.Bits.{is_frag, frag_free}
use Rattle.bits.proofs.UptoLaws.{both, true-not-false, all-at, all_fail}
use Rattle.bits.proofs.BitsLaws.{free-bit}
use Rattle.refusal.specs.declared.Refusal.TheVariants.{Damaged}
use Rattle.sound.specs.Clauses.{fs_magic, cg_magic, is_block_size, sizes_ok, places_ok, header_ok, counts_ok, reserved_from, map_ok, body_ok, group_ok, groups_ok, zero_ok, super_ok, soundb}
use Rattle.sound.specs.Test.{Sized, Laid, Placed, Headed, taken_of, opened}
use Rattle.refusal.specs.Refusal.{damage}

pub either : (a b : Bool) → (a || b) ≡ true → (a ≡ true) ⊎ (b ≡ true)
either true b h = inl refl
either false b h = inr h

pub clash : false ≡ true → ⊥
clash e = true-not-false e refl

-- ---- sizes and places

-- one of five sizes, and one of four
pub size_cases : (b : ℕ) → is_block_size b ≡ true → (b ≡ 4096) ⊎ ((b ≡ 8192) ⊎ ((b ≡ 16384) ⊎ ((b ≡ 32768) ⊎ (b ≡ 65536))))
unfolding is_block_size
size_cases b h =
    ⊎_elim (λ h. ⊎_elim (λ h. ⊎_elim (λ h. ⊎_elim (λ h. inl (eqb-true b 4096 h)) (λ p. inr (inl (eqb-true b 8192 p))) (either _ _ h)) (λ p. inr (inr (inl (eqb-true b 16384 p)))) (either _ _ h)) (λ p. inr (inr (inr (inl (eqb-true b 32768 p))))) (either _ _ h)) (λ p. inr (inr (inr (inr (eqb-true b 65536 p))))) (either _ _ h)

pub frag_cases : (f : ℕ) → is_frag f ≡ true → (f ≡ 1) ⊎ ((f ≡ 2) ⊎ ((f ≡ 4) ⊎ (f ≡ 8)))
unfolding is_frag
frag_cases f h =
    ⊎_elim (λ h. ⊎_elim (λ h. ⊎_elim (λ h. inl (eqb-true f 1 h)) (λ p. inr (inl (eqb-true f 2 p))) (either _ _ h)) (λ p. inr (inr (inl (eqb-true f 4 p)))) (either _ _ h)) (λ p. inr (inr (inr (eqb-true f 8 p)))) (either _ _ h)

pub size_between : (b : ℕ) → is_block_size b ≡ true → (4096 ≤ b) × (b ≤ 65536)
size_between b h =
    let p : (4096 ≤ b) × (b ≤ 65536) =
    ⊎_elim (λ e. (omega arith, omega arith)) (λ x. ⊎_elim (λ e. (omega arith, omega arith)) (λ x. ⊎_elim (λ e. (omega arith, omega arith)) (λ x. ⊎_elim (λ e. (omega arith, omega arith)) (λ e. (omega arith, omega arith)) x) x) x) (size_cases b h) in
    p

-- a block of at least 4,096 bytes in at most 8 fragments
pub unit_between : (b f s : ℕ) → is_block_size b ≡ true → is_frag f ≡ true → s * f ≡ b → (512 ≤ s) × (s ≤ 65536)
unit_between b f s hb hf e =
    let w = size_between b hb in
    let at : (k : ℕ) → f ≡ k → s * k ≡ b = λ k q. ap (λ (x : ℕ). s * x) (sym q) ∙ e in
    ⊎_elim (λ q. omega (arith, at 1 q)) (λ x. ⊎_elim (λ q. omega (arith, at 2 q)) (λ x. ⊎_elim (λ q. omega (arith, at 4 q)) (λ q. omega (arith, at 8 q)) x) x) (frag_cases f hf)

pub sized : (geo : Geometry) → sizes_ok geo ≡ true → Sized geo
unfolding sizes_ok
sized geo h =
    let h9 = both _ _ h in
    let h8 = both _ _ h9.0 in
    let h7 = both _ _ h8.0 in
    let h6 = both _ _ h7.0 in
    let h5 = both _ _ h6.0 in
    let h4 = both _ _ h5.0 in
    let h3 = both _ _ h4.0 in
    let h2 = both _ _ h3.0 in
    let h1 = both _ _ h2.0 in
    record {
      bsize = h1.0;
      frag = h1.1;
      fsize = eqb-true _ _ h2.1;
      ncg = leb-true _ _ h3.1;
      ipg = leb-true _ _ h4.1;
      eights = eqb-true _ _ h5.1;
      fpg = leb-true _ _ h6.1;
      fpg_top = ltb-true _ _ h7.1;
      blocks = eqb-true _ _ h8.1;
      inodes = ltb-true _ _ h9.1;
    }

pub unit-sized : (geo : Geometry) → sizes_ok geo ≡ true → (512 ≤ geo.fsize) × (geo.fsize ≤ 65536)
unit-sized geo h = let s = sized geo h in unit_between geo.bsize geo.frag geo.fsize s.bsize s.frag s.fsize

pub laid : (geo : Geometry) (n : ℕ) → 66912 ≤ n → n ≤ 1073741824 → sizes_ok geo ≡ true → places_ok geo ≡ true → Laid geo n
unfolding places_ok
laid geo n lo hi hs hp =
    let s = sized geo hs in
    let u = unit-sized geo hs in
    let h3 = both _ _ hp in
    let h2 = both _ _ h3.0 in
    let h1 = both _ _ h2.0 in
    let t = leb-true (geo.iblkno * geo.fsize + geo.ipg * 256) (geo.dblkno * geo.fsize) h3.1 in
    record {
      low = lo;
      high = hi;
      unit = u.0;
      unit_top = u.1;
      groups = s.ncg;
      inodes = omega arith;
      eights = s.eights;
      wide = s.fpg;
      past = leb-true _ _ h1.0;
      copy = leb-true _ _ h1.1;
      record_first = ltb-true _ _ h2.1;
      table = t;
      later = lt_of_mul-lt-mul_right geo.fsize (omega arith);
    }

module _ (geo : Geometry) where
  area-eq : geo.cblkno ≤ geo.iblkno → geo.cblkno * geo.fsize + (geo.iblkno - geo.cblkno) * geo.fsize ≡ geo.iblkno * geo.fsize
  area-eq h = sym (add-mul geo.cblkno (geo.iblkno - geo.cblkno) geo.fsize) ∙ ap (λ (x : ℕ). x * geo.fsize) (omega arith)

  pub placed : (g n : ℕ) → Laid geo n → g * geo.fpg + geo.dblkno ≤ n / geo.fsize → Placed geo g n
  placed g n l h =
      let ec = byte_at-eq geo g geo.cblkno in
      let es = byte_at-eq geo g geo.sblkno in
      let ei = byte_at-eq geo g geo.iblkno in
      let ed = byte_at-eq geo g geo.dblkno in
      let ea = area-eq (omega arith) in
      let sc = mul-le-mul_right geo.fsize l.copy in
      let some = le_product 1 512 (geo.iblkno - geo.cblkno) geo.fsize (omega arith) l.unit in
      record {
        past = omega arith;
        copy = omega arith;
        area = omega arith;
        area_some = omega arith;
        table = omega arith;
        copy_end = omega arith;
        inside = byte_at-inside geo g geo.dblkno n h;
      }

pub headed : (geo : Geometry) (frags g : ℕ) (r : Group) → header_ok geo frags g r ≡ true → Headed geo frags g r
unfolding header_ok
headed geo frags g r h =
    let h6 = both _ _ h in
    let h5 = both _ _ h6.0 in
    let h4 = both _ _ h5.0 in
    let h3 = both _ _ h4.0 in
    let h2 = both _ _ h3.0 in
    let h1 = both _ _ h2.0 in
    record {
      some = leb-true _ _ h1.0;
      span = leb-true _ _ h1.1;
      inside = leb-true _ _ h2.1;
      data_in = leb-true _ _ h3.1;
      used_from = leb-true _ _ h4.1;
      free_from = leb-true _ _ h5.1;
      map_end = leb-true _ _ h6.1;
    }

-- ---- the reserved fragments

pub reserved-first : (geo : Geometry) → reserved_from geo 0 ≡ 0
unfolding reserved_from
reserved-first geo = refl

pub reserved-later : (geo : Geometry) (g : ℕ) → (g ≡ 0 → ⊥) → geo.sblkno ≡ reserved_from geo g
unfolding reserved_from
reserved-later geo zero h = absurd (h refl)
reserved-later geo (suc g) h = refl

pub reserved-within : (geo : Geometry) (g : ℕ) → reserved_from geo g ≤ geo.sblkno
unfolding reserved_from
reserved-within geo zero = omega arith
reserved-within geo (suc g) = omega arith

-- ---- one group

module _ (img : List ℕ) (geo : Geometry) (g : ℕ) where
  pub group-stop : header_ok geo (length img / geo.fsize) g (group_of geo.order (cg_at geo g) img) ≡ false → group_ok img geo g ≡ false
  unfolding group_ok
  group-stop h = rw h

  pub group-go : header_ok geo (length img / geo.fsize) g (group_of geo.order (cg_at geo g) img) ≡ true → group_ok img geo g ≡ body_ok img geo g (group_of geo.order (cg_at geo g) img)
  unfolding group_ok
  group-go h = rw h

  pub group-headed : group_ok img geo g ≡ true → Headed geo (length img / geo.fsize) g (group_of geo.order (cg_at geo g) img)
  unfolding group_ok
  group-headed h = headed _ _ _ _ (both _ _ h).0

  -- a right group's reserved fragments lie in the image
  pub group-inside : group_ok img geo g ≡ true → g * geo.fpg + geo.dblkno ≤ length img / geo.fsize
  group-inside h = let q = group-headed h in omega arith

  pub group-body : group_ok img geo g ≡ true → body_ok img geo g (group_of geo.order (cg_at geo g) img) ≡ true
  unfolding group_ok
  group-body h = (both (header_ok geo (length img / geo.fsize) g (group_of geo.order (cg_at geo g) img)) _ h).1

-- what the body's test shows
pub record Bodied (img : List ℕ) (geo : Geometry) (g : ℕ) (r : Group) : Type 0 where
  pub copy : magic_at geo.order (byte_at geo g geo.sblkno) img ≡ fs_magic
  pub group : group_magic_at geo.order (cg_at geo g) img ≡ cg_magic
  pub counts : counts_ok geo.order (cg_at geo g) img ≡ true
  pub map : map_ok geo g (cg_at geo g + r.freeoff) r.ndblk img ≡ true

pub bodied : (img : List ℕ) (geo : Geometry) (g : ℕ) (r : Group) → body_ok img geo g r ≡ true → Bodied img geo g r
unfolding body_ok
bodied img geo g r h =
    let h3 = both (eqb (magic_at geo.order (byte_at geo g geo.sblkno) img) fs_magic && eqb (group_magic_at geo.order (cg_at geo g) img) cg_magic && counts_ok geo.order (cg_at geo g) img) _ h in
    let h2 = both (eqb (magic_at geo.order (byte_at geo g geo.sblkno) img) fs_magic && eqb (group_magic_at geo.order (cg_at geo g) img) cg_magic) _ h3.0 in
    let h1 = both (eqb (magic_at geo.order (byte_at geo g geo.sblkno) img) fs_magic) _ h2.0 in
    record { copy = eqb-true _ _ h1.0; group = eqb-true _ _ h1.1; counts = h2.1; map = h3.1 }

-- ---- all groups

module _ (img : List ℕ) (geo : Geometry) where
  pub groups-at : (g : ℕ) → groups_ok img geo ≡ true → g < geo.ncg → group_ok img geo g ≡ true
  unfolding groups_ok
  groups-at g h l = all-at _ _ g h l

  pub groups-fail : (g : ℕ) → g < geo.ncg → group_ok img geo g ≡ false → groups_ok img geo ≡ false
  unfolding groups_ok
  groups-fail g l h = all_fail _ _ g l h

  pub groups-all : (g : ℕ) → g ≡ geo.ncg → all (group_ok img geo) g ≡ true → groups_ok img geo ≡ true
  unfolding groups_ok
  groups-all g e h = rw e at h

-- inode 0's bit, as the code reads it: through the record that it read where group 0 begins
pub zero-test : (img : List ℕ) (geo : Geometry) (at : ℕ) (r : Group) → at ≡ cg_at geo 0 → r ≡ group_of geo.order at img → frag_free img (at + r.iusedoff) 0 ≡ zero_ok img geo
unfolding zero_ok
zero-test img geo at r e q = rw (q, e) (free-bit img (cg_at geo 0 + (group_of geo.order (cg_at geo 0) img).iusedoff) 0)

-- ---- the whole test

pub record Tested (img : List ℕ) : Type 0 where
  pub low : 66912 ≤ length img
  pub high : length img ≤ 1073741824
  pub sizes : sizes_ok (geometry_of img) ≡ true
  pub places : places_ok (geometry_of img) ≡ true
  pub super : super_ok img ≡ true
  pub groups : groups_ok img (geometry_of img) ≡ true
  pub first : zero_ok img (geometry_of img) ≡ true

pub tested : (img : List ℕ) → soundb img ≡ true → Tested img
unfolding soundb
tested img h =
    let h1 = both _ _ h in
    let h2 = both _ _ h1.1 in
    let h3 = both _ _ h2.1 in
    let h4 = both _ _ h3.1 in
    let h5 = both _ _ h4.1 in
    let h6 = both _ _ h5.1 in
    record { low = leb-true _ _ h1.0; high = leb-true _ _ h2.0; sizes = h3.0; places = h4.0; super = h5.0; groups = h6.0; first = h6.1 }

pub sound-last : (img : List ℕ) → 66912 ≤ length img → length img ≤ 1073741824 → sizes_ok (geometry_of img) ≡ true → places_ok (geometry_of img) ≡ true → super_ok img ≡ true → groups_ok img (geometry_of img) ≡ true → soundb img ≡ zero_ok img (geometry_of img)
unfolding soundb
sound-last img lo hi s p t g = rw (le-leb 66912 (length img) lo, le-leb (length img) 1073741824 hi, s, p, t, g)

pub untested : (img : List ℕ) → Tested img → soundb img ≡ true
untested img t = sound-last img t.low t.high t.sizes t.places t.super t.groups ∙ t.first

pub taken-not : (img : List ℕ) → soundb img ≡ false → taken_of img ≡ Err damage
unfolding taken_of
taken-not img h = rw h

pub taken-yes : (img : List ℕ) → soundb img ≡ true → taken_of img ≡ Ok (geometry_of img)
unfolding taken_of
taken-yes img h = rw h

pub opened-not : (img : List ℕ) (writable : Bool) → soundb img ≡ false → opened img writable ≡ Err Damaged
unfolding opened
opened-not img w h = rw h

pub opened-yes : (img : List ℕ) (writable : Bool) → soundb img ≡ true → opened img writable ≡ Ok (record { writable = writable })
unfolding opened
opened-yes img w h = rw h
