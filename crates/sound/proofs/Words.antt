-- The test passes exactly on the volumes that 01 calls sound: `soundb img ≡ true` says `Sound img`, and the other way about. Assumes nothing.
use mathlib.Core.Path.{◌≡◌, refl, ap, ◌∙◌}
use mathlib.Core.Bool.{Bool, true, false, ◌&&◌, ◌||◌}
use mathlib.Core.List.{List}
use mathlib.Core.Logic.{◌⊎◌, inl, inr, ⊎_elim}
use Prim.Native.Nat.{ℕ, zero, suc, ◌+◌, ◌-◌, ◌*◌, ◌/◌, ◌%◌, ◌^◌, ◌≤◌, ◌<◌}
use native.Mathlib.Nat.{pow-le-pow_right, le-div_iff_mul-le}
use native.Mathlib.Omega.{arith}
use native.Mathlib.Decide.{dec_lt}
use lib.ListN.{length}
use lib.Dec.{leb, eqb}
use lib.IntN.{nat_abs}
use borrow.Author.Tests.{leb-true, eqb-true, le-leb, lt-ltb, eq-eqb}
use Rattle.field.specs.declared.Order.{Order}
use Rattle.field.specs.declared.Order.TheVariants.{Little}
use Rattle.volume.specs.declared.Geometry.{Geometry}
use Rattle.volume.specs.declared.Group.{Group}
use Rattle.volume.specs.declared.Count.{Count}
use Rattle.volume.specs.declared.Count.TheVariants.{Nbfree, Nifree, Nffree}
use Rattle.volume.specs.Volume.{sb_at, geometry_of, magic_at, byte_at, cg_at, group_magic_at, count_at, total_at}
use Rattle.volume.specs.Signed.{signed}
use Rattle.volume.proofs.SignedLaws.{signed-pos, signed_neg}
use Rattle.volume.proofs.Laws.{byte_at-inside, geometry_order}
use Rattle.bits.specs.Bits.{is_frag, bit_at, bits_are}
use Rattle.bits.proofs.UptoLaws.{both, all-holds}
use Rattle.bits.proofs.BitsLaws.{bits_at, bits-hold}
use Rattle.sound.specs.Clauses.{fs_magic, cg_magic, all_counts, is_block_size, sizes_ok, places_ok, header_ok, within, counts_ok, totals_ok, reserved_from, map_ok, body_ok, group_ok, groups_ok, zero_ok, super_ok, soundb}
use Rattle.sound.specs.Sound.{group_at, Reserved, SizesRight, PlacesRight, SoundWith, Sound}
use Rattle.sound.specs.Test.{Headed}
use Rattle.sound.proofs.Laws.{either, size_cases, frag_cases, size_between, sized, unit-sized, laid, group-headed, group-body, Bodied, bodied, groups-at, tested, untested}

-- ---- counts

or_right : (a : Bool) {c : Bool} → c ≡ true → (a || c) ≡ true
or_right true e = refl
or_right false e = e

module _ (n b x : ℕ) (some : 1 ≤ b) (half : b + b < 256 ^ n) where
  pub within-is : within b (256 ^ n) x ≡ true → nat_abs (signed n x) ≤ b
  unfolding within
  within-is h =
      ⊎_elim (λ e. let l = leb-true x b e in rw (signed-pos n x (omega arith)) l)
      (λ e. let l = leb-true (256 ^ n - b) x e in rw (signed_neg n x (omega arith)) (omega arith))
      (either (leb x b) (leb (256 ^ n - b) x) h)

  pub is_within : nat_abs (signed n x) ≤ b → within b (256 ^ n) x ≡ true
  unfolding within
  is_within h = go (dec_lt (x + x) (256 ^ n))
    where
      go : Dec (x + x < 256 ^ n) → (leb x b || leb (256 ^ n - b) x) ≡ true
      go (yes l) = let q : x ≤ b = rw (signed-pos n x l) at h in rw (le-leb x b q)
      go (no l) =
          let m : 256 ^ n ≤ x + x = omega arith in
          let q : suc (256 ^ n - 1 - x) ≤ b = rw (signed_neg n x m) at h in
          or_right (leb x b) (le-leb (256 ^ n - b) x (omega arith))

counts-at : (p : Count → Bool) → all_counts p ≡ true → (c : Count) → p c ≡ true
counts-at p h Nbfree = (both (p Nbfree) (p Nifree) (both (p Nbfree && p Nifree) (p Nffree) h).0).0
counts-at p h Nifree = (both (p Nbfree) (p Nifree) (both (p Nbfree && p Nifree) (p Nffree) h).0).1
counts-at p h Nffree = (both (p Nbfree && p Nifree) (p Nffree) h).1

counts_hold : (p : Count → Bool) → ((c : Count) → p c ≡ true) → all_counts p ≡ true
counts_hold p h = rw (h Nbfree, h Nifree, h Nffree)

pub counts_are : (o : Order) (at : ℕ) (img : List ℕ) → counts_ok o at img ≡ true → (c : Count) → nat_abs (signed 4 (count_at o c at img)) ≤ 2 ^ 31 - 9
unfolding counts_ok
counts_are o at img h c =
    within-is 4 2147483639 _ (omega arith) (omega arith) (counts-at (λ c. within 2147483639 4294967296 (count_at o c at img)) h c)

pub are_counts : (o : Order) (at : ℕ) (img : List ℕ) → ((c : Count) → nat_abs (signed 4 (count_at o c at img)) ≤ 2 ^ 31 - 9) → counts_ok o at img ≡ true
unfolding counts_ok
are_counts o at img h =
    counts_hold (λ c. within 2147483639 4294967296 (count_at o c at img)) (λ c. is_within 4 2147483639 _ (omega arith) (omega arith) (h c))

pub totals_are : (o : Order) (img : List ℕ) → totals_ok o img ≡ true → (c : Count) → nat_abs (signed 8 (total_at o c img)) ≤ 2 ^ 62
unfolding totals_ok
totals_are o img h c =
    within-is 8 4611686018427387904 _ (omega arith) (omega arith) (counts-at (λ c. within 4611686018427387904 18446744073709551616 (total_at o c img)) h c)

pub are_totals : (o : Order) (img : List ℕ) → ((c : Count) → nat_abs (signed 8 (total_at o c img)) ≤ 2 ^ 62) → totals_ok o img ≡ true
unfolding totals_ok
are_totals o img h =
    counts_hold (λ c. within 4611686018427387904 18446744073709551616 (total_at o c img)) (λ c. is_within 8 4611686018427387904 _ (omega arith) (omega arith) (h c))

-- ---- the map

module _ (geo : Geometry) (g at ndblk : ℕ) (img : List ℕ) where
  pub map-past : map_ok geo g at ndblk img ≡ true → (f : ℕ) → ndblk ≤ f → f < (ndblk + 7) / 8 * 8 → bit_at img at f ≡ 0
  unfolding map_ok
  map-past h f l r =
      let q = both (bits_are 0 img at ndblk ((ndblk + 7) / 8 * 8 - ndblk)) _ h in
      let e : f ≡ ndblk + (f - ndblk) = omega arith in
      ap (bit_at img at) e ∙ bits_at 0 img at ndblk ((ndblk + 7) / 8 * 8 - ndblk) (f - ndblk) q.0 (omega arith)

  pub map-reserved : map_ok geo g at ndblk img ≡ true → (f : ℕ) → reserved_from geo g ≤ f → f < geo.dblkno → bit_at img at f ≡ 0
  unfolding map_ok
  map-reserved h f l r =
      let b = reserved_from geo g in
      let q = both (bits_are 0 img at ndblk ((ndblk + 7) / 8 * 8 - ndblk)) _ h in
      let e : f ≡ b + (f - b) = omega arith in
      ap (bit_at img at) e ∙ bits_at 0 img at b (geo.dblkno - b) (f - b) q.1 (omega arith)

  pub map-holds : ((f : ℕ) → ndblk ≤ f → f < (ndblk + 7) / 8 * 8 → bit_at img at f ≡ 0) → ((f : ℕ) → reserved_from geo g ≤ f → f < geo.dblkno → bit_at img at f ≡ 0) → map_ok geo g at ndblk img ≡ true
  unfolding map_ok
  map-holds p r =
      rw (
        bits-hold 0 img at ndblk ((ndblk + 7) / 8 * 8 - ndblk) (λ k l. p (ndblk + k) (omega arith) (omega arith)),
        bits-hold 0 img at (reserved_from geo g) (geo.dblkno - reserved_from geo g) (λ k l. r (reserved_from geo g + k) (omega arith) (omega arith)),
      )

-- a fragment is reserved from `reserved_from` on
pub reserved-is : (geo : Geometry) (g f : ℕ) → Reserved geo g f → reserved_from geo g ≤ f
unfolding reserved_from
reserved-is geo zero f h = omega arith
reserved-is geo (suc g) f h = ⊎_elim (λ e. absurd (let z : ⊥ = omega arith in z)) (λ l. l) h.1

pub is-reserved : (geo : Geometry) (g f : ℕ) → reserved_from geo g ≤ f → f < geo.dblkno → Reserved geo g f
unfolding reserved_from
is-reserved geo zero f l r = (r, inl refl)
is-reserved geo (suc g) f l r = (r, inr l)

-- ---- sizes

pub power_is : (b : ℕ) → is_block_size b ≡ true → (k : ℕ) × (b ≡ 2 ^ k) × (4096 ≤ b) × (b ≤ 65536)
power_is b h =
    let w = size_between b h in
    ⊎_elim (λ e. (12, e, w.0, w.1)) (λ x. ⊎_elim (λ e. (13, e, w.0, w.1)) (λ x. ⊎_elim (λ e. (14, e, w.0, w.1)) (λ x. ⊎_elim (λ e. (15, e, w.0, w.1)) (λ e. (16, e, w.0, w.1)) x) x) x) (size_cases b h)

twelve_to_sixteen : (k : ℕ) → 4096 ≤ 2 ^ k → 2 ^ k ≤ 65536 → (12 ≤ k) × (k ≤ 16)
twelve_to_sixteen k l r = (go (dec_lt k 12), up (dec_lt 16 k))
  where
    go : Dec (k < 12) → 12 ≤ k
    go (yes h) = let p : 2 ^ k ≤ 2 ^ 11 = pow-le-pow_right {n = 2} (omega arith) {i = k} {j = 11} (omega arith) in absurd (let z : ⊥ = omega arith in z)
    go (no h) = omega arith

    up : Dec (16 < k) → k ≤ 16
    up (yes h) = let p : 2 ^ 17 ≤ 2 ^ k = pow-le-pow_right {n = 2} (omega arith) {i = 17} {j = k} (omega arith) in absurd (let z : ⊥ = omega arith in z)
    up (no h) = omega arith

is_power : (b k : ℕ) → b ≡ 2 ^ k → 4096 ≤ b → b ≤ 65536 → is_block_size b ≡ true
unfolding is_block_size
is_power b k e l r = let w = twelve_to_sixteen k (rw e at l) (rw e at r) in go (dec_lt k 13) (dec_lt k 14) (dec_lt k 15) (dec_lt k 16) w.0 w.1
  where
    at : (n : ℕ) → k ≡ n → is_block_size (2 ^ n) ≡ true → is_block_size b ≡ true
    at n q h = rw (e, q) h

    go : Dec (k < 13) → Dec (k < 14) → Dec (k < 15) → Dec (k < 16) → 12 ≤ k → k ≤ 16 → is_block_size b ≡ true
    go (yes a) c d f l r = at 12 (omega arith) refl
    go (no a) (yes c) d f l r = at 13 (omega arith) refl
    go (no a) (no c) (yes d) f l r = at 14 (omega arith) refl
    go (no a) (no c) (no d) (yes f) l r = at 15 (omega arith) refl
    go (no a) (no c) (no d) (no f) l r = at 16 (omega arith) refl

is-frag : (f : ℕ) → (f ≡ 1) ⊎ ((f ≡ 2) ⊎ ((f ≡ 4) ⊎ (f ≡ 8))) → is_frag f ≡ true
unfolding is_frag
is-frag f h = ⊎_elim (λ e. rw e) (λ x. ⊎_elim (λ e. rw e) (λ x. ⊎_elim (λ e. rw e) (λ e. rw e) x) x) h

-- ---- the two texts are one

pub sound-is : (img : List ℕ) → soundb img ≡ true → Sound img
unfolding super_ok zero_ok
sound-is img h =
    let geo = geometry_of img in
    let t = tested img h in
    let s = sized geo t.sizes in
    let l = laid geo (length img) t.low t.high t.sizes t.places in
    let u = both (eqb (magic_at Little sb_at img) fs_magic) (totals_ok Little img) t.super in
    let o = geometry_order img in
    let ok : (g : ℕ) → g < geo.ncg → group_ok img geo g ≡ true = λ g b. groups-at img geo g t.groups b in
    let head : (g : ℕ) → g < geo.ncg → Headed geo (length img / geo.fsize) g (group_at geo g img) = λ g b. group-headed img geo g (ok g b) in
    let body : (g : ℕ) → g < geo.ncg → Bodied img geo g (group_at geo g img) = λ g b. bodied img geo g _ (group-body img geo g (ok g b)) in
    record {
      magics = record {
        least = t.low;
        most = t.high;
        super = rw o (eqb-true _ _ u.0);
        copies = λ g b. (body g b).copy;
        groups = λ g b. (body g b).group;
      };
      sizes = record {
        bsize = power_is geo.bsize s.bsize;
        frag = frag_cases geo.frag s.frag;
        fsize = s.fsize;
        ncg = s.ncg;
        ipg = (s.ipg, s.eights);
        fpg = (s.fpg, s.fpg_top, s.blocks);
        ndblk = λ g b. ((head g b).some, (head g b).span);
        inodes = s.inodes;
      };
      places = record {
        inside = λ g b. byte_at-inside geo g (group_at geo g img).ndblk (length img) (head g b).inside;
        past = l.past;
        copy = l.copy;
        group = l.record_first;
        table = l.table;
        data_in = λ g b. (head g b).data_in;
      };
      maps = λ g b. record { used = (head g b).used_from; free = (head g b).free_from; ended = (head g b).map_end };
      bits = λ g b. record {
        past = map-past geo g _ _ img (body g b).map;
        reserved = λ f r. map-reserved geo g _ _ img (body g b).map f (reserved-is geo g f r) r.0;
      };
      counts = record {
        zero = eqb-true _ 1 t.first;
        counts = λ g b. counts_are geo.order (cg_at geo g) img (body g b).counts;
        totals = rw o (totals_are Little img u.1);
      };
    }

sizes_hold : (geo : Geometry) (img : List ℕ) → SizesRight geo img → sizes_ok geo ≡ true
unfolding sizes_ok
sizes_hold geo img s =
    rw (
      is_power geo.bsize s.bsize.0 s.bsize.1 s.bsize.2 s.bsize.3,
      is-frag geo.frag s.frag,
      eq-eqb (geo.fsize * geo.frag) geo.bsize s.fsize,
      le-leb 1 geo.ncg s.ncg,
      le-leb 1 geo.ipg s.ipg.0,
      eq-eqb (geo.ipg % 8) 0 s.ipg.1,
      le-leb 1 geo.fpg s.fpg.0,
      lt-ltb geo.fpg 2147483648 s.fpg.1,
      eq-eqb (geo.fpg % geo.frag) 0 s.fpg.2,
      lt-ltb (geo.ncg * geo.ipg) 4294967296 s.inodes,
    )

places_hold : (geo : Geometry) (img : List ℕ) → PlacesRight geo img → places_ok geo ≡ true
unfolding places_ok
places_hold geo img p =
    rw (
      le-leb 66912 (geo.cblkno * geo.fsize) p.past,
      le-leb geo.sblkno geo.cblkno p.copy,
      lt-ltb geo.cblkno geo.iblkno p.group,
      le-leb (geo.iblkno * geo.fsize + geo.ipg * 256) (geo.dblkno * geo.fsize) p.table,
    )

header_holds : (geo : Geometry) (frags g : ℕ) (r : Group) → Headed geo frags g r → header_ok geo frags g r ≡ true
unfolding header_ok
header_holds geo frags g r h =
    rw (
      le-leb 1 r.ndblk h.some,
      le-leb r.ndblk geo.fpg h.span,
      le-leb (g * geo.fpg + r.ndblk) frags h.inside,
      le-leb geo.dblkno r.ndblk h.data_in,
      le-leb 168 r.iusedoff h.used_from,
      le-leb (r.iusedoff + geo.ipg / 8) r.freeoff h.free_from,
      le-leb (r.freeoff + (r.ndblk + 7) / 8) ((geo.iblkno - geo.cblkno) * geo.fsize) h.map_end,
    )

body_holds : (img : List ℕ) (geo : Geometry) (g : ℕ) (r : Group) → Bodied img geo g r → body_ok img geo g r ≡ true
unfolding body_ok
body_holds img geo g r b =
    rw (eq-eqb (magic_at geo.order (byte_at geo g geo.sblkno) img) fs_magic b.copy, eq-eqb (group_magic_at geo.order (cg_at geo g) img) cg_magic b.group, b.counts, b.map)

-- fragments that end in the image are counted in it
counted : (geo : Geometry) (g f n : ℕ) → 0 < geo.fsize → byte_at geo g f ≤ n → g * geo.fpg + f ≤ n / geo.fsize
unfolding byte_at
counted geo g f n p h = (le-div_iff_mul-le {k = geo.fsize} p).1 h

group-holds : (img : List ℕ) (geo : Geometry) → 0 < geo.fsize → SoundWith geo img → (g : ℕ) → g < geo.ncg → group_ok img geo g ≡ true
unfolding group_ok
group-holds img geo p s g b =
    let m = s.maps g b in
    let d = s.sizes.ndblk g b in
    rw (header_holds geo (length img / geo.fsize) g (group_at geo g img) (record {
      some = d.0;
      span = d.1;
      inside = counted geo g (group_at geo g img).ndblk (length img) p (s.places.inside g b);
      data_in = s.places.data_in g b;
      used_from = m.used;
      free_from = m.free;
      map_end = m.ended;
    }))
    (body_holds img geo g (group_at geo g img) (record {
      copy = s.magics.copies g b;
      group = s.magics.groups g b;
      counts = are_counts geo.order (cg_at geo g) img (s.counts.counts g b);
      map = map-holds geo g _ _ img (s.bits g b).past (λ f l r. (s.bits g b).reserved f (is-reserved geo g f l r));
    }))

pub is-sound : (img : List ℕ) → Sound img → soundb img ≡ true
unfolding super_ok zero_ok groups_ok
is-sound img s =
    let geo = geometry_of img in
    let o = geometry_order img in
    let z = sizes_hold geo img s.sizes in
    let u = unit-sized geo z in
    untested img (record {
      low = s.magics.least;
      high = s.magics.most;
      sizes = z;
      places = places_hold geo img s.places;
      super = rw (eq-eqb (magic_at Little sb_at img) fs_magic (rw o at s.magics.super), are_totals Little img (rw o at s.counts.totals));
      groups = all-holds (group_ok img geo) geo.ncg (group-holds img geo (omega arith) s);
      first = eq-eqb _ 1 s.counts.zero;
    })
