-- A sound volume has its frame, and where things lie in a frame: products stand behind `byte_at`, above these laws all is linear. Assumes nothing.
use mathlib.Core.Path.{◌≡◌, refl, sym, ap, subst, ◌∙◌}
use mathlib.Core.Bool.{Bool, true, false, ◌||◌}
use mathlib.Core.List.{List}
use mathlib.Core.Logic.{◌⊎◌, inl, inr, ⊎_elim}
use Prim.Native.Nat.{ℕ, zero, suc, ◌+◌, ◌-◌, ◌*◌, ◌/◌, ◌%◌, ◌≤◌, ◌<◌}
use native.Mathlib.Nat.{le_trans, mod-lt, div-lt_iff_lt-mul, div-le_of_le-mul}
use native.Mathlib.Omega.{arith}
use lib.ListN.{length}
use lib.Dec.{leb, ltb}
use borrow.Author.Tests.{leb-true, ltb-true, le-leb, lt-leb, le-ltb, lt-ltb}
use Rattle.volume.specs.declared.Geometry.{Geometry}
use Rattle.volume.specs.Volume.{geometry_of, byte_at, cg_at, inode_at}
use Rattle.volume.proofs.Laws.{le_product, byte_at-mono, byte_at-next, byte_at-add, byte_at-address, byte_at-inside, inode_at-eq}
use Rattle.bits.proofs.UptoLaws.{both}
use Rattle.sound.specs.Clauses.{reserved_from, soundb}
use Rattle.sound.specs.Sound.{group_at, free_at, used_at, Sound, Reserved}
use Rattle.sound.proofs.Laws.{either, placed, sized, laid, tested, groups-at, group-headed, reserved-first, reserved-within}
use Rattle.sound.proofs.Words.{sound-is, reserved-is}
use Rattle.frame.specs.Frame.{Never, Frame, Spots, Outside, RunOk, place_okb, run_okb, InodeIs}

-- ---- a sound volume's frame

pub frame-of : (img : List ℕ) → soundb img ≡ true → Frame (geometry_of img) img
frame-of img h =
    let t = tested img h in
    let s = sound-is img h in
    record {
      same = refl;
      sizes = sized (geometry_of img) t.sizes;
      laid = laid (geometry_of img) (length img) t.low t.high t.sizes t.places;
      head = λ g l. group-headed img (geometry_of img) g (groups-at img (geometry_of img) g t.groups l);
      never = λ g l f n. ⊎_elim (λ p. (s.bits g l).past f p.0 p.1) (λ r. (s.bits g l).reserved f r) n;
      zero = s.counts.zero;
    }

pub order : (g h : ℕ) → (g < h) ⊎ ((g ≡ h) ⊎ (h < g))
order zero zero = inr (inl refl)
order zero (suc h) = inl (omega arith)
order (suc g) zero = inr (inr (omega arith))
order (suc g) (suc h) = ⊎_elim (λ l. inl (omega arith)) (λ r. inr (⊎_elim (λ e. inl (ap suc e)) (λ l. inr (omega arith)) r)) (order g h)

-- a part of what is outside is outside
pub part_outside : (a n b m c k : ℕ) → b ≤ c → c + k ≤ b + m → Outside a n b m → Outside a n c k
part_outside a n b m c k l r h = ⊎_elim (λ x. inl (omega arith)) (λ x. inr (omega arith)) h

-- ---- a frame's groups

module _ (geo : Geometry) (img : List ℕ) (fr : Frame geo img) where
  pub spots : (g : ℕ) → g < geo.ncg → Spots geo img g
  spots g l =
      let h = fr.head g l in
      let p = placed geo g (length img) fr.laid (omega arith) in
      record {
        first = byte_at-mono geo g (omega arith);
        past = p.past;
        counts = omega arith;
        used_end = omega arith;
        free_end = omega arith;
        table = p.table;
        reserved = h.data_in;
        data_end = byte_at-mono geo g h.data_in;
        span = byte_at-mono geo g h.span;
        inside = byte_at-inside geo g (group_at geo g img).ndblk (length img) h.inside;
        small = fr.laid.high;
      }

  -- two ranges in two groups are apart
  pub groups-apart : (g h a n b m : ℕ) → (g ≡ h → ⊥) → byte_at geo g 0 ≤ a → a + n ≤ byte_at geo g geo.fpg → byte_at geo h 0 ≤ b → b + m ≤ byte_at geo h geo.fpg → Outside a n b m
  groups-apart g h a n b m ne la ra lb rb =
      ⊎_elim (λ l. inr (omega (arith, byte_at-next geo l)))
      (λ r. ⊎_elim (λ e. absurd (ne e)) (λ l. inl (omega (arith, byte_at-next geo l))) r)
      (order g h)

  -- a byte of the free map, and one of the inode map
  pub map-byte : (g f : ℕ) → g < geo.ncg → f < (group_at geo g img).ndblk → free_at geo g img + f / 8 < byte_at geo g geo.iblkno
  map-byte g f l h = let s = spots g l in omega arith

  pub used-byte : (g k : ℕ) → g < geo.ncg → k < geo.ipg → used_at geo g img + k / 8 < free_at geo g img
  used-byte g k l h = let s = spots g l in let e = fr.laid.eights in omega arith

  -- an inode's record lies in its group's table
  pub inode-first : (i : ℕ) → byte_at geo (i / geo.ipg) geo.iblkno ≤ inode_at geo i
  inode-first i = omega (arith, inode_at-eq geo i)

  pub inode-last : (i : ℕ) → i / geo.ipg < geo.ncg → inode_at geo i + 256 ≤ byte_at geo (i / geo.ipg) geo.dblkno
  inode-last i l = let s = spots (i / geo.ipg) l in let e = fr.laid.inodes in omega (arith, inode_at-eq geo i, mod-lt i {m = geo.ipg} (omega arith))

  pub inode-group : (i : ℕ) → i < geo.ncg * geo.ipg → i / geo.ipg < geo.ncg
  inode-group i h = (div-lt_iff_lt-mul {k = geo.ipg} (omega (arith, fr.laid.inodes))).1 h

  pub inode-is : (i r : ℕ) → i < geo.ncg * geo.ipg → r ≡ inode_at geo i → InodeIs geo img i r
  inode-is i r h e =
      let g = inode-group i h in
      let s = spots (i / geo.ipg) g in
      let a = inode-first i in
      let b = inode-last i g in
      record { is = e; group = g; first = omega arith; last = omega arith; inside = omega arith; small = s.small }

  -- places that the header has as signed numbers are far below 2^31, so that both readings agree
  pub places-small : geo.dblkno ≤ 2097152
  places-small =
      let h = fr.head 0 fr.laid.groups in
      let p = le_product 512 2097152 geo.fsize 2097152 fr.laid.unit (omega arith) in
      let l = fr.laid.high in
      let d : length img / geo.fsize ≤ 2097152 = div-le_of_le-mul geo.fsize (omega arith) in
      omega arith

  -- ---- a run

  module _ (a n : ℕ) (r : RunOk geo img a n) where
    pub run_end : a * geo.fsize + n * geo.fsize ≤ byte_at geo (a / geo.fpg) (group_at geo (a / geo.fpg) img).ndblk
    run_end = omega (arith, byte_at-address geo a, byte_at-add geo (a / geo.fpg) (a % geo.fpg) n, byte_at-mono geo (a / geo.fpg) r.within)

    pub run_inside : a * geo.fsize + n * geo.fsize ≤ length img
    run_inside = let s = spots (a / geo.fpg) r.group in omega (arith, run_end)

    pub run-first : byte_at geo (a / geo.fpg) 0 ≤ a * geo.fsize
    run-first = let z : 0 ≤ a % geo.fpg = omega arith in omega (arith, byte_at-address geo a, byte_at-mono geo (a / geo.fpg) z)

    -- outside the reserved fragments of its own group
    run-own : Outside (a * geo.fsize) (n * geo.fsize) (byte_at geo (a / geo.fpg) (reserved_from geo (a / geo.fpg))) (byte_at geo (a / geo.fpg) geo.dblkno - byte_at geo (a / geo.fpg) (reserved_from geo (a / geo.fpg)))
    run-own =
        let g = a / geo.fpg in
        let q : reserved_from geo g ≤ geo.dblkno = omega (arith, reserved-within geo g, fr.laid.copy, fr.laid.record_first, fr.laid.later) in
        let d = byte_at-mono geo g q in
        ⊎_elim (λ l. inr (omega (arith, byte_at-address geo a, byte_at-add geo g (a % geo.fpg) n, byte_at-mono geo g l)))
        (λ l. inl (omega (arith, byte_at-address geo a, byte_at-mono geo g l)))
        r.apart

    -- past the superblock
    pub run_past : 0 < n → 66912 ≤ a * geo.fsize
    run_past p =
        let g = a / geo.fpg in
        let s0 = spots 0 fr.laid.groups in
        let s = spots g r.group in
        let ea = byte_at-address geo a in
        ⊎_elim (λ l. omega (arith, byte_at-next geo l, run-first))
        (λ x. ⊎_elim (λ e. let z : reserved_from geo g ≡ 0 = ap (reserved_from geo) (sym e) ∙ reserved-first geo in
        ⊎_elim (λ q. absurd (let w : ⊥ = omega arith in w)) (λ q. omega (arith, byte_at-mono geo g q)) r.apart) (λ l. absurd (let w : ⊥ = omega arith in w)) x)
        (order 0 g)

    -- outside every group's reserved fragments, and so outside its record, maps and inodes
    pub run-apart : (h : ℕ) → h < geo.ncg → Outside (a * geo.fsize) (n * geo.fsize) (byte_at geo h (reserved_from geo h)) (byte_at geo h geo.dblkno - byte_at geo h (reserved_from geo h))
    run-apart h l =
        let g = a / geo.fpg in
        let s = spots g r.group in
        let t = spots h l in
        let q : reserved_from geo h ≤ geo.dblkno = omega (arith, reserved-within geo h, fr.laid.copy, fr.laid.record_first, fr.laid.later) in
        let d = byte_at-mono geo h q in
        let w : 0 ≤ reserved_from geo h = omega arith in
        let z = byte_at-mono geo h w in
        ⊎_elim (λ k. inr (omega (arith, byte_at-next geo k, run_end)))
        (λ x. ⊎_elim (λ e. subst (λ (h : ℕ). Outside (a * geo.fsize) (n * geo.fsize) (byte_at geo h (reserved_from geo h)) (byte_at geo h geo.dblkno - byte_at geo h (reserved_from geo h))) e run-own)
        (λ k. inl (omega (arith, byte_at-next geo k, run-first))) x)
        (order g h)

    -- no fragment of the run is one that is never free
    pub run-free : (k : ℕ) → k < n → Never geo (a / geo.fpg) img (a % geo.fpg + k) → ⊥
    run-free k l v =
        ⊎_elim (λ p. let w = r.within in omega arith)
        (λ p. ⊎_elim (λ q. omega (arith, reserved-is geo (a / geo.fpg) (a % geo.fpg + k) p)) (λ q. omega arith) r.apart) v

-- ---- the tests of a run

module _ (geo : Geometry) (img : List ℕ) where
  place_is : (g f n : ℕ) → place_okb geo img g f n ≡ true → (f + n ≤ (group_at geo g img).ndblk) × ((f + n ≤ reserved_from geo g) ⊎ (geo.dblkno ≤ f))
  unfolding place_okb
  place_is g f n h =
      let q = both (leb (f + n) (group_at geo g img).ndblk) _ h in
      (leb-true _ _ q.0, ⊎_elim (λ e. inl (leb-true _ _ e)) (λ e. inr (leb-true _ _ e)) (either (leb (f + n) (reserved_from geo g)) (leb geo.dblkno f) q.1))

  pub place-stop : (g f n : ℕ) → (group_at geo g img).ndblk < f + n → place_okb geo img g f n ≡ false
  unfolding place_okb
  place-stop g f n h = rw (lt-leb (f + n) (group_at geo g img).ndblk h)

  pub place-go : (g f n : ℕ) → f + n ≤ (group_at geo g img).ndblk → place_okb geo img g f n ≡ (leb (f + n) (reserved_from geo g) || leb geo.dblkno f)
  unfolding place_okb
  place-go g f n h = rw (le-leb (f + n) (group_at geo g img).ndblk h)

  pub run_is : (a n : ℕ) → run_okb geo img a n ≡ true → RunOk geo img a n
  unfolding run_okb
  run_is a n h =
      let q = both (ltb (a / geo.fpg) geo.ncg) _ h in
      let p = place_is (a / geo.fpg) (a % geo.fpg) n q.1 in
      record { group = ltb-true _ _ q.0; within = p.0; apart = p.1 }

  pub run-stop : (a n : ℕ) → geo.ncg ≤ a / geo.fpg → run_okb geo img a n ≡ false
  unfolding run_okb
  run-stop a n h = rw (le-ltb (a / geo.fpg) geo.ncg h)

  pub run-go : (a n : ℕ) → a / geo.fpg < geo.ncg → run_okb geo img a n ≡ place_okb geo img (a / geo.fpg) (a % geo.fpg) n
  unfolding run_okb
  run-go a n h = rw (lt-ltb (a / geo.fpg) geo.ncg h)
