-- What the definitions say in 01's words: which areas are taken, which byte is which, that a refused call leaves the output untouched, and that the part handed back is the value. Assumes nothing.
use Rattle.std.specs.Prelude.{None, Result, Ok, Err}
use mathlib.Core.Path.{◌≡◌, refl, sym, ap, ◌∙◌}
use mathlib.Core.Bool.{Bool, true, false, not, ◌&&◌}
use mathlib.Core.List.{List}
use mathlib.Core.Logic.{⊎_elim}
use Prim.Native.Nat.{ℕ, ◌+◌, ◌-◌, ◌*◌, ◌/◌, ◌%◌, ◌≤◌, ◌<◌, min}
use native.Mathlib.Nat.{mul-add-div_right, mul-add-mod_self_right, div-eq_of_lt, mod-eq_of_lt}
use native.Mathlib.Omega.{arith}
use borrow.Author.Tests.{eqb-true, eqb-false, ltb-true, le-ltb}
use lib.ListN.{length, get_or}
use lib.Dec.{eqb, ltb}
use Rattle.field.specs.Field.{part, put}
use Rattle.field.proofs.Laws.{length-put, part-put, put-none}
use Rattle.refusal.specs.declared.Refusal.{Refusal}
use Rattle.refusal.specs.declared.Refusal.TheVariants.{BufferTooSmall, NoAttribute}
use Rattle.volume.specs.declared.Geometry.{Geometry}
use Rattle.frame.specs.Frame.{Frame, RunOk, run_okb}
use Rattle.frame.proofs.Places.{order, run_is}
use Rattle.inode.specs.Size.{pick}
use Rattle.inode.specs.Places.{extsize_at}
use Rattle.inode.proofs.SizeLaws.{units}
use Rattle.inode_read.specs.Calls.{place_in, known_of}
use Rattle.attrrec.specs.declared.Entry.{Entry}
use Rattle.attrrec.specs.Record.{gap, value_len, value_at, attr_at}
use Rattle.attrrec.specs.Search.{named, Texts, texts, bad, list_in}
use Rattle.attrrec.proofs.SearchLaws.{search-end, find_start, list-end, list_start}
use Rattle.xattr.specs.declared.Area.{Area}
use Rattle.xattr.specs.Area.{extb, block_ok, block_at, joined, area_sized, area_of, gathered, Inside}
use Rattle.xattr.specs.Calls.{hit_at, read_xattr, place_of, value_of, xattr_read, texts_put, list_lies, list_known, xattr_list}
use Rattle.xattr.proofs.AreaLaws.{block_none, area-both, area-is, area-inside, length-gathered, byte-first, byte-second}
use Rattle.xattr.proofs.WindowLaws.{part-inner, met-tail}
use Rattle.xattr.proofs.CallLaws.{hit-found, Found}
use Rattle.xattr.proofs.ListLaws.{lies_told}
use Rattle.inode_run.specs.declared.Spot.{Spot}
use Rattle.refusal.specs.Refusal.{damage}
use Rattle.refusal.specs.declared.Damage.{Damage}

-- ---- "an area of 2 * bsize or more, a zero address for a needed block, .. are 97"

-- block j, of which n bytes are needed, has an address and is a run that may be read; x is where it begins
pub record Needed (geo : Geometry) (at : ℕ) (img : List ℕ) (j n x : ℕ) : Type 0 where
  pub address : extb geo at img j ≡ 0 → ⊥
  pub run : RunOk geo img (extb geo at img j) ((n + (geo.fsize - 1)) / geo.fsize)
  pub begins : x ≡ extb geo at img j * geo.fsize

pub record Taken (geo : Geometry) (at : ℕ) (img : List ℕ) (a : Area) : Type 0 where
  pub size : a.size ≡ extsize_at geo.order at img
  pub small : a.size < 2 * geo.bsize
  pub split : a.split ≡ min a.size geo.bsize
  pub first : 0 < a.size → Needed geo at img 0 a.split a.first
  pub second : geo.bsize < a.size → Needed geo at img 1 (a.size - a.split) a.second

both : (a b : Bool) → a && b ≡ true → (a ≡ true) × (b ≡ true)
both true true e = (refl, refl)
both true false e = absurd (let z : ◌≡◌ {A = ℕ} 0 1 = cc in let y : ⊥ = omega arith in y)
both false b e = absurd (let z : ◌≡◌ {A = ℕ} 0 1 = cc in let y : ⊥ = omega arith in y)

not_so : (b : Bool) → not b ≡ true → b ≡ false
not_so true e = absurd (let z : ◌≡◌ {A = ℕ} 0 1 = cc in let y : ⊥ = omega arith in y)
not_so false e = refl

module _ (geo : Geometry) (at : ℕ) (img : List ℕ) where
  block-needed : (j n x : ℕ) → 0 < n → block_at geo at img j n ≡ Ok x → Needed geo at img j n x
  unfolding block_at block_ok
  block-needed j n x some e = none (eqb n 0) refl e
    where
      ok : (t : Bool) → not (eqb (extb geo at img j) 0) && run_okb geo img (extb geo at img j) ((n + (geo.fsize - 1)) / geo.fsize) ≡ t
          → pick t (Ok (extb geo at img j * geo.fsize)) (Err damage) ≡ Ok x → Needed geo at img j n x
      ok true t h =
          let b = both (not (eqb (extb geo at img j) 0)) (run_okb geo img (extb geo at img j) ((n + (geo.fsize - 1)) / geo.fsize)) t in
          record {
            address = eqb-false (extb geo at img j) 0 (not_so (eqb (extb geo at img j) 0) b.0);
            run = run_is geo img (extb geo at img j) ((n + (geo.fsize - 1)) / geo.fsize) b.1;
            begins = let q : extb geo at img j * geo.fsize ≡ x = cc in sym q;
          }
      ok false t h = absurd (let z : ◌≡◌ {A = ℕ} 0 1 = cc in let y : ⊥ = omega arith in y)

      none : (t : Bool) → eqb n 0 ≡ t
          → pick t (Ok 0) (pick (not (eqb (extb geo at img j) 0) && run_okb geo img (extb geo at img j) ((n + (geo.fsize - 1)) / geo.fsize)) (Ok (extb geo at img j * geo.fsize)) (Err damage)) ≡ Ok x
          → Needed geo at img j n x
      none true t h = absurd (let z = eqb-true n 0 t in let y : ⊥ = omega arith in y)
      none false t h = ok (not (eqb (extb geo at img j) 0) && run_okb geo img (extb geo at img j) ((n + (geo.fsize - 1)) / geo.fsize)) refl h

  pub area-taken : Frame geo img → (a : Area) → area_of geo at img ≡ Ok a → Taken geo at img a
  unfolding area_of area_sized
  area-taken fr a e = fits (ltb (extsize_at geo.order at img) (2 * geo.bsize)) refl e
    where
      contra : (Err damage) ≡ Ok a → Taken geo at img a
      contra h = absurd (let z : ◌≡◌ {A = ℕ} 0 1 = cc in let y : ⊥ = omega arith in y)

      join : (size : ℕ) → size ≡ extsize_at geo.order at img → size < 2 * geo.bsize → (split : ℕ) → split ≡ min size geo.bsize
          → (x y : Result ℕ Damage) → block_at geo at img 0 split ≡ x → block_at geo at img 1 (size - split) ≡ y → joined size split x y ≡ Ok a → Taken geo at img a
      join size s l split q (Ok x) (Ok y) f g h =
          let some : 0 < geo.bsize = omega arith in
          let v : ◌≡◌ {A = Area} (record { size = size; split = split; first = x; second = y }) a = cc in
          rw (← v)
          (record {
            size = s;
            small = l;
            split = q;
            first = λ p. block-needed 0 split x (omega arith) f;
            second = λ p. block-needed 1 (size - split) y (omega arith) g;
          })
      join size s l split q (Ok x) (Err harm) f g h = contra h
      join size s l split q (Err harm) (Ok y) f g h = contra h
      join size s l split q (Err harm) (Err worse) f g h = contra h

      fits : (t : Bool) → ltb (extsize_at geo.order at img) (2 * geo.bsize) ≡ t
          → pick t (joined (extsize_at geo.order at img) (min (extsize_at geo.order at img) geo.bsize) (block_at geo at img 0 (min (extsize_at geo.order at img) geo.bsize)) (block_at geo at img 1 (extsize_at geo.order at img - min (extsize_at geo.order at img) geo.bsize))) (Err damage) ≡ Ok a
          → Taken geo at img a
      fits true t h = join (extsize_at geo.order at img) refl (ltb-true _ _ t) (min (extsize_at geo.order at img) geo.bsize) refl _ _ refl refl h
      fits false t h = contra h

  -- byte k of the area: block k / bsize, byte k % bsize of it
  pub area_byte : Frame geo img → (a : Area) → area_of geo at img ≡ Ok a → (k : ℕ) → k < a.size
      → get_or (gathered a img) k 0 ≡ get_or img (extb geo at img (k / geo.bsize) * geo.fsize + k % geo.bsize) 0
  area_byte fr a e k l = ⊎_elim low (λ r. high (⊎_elim (λ q. omega arith) (λ q. omega arith) r)) (order k geo.bsize)
    where
      i : Inside a img
      i = (area-inside geo at img fr a e).0

      t : Taken geo at img a
      t = area-taken fr a e

      low : k < geo.bsize → get_or (gathered a img) k 0 ≡ get_or img (extb geo at img (k / geo.bsize) * geo.fsize + k % geo.bsize) 0
      low h =
          byte-first a img i k (omega (arith, t.split))
          ∙ rw (div-eq_of_lt h, mod-eq_of_lt h, (t.first (omega arith)).begins)

      high : geo.bsize ≤ k → get_or (gathered a img) k 0 ≡ get_or img (extb geo at img (k / geo.bsize) * geo.fsize + k % geo.bsize) 0
      high h =
          let some : 0 < geo.bsize = omega (arith, t.small) in
          let r : k - geo.bsize < geo.bsize = omega (arith, t.small) in
          let w : 1 * geo.bsize + (k - geo.bsize) ≡ k = omega arith in
          let d : k / geo.bsize ≡ 1 = ap (λ (x : ℕ). x / geo.bsize) (sym w) ∙ mul-add-div_right some 1 (k - geo.bsize) ∙ ap (λ (x : ℕ). 1 + x) (div-eq_of_lt r) in
          let m : k % geo.bsize ≡ k - geo.bsize = ap (λ (x : ℕ). x % geo.bsize) (sym w) ∙ mul-add-mod_self_right 1 geo.bsize (k - geo.bsize) ∙ mod-eq_of_lt r in
          let s : a.split ≡ geo.bsize = omega (arith, t.split) in
          byte-second a img i k (omega arith) l
          ∙ rw (d, m, s, (t.second (omega arith)).begins)

-- ---- "34 and refused attribute calls leave the output untouched"

pub read_untouched : (img : List ℕ) (i : ℕ) (name buf now : List ℕ) (e : Refusal) → xattr_read img i name buf ≡ (now, Err e) → now ≡ buf
unfolding xattr_read
read_untouched img i name buf now e h = go (read_xattr img i name) h
  where
    size : (t : Bool) (b : ℕ) (d : Entry) (g : List ℕ) → ◌≡◌ {A = List ℕ × (Result (ℕ × ℕ) Refusal)} (pick t (buf, Err BufferTooSmall) (put 0 g buf, place_of b d)) (now, Err e) → now ≡ buf
    size true b d g h = ap (λ (p : List ℕ × Result (ℕ × ℕ) Refusal). p.0) (sym h)
    size false b d g h = absurd (let q : place_of b d ≡ Err e = ap (λ (p : List ℕ × Result (ℕ × ℕ) Refusal). p.1) h in let z : ◌≡◌ {A = ℕ} 0 1 = cc in let y : ⊥ = omega arith in y)

    go : (x : Result (Area × ℕ × Entry) Refusal) → value_of img buf x ≡ (now, Err e) → now ≡ buf
    go (Ok (a, b, d)) h = size (ltb (length buf) a.size) b d (gathered a img) h
    go (Err r) h = ap (λ (p : List ℕ × Result (ℕ × ℕ) Refusal). p.0) (sym h)

pub list_untouched : (img : List ℕ) (i : ℕ) (out now : List ℕ) (e : Refusal) → xattr_list img i out ≡ (now, Err e) → now ≡ out
unfolding xattr_list
list_untouched img i out now e h = known (known_of (place_in img i)) h
  where
    same : (r : Result ℕ Refusal) → ◌≡◌ {A = List ℕ × (Result ℕ Refusal)} (out, r) (now, Err e) → now ≡ out
    same r h = ap (λ (p : List ℕ × Result ℕ Refusal). p.0) (sym h)

    size : (t : Bool) (ts : List ℕ) → ◌≡◌ {A = List ℕ × (Result ℕ Refusal)} (pick t (out, Err BufferTooSmall) (put 0 ts out, Ok (length ts))) (now, Err e) → now ≡ out
    size true ts h = same _ h
    size false ts h = absurd (let q : Ok (length ts) ≡ Err e = ap (λ (p : List ℕ × Result ℕ Refusal). p.1) h in let z : ◌≡◌ {A = ℕ} 0 1 = cc in let y : ⊥ = omega arith in y)

    listed : (t : Texts) → texts_put out t ≡ (now, Err e) → now ≡ out
    listed (texts t) h = size (ltb (length out) (length t)) t h
    listed bad h = same _ h

    lies : (geo : Geometry) (l : Result Area Damage) → list_lies geo img out l ≡ (now, Err e) → now ≡ out
    lies geo (Ok a) h = listed (list_in geo.order (gathered a img)) h
    lies geo (Err harm) h = same _ h

    known : (k : Result (Geometry × Spot) Refusal) → list_known img out k ≡ (now, Err e) → now ≡ out
    known (Ok (geo, s)) h = lies geo (area_of geo s.at img) h
    known (Err r) h = same _ h

-- ---- the part of the buffer that is handed back is the value

pub part-value : (img buf : List ℕ) (a : Area) (b : ℕ) (e : Entry) → Found img a b e → a.size ≤ length buf
    → part (value_len b e) (b + gap b e.namelen) (put 0 (gathered a img) buf) ≡ value_at (gathered a img) b e
unfolding value_at value_len
part-value img buf a b e f l =
    let g = length-gathered a img f.inside in
    let k = length-put 0 (gathered a img) buf in
    let from = b + gap b e.namelen in
    let n = e.len - gap b e.namelen - e.pad in
    let whole : part (length (gathered a img)) 0 (put 0 (gathered a img) buf) ≡ gathered a img = part-put 0 (gathered a img) buf (omega arith) in
    let z : 0 + from ≡ from = omega arith in
    ap (λ (p : ℕ). part n p (put 0 (gathered a img) buf)) (sym z)
    ∙ sym (part-inner n from (length (gathered a img)) 0 (put 0 (gathered a img) buf) (omega (arith, f.pad, f.ends)) (omega arith))
    ∙ ap (part n from) whole

-- ---- an empty area: nothing is listed, and no attribute is found

abbrev nowhere : Area
nowhere = record { size = 0; split = 0; first = 0; second = 0 }

module _ (geo : Geometry) (at : ℕ) (img : List ℕ) (fr : Frame geo img) (z : extsize_at geo.order at img ≡ 0) where
  empty-area : Ok nowhere ≡ area_of geo at img
  empty-area =
      let b = units geo fr.sizes in
      area-is geo at img 0 (Ok nowhere) (sym z)
      (area-both geo at img 0 (omega (arith, b.block)) 0 (omega arith) 0 0 (sym (block_none geo at img 0 0 refl)) (sym (block_none geo at img 1 0 refl)))

  empty-inside : Inside nowhere img
  empty-inside = record { split = omega arith; first = omega arith; second = omega arith; small = omega arith; image = fr.laid.high }

  empty-end : attr_at geo.order (gathered nowhere img) 0 ≡ Ok None
  empty-end = met-tail geo.order nowhere img empty-inside 0 0 refl (omega arith)

  pub empty-find : (name : List ℕ) → hit_at geo at img name ≡ Err NoAttribute
  empty-find name =
      sym (hit-found geo at img name nowhere empty-area (Ok None)
      (sym (search-end (named (gathered nowhere img) name) geo.order (gathered nowhere img) 0 empty-end) ∙ find_start geo.order (gathered nowhere img) name))

  pub empty-list : (out : List ℕ) → list_lies geo img out (area_of geo at img) ≡ (out, Ok 0)
  empty-list out =
      sym (lies_told geo at img out (Ok nowhere) empty-area)
      ∙ ap (texts_put out) (sym (list_start geo.order (gathered nowhere img)) ∙ list-end geo.order (gathered nowhere img) 0 empty-end)
      ∙ rw (le-ltb (length out) 0 (omega arith), put-none 0 out)
