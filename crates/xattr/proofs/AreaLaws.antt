-- The laws of `specs/Area.antt`: each test of the area, where it lies, and its bytes in two parts. Assumes nothing.
use Rattle.std.specs.Prelude.{Result, Ok, Err}
use mathlib.Core.Path.{◌≡◌, refl, sym, ap, ◌∙◌}
use mathlib.Core.Bool.{Bool, true, false, not, ◌&&◌}
use mathlib.Core.List.{List, ◌++◌}
use Prim.Native.Nat.{ℕ, ◌+◌, ◌-◌, ◌*◌, ◌/◌, ◌≤◌, ◌<◌, min}
use native.Mathlib.Nat.{lt-div-mul-add}
use native.Mathlib.Omega.{arith}
use borrow.Author.Tests.{eqb-true, eq-eqb, ne_eqb, lt-ltb, le-ltb, ltb-true}
use lib.ListN.{length, get_or, length-append, get_or-append}
use lib.Dec.{eqb, ltb}
use lib.Seq.{get_or-append-add, ext_get_or}
use Rattle.field.specs.Field.{part, put}
use Rattle.field.proofs.Laws.{length-part, get_or-part, part-split, put_append}
use Rattle.volume.specs.declared.Geometry.{Geometry}
use Rattle.frame.specs.Frame.{Frame, run_okb}
use Rattle.frame.proofs.Places.{run_is, run_inside}
use Rattle.inode.specs.Size.{pick}
use Rattle.inode.specs.Places.{extsize_at}
use Rattle.inode.proofs.SizeLaws.{units}
use Rattle.xattr.specs.declared.Area.{Area}
use Rattle.xattr.specs.Area.{extb, block_ok, block_at, joined, area_sized, area_of, gathered, Inside}
use Rattle.refusal.specs.Refusal.{damage}
use Rattle.refusal.specs.declared.Damage.{Damage}

-- ---- one block

module _ (geo : Geometry) (at : ℕ) (img : List ℕ) (j n : ℕ) where
  pub block_none : n ≡ 0 → block_at geo at img j n ≡ Ok 0
  unfolding block_at
  block_none z = rw (eq-eqb n 0 z)

  module _ (some : n ≡ 0 → ⊥) (a : ℕ) (is : a ≡ extb geo at img j) where
    pub block-zero : a ≡ 0 → block_at geo at img j n ≡ Err damage
    unfolding block_at block_ok
    block-zero z = rw (ne_eqb n 0 some, ← is, eq-eqb a 0 z)

    module _ (there : a ≡ 0 → ⊥) (f : ℕ) (frags : f ≡ (n + (geo.fsize - 1)) / geo.fsize) where
      pub block-hit : run_okb geo img a f ≡ true → (x : ℕ) → x ≡ a * geo.fsize → Ok x ≡ block_at geo at img j n
      unfolding block_at block_ok
      block-hit e x q = rw (ne_eqb n 0 some, ← is, ne_eqb a 0 there, ← frags, e, q)

      pub block-miss : run_okb geo img a f ≡ false → Err damage ≡ block_at geo at img j n
      unfolding block_at block_ok
      block-miss e = rw (ne_eqb n 0 some, ← is, ne_eqb a 0 there, ← frags, e)

  -- the fragments that n bytes fill hold them
  frags-hold : 0 < geo.fsize → n ≤ (n + (geo.fsize - 1)) / geo.fsize * geo.fsize
  frags-hold u =
      let d : n + (geo.fsize - 1) < (n + (geo.fsize - 1)) / geo.fsize * geo.fsize + geo.fsize = lt-div-mul-add u in
      omega arith

  pub run_holds : Frame geo img → (a : ℕ) → run_okb geo img a ((n + (geo.fsize - 1)) / geo.fsize) ≡ true → a * geo.fsize + n ≤ length img
  run_holds fr a e =
      let h = frags-hold (omega (arith, fr.laid.unit)) in
      let i = run_inside geo img fr a ((n + (geo.fsize - 1)) / geo.fsize) (run_is geo img a ((n + (geo.fsize - 1)) / geo.fsize) e) in
      omega arith

  -- where it begins, the bytes needed lie in the image
  pub block_inside : Frame geo img → (x : ℕ) → block_at geo at img j n ≡ Ok x → x + n ≤ length img
  unfolding block_at block_ok
  block_inside fr x e = none (eqb n 0) refl e
    where
      contra : (Err damage) ≡ Ok x → x + n ≤ length img
      contra h = absurd (let z : ◌≡◌ {A = ℕ} 0 1 = cc in let y : ⊥ = omega arith in y)

      run : (r : Bool) → run_okb geo img (extb geo at img j) ((n + (geo.fsize - 1)) / geo.fsize) ≡ r
          → pick r (Ok (extb geo at img j * geo.fsize)) (Err damage) ≡ Ok x → x + n ≤ length img
      run true t h = let q : extb geo at img j * geo.fsize ≡ x = cc in omega (arith, run_holds fr (extb geo at img j) t)
      run false t h = contra h

      there : (t : Bool) → pick (not t && run_okb geo img (extb geo at img j) ((n + (geo.fsize - 1)) / geo.fsize)) (Ok (extb geo at img j * geo.fsize)) (Err damage) ≡ Ok x → x + n ≤ length img
      there true h = contra h
      there false h = run (run_okb geo img (extb geo at img j) ((n + (geo.fsize - 1)) / geo.fsize)) refl h

      none : (t : Bool) → eqb n 0 ≡ t
          → pick t (Ok 0) (pick (not (eqb (extb geo at img j) 0) && run_okb geo img (extb geo at img j) ((n + (geo.fsize - 1)) / geo.fsize)) (Ok (extb geo at img j * geo.fsize)) (Err damage)) ≡ Ok x
          → x + n ≤ length img
      none true t h = let q : ◌≡◌ {A = ℕ} 0 x = cc in omega (arith, eqb-true n 0 t)
      none false t h = there (eqb (extb geo at img j) 0) h

-- ---- the two blocks

module _ (geo : Geometry) (at : ℕ) (img : List ℕ) (size : ℕ) where
  pub area-large : 2 * geo.bsize ≤ size → area_sized geo at img size ≡ Err damage
  unfolding area_sized
  area-large h = rw (le-ltb size (2 * geo.bsize) h)

  pub area-joined : size < 2 * geo.bsize → (split : ℕ) → split ≡ min size geo.bsize
      → area_sized geo at img size ≡ joined size split (block_at geo at img 0 split) (block_at geo at img 1 (size - split))
  unfolding area_sized
  area-joined h split q = rw (lt-ltb size (2 * geo.bsize) h, q)

  pub area-both : size < 2 * geo.bsize → (split : ℕ) → split ≡ min size geo.bsize → (x y : ℕ)
      → Ok x ≡ block_at geo at img 0 split → Ok y ≡ block_at geo at img 1 (size - split)
      → Ok (record { size = size; split = split; first = x; second = y }) ≡ area_sized geo at img size
  area-both h split q x y e f = sym (area-joined h split q ∙ rw (← e, ← f))

  pub area-second-bad : size < 2 * geo.bsize → (split : ℕ) → split ≡ min size geo.bsize → (x : ℕ)
      → Ok x ≡ block_at geo at img 0 split → Err damage ≡ block_at geo at img 1 (size - split) → Err damage ≡ area_sized geo at img size
  area-second-bad h split q x e f = sym (area-joined h split q ∙ rw (← e, ← f))

  first-bad : (y : Result ℕ Damage) (split : ℕ) → joined size split (Err damage) y ≡ Err damage
  first-bad (Ok y) split = refl
  first-bad (Err harm) split = refl

  pub area-first-bad : size < 2 * geo.bsize → (split : ℕ) → split ≡ min size geo.bsize → Err damage ≡ block_at geo at img 0 split → Err damage ≡ area_sized geo at img size
  area-first-bad h split q e = sym (area-joined h split q ∙ rw (← e) (first-bad (block_at geo at img 1 (size - split)) split))

  -- an area that is taken lies in the image, and is as large as was asked
  pub sized_inside : Frame geo img → (a : Area) → area_sized geo at img size ≡ Ok a → Inside a img × (a.size ≡ size)
  unfolding area_sized
  sized_inside fr a e = fits (ltb size (2 * geo.bsize)) refl e
    where
      contra : (Err damage) ≡ Ok a → Inside a img × (a.size ≡ size)
      contra h = absurd (let z : ◌≡◌ {A = ℕ} 0 1 = cc in let y : ⊥ = omega arith in y)

      both : size < 2 * geo.bsize → (split : ℕ) → split ≡ min size geo.bsize → (x y : Result ℕ Damage) → block_at geo at img 0 split ≡ x → block_at geo at img 1 (size - split) ≡ y
          → joined size split x y ≡ Ok a → Inside a img × (a.size ≡ size)
      both l split q (Ok x) (Ok y) f g h =
          let b = units geo fr.sizes in
          let i = block_inside geo at img 0 split fr x f in
          let k = block_inside geo at img 1 (size - split) fr y g in
          let v : ◌≡◌ {A = Area} (record { size = size; split = split; first = x; second = y }) a = cc in
          rw (← v) (record { split = omega arith; first = i; second = k; small = omega (arith, b.block_top); image = fr.laid.high }, refl)
      both l split q (Ok x) (Err harm) f g h = contra h
      both l split q (Err harm) (Ok y) f g h = contra h
      both l split q (Err harm) (Err worse) f g h = contra h

      fits : (t : Bool) → ltb size (2 * geo.bsize) ≡ t
          → pick t (joined size (min size geo.bsize) (block_at geo at img 0 (min size geo.bsize)) (block_at geo at img 1 (size - min size geo.bsize))) (Err damage) ≡ Ok a
          → Inside a img × (a.size ≡ size)
      fits true t h = both (ltb-true size (2 * geo.bsize) t) (min size geo.bsize) refl _ _ refl refl h
      fits false t h = contra h

pub area-inside : (geo : Geometry) (at : ℕ) (img : List ℕ) → Frame geo img → (a : Area) → area_of geo at img ≡ Ok a → Inside a img × (a.size ≡ extsize_at geo.order at img)
unfolding area_of
area-inside geo at img fr a e = sized_inside geo at img (extsize_at geo.order at img) fr a e

pub area-is : (geo : Geometry) (at : ℕ) (img : List ℕ) (size : ℕ) (r : Result Area Damage) → size ≡ extsize_at geo.order at img → r ≡ area_sized geo at img size → r ≡ area_of geo at img
unfolding area_of
area-is geo at img size r q e = e ∙ rw q

-- ---- the bytes gathered

module _ (a : Area) (img : List ℕ) (i : Inside a img) where
  first-length : length (part a.split a.first img) ≡ a.split
  first-length = length-part a.split a.first img i.first

  second-length : length (part (a.size - a.split) a.second img) ≡ a.size - a.split
  second-length = length-part (a.size - a.split) a.second img i.second

  pub length-gathered : length (gathered a img) ≡ a.size
  unfolding gathered
  length-gathered =
      length-append (part a.split a.first img) (part (a.size - a.split) a.second img)
      ∙ omega (arith, first-length, second-length, i.split)

  pub byte-first : (k : ℕ) → k < a.split → get_or (gathered a img) k 0 ≡ get_or img (a.first + k) 0
  unfolding gathered
  byte-first k l =
      get_or-append (part a.split a.first img) (part (a.size - a.split) a.second img) 0 k (omega (arith, first-length))
      ∙ get_or-part a.split a.first img k l

  pub byte-second : (k : ℕ) → a.split ≤ k → k < a.size → get_or (gathered a img) k 0 ≡ get_or img (a.second + (k - a.split)) 0
  unfolding gathered
  byte-second k l h =
      let xs = part a.split a.first img in
      let ys = part (a.size - a.split) a.second img in
      ap (λ (m : ℕ). get_or (xs ++ ys) m 0) (omega (arith, first-length))
      ∙ get_or-append-add xs ys (k - a.split) 0
      ∙ get_or-part (a.size - a.split) a.second img (k - a.split) (omega arith)

  -- a run of them that lies in one block
  one-run : (n from place : ℕ) → from + n ≤ a.size → place + n ≤ length img
      → ((k : ℕ) → k < n → get_or (gathered a img) (from + k) 0 ≡ get_or img (place + k) 0) → part n place img ≡ part n from (gathered a img)
  one-run n from place h p byte =
      let l = length-part n place img p in
      let m = length-part n from (gathered a img) (omega (arith, length-gathered)) in
      ext_get_or 0 (part n place img) (part n from (gathered a img)) (l ∙ sym m)
      (λ k b. get_or-part n place img k (omega arith) ∙ sym (byte k (omega arith)) ∙ sym (get_or-part n from (gathered a img) k (omega arith)))

  pub in-first : (n from : ℕ) → from + n ≤ a.split → part n (a.first + from) img ≡ part n from (gathered a img)
  in-first n from h =
      one-run n from (a.first + from) (omega (arith, i.split)) (omega (arith, i.first))
      (λ k b. byte-first (from + k) (omega arith) ∙ ap (λ (m : ℕ). get_or img m 0) (omega arith))

  pub in-second : (n from : ℕ) → a.split ≤ from → from + n ≤ a.size → part n (a.second + (from - a.split)) img ≡ part n from (gathered a img)
  in-second n from l h =
      one-run n from (a.second + (from - a.split)) h (omega (arith, i.second))
      (λ k b. byte-second (from + k) (omega arith) (omega arith) ∙ ap (λ (m : ℕ). get_or img m 0) (omega arith))

  -- copied out in one turn, or in two
  pub copied-first : (n from at : ℕ) (dst now : List ℕ) → from + n ≤ a.split → now ≡ put at (part n (a.first + from) img) dst → now ≡ put at (part n from (gathered a img)) dst
  copied-first n from at dst now h e = e ∙ ap (λ (l : List ℕ). put at l dst) (in-first n from h)

  pub copied-second : (n from at : ℕ) (dst now : List ℕ) → a.split ≤ from → from + n ≤ a.size → now ≡ put at (part n (a.second + (from - a.split)) img) dst
      → now ≡ put at (part n from (gathered a img)) dst
  copied-second n from at dst now l h e = e ∙ ap (λ (l : List ℕ). put at l dst) (in-second n from l h)

  pub copied-both : (n from at : ℕ) (dst mid now : List ℕ) → from < a.split → a.split < from + n → from + n ≤ a.size
      → mid ≡ put at (part (a.split - from) (a.first + from) img) dst
      → now ≡ put (at + (a.split - from)) (part (n - (a.split - from)) a.second img) mid
      → now ≡ put at (part n from (gathered a img)) dst
  copied-both n from at dst mid now l r h e f =
      let m = a.split - from in
      let g = gathered a img in
      let one : part m (a.first + from) img ≡ part m from g = in-first m from (omega arith) in
      let two : part (n - m) a.second img ≡ part (n - m) (from + m) g =
      ap (λ (p : ℕ). part (n - m) p img) (omega arith) ∙ in-second (n - m) (from + m) (omega arith) (omega arith) in
      let whole : part n from g ≡ part m from g ++ part (n - m) (from + m) g =
      ap (λ (k : ℕ). part k from g) (omega arith) ∙ part-split m (n - m) from g in
      let long : length (part m from g) ≡ m = length-part m from g (omega (arith, length-gathered)) in
      f
      ∙ rw (e, one, two) refl
      ∙ ap (λ (k : ℕ). put (at + k) (part (n - m) (from + m) g) (put at (part m from g) dst)) (sym long)
      ∙ sym (put_append at (part m from g) (part (n - m) (from + m) g) dst)
      ∙ ap (λ (l : List ℕ). put at l dst) (sym whole)
