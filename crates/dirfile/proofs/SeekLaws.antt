-- Laws of a search through blocks: it ends, it has found, it goes on. Assumes nothing.
use mathlib.Core.Path.{◌≡◌, refl, sym, ap, ◌∙◌}
use mathlib.Core.Bool.{Bool, true, false}
use mathlib.Core.List.{List}
use Prim.Native.Nat.{ℕ, zero, suc, ◌+◌, ◌-◌, ◌*◌, ◌/◌, ◌%◌, ◌≤◌, ◌<◌}
use native.Mathlib.Omega.{arith}
use lib.Dec.{eqb}
use borrow.Author.Tests.{eq-eqb, ne_eqb}
use Rattle.store.specs.Act.{Out, got, refused}
use Rattle.volume.specs.declared.Geometry.{Geometry}
use Rattle.dirfile.specs.Block.{dir_block}
use Rattle.dirfile.specs.Seek.{Sought, here, nowhere, hurt, or_else, seek_from, in_block, whole_only, seek_dir}

module _ {A : Type 0} (f : ℕ → Sought A) where
  -- n blocks in all: none is left from n on
  pub seek-end : (n k : ℕ) → n ≤ k → seek_from f (n - k) k ≡ nowhere
  unfolding seek_from
  seek-end n k l = let e : n - k ≡ 0 = omega arith in rw e

  pub seek-step : (n k : ℕ) → k < n → seek_from f (n - k) k ≡ or_else (f k) (seek_from f (n - (k + 1)) (k + 1))
  unfolding seek_from
  seek-step n k l = let e : n - k ≡ suc (n - (k + 1)) = omega arith in rw e

  pub seek-here : (n k : ℕ) → k < n → (a : A) → f k ≡ here a → seek_from f (n - k) k ≡ here a
  seek-here n k l a e = seek-step n k l ∙ rw e

  pub seek-hurt : (n k : ℕ) → k < n → f k ≡ hurt → seek_from f (n - k) k ≡ hurt
  seek-hurt n k l e = seek-step n k l ∙ rw e

  pub seek-next : (n k : ℕ) → k < n → f k ≡ nowhere → seek_from f (n - k) k ≡ seek_from f (n - (k + 1)) (k + 1)
  seek-next n k l e = seek-step n k l ∙ rw e

-- what is found is found in one of the blocks
pub record FoundIn {A : Type 0} (f : ℕ → Sought A) (n k : ℕ) (a : A) : Type 0 where
  pub block : ℕ
  pub first : k ≤ block
  pub inside : block < k + n
  pub is : f block ≡ here a

pub seek_found : {A : Type 0} (f : ℕ → Sought A) (n k : ℕ) (a : A) → seek_from f n k ≡ here a → FoundIn f n k a
unfolding seek_from
seek_found f zero k a e = absurd (let z : ◌≡◌ {A = ℕ} 0 1 = cc in let y : ⊥ = omega arith in y)
seek_found {A} f (suc n) k a e = go (λ e. seek_found f n (k + 1) a e) (f k) refl e
  where
    go : (seek_from f n (k + 1) ≡ here a → FoundIn f n (k + 1) a) → (x : Sought A) → f k ≡ x → or_else x (seek_from f n (k + 1)) ≡ here a → FoundIn f (suc n) k a
    go later (here b) h e = record { block = k; first = omega arith; inside = omega arith; is = h ∙ e }
    go later nowhere h e = let r = later e in record { block = r.block; first = omega (arith, r.first); inside = omega (arith, r.inside); is = r.is }
    go later hurt h e = absurd (let z : ◌≡◌ {A = ℕ} 0 1 = cc in let y : ⊥ = omega arith in y)

module _ {A : Type 0} (geo : Geometry) (at size : ℕ) (img : List ℕ) (f : ℕ → List ℕ → Sought A) where
  -- what block k says
  abbrev pub said : ℕ → Sought A
  said k = in_block (dir_block geo at size img k) (f k)

  pub seek-start : size % 512 ≡ 0 → seek_dir geo at size img f ≡ seek_from said (size / 512 - 0) 0
  unfolding seek_dir
  seek-start e = rw (eq-eqb (size % 512) 0 e) (ap (λ (n : ℕ). seek_from said n 0) (omega arith))

  pub seek-odd : (size % 512 ≡ 0 → ⊥) → seek_dir geo at size img f ≡ hurt
  unfolding seek_dir
  seek-odd h = rw (ne_eqb (size % 512) 0 h)

  -- in a block that lies in the directory
  pub dir-found : (a : A) → seek_dir geo at size img f ≡ here a → (k : ℕ) × (k * 512 + 512 ≤ size) × (said k ≡ here a)
  unfolding seek_dir
  dir-found a e = go (eqb (size % 512) 0) e
    where
      go : (b : Bool) → whole_only b (seek_from said (size / 512) 0) ≡ here a → (k : ℕ) × (k * 512 + 512 ≤ size) × (said k ≡ here a)
      go true e = let r = seek_found said (size / 512) 0 a e in (r.block, omega (arith, r.inside), r.is)
      go false e = absurd (let z : ◌≡◌ {A = ℕ} 0 1 = cc in let y : ⊥ = omega arith in y)
