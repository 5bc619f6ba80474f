-- The laws of `specs/Other.antt`. Assumes nothing.
use Rattle.std.specs.Prelude.{None, Ok}
use mathlib.Core.Path.{◌≡◌, refl, sym, ap, ◌∙◌}
use mathlib.Core.Bool.{Bool, true, false, ◌&&◌, ◌||◌}
use mathlib.Core.List.{List, [], ◌∷◌}
use Prim.Native.Nat.{ℕ, zero, suc, ◌+◌, ◌-◌, ◌/◌, ◌%◌, ◌≤◌, ◌<◌}
use native.Mathlib.Omega.{arith}
use lib.ListN.{length, get_or}
use lib.Dec.{eqb}
use Rattle.field.specs.declared.Order.{Order}
use Rattle.field.specs.Field.{zeros}
use Rattle.field.proofs.Laws.{length-part, part-is}
use Rattle.volume.specs.declared.Geometry.{Geometry}
use Rattle.dirblock.specs.declared.Entry.{Entry}
use Rattle.dirblock.specs.Record.{name_at}
use Rattle.dirblock.specs.Search.{search_from, same_name}
use Rattle.dirblock.proofs.SearchLaws.{search-end, other-name}
use Rattle.dirfile.specs.Seek.{Sought, hurt, seek_from}
use Rattle.dirfile.proofs.SeekLaws.{said, seek-start, seek-odd}
use Rattle.dirwalk.proofs.ZeroLaws.{zeros-end}
use Rattle.dirother.specs.Other.{dots, stays, other_in, stayed_in, others_dir}

-- ---- "." and ".."

module _ (block : List ℕ) (pos : ℕ) (e : Entry) (inside : pos + 8 + e.namelen ≤ length block) where
  one-byte : e.namelen ≡ 1 → name_at block pos e ≡ get_or block (pos + 8) 0 ∷ []
  unfolding name_at
  one-byte l = rw l (part-is (pos + 8) (get_or block (pos + 8) 0 ∷ []) block (omega arith) only)
    where
      only : (i : ℕ) → i < 1 → get_or block (pos + 8 + i) 0 ≡ get_or (get_or block (pos + 8) 0 ∷ []) i 0
      only zero h = ap (λ (n : ℕ). get_or block n 0) (omega arith)
      only (suc i) h = absurd (let z : ⊥ = omega arith in z)

  two_bytes : e.namelen ≡ 2 → name_at block pos e ≡ get_or block (pos + 8) 0 ∷ get_or block (pos + 9) 0 ∷ []
  unfolding name_at
  two_bytes l = rw l (part-is (pos + 8) (get_or block (pos + 8) 0 ∷ get_or block (pos + 9) 0 ∷ []) block (omega arith) both)
    where
      both : (i : ℕ) → i < 2 → get_or block (pos + 8 + i) 0 ≡ get_or (get_or block (pos + 8) 0 ∷ get_or block (pos + 9) 0 ∷ []) i 0
      both zero h = ap (λ (n : ℕ). get_or block n 0) (omega arith)
      both (suc zero) h = ap (λ (n : ℕ). get_or block n 0) (omega arith)
      both (suc (suc i)) h = absurd (let z : ⊥ = omega arith in z)

  pub dots-one : e.namelen ≡ 1 → eqb (get_or block (pos + 8) 0) 46 ≡ dots (name_at block pos e)
  unfolding dots same_name
  dots-one l = rw (one-byte l) (go (eqb (get_or block (pos + 8) 0) 46))
    where
      go : (t : Bool) → t ≡ t && true || t && false
      go true = refl
      go false = refl

  pub dots-two : e.namelen ≡ 2 → eqb (get_or block (pos + 8) 0) 46 && eqb (get_or block (pos + 9) 0) 46 ≡ dots (name_at block pos e)
  unfolding dots same_name
  dots-two l = rw (two_bytes l) (go (eqb (get_or block (pos + 8) 0) 46) (eqb (get_or block (pos + 9) 0) 46))
    where
      go : (s t : Bool) → s && t ≡ s && false || s && (t && true)
      go true true = refl
      go true false = refl
      go false t = refl

  long : length (name_at block pos e) ≡ e.namelen
  unfolding name_at
  long = length-part e.namelen (pos + 8) block inside

  -- a name of another length is neither
  pub dots-other : (e.namelen ≡ 1 → ⊥) → (e.namelen ≡ 2 → ⊥) → false ≡ dots (name_at block pos e)
  unfolding dots
  dots-other a b =
      rw (other-name (name_at block pos e) (46 ∷ []) (λ q. a (sym long ∙ ap length q)), other-name (name_at block pos e) (46 ∷ 46 ∷ []) (λ q. b (sym long ∙ ap length q)))

-- ---- one block

pub other_start : (o : Order) (block : List ℕ) → search_from (stays block) o block 0 0 ≡ other_in o block
unfolding other_in
other_start o block = refl

-- a block of zeros holds none
pub other-zeros : (o : Order) → other_in o (zeros 512) ≡ Ok None
other-zeros o = sym (other_start o (zeros 512)) ∙ search-end (stays (zeros 512)) o (zeros 512) 0 0 (zeros-end o)

-- ---- a directory

-- what the search asks of block k
abbrev pub others : Geometry → ℕ → List ℕ → Sought (Unit {0})
others geo k b = stayed_in (other_in geo.order b)

module _ (geo : Geometry) (at size : ℕ) (img : List ℕ) where
  pub others-start : size % 512 ≡ 0 → seek_from (said geo at size img (others geo)) (size / 512 - 0) 0 ≡ others_dir geo at size img
  unfolding others_dir
  others-start e = sym (seek-start geo at size img (others geo) e)

  pub others-odd : (size % 512 ≡ 0 → ⊥) → hurt ≡ others_dir geo at size img
  unfolding others_dir
  others-odd h = sym (seek-odd geo at size img (others geo) h)
