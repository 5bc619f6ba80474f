-- Laws of what every reading call begins with: the volume, and the inode that a number names. Assumes nothing.
use Rattle.std.specs.Prelude.{Result, Ok, Err}
use mathlib.Core.Path.{◌≡◌, refl, ap, subst}
use mathlib.Core.Bool.{Bool, true, false}
use mathlib.Core.List.{List}
use Prim.Native.Nat.{ℕ}
use native.Mathlib.Omega.{arith}
use Rattle.refusal.specs.declared.Refusal.{Refusal}
use Rattle.refusal.specs.declared.Refusal.TheVariants.{Damaged}
use Rattle.store.specs.Act.{Out, got, refused}
use Rattle.volume.specs.declared.Geometry.{Geometry}
use Rattle.volume.specs.Volume.{geometry_of}
use Rattle.sound.specs.Clauses.{soundb}
use Rattle.sound.specs.Test.{taken_of}
use Rattle.sound.proofs.Laws.{taken-not, taken-yes}
use Rattle.frame.specs.Frame.{Frame}
use Rattle.frame.proofs.Places.{frame-of}
use Rattle.inode_run.specs.declared.Spot.{Spot}
use Rattle.inode_run.specs.Judge.{and_then, on_sound, reading}
use Rattle.inode_run.specs.Find.{find_inode, found_of}
use Rattle.inode_run.proofs.FindLaws.{found-got, Named, find-named}
use Rattle.inode_read.specs.Calls.{Place, place_in, known_of}
use Rattle.refusal.specs.Refusal.{damage}
use Rattle.refusal.specs.declared.Damage.{Damage}

-- ---- the volume

-- a volume that is taken is sound, and its geometry is the image's
taken-is : (img : List ℕ) (geo : Geometry) → taken_of img ≡ Ok geo → (soundb img ≡ true) × (geometry_of img ≡ geo)
taken-is img geo e = go (soundb img) refl
  where
    go : (b : Bool) → soundb img ≡ b → (soundb img ≡ true) × (geometry_of img ≡ geo)
    go true h = let q = taken-yes img h in (h, (cc))
    go false h = let q = taken-not img h in absurd (let z : ◌≡◌ {A = ℕ} 0 1 = cc in let y : ⊥ = omega arith in y)

pub taken-frame : (img : List ℕ) (geo : Geometry) → taken_of img ≡ Ok geo → Frame geo img
taken-frame img geo e = let t = taken-is img geo e in subst (λ (g : Geometry). Frame g img) t.1 (frame-of img t.0)

-- ---- the inode

pub found_no : (o : Out Spot) (e : Refusal) → Err e ≡ found_of o → o ≡ refused e
found_no (got s) e h = absurd (let z : ◌≡◌ {A = ℕ} 0 1 = cc in let y : ⊥ = omega arith in y)
found_no (refused f) e h = let q : f ≡ e = cc in ap refused q

module _ (img : List ℕ) (i : ℕ) where
  pub known-unsound : taken_of img ≡ Err damage → Err Damaged ≡ known_of (place_in img i)
  unfolding place_in reading
  known-unsound e = rw e

  module _ (geo : Geometry) (t : taken_of img ≡ Ok geo) where
    pub known_at : (s : Spot) → Ok s ≡ found_of (find_inode geo img i) → Ok (geo, s) ≡ known_of (place_in img i)
    unfolding place_in reading
    known_at s h = rw (t, found-got (find_inode geo img i) s h)

    pub known-no : (e : Refusal) → Err e ≡ found_of (find_inode geo img i) → Err e ≡ known_of (place_in img i)
    unfolding place_in reading
    known-no e h = rw (t, found_no (find_inode geo img i) e h)

-- ---- what the answer says

pub known-got : (o : Out Place) (geo : Geometry) (s : Spot) → Ok (geo, s) ≡ known_of o → o ≡ got (record { geo = geo; spot = s })
known-got (got p) geo s e =
    let w : ◌≡◌ {A = Geometry × Spot} (p.geo, p.spot) (geo, s) = cc in
    let q : p.geo ≡ geo = ap (λ (z : Geometry × Spot). z.0) w in
    let r : p.spot ≡ s = ap (λ (z : Geometry × Spot). z.1) w in
    rw (← q, ← r)
known-got (refused f) geo s e = absurd (let z : ◌≡◌ {A = ℕ} 0 1 = cc in let y : ⊥ = omega arith in y)

pub known-refused : (o : Out Place) (e : Refusal) → Err e ≡ known_of o → o ≡ refused e
known-refused (got p) e h = absurd (let z : ◌≡◌ {A = ℕ} 0 1 = cc in let y : ⊥ = omega arith in y)
known-refused (refused f) e h = let q : f ≡ e = cc in ap refused q

-- an inode that is found stands in a sound volume
pub record Stands (img : List ℕ) (i : ℕ) (p : Place) : Type 0 where
  pub frame : Frame p.geo img
  pub named : Named p.geo img i p.spot

pub place-stands : (img : List ℕ) (i : ℕ) (p : Place) → place_in img i ≡ got p → Stands img i p
unfolding place_in reading
place-stands img i p e = by (taken_of img) refl e
  where
    found : (geo : Geometry) → taken_of img ≡ Ok geo → (o : Out Spot) → find_inode geo img i ≡ o → and_then o (λ s. got (record { geo = geo; spot = s })) ≡ got p → Stands img i p
    found geo t (got s) f e =
        let q : ◌≡◌ {A = Place} (record { geo = geo; spot = s }) p = cc in
        let fr = taken-frame img geo t in
        subst (Stands img i) q (record { frame = fr; named = find-named geo img fr i s f })
    found geo t (refused x) f e = absurd (let z : ◌≡◌ {A = ℕ} 0 1 = cc in let y : ⊥ = omega arith in y)

    by : (t : Result Geometry Damage) → taken_of img ≡ t → on_sound (λ geo. and_then (find_inode geo img i) (λ s. got (record { geo = geo; spot = s }))) t ≡ got p → Stands img i p
    by (Ok geo) t e = found geo t (find_inode geo img i) refl e
    by (Err harm) t e = absurd (let z : ◌≡◌ {A = ℕ} 0 1 = cc in let y : ⊥ = omega arith in y)
