-- Laws of finding an inode by its number. Assumes nothing.
use Rattle.std.specs.Prelude.{Ok}
use mathlib.Core.Path.{◌≡◌, refl, ap, ◌∙◌}
use mathlib.Core.Bool.{Bool, true, false}
use mathlib.Core.List.{List}
use Prim.Native.Nat.{ℕ, ◌*◌, ◌<◌}
use native.Mathlib.Omega.{arith}
use lib.Dec.{ltb}
use borrow.Author.Tests.{ltb-true, eq-eqb, ne_eqb}
use Rattle.bits.proofs.UptoLaws.{both}
use Rattle.refusal.specs.declared.Refusal.TheVariants.{Invalid}
use Rattle.store.specs.Act.{Out, got, refused}
use Rattle.volume.specs.declared.Geometry.{Geometry}
use Rattle.volume.specs.Volume.{inode_at}
use Rattle.inode.specs.declared.Shape.{Shape}
use Rattle.inode.specs.Shape.{shape_of, type_of}
use Rattle.inode_run.specs.declared.Spot.{Spot}
use Rattle.frame.specs.Frame.{Frame, InodeIs}
use Rattle.frame.proofs.Places.{inode-is}
use Rattle.inode_run.specs.Judge.{ask}
use Rattle.inode_run.specs.Find.{number_ok, typed, spot_of, find_inode, found_of}

pub number-is : (geo : Geometry) (i : ℕ) → number_ok geo i ≡ true → (0 < i) × (i < geo.ncg * geo.ipg)
unfolding number_ok
number-is geo i h = let q = both (ltb 0 i) (ltb i (geo.ncg * geo.ipg)) h in (ltb-true _ _ q.0, ltb-true _ _ q.1)

pub spot-at : (geo : Geometry) (img : List ℕ) (i : ℕ) → (spot_of geo img i).at ≡ inode_at geo i
unfolding spot_of
spot-at geo img i = refl

pub spot-is : (geo : Geometry) (img : List ℕ) (i at : ℕ) (s : Shape) → at ≡ inode_at geo i → s ≡ shape_of geo.order at img → record { at = at; shape = s } ≡ spot_of geo img i
unfolding spot_of
spot-is geo img i at s e h = rw (h, e)

module _ (geo : Geometry) (img : List ℕ) (i : ℕ) where
  pub find-number : number_ok geo i ≡ false → find_inode geo img i ≡ refused Invalid
  unfolding find_inode
  find-number h = rw h

  pub find-untyped : number_ok geo i ≡ true → (s : Spot) → s ≡ spot_of geo img i → type_of s.shape.mode ≡ 0 → find_inode geo img i ≡ refused Invalid
  unfolding find_inode typed
  find-untyped h s e t = rw (h, ← e, eq-eqb _ _ t)

  pub find-got : number_ok geo i ≡ true → (s : Spot) → s ≡ spot_of geo img i → (type_of s.shape.mode ≡ 0 → ⊥) → find_inode geo img i ≡ got s
  unfolding find_inode typed
  find-got h s e t = rw (h, ← e, ne_eqb _ _ t)

-- ---- what a good answer says

pub found-got : (o : Out Spot) (s : Spot) → Ok s ≡ found_of o → o ≡ got s
found-got (got t) s e = let q : t ≡ s = cc in ap got q
found-got (refused r) s e = absurd (let z : ◌≡◌ {A = ℕ} 0 1 = cc in let y : ⊥ = omega arith in y)

pub record Named (geo : Geometry) (img : List ℕ) (i : ℕ) (s : Spot) : Type 0 where
  pub number : number_ok geo i ≡ true
  pub typed : typed s.shape ≡ true
  pub is : s ≡ spot_of geo img i
  pub place : InodeIs geo img i s.at

pub find-named : (geo : Geometry) (img : List ℕ) → Frame geo img → (i : ℕ) (s : Spot) → find_inode geo img i ≡ got s → Named geo img i s
unfolding find_inode
find-named geo img fr i s h = by (number_ok geo i) refl (typed (spot_of geo img i).shape) refl h where
  by : (b : Bool) → number_ok geo i ≡ b → (d : Bool) → typed (spot_of geo img i).shape ≡ d → ask b Invalid (ask d Invalid (got (spot_of geo img i))) ≡ got s → Named geo img i s
  by true p true q h =
      let e : s ≡ spot_of geo img i = cc in
      record {
        number = p;
        typed = ap (λ (s : Spot). typed s.shape) e ∙ q;
        is = e;
        place = inode-is geo img fr i s.at (number-is geo i p).1 (ap (λ (s : Spot). s.at) e ∙ spot-at geo img i);
      }
  by true p false q h = absurd (let z : ◌≡◌ {A = ℕ} 0 1 = cc in let y : ⊥ = omega arith in y)
  by false p d q h = absurd (let z : ◌≡◌ {A = ℕ} 0 1 = cc in let y : ⊥ = omega arith in y)
