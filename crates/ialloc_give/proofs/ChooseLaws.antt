-- The laws of the choice of an inode. Assumes nothing.
use Rattle.std.specs.Prelude.{Option, Some, None}
use Rattle.std.proofs.Common.{◌≡◌, ℕ, zero, suc, ◌+◌, ◌-◌, ◌*◌, ◌<◌, ◌≤◌, Bool, true, false, List, sym, refl, ap, ◌∙◌, le_refl, suc-mul, mul-le-mul, arith}
use native.Mathlib.Nat.{sub-zero}
use Rattle.volume.specs.declared.Geometry.{Geometry}
use Rattle.volume.specs.declared.Count.TheVariants.{Nifree}
use Rattle.volume.specs.Volume.{cg_at, count_at}
use Rattle.bits.specs.Upto.{first}
use Rattle.bits.specs.Bits.{is_clear, first_clear}
use Rattle.bits.proofs.UptoLaws.{true-not-false, IsFirst, first-found, first_missing, first-here, first_next, first-end}
use Rattle.sound.specs.Sound.{used_at}
use Rattle.balloc_give.specs.Give.{positive}
use Rattle.ialloc_give.specs.Choose.{in_group, is_found, has_one, place_of, place_in, chosen, inode_number}

module _ (geo : Geometry) (img : List ℕ) where
  pub passed : (g : ℕ) → positive (count_at geo.order Nifree (cg_at geo g) img) ≡ false → in_group geo img g ≡ None
  unfolding in_group
  passed g h = rw h

  pub searched : (g : ℕ) → positive (count_at geo.order Nifree (cg_at geo g) img) ≡ true → in_group geo img g ≡ first_clear img (used_at geo g img) geo.ipg
  unfolding in_group
  searched g h = rw h

  pub found_in : (g at : ℕ) → at ≡ used_at geo g img → positive (count_at geo.order Nifree (cg_at geo g) img) ≡ true → first_clear img at geo.ipg ≡ in_group geo img g
  found_in g at e h = rw e (sym (searched g h))

  -- ---- as a loop meets the groups: those before g have none
  pub choose-start : first (has_one geo img) 0 (geo.ncg - 0) ≡ first (has_one geo img) 0 geo.ncg
  choose-start = rw (sub-zero geo.ncg)

  module _ (g : ℕ) (inv : first (has_one geo img) g (geo.ncg - g) ≡ first (has_one geo img) 0 geo.ncg) where
    pub choose-hit : (k : ℕ) → g < geo.ncg → in_group geo img g ≡ Some k → Some (g, k) ≡ chosen geo img
    unfolding chosen
    choose-hit k l e = rw (← inv, first-here (has_one geo img) geo.ncg g l (rw e), e)

    pub choose-miss : g < geo.ncg → in_group geo img g ≡ None → first (has_one geo img) (g + 1) (geo.ncg - (g + 1)) ≡ first (has_one geo img) 0 geo.ncg
    choose-miss l e = sym (first_next (has_one geo img) geo.ncg g l (rw e)) ∙ inv

    pub choose-end : geo.ncg ≤ g → None ≡ chosen geo img
    unfolding chosen
    choose-end l = rw (← inv, first-end (has_one geo img) geo.ncg g l)

-- the number of an inode of a group is one of the volume's
pub number_in : (geo : Geometry) (g k : ℕ) → g < geo.ncg → k < geo.ipg → inode_number geo g k < geo.ncg * geo.ipg
unfolding inode_number
number_in geo g k lg lk =
    let m : suc g * geo.ipg ≤ geo.ncg * geo.ipg = mul-le-mul lg (le_refl geo.ipg) in
    omega (arith, m, suc-mul g geo.ipg, lk)

pub number-is : (geo : Geometry) (g k p : ℕ) → p ≡ g * geo.ipg → p + k ≡ inode_number geo g k
unfolding inode_number
number-is geo g k p e = rw e

-- ---- what a choice says: the lowest clear bit of the first group that counts an inode and has one

pub record IsChosen (geo : Geometry) (img : List ℕ) (g k : ℕ) : Type 0 where
  pub group : g < geo.ncg
  pub inode : k < geo.ipg
  pub counts : positive (count_at geo.order Nifree (cg_at geo g) img) ≡ true
  pub free : is_clear img (used_at geo g img) k ≡ true
  pub lower : (x : ℕ) → x < k → is_clear img (used_at geo g img) x ≡ false
  pub earlier : (y : ℕ) → y < g → in_group geo img y ≡ None

first-clear-is : (img : List ℕ) (at n : ℕ) → first_clear img at n ≡ first (is_clear img at) 0 n
unfolding first_clear
first-clear-is img at n = refl

in_group-found : (geo : Geometry) (img : List ℕ) (g k : ℕ) → in_group geo img g ≡ Some k
    → (positive (count_at geo.order Nifree (cg_at geo g) img) ≡ true) × IsFirst (is_clear img (used_at geo g img)) 0 geo.ipg k
in_group-found geo img g k e = go (positive (count_at geo.order Nifree (cg_at geo g) img)) refl
  where
    go : (b : Bool) → positive (count_at geo.order Nifree (cg_at geo g) img) ≡ b
        → (positive (count_at geo.order Nifree (cg_at geo g) img) ≡ true) × IsFirst (is_clear img (used_at geo g img)) 0 geo.ipg k
    go true p = (p, first-found _ 0 geo.ipg k (sym (first-clear-is img (used_at geo g img) geo.ipg) ∙ sym (searched geo img g p) ∙ e))
    go false p = absurd (let q = passed geo img g p in let z : ◌≡◌ {A = ℕ} 0 1 = cc in let y : ⊥ = omega arith in y)

none-found : (f : Option ℕ) → is_found f ≡ false → f ≡ None
none-found (Some k) e = absurd (true-not-false refl e)
none-found None e = refl

pub chosen-is : (geo : Geometry) (img : List ℕ) (g k : ℕ) → chosen geo img ≡ Some (g, k) → IsChosen geo img g k
unfolding chosen
chosen-is geo img g k e = go (first (has_one geo img) 0 geo.ncg) refl e
  where
    here : (h : ℕ) → first (has_one geo img) 0 geo.ncg ≡ Some h → (f : Option ℕ) → in_group geo img h ≡ f → place_of h f ≡ Some (g, k) → IsChosen geo img g k
    here h q (Some x) i e =
        let w : ◌≡◌ {A = ℕ × ℕ} (h, x) (g, k) = cc in
        let eg : h ≡ g = ap (λ (z : ℕ × ℕ). z.0) w in
        let ek : x ≡ k = ap (λ (z : ℕ × ℕ). z.1) w in
        let r = first-found (has_one geo img) 0 geo.ncg g (q ∙ ap Some eg) in
        let j = in_group-found geo img g k (rw (← eg, ← ek) i) in
        record {
          group = omega (arith, r.below);
          inode = omega (arith, j.1.below);
          counts = j.0;
          free = j.1.holds;
          lower = λ y l. j.1.before y (omega arith) l;
          earlier = λ y l. none-found (in_group geo img y) (r.before y (omega arith) l);
        }
    here h q None i e = absurd (let z : ◌≡◌ {A = ℕ} 0 1 = cc in let y : ⊥ = omega arith in y)

    go : (f : Option ℕ) → first (has_one geo img) 0 geo.ncg ≡ f → place_in geo img f ≡ Some (g, k) → IsChosen geo img g k
    go (Some h) q e = here h q (in_group geo img h) refl e
    go None q e = absurd (let z : ◌≡◌ {A = ℕ} 0 1 = cc in let y : ⊥ = omega arith in y)

-- none is chosen: no group with a count above zero has a clear bit
pub none-chosen : (geo : Geometry) (img : List ℕ) → chosen geo img ≡ None
    → (g : ℕ) → g < geo.ncg → positive (count_at geo.order Nifree (cg_at geo g) img) ≡ true → (k : ℕ) → k < geo.ipg → is_clear img (used_at geo g img) k ≡ false
unfolding chosen
none-chosen geo img e g lg p k lk = go (first (has_one geo img) 0 geo.ncg) refl e
  where
    found : (f : Option ℕ) → is_found f ≡ true → (h : ℕ) → place_of h f ≡ None → ⊥
    found (Some x) t h e = let z : ◌≡◌ {A = ℕ} 0 1 = cc in omega arith
    found None t h e = true-not-false t refl

    go : (f : Option ℕ) → first (has_one geo img) 0 geo.ncg ≡ f → place_in geo img f ≡ None → is_clear img (used_at geo g img) k ≡ false
    go (Some h) q e = absurd (found (in_group geo img h) (first-found (has_one geo img) 0 geo.ncg h q).holds h e)
    go None q e =
        let n = none-found (in_group geo img g) (first_missing (has_one geo img) 0 geo.ncg q g (omega arith) (omega arith)) in
        first_missing (is_clear img (used_at geo g img)) 0 geo.ipg (sym (first-clear-is img (used_at geo g img) geo.ipg) ∙ sym (searched geo img g p) ∙ n) k (omega arith) (omega arith)
