-- What is relied on of giving out an inode: 28 exactly when, the first such inode, where it stores, and what a refusal leaves. Assumes nothing.
use Rattle.std.specs.Prelude.{Option, Some, None}
use Rattle.std.proofs.Common.{◌≡◌, ℕ, ◌+◌, ◌-◌, ◌<◌, true, false, ◌⊎◌, List, [], ◌∷◌, sym, refl, ap, ◌∙◌, inl, inr, arith}
use Rattle.refusal.specs.declared.Refusal.{Refusal}
use Rattle.refusal.specs.declared.Refusal.TheVariants.{LinkedInode, NoSpace, Damaged}
use Rattle.refusal.specs.Refusal.{number_of}
use Rattle.store.specs.Store.{apply, apply_all}
use Rattle.store.specs.Where.{Only}
use Rattle.store.specs.Act.{Out, got, refused, refuse, leaves}
use Rattle.store.proofs.ActLaws.{left-image}
use Rattle.volume.specs.declared.Geometry.{Geometry}
use Rattle.volume.specs.declared.Count.TheVariants.{Nifree}
use Rattle.volume.specs.Volume.{cg_at, count_at, inode_at}
use Rattle.bits.specs.Upto.{first}
use Rattle.bits.specs.Bits.{is_clear}
use Rattle.bits.proofs.UptoLaws.{true-not-false}
use Rattle.sound.specs.Sound.{used_at}
use Rattle.frame.specs.Frame.{Frame}
use Rattle.inode.specs.declared.Inode.{Inode}
use Rattle.inode.specs.Places.{generation_at}
use Rattle.balloc_give.specs.Give.{positive}
use Rattle.ialloc_give.specs.Marks.{used_write}
use Rattle.ialloc_give.specs.Choose.{chosen, inode_number}
use Rattle.ialloc_give.specs.Give.{setup_test, give_at, give_place, give_inode}
use Rattle.ialloc_give.proofs.MarkLaws.{mark-left}
use Rattle.ialloc_give.proofs.ChooseLaws.{IsChosen, chosen-is, none-chosen}
use Rattle.ialloc_give.proofs.GiveLaws.{setup-refused, give-refused}
use Rattle.ialloc_give.proofs.OutLaws.{Ready, setup_ready, setup_refusals, number_for, marked, give-out, Touched, give-only}

no_space : {e : Refusal} → (e ≡ LinkedInode) ⊎ (e ≡ Damaged) → e ≡ NoSpace → ⊥
unfolding number_of
no_space (inl p) q = let z : ◌≡◌ {A = ℕ} 14 28 = ap number_of (sym p ∙ q) in omega arith
no_space (inr p) q = let z : ◌≡◌ {A = ℕ} 97 28 = ap number_of (sym p ∙ q) in omega arith

-- ---- 28 exactly when no group with a count above zero has a clear bit

abbrev pub NoneFree : Geometry → List ℕ → Type 0
NoneFree geo img = (g : ℕ) → g < geo.ncg → positive (count_at geo.order Nifree (cg_at geo g) img) ≡ true → (k : ℕ) → k < geo.ipg → is_clear img (used_at geo g img) k ≡ false

give-not-full : (geo : Geometry) (new : Inode) (g k : ℕ) (img : List ℕ) → (give_at geo new g k img).out ≡ refused NoSpace → ⊥
give-not-full geo new g k img e = go (setup_test geo (inode_number geo g k) (marked geo new g k img)) refl (sym (give-out geo new g k img) ∙ e)
  where
    go : (t : Out ℕ) → setup_test geo (inode_number geo g k) (marked geo new g k img) ≡ t → number_for (inode_number geo g k) t ≡ refused NoSpace → ⊥
    go (got n) q r = let z : ◌≡◌ {A = ℕ} 0 1 = cc in omega arith
    go (refused x) q r = no_space (setup_refusals geo (inode_number geo g k) (marked geo new g k img) q) (cc)

pub full-none : (geo : Geometry) (new : Inode) (img : List ℕ) → (give_inode geo new img).out ≡ refused NoSpace → NoneFree geo img
unfolding give_inode
full-none geo new img e = go (chosen geo img) refl e
  where
    go : (p : Option (ℕ × ℕ)) → chosen geo img ≡ p → (give_place geo new p img).out ≡ refused NoSpace → NoneFree geo img
    go None q e = none-chosen geo img q
    go (Some (g, k)) q e = absurd (give-not-full geo new g k img e)

refuse-is : (e : Refusal) (img : List ℕ) → (refuse {A = ℕ} e img).out ≡ refused e
unfolding refuse
refuse-is e img = refl

pub none-full : (geo : Geometry) (new : Inode) (img : List ℕ) → NoneFree geo img → (give_inode geo new img).out ≡ refused NoSpace
unfolding give_inode
none-full geo new img n = go (chosen geo img) refl
  where
    go : (p : Option (ℕ × ℕ)) → chosen geo img ≡ p → (give_place geo new p img).out ≡ refused NoSpace
    go None q = refuse-is NoSpace img
    go (Some (g, k)) q = let i = chosen-is geo img g k q in absurd (true-not-false i.free (n g i.group i.counts k i.inode))

-- ---- the inode given is the first such, and its record was one that no link leads to

pub record Answered (geo : Geometry) (img : List ℕ) (i : ℕ) : Type 0 where
  pub group : ℕ
  pub place : ℕ
  pub chosen_there : chosen geo img ≡ Some (group, place)
  pub first : IsChosen geo img group place
  pub number : i ≡ inode_number geo group place
  pub ready : Ready geo i (apply (used_write 1 geo group place img ∷ []) img) (generation_at geo.order (inode_at geo i) (apply (used_write 1 geo group place img ∷ []) img) + 1)

pub given-first : (geo : Geometry) (new : Inode) (img : List ℕ) (i : ℕ) → (give_inode geo new img).out ≡ got i → Answered geo img i
unfolding give_inode
given-first geo new img i e = go (chosen geo img) refl e
  where
    at : (g k : ℕ) → chosen geo img ≡ Some (g, k) → (t : Out ℕ) → setup_test geo (inode_number geo g k) (marked geo new g k img) ≡ t → number_for (inode_number geo g k) t ≡ got i → Answered geo img i
    at g k c (got n) q r =
        let en : inode_number geo g k ≡ i = cc in
        let y = setup_ready geo (inode_number geo g k) (marked geo new g k img) n q in
        record { group = g; place = k; chosen_there = c; first = chosen-is geo img g k c; number = sym en; ready = rw (← en) (record { unlinked = y.unlinked; room = y.room; next = refl }) }
    at g k c (refused x) q r = absurd (let z : ◌≡◌ {A = ℕ} 0 1 = cc in let y : ⊥ = omega arith in y)

    go : (p : Option (ℕ × ℕ)) → chosen geo img ≡ p → (give_place geo new p img).out ≡ got i → Answered geo img i
    go None q e = absurd (let s = refuse-is NoSpace img in let z : ◌≡◌ {A = ℕ} 0 1 = cc in let y : ⊥ = omega arith in y)
    go (Some (g, k)) q e = at g k q (setup_test geo (inode_number geo g k) (marked geo new g k img)) refl (sym (give-out geo new g k img) ∙ e)

-- ---- it stores into the books and that inode's record alone

pub stores-only : (geo : Geometry) (new : Inode) (img : List ℕ) → Frame geo img → (g k : ℕ) → chosen geo img ≡ Some (g, k)
    → Only (Touched geo (inode_at geo (inode_number geo g k)) img) (give_inode geo new img).stores
unfolding give_inode
stores-only geo new img fr g k q = let i = chosen-is geo img g k q in rw q (give-only geo new g k img fr i.group i.inode)

-- ---- a refusal once the inode is chosen leaves its bit set, and nothing else stored

pub refused-marked : (geo : Geometry) (new : Inode) (g k : ℕ) (img : List ℕ) {e : Refusal} → (give_at geo new g k img).out ≡ refused e → apply_all (give_at geo new g k img).stores img ≡ marked geo new g k img
refused-marked geo new g k img {e} r = go (setup_test geo (inode_number geo g k) (marked geo new g k img)) refl (sym (give-out geo new g k img) ∙ r)
  where
    go : (t : Out ℕ) → setup_test geo (inode_number geo g k) (marked geo new g k img) ≡ t → number_for (inode_number geo g k) t ≡ refused e → apply_all (give_at geo new g k img).stores img ≡ marked geo new g k img
    go (got n) q s = absurd (let z : ◌≡◌ {A = ℕ} 0 1 = cc in let y : ⊥ = omega arith in y)
    go (refused x) q s =
        sym (left-image (give_at geo new g k) img
        (give-refused geo new g k img (inode_number geo g k) refl (mark-left 1 geo g k img refl refl) (setup-refused geo new (inode_number geo g k) (marked geo new g k img) q) refl))
