-- Laws of shrinking the zones, the last first. Assumes nothing.
use mathlib.Core.Path.{◌≡◌, refl, sym, ap, subst, ◌∙◌}
use mathlib.Core.Bool.{Bool, true, false}
use mathlib.Core.List.{List, [], ◌∷◌}
use Prim.Native.Nat.{ℕ, zero, suc, ◌+◌, ◌-◌, ◌*◌, ◌^◌, ◌≤◌, ◌<◌}
use native.Mathlib.Omega.{arith}
use lib.ListN.{length}
use lib.Dec.{ltb}
use borrow.Author.Tests.{lt-ltb, le-ltb, ltb-true, ltb-false}
use Rattle.refusal.specs.declared.Refusal.{Refusal}
use Rattle.store.specs.Act.{Out, got, refused, Act, ◌>>=◌, choose, each, Left, leaves}
use Rattle.store.proofs.ActLaws.{step-good, step-bad, choose-yes, choose_no, each-end, each-good, each-bad}
use Rattle.store.proofs.AlwaysLaws.{always-choose}
use Rattle.volume.specs.declared.Geometry.{Geometry}
use Rattle.inode.specs.declared.Shape.{Shape}
use Rattle.inode.specs.Shape.{address_at}
use Rattle.mapping.specs.Zones.{zone_start}
use Rattle.mapping.specs.Mapping.{per_list}
use Rattle.mapping.proofs.ZoneLaws.{start-one, start-two, start-three, pow_one, pow_two}
use Rattle.books.proofs.KeepLaws.{Keeps, keeps-bind, keeps-each, keeps-read}
use Rattle.ialloc_tree.specs.Tree.{free_tree}
use Rattle.ialloc_tree.proofs.TreeLaws.{keeps-tree}
use Rattle.inode_shrink.specs.Shrink.{shrink_list, shrink_lists}
use Rattle.inode_shrink.proofs.ShrinkLaws.{here-left, keeps-shrink-list, keeps-shrink-lists}
use Rattle.inode_truncate.specs.Truncate.{at_address, shrink_direct, shrink_low, shrink_mid, shrink}

-- f of an address that was read
pub address-left : {A : Type 0} (geo : Geometry) (at k : ℕ) (f : ℕ → Act A) (img : List ℕ) (a : ℕ) {x : List ℕ} {o : Out A} → a ≡ address_at geo.order at k img → (x, o) ≡ leaves (f a) img → (x, o) ≡ leaves (at_address geo at k f) img
unfolding at_address
address-left geo at k f img a q r = r ∙ ap (λ (y : ℕ). leaves (f y) img) q ∙ here-left (λ x. f (address_at geo.order at k x)) img

-- where the second zone and the third begin, as the code has it
pub second_starts : (geo : Geometry) (n : ℕ) → n ≡ per_list geo ^ 1 → 12 + n ≡ zone_start (per_list geo) 2
second_starts geo n e = rw (e, start-two (per_list geo))

pub second_early : (geo : Geometry) (n : ℕ) → n ≡ per_list geo ^ 1 → per_list geo ≤ 8192 → 12 + n ≤ 549755813888
second_early geo n e m = omega (arith, e, pow_one (per_list geo), m)

pub first-room : (geo : Geometry) (keep : ℕ) → keep < zone_start (per_list geo) 2 → keep - 12 ≤ per_list geo
first-room geo keep l = omega (arith, rw (start-two (per_list geo)) at l, pow_one (per_list geo))

pub third_starts : (geo : Geometry) (keep n : ℕ) → n ≡ per_list geo ^ 1 → keep < zone_start (per_list geo) 3 → 12 + n ≤ keep → keep - (12 + n) < per_list geo * per_list geo
third_starts geo keep n e l r = omega (arith, e, rw (start-three (per_list geo)) at l, r, pow_two (per_list geo))

-- ---- the direct addresses

pub direct-left : (geo : Geometry) (at : ℕ) (s : Shape) (keep held : ℕ) (img : List ℕ) → leaves (each (λ i h. at_address geo at i (λ a. free_tree geo s 0 a i h)) (12 - keep) keep held) img ≡ leaves (shrink_direct geo at s keep held) img
unfolding shrink_direct
direct-left geo at s keep held img = refl

module _ (geo : Geometry) (at : ℕ) (s : Shape) (i left : ℕ) (img : List ℕ) (whole : Left ℕ)
    (inv : leaves (each (λ i h. at_address geo at i (λ a. free_tree geo s 0 a i h)) (12 - i) i left) img ≡ whole) where
  module _ (l : i < 12) (e : ℕ) (q : e ≡ address_at geo.order at i img) {x : List ℕ} {o : Out ℕ} (r : (x, o) ≡ leaves (free_tree geo s 0 e i left) img) where
    pub direct_good : {h : ℕ} → o ≡ got h → leaves (each (λ i h. at_address geo at i (λ a. free_tree geo s 0 a i h)) (12 - (i + 1)) (i + 1) h) x ≡ whole
    direct_good g = each-good (λ i h. at_address geo at i (λ a. free_tree geo s 0 a i h)) 12 i img left l (address-left geo at i (λ a. free_tree geo s 0 a i left) img e q r) g ∙ inv

    pub direct-bad : {n : Refusal} → o ≡ refused n → (x, refused n) ≡ whole
    direct-bad g = each-bad (λ i h. at_address geo at i (λ a. free_tree geo s 0 a i h)) 12 i img left l (address-left geo at i (λ a. free_tree geo s 0 a i left) img e q r) g ∙ inv

  pub direct-end : 12 ≤ i → (img, got left) ≡ whole
  direct-end l = each-end (λ i h. at_address geo at i (λ a. free_tree geo s 0 a i h)) 12 i img left l ∙ inv

-- ---- a zone freed whole, and what comes below; or a zone of which the first blocks stay

module _ (geo : Geometry) (at : ℕ) (s : Shape) (keep held : ℕ) (img : List ℕ) where
  module _ (l : keep < 12) (a : ℕ) (q : a ≡ address_at geo.order at 12 img) {x : List ℕ} {o : Out ℕ} (r : (x, o) ≡ leaves (free_tree geo s 1 a 0 held) img) where
    pub low-refused : {e : Refusal} → o ≡ refused e → ◌≡◌ {A = Left ℕ} (x, refused e) (leaves (shrink_low geo at s keep held) img)
    unfolding shrink_low
    low-refused g = step-bad _ (shrink_direct geo at s keep) img (address-left geo at 12 _ img a q r) g ∙ choose-yes _ _ img (rw (start-one (per_list geo)) (lt-ltb keep 12 l))

    pub low-on : {h : ℕ} → o ≡ got h → leaves (shrink_direct geo at s keep h) x ≡ leaves (shrink_low geo at s keep held) img
    unfolding shrink_low
    low-on g = step-good _ (shrink_direct geo at s keep) img (address-left geo at 12 _ img a q r) g ∙ choose-yes _ _ img (rw (start-one (per_list geo)) (lt-ltb keep 12 l))

  pub low_part : 12 ≤ keep → (a : ℕ) → a ≡ address_at geo.order at 12 img → {x : List ℕ} {o : Out ℕ} → (x, o) ≡ leaves (shrink_list geo s a 12 (keep - 12) held) img → (x, o) ≡ leaves (shrink_low geo at s keep held) img
  unfolding shrink_low
  low_part l a q r = rw (start-one (per_list geo)) (address-left geo at 12 (λ a. shrink_list geo s a 12 (keep - 12) held) img a q r ∙ choose_no _ _ img (le-ltb keep 12 l))

  module _ (l : keep < zone_start (per_list geo) 2) (a : ℕ) (q : a ≡ address_at geo.order at 13 img) {x : List ℕ} {o : Out ℕ} (r : (x, o) ≡ leaves (free_tree geo s 2 a 0 held) img) where
    pub mid-refused : {e : Refusal} → o ≡ refused e → ◌≡◌ {A = Left ℕ} (x, refused e) (leaves (shrink_mid geo at s keep held) img)
    unfolding shrink_mid
    mid-refused g = step-bad _ (shrink_low geo at s keep) img (address-left geo at 13 _ img a q r) g ∙ choose-yes _ _ img (lt-ltb keep (zone_start (per_list geo) 2) l)

    pub mid-on : {h : ℕ} → o ≡ got h → leaves (shrink_low geo at s keep h) x ≡ leaves (shrink_mid geo at s keep held) img
    unfolding shrink_mid
    mid-on g = step-good _ (shrink_low geo at s keep) img (address-left geo at 13 _ img a q r) g ∙ choose-yes _ _ img (lt-ltb keep (zone_start (per_list geo) 2) l)

  pub mid-part : (z : ℕ) → z ≡ zone_start (per_list geo) 2 → z ≤ keep → (a : ℕ) → a ≡ address_at geo.order at 13 img → {x : List ℕ} {o : Out ℕ} → (x, o) ≡ leaves (shrink_lists geo s a z (keep - z) held) img
      → (x, o) ≡ leaves (shrink_mid geo at s keep held) img
  unfolding shrink_mid
  mid-part z e l a q r =
      address-left geo at 13 (λ a. shrink_lists geo s a z (keep - z) held) img a q r
      ∙ ap (λ (z : ℕ). leaves (at_address geo at 13 (λ a. shrink_lists geo s a z (keep - z) held)) img) e
      ∙ choose_no _ _ img (le-ltb keep (zone_start (per_list geo) 2) (rw (← e) l))

module _ (geo : Geometry) (at : ℕ) (s : Shape) (keep : ℕ) (img : List ℕ) (a : ℕ) (q : a ≡ address_at geo.order at 14 img) {x : List ℕ} {o : Out ℕ} (r : (x, o) ≡ leaves (free_tree geo s 3 a 0 s.blocks) img) where
  pub all-refused : {e : Refusal} → o ≡ refused e → ◌≡◌ {A = Left ℕ} (x, refused e) (leaves (shrink geo at s keep) img)
  unfolding shrink
  all-refused g = step-bad _ (shrink_mid geo at s keep) img (address-left geo at 14 _ img a q r) g

  pub all-on : {h : ℕ} → o ≡ got h → leaves (shrink_mid geo at s keep h) x ≡ leaves (shrink geo at s keep) img
  unfolding shrink
  all-on g = step-good _ (shrink_mid geo at s keep) img (address-left geo at 14 _ img a q r) g

-- ---- the layout stays

module _ (geo : Geometry) (at : ℕ) (s : Shape) (some : 0 < per_list geo) where
  keeps-address : {A : Type 0} (k : ℕ) (f : ℕ → Act A) → ((a : ℕ) → Keeps geo (f a)) → Keeps geo (at_address geo at k f)
  unfolding at_address
  keeps-address k f p = keeps-read geo (λ x. f (address_at geo.order at k x)) (λ x. p (address_at geo.order at k x))

  keeps-direct : (keep held : ℕ) → Keeps geo (shrink_direct geo at s keep held)
  unfolding shrink_direct
  keeps-direct keep held = keeps-each geo _ (λ i h. keeps-address i (λ a. free_tree geo s 0 a i h) (λ a. keeps-tree geo s 0 a i h)) (12 - keep) keep held

  keeps_low : (keep held : ℕ) → keep < zone_start (per_list geo) 2 → Keeps geo (shrink_low geo at s keep held)
  unfolding shrink_low
  keeps_low keep held l start img st =
      always-choose (ltb keep (zone_start (per_list geo) 1))
      (λ e. keeps-bind geo (keeps-address 12 (λ a. free_tree geo s 1 a 0 held) (λ a. keeps-tree geo s 1 a 0 held)) (keeps-direct keep) start img st)
      (λ e. keeps-address 12 (λ a. shrink_list geo s a (zone_start (per_list geo) 1) (keep - zone_start (per_list geo) 1) held)
      (λ a. keeps-shrink-list geo s a (zone_start (per_list geo) 1) (keep - zone_start (per_list geo) 1) held (rw (start-one (per_list geo)) (first-room geo keep l))) start img st)

  keeps-mid : (keep held : ℕ) → keep < zone_start (per_list geo) 3 → Keeps geo (shrink_mid geo at s keep held)
  unfolding shrink_mid
  keeps-mid keep held l start img st =
      always-choose (ltb keep (zone_start (per_list geo) 2))
      (λ e. keeps-bind geo (keeps-address 13 (λ a. free_tree geo s 2 a 0 held) (λ a. keeps-tree geo s 2 a 0 held)) (λ h. keeps_low keep h (ltb-true _ _ e)) start img st)
      (λ e. keeps-address 13 (λ a. shrink_lists geo s a (zone_start (per_list geo) 2) (keep - zone_start (per_list geo) 2) held)
      (λ a. keeps-shrink-lists geo s a (zone_start (per_list geo) 2) (keep - zone_start (per_list geo) 2) held some (second-room (ltb-false _ _ e))) start img st)
    where
      second-room : zone_start (per_list geo) 2 ≤ keep → keep - zone_start (per_list geo) 2 < per_list geo * per_list geo
      second-room r = rw (start-two (per_list geo)) (third_starts geo keep (per_list geo ^ 1) refl l (rw (start-two (per_list geo)) at r))

  pub keeps-shrink : (keep : ℕ) → keep < zone_start (per_list geo) 3 → Keeps geo (shrink geo at s keep)
  unfolding shrink
  keeps-shrink keep l = keeps-bind geo (keeps-address 14 (λ a. free_tree geo s 3 a 0 s.blocks) (λ a. keeps-tree geo s 3 a 0 s.blocks)) (λ h. keeps-mid keep h l)
