-- Laws of the record that truncating stores, and of its work. Assumes nothing.
use mathlib.Core.Path.{◌≡◌, refl, sym, ap, subst, ◌∙◌}
use mathlib.Core.Bool.{Bool, true, false}
use mathlib.Core.List.{List, [], ◌∷◌}
use Prim.Native.Nat.{ℕ, ◌+◌, ◌-◌, ◌*◌, ◌^◌, ◌≤◌, ◌<◌}
use native.Mathlib.Omega.{arith}
use lib.ListN.{length}
use lib.Dec.{ltb}
use borrow.Author.Tests.{lt-ltb, le-ltb}
use Rattle.field.specs.Field.{put, zeros}
use Rattle.refusal.specs.declared.Refusal.{Refusal}
use Rattle.store.specs.Store.{Store, apply}
use Rattle.store.specs.Act.{Out, got, refused, Act, store, ◌>>=◌, choose, Left, leaves}
use Rattle.store.proofs.StoreLaws.{apply_append, apply-one}
use Rattle.store.proofs.ActLaws.{step-good, step-bad, leaves-store, choose-yes, choose_no}
use Rattle.volume.specs.declared.Geometry.{Geometry}
use Rattle.inode.specs.declared.Shape.{Shape}
use Rattle.inode.specs.Places.{size_write, blocks_write}
use Rattle.mapping.specs.Zones.{zone_start}
use Rattle.mapping.specs.Mapping.{per_list}
use Rattle.mapping.proofs.ZoneLaws.{start-one, start-two}
use Rattle.inode_truncate.specs.Truncate.{keep_of, shrink, first_gone, gone_write, shrunk_store, truncate_work}

module _ (geo : Geometry) (keep : ℕ) where
  pub gone-direct : keep < 12 → keep ≡ first_gone geo keep
  unfolding first_gone
  gone-direct l = rw (start-one (per_list geo)) (simp (lt-ltb keep 12 l))

  pub gone-second : (n : ℕ) → n ≡ per_list geo ^ 1 → 12 ≤ keep → keep < 12 + n → 13 ≡ first_gone geo keep
  unfolding first_gone
  gone-second n e a l = rw (start-one (per_list geo), start-two (per_list geo)) (simp (le-ltb keep 12 a, lt-ltb keep (12 + per_list geo ^ 1) (rw e at l)))

  pub gone-third : (n : ℕ) → n ≡ per_list geo ^ 1 → 12 ≤ keep → 12 + n ≤ keep → 14 ≡ first_gone geo keep
  unfolding first_gone
  gone-third n e a l = rw (start-one (per_list geo), start-two (per_list geo)) (simp (le-ltb keep 12 a, le-ltb keep (12 + per_list geo ^ 1) (rw e at l)))

-- the three writes, one after another
pub shrunk-apply : (geo : Geometry) (at new held k : ℕ) → k ≡ first_gone geo (keep_of geo new) → (x y z img : List ℕ) → x ≡ apply (size_write geo.order at new ∷ []) img → y ≡ apply (blocks_write geo.order at held ∷ []) x
    → z ≡ put (at + 112 + k * 8) (zeros ((15 - k) * 8)) y → z ≡ apply (shrunk_store geo at new held) img
unfolding shrunk_store gone_write
shrunk-apply geo at new held k e x y z img ex ey ez =
    ez ∙ sym (apply-one _ y)
    ∙ ap (λ (j : ℕ). apply (record { at = at + 112 + j * 8; bytes = zeros ((15 - j) * 8) } ∷ []) y) e
    ∙ ap (apply _) (ey ∙ ap (apply (blocks_write geo.order at held ∷ [])) ex)
    ∙ sym (apply_append (size_write geo.order at new ∷ []) _ img ∙ apply_append (blocks_write geo.order at held ∷ []) _ (apply (size_write geo.order at new ∷ []) img))

-- ---- the work

module _ (geo : Geometry) (at : ℕ) (s : Shape) (new : ℕ) (img : List ℕ) where
  module _ (l : new < s.size) {x : List ℕ} {o : Out ℕ} (r : (x, o) ≡ leaves (shrink geo at s (keep_of geo new)) img) where
    pub work-refused : {e : Refusal} → o ≡ refused e → ◌≡◌ {A = Left (Unit {0})} (x, refused e) (leaves (truncate_work geo at s new) img)
    unfolding truncate_work
    work-refused q = step-bad (shrink geo at s (keep_of geo new)) _ img r q ∙ choose-yes _ _ img (lt-ltb new s.size l)

    pub work-done : {h : ℕ} → o ≡ got h → {y : List ℕ} → y ≡ apply (shrunk_store geo at new h) x → ◌≡◌ {A = Left (Unit {0})} (y, got (tt {0})) (leaves (truncate_work geo at s new) img)
    unfolding truncate_work
    work-done {h} q e = rw e (leaves-store (shrunk_store geo at new h) x) ∙ step-good (shrink geo at s (keep_of geo new)) _ img r q ∙ choose-yes _ _ img (lt-ltb new s.size l)

  pub work-grown : s.size ≤ new → {y : List ℕ} → y ≡ apply (size_write geo.order at new ∷ []) img → ◌≡◌ {A = Left (Unit {0})} (y, got (tt {0})) (leaves (truncate_work geo at s new) img)
  unfolding truncate_work
  work-grown l e = rw e (leaves-store (size_write geo.order at new ∷ []) img) ∙ choose_no _ _ img (le-ltb new s.size l)
