-- Laws of the public call: its tests, and what it then leaves. Assumes nothing.
use Rattle.std.specs.Prelude.{Result, Ok, Err}
use mathlib.Core.Path.{◌≡◌, refl, sym, ap, ◌∙◌}
use mathlib.Core.Bool.{Bool, true, false, not, ◌&&◌}
use mathlib.Core.List.{List}
use Prim.Native.Nat.{ℕ, ◌+◌, ◌^◌, ◌≤◌, ◌<◌}
use native.Mathlib.Omega.{arith}
use lib.Dec.{ltb, leb}
use borrow.Author.Tests.{lt-ltb, le-ltb, le-leb, lt-leb, ltb-true}
use Rattle.refusal.specs.declared.Refusal.{Refusal}
use Rattle.refusal.specs.declared.Refusal.TheVariants.{Invalid, TooBig, NotSupported, Damaged, ReadOnly}
use Rattle.store.specs.Act.{Out, got, refused, Act, Left, leaves}
use Rattle.store.proofs.StoreLaws.{apply_all-none}
use Rattle.store.proofs.ActLaws.{leaves-refuse}
use Rattle.volume.specs.declared.Geometry.{Geometry}
use Rattle.volume.specs.declared.Volume.{Volume}
use Rattle.sound.specs.Test.{taken_of}
use Rattle.inode.specs.declared.Shape.{Shape}
use Rattle.inode.specs.Shape.{in_place}
use Rattle.mapping.specs.Zones.{zone_start}
use Rattle.mapping.specs.Mapping.{per_list}
use Rattle.mapping.proofs.ZoneLaws.{start-three}
use Rattle.inode_run.specs.declared.Spot.{Spot}
use Rattle.inode_run.specs.Find.{find_inode}
use Rattle.balloc.specs.Calls.{writing}
use Rattle.balloc.proofs.CallLaws.{when-unsound, when-read-only, when-taken}
use Rattle.inode_grow.specs.Grow.{zones_bytes, grow_rule}
use Rattle.inode_truncate.specs.Truncate.{keep_of, truncate_work, truncated_out}
use Rattle.truncate.specs.Call.{truncate_judged, judged_work, truncate_for, inode_truncate}
use Rattle.refusal.specs.Refusal.{damage}

pub third_is : (geo : Geometry) (a b k new : ℕ) → a ≡ per_list geo ^ 1 → b ≡ per_list geo ^ 2 → k ≡ keep_of geo new → ltb k (12 + a + b) ≡ ltb (keep_of geo new) (zone_start (per_list geo) 3)
third_is geo a b k new ea eb e = rw (ea, eb, e, start-three (per_list geo))

-- ---- the tests

module _ (geo : Geometry) (at : ℕ) (s : Shape) (new : ℕ) (img : List ℕ) where
  pub judge-text : (in_place s && ltb new s.size) ≡ true → refused Invalid ≡ truncate_judged geo at s new img
  unfolding truncate_judged
  judge-text h = rw h

  module _ (h : (in_place s && ltb new s.size) ≡ false) where
    pub judge-far : zones_bytes geo < new → refused TooBig ≡ truncate_judged geo at s new img
    unfolding truncate_judged
    judge-far l = rw (h, lt-leb new (zones_bytes geo) l)

    module _ (l : new ≤ zones_bytes geo) where
      pub judge-shrinks : new < s.size → ltb (keep_of geo new) (zone_start (per_list geo) 3) ≡ true → got (tt {0}) ≡ truncate_judged geo at s new img
      unfolding truncate_judged
      judge-shrinks r k = rw (h, le-leb new (zones_bytes geo) l, lt-ltb new s.size r, k)

      pub judge-triple : new < s.size → ltb (keep_of geo new) (zone_start (per_list geo) 3) ≡ false → refused NotSupported ≡ truncate_judged geo at s new img
      unfolding truncate_judged
      judge-triple r k = rw (h, le-leb new (zones_bytes geo) l, lt-ltb new s.size r, k)

      pub judge-grows : s.size ≤ new → grow_rule geo at s new img ≡ truncate_judged geo at s new img
      unfolding truncate_judged
      judge-grows r = rw (h, le-leb new (zones_bytes geo) l, le-ltb new s.size r)

  -- what a passed test says of the work
  pub judged-keep : truncate_judged geo at s new img ≡ got (tt {0}) → new < s.size → keep_of geo new < zone_start (per_list geo) 3
  unfolding truncate_judged
  judged-keep e l = by (in_place s && ltb new s.size) refl (leb new (zones_bytes geo)) refl (ltb (keep_of geo new) (zone_start (per_list geo) 3)) refl where
    by : (a : Bool) → (in_place s && ltb new s.size) ≡ a → (b : Bool) → leb new (zones_bytes geo) ≡ b → (d : Bool) → ltb (keep_of geo new) (zone_start (per_list geo) 3) ≡ d → keep_of geo new < zone_start (per_list geo) 3
    by a p b q true r = ltb-true _ _ r
    by true p b q false r = absurd (let f = rw p at e in let z : ◌≡◌ {A = ℕ} 0 1 = cc in let y : ⊥ = omega arith in y)
    by false p true q false r = absurd (let f = rw (p, q, lt-ltb new s.size l, r) at e in let z : ◌≡◌ {A = ℕ} 0 1 = cc in let y : ⊥ = omega arith in y)
    by false p false q false r = absurd (let f = rw (p, q) at e in let z : ◌≡◌ {A = ℕ} 0 1 = cc in let y : ⊥ = omega arith in y)

  -- ---- what is left

  pub found_no : {e : Refusal} → truncate_judged geo at s new img ≡ refused e → ◌≡◌ {A = Left (Unit {0})} (img, refused e) (leaves (judged_work geo at s new) img)
  unfolding judged_work leaves
  found_no {e} h = rw h (leaves-refuse e img)

  pub found-yes : truncate_judged geo at s new img ≡ got (tt {0}) → leaves (truncate_work geo at s new) img ≡ leaves (judged_work geo at s new) img
  unfolding judged_work leaves
  found-yes h = rw h

find_no : (geo : Geometry) (i new : ℕ) (img : List ℕ) (e : Refusal) → find_inode geo img i ≡ refused e → ◌≡◌ {A = Left (Unit {0})} (img, refused e) (leaves (truncate_for geo i new) img)
unfolding truncate_for leaves
find_no geo i new img e h = rw h (leaves-refuse e img)

find-yes : (geo : Geometry) (i new : ℕ) (img : List ℕ) (s : Spot) → find_inode geo img i ≡ got s → leaves (judged_work geo s.at s.shape new) img ≡ leaves (truncate_for geo i new) img
unfolding truncate_for leaves
find-yes geo i new img s h = rw h

module _ (vol : Volume) (i new : ℕ) (img : List ℕ) where
  pub call-unsound : taken_of img ≡ Err damage → ◌≡◌ {A = Left (Unit {0})} (img, refused Damaged) (leaves (inode_truncate vol i new) img)
  unfolding inode_truncate leaves
  call-unsound e = rw (when-unsound vol (λ geo. truncate_for geo i new) img e, apply_all-none img)

  module _ (geo : Geometry) (t : taken_of img ≡ Ok geo) where
    pub call-read-only : vol.writable ≡ false → ◌≡◌ {A = Left (Unit {0})} (img, refused ReadOnly) (leaves (inode_truncate vol i new) img)
    unfolding inode_truncate leaves
    call-read-only w = rw (when-read-only vol (λ geo. truncate_for geo i new) img geo t w, apply_all-none img)

    module _ (w : vol.writable ≡ true) where
      taken : leaves (truncate_for geo i new) img ≡ leaves (inode_truncate vol i new) img
      unfolding inode_truncate leaves
      taken = rw (when-taken vol (λ geo. truncate_for geo i new) img geo t w)

      pub call-no : {e : Refusal} → find_inode geo img i ≡ refused e → ◌≡◌ {A = Left (Unit {0})} (img, refused e) (leaves (inode_truncate vol i new) img)
      call-no {e} h = find_no geo i new img e h ∙ taken

      pub call-found : (s : Spot) → find_inode geo img i ≡ got s → leaves (judged_work geo s.at s.shape new) img ≡ leaves (inode_truncate vol i new) img
      call-found s h = find-yes geo i new img s h ∙ taken

-- ---- answers that meet the promise coincide

pub truncated_same : (a b : Result (Unit {0}) Refusal) → truncated_out a ≡ truncated_out b → a ≡ b
truncated_same (Ok u) (Ok v) e = refl
truncated_same (Ok u) (Err f) e = absurd (let z : ◌≡◌ {A = ℕ} 0 1 = cc in let y : ⊥ = omega arith in y)
truncated_same (Err f) (Ok u) e = absurd (let z : ◌≡◌ {A = ℕ} 0 1 = cc in let y : ⊥ = omega arith in y)
truncated_same (Err e) (Err f) q = cc
