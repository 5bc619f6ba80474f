-- Laws of the mapping: its cases, and where a list's entries stand. Assumes nothing.
use mathlib.Core.Path.{◌≡◌, refl, ap, ◌∙◌}
use mathlib.Core.Bool.{Bool, true, false}
use mathlib.Core.List.{List}
use Prim.Native.Nat.{ℕ, zero, suc, ◌+◌, ◌-◌, ◌*◌, ◌/◌, ◌%◌, ◌<◌, ◌≤◌, ◌^◌}
use native.Mathlib.Nat.{mul_comm}
use native.Mathlib.Omega.{arith}
use lib.ListN.{length}
use borrow.Author.Tests.{eq-eqb, ne_eqb}
use Rattle.volume.specs.declared.Geometry.{Geometry}
use Rattle.frame.specs.Frame.{Frame}
use Rattle.frame.proofs.Places.{run_is, run_inside}
use Rattle.inode.proofs.SizeLaws.{units}
use Rattle.mapping.specs.declared.Mapped.TheVariants.{At, Hole, Bad, Past}
use Rattle.volume.specs.declared.BlockIdx.{BlockIdx}
use Rattle.inode.specs.Shape.{address_at}
use Rattle.mapping.specs.declared.Place.TheVariants as Place
use Rattle.mapping.specs.Zones.{place_of}
use Rattle.mapping.specs.Mapping.{per_list, list_ok, down_by, down, mapped}

pred_suc : (l : ℕ) → suc l - 1 ≡ l
pred_suc l = omega arith

-- ---- the cases, over what is a list and what stands in it

module _ (ok : ℕ → Bool) (entry : ℕ → ℕ → ℕ) (p : ℕ) where
  pub down-hole : (l a x : ℕ) → a ≡ 0 → Hole ≡ down_by ok entry p l a x
  unfolding down_by
  down-hole zero a x e = simp (eq-eqb _ _ e)
  down-hole (suc l) a x e = simp (eq-eqb _ _ e)

  pub down-at : (l a x : ℕ) → (a ≡ 0 → ⊥) → l ≡ 0 → At (record { 0 = a }) ≡ down_by ok entry p l a x
  unfolding down_by
  down-at zero a x ne z = simp (ne_eqb _ _ ne)
  down-at (suc l) a x ne z = let f : ⊥ = omega arith in absurd f

  pub down-bad : (l a x : ℕ) → (a ≡ 0 → ⊥) → (l ≡ 0 → ⊥) → ok a ≡ false → Bad ≡ down_by ok entry p l a x
  unfolding down_by
  down-bad zero a x ne nz e = absurd (nz refl)
  down-bad (suc l) a x ne nz e = simp (ne_eqb _ _ ne, e)

  pub down-list : (l a x each next : ℕ) → (a ≡ 0 → ⊥) → (l ≡ 0 → ⊥) → ok a ≡ true → each ≡ p ^ (l - 1) → next ≡ entry a (x / each)
      → down_by ok entry p (l - 1) next (x % each) ≡ down_by ok entry p l a x
  unfolding down_by
  down-list zero a x each next ne nz e q r = absurd (nz refl)
  down-list (suc l) a x each next ne nz e q r = rw (r, q, pred_suc l) (simp (ne_eqb _ _ ne, e))

-- ---- lists of a volume

module _ (geo : Geometry) (img : List ℕ) (fr : Frame geo img) where
  pub per-is : per_list geo ≡ geo.bsize / 8
  unfolding per_list
  per-is = refl

  pub per-some : 0 < per_list geo
  unfolding per_list
  per-some = let u = units geo fr.sizes in omega (arith, u.block)

  pub per-most : per_list geo ≤ 8192
  unfolding per_list
  per-most = let u = units geo fr.sizes in omega (arith, u.block_top)

  -- an entry of a list lies in the image
  pub entry-inside : (a slot : ℕ) → list_ok geo img a ≡ true → slot < per_list geo → a * geo.fsize + slot * 8 + 8 ≤ length img
  entry-inside a slot h l =
      let u = units geo fr.sizes in
      let r = run_inside geo img fr a geo.frag (run_is geo img a geo.frag h) in
      omega (arith, r, mul_comm geo.frag geo.fsize, u.frags, rw per-is at l)

  pub list_inside : (a : ℕ) → list_ok geo img a ≡ true → a * geo.fsize ≤ 1073741824
  list_inside a h =
      let r = run_inside geo img fr a geo.frag (run_is geo img a geo.frag h) in
      omega (arith, r, fr.laid.high)

-- ---- from the record

module _ (geo : Geometry) (at : ℕ) (img : List ℕ) (i p : ℕ) (e : p ≡ per_list geo) where
  pub mapped-under : (root level : ℕ) {rest : BlockIdx} → Place.Under root level rest ≡ place_of p i → (a : ℕ) → a ≡ address_at geo.order at root img
      → down geo img level a rest.0 ≡ mapped geo at img i
  unfolding mapped
  mapped-under root level h a q = let f = h ∙ ap (λ (p : ℕ). place_of p i) e in rw (q, ← f)

  pub mapped-past : Place.Past ≡ place_of p i → Past ≡ mapped geo at img i
  unfolding mapped
  mapped-past h = let f = h ∙ ap (λ (p : ℕ). place_of p i) e in rw (← f)
