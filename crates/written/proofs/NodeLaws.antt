-- Laws of the places in a file's tree: parents and children, and what a store does to the addresses there. Assumes nothing.
use mathlib.Core.Path.{◌≡◌, refl, sym, ap, subst, ◌∙◌}
use mathlib.Core.List.{List}
use mathlib.Core.Logic.{◌⊎◌, inl, inr, ⊎_elim}
use Prim.Native.Nat.{ℕ, zero, suc, ◌+◌, ◌*◌, ◌/◌, ◌%◌, ◌^◌, ◌≤◌, ◌<◌}
use native.Mathlib.Nat.{mul-le-mul, le_refl, mod-lt, div-lt_iff_lt-mul, pow-suc, pow-zero, div-add-mod', mul-add-div_right, mul-add-mod_self_right, div-eq_of_lt, mod-eq_of_lt}
use native.Mathlib.Omega.{arith}
use native.Mathlib.Decide.{ℕ_discrete}
use borrow.Author.Tests.{eq-eqb, ne_eqb, lt-ltb, le-ltb}
use Rattle.volume.specs.declared.Geometry.{Geometry}
use Rattle.inode.specs.Size.{held_at}
use Rattle.mapping.specs.Mapping.{per_list, entry_at}
use Rattle.written.specs.Own.{Pos, levels, Valid, child, node, node_at, block_index, bytes_of, length_at}

abbrev pub pos : ℕ → ℕ → ℕ → Pos
pos r d q = record { root = r; depth = d; slot = q }

pub pos_dec : (c d : Pos) → Dec (c ≡ d)
pos_dec c d = go (ℕ_discrete c.root d.root) (ℕ_discrete c.depth d.depth) (ℕ_discrete c.slot d.slot)
  where
    go : Dec (c.root ≡ d.root) → Dec (c.depth ≡ d.depth) → Dec (c.slot ≡ d.slot) → Dec (c ≡ d)
    go (yes a) (yes b) (yes e) = yes (λ i. record { root = a i; depth = b i; slot = e i })
    go (no a) y z = no (λ h. a (ap (λ (x : Pos). x.root) h))
    go (yes a) (no b) z = no (λ h. b (ap (λ (x : Pos). x.depth) h))
    go (yes a) (yes b) (no e) = no (λ h. e (ap (λ (x : Pos). x.slot) h))

-- a list, or data
abbrev pub IsList : Pos → Type 0
IsList c = c.depth < levels c.root

abbrev pub IsData : Pos → Type 0
IsData c = c.depth ≡ levels c.root

pub length_list : (geo : Geometry) (size : ℕ) (c : Pos) → IsList c → length_at geo size c ≡ geo.bsize
unfolding length_at
length_list geo size c l = rw (lt-ltb _ _ l)

pub length_data : (geo : Geometry) (size : ℕ) (c : Pos) → IsData c → length_at geo size c ≡ bytes_of (held_at geo size (block_index (per_list geo) c.root c.slot))
unfolding length_at
length_data geo size c e = rw (le-ltb c.depth (levels c.root) (omega (arith, e)))

module _ (geo : Geometry) (img : List ℕ) where
  pub child-none : {a : ℕ} (i : ℕ) → a ≡ 0 → child geo img a i ≡ 0
  child-none {a} i e = rw (eq-eqb a 0 e)

  pub child-some : {a : ℕ} (i : ℕ) → (a ≡ 0 → ⊥) → child geo img a i ≡ entry_at geo img a i
  child-some {a} i n = rw (ne_eqb a 0 n)

  pub node-top : (t q : ℕ) → node geo img t 0 q ≡ t
  unfolding node
  node-top t q = refl

  pub node-next : (t d q : ℕ) → node geo img t (suc d) q ≡ child geo img (node geo img t d (q / per_list geo)) (q % per_list geo)
  unfolding node
  node-next t d q = refl

-- ---- parents and children

module _ (p q i : ℕ) (l : i < p) where
  pub over-is : (q * p + i) / p ≡ q
  over-is = mul-add-div_right (omega arith) q i ∙ ap (λ (x : ℕ). q + x) (div-eq_of_lt l) ∙ omega arith

  pub under-is : (q * p + i) % p ≡ i
  under-is = mul-add-mod_self_right q p i ∙ mod-eq_of_lt l

pub split-is : (p q : ℕ) → q ≡ q / p * p + q % p
split-is p q = sym (div-add-mod' q p)

pub below-next : (p d q i : ℕ) → q < p ^ d → i < p → q * p + i < p ^ suc d
below-next p d q i a b =
    let m : suc q ≤ p ^ d = omega arith in
    let e : p ^ suc d ≡ p ^ d * p = pow-suc p d in
    let s = mul-le-mul m (le_refl p) in
    let t : suc q * p ≡ q * p + p = omega arith in
    omega (arith, e, s, t)

module _ (geo : Geometry) (some : 0 < per_list geo) where
  pub parent-valid : (r d q : ℕ) → Valid geo (pos r (suc d) q) → Valid geo (pos r d (q / per_list geo)) × (q % per_list geo < per_list geo)
  parent-valid r d q v =
      (record { root = v.root; depth = omega (arith, v.depth); slot = (div-lt_iff_lt-mul {k = per_list geo} some).1 (rw (pow-suc (per_list geo) d) at v.slot) }, mod-lt q some)

  pub child-valid : (r d q i : ℕ) → Valid geo (pos r d q) → d < levels r → i < per_list geo → Valid geo (pos r (suc d) (q * per_list geo + i))
  child-valid r d q i v l b = record { root = v.root; depth = omega arith; slot = below-next (per_list geo) d q i v.slot b }

  pub child-node : (img : List ℕ) (t d q i : ℕ) → i < per_list geo → node geo img t (suc d) (q * per_list geo + i) ≡ child geo img (node geo img t d q) i
  child-node img t d q i b =
      node-next geo img t d (q * per_list geo + i)
      ∙ ap (λ (x : ℕ). child geo img (node geo img t d x) ((q * per_list geo + i) % per_list geo)) (over-is (per_list geo) q i b)
      ∙ ap (λ (x : ℕ). child geo img (node geo img t d q) x) (under-is (per_list geo) q i b)

-- ---- two images, and two rows of roots, that differ by one place more

module _ (geo : Geometry) (some : 0 < per_list geo) (top above : ℕ → ℕ) (xs ys : List ℕ) (new : Pos) (e : ℕ)
    -- a root is as it was, or the new place
    (base : (k : ℕ) → k < 15 → (above k ≡ top k) ⊎ ((pos k 0 0 ≡ new) × (above k ≡ e)))
    -- an address in a list is as it was, or the new place
    (step : (c : Pos) → Valid geo c → IsList c → (node_at geo xs top c ≡ 0 → ⊥) → (i : ℕ) → i < per_list geo
    → (entry_at geo ys (node_at geo xs top c) i ≡ entry_at geo xs (node_at geo xs top c) i) ⊎ ((pos c.root (suc c.depth) (c.slot * per_list geo + i) ≡ new) × (entry_at geo ys (node_at geo xs top c) i ≡ e)))
    -- there was a hole, and what the new place holds leads nowhere
    (before : Valid geo new → node_at geo xs top new ≡ 0)
    (nowhere : Valid geo new → IsList new → (i : ℕ) → i < per_list geo → entry_at geo ys e i ≡ 0) where
  abbrev pub Grown : Pos → Type 0
  Grown c = (node_at geo ys above c ≡ node_at geo xs top c) ⊎ ((c ≡ new) × (node_at geo ys above c ≡ e))

  grown-under : (r d q : ℕ) → Valid geo (pos r (suc d) q) → Grown (pos r d (q / per_list geo)) → Grown (pos r (suc d) q)
  grown-under r d q v ih = go ih (ℕ_discrete (node geo xs (top r) d (q / per_list geo)) 0) (ℕ_discrete e 0)
    where
      pv : Valid geo (pos r d (q / per_list geo)) × (q % per_list geo < per_list geo)
      pv = parent-valid geo some r d q v

      old : node geo xs (top r) (suc d) q ≡ child geo xs (node geo xs (top r) d (q / per_list geo)) (q % per_list geo)
      old = node-next geo xs (top r) d q

      then : node geo ys (above r) (suc d) q ≡ child geo ys (node geo ys (above r) d (q / per_list geo)) (q % per_list geo)
      then = node-next geo ys (above r) d q

      kin : IsList (pos r d (q / per_list geo))
      kin = omega (arith, v.depth)

      -- below the new place
      nil : pos r d (q / per_list geo) ≡ new → node geo xs (top r) (suc d) q ≡ 0
      nil h = old ∙ child-none geo xs (q % per_list geo) (ap (node_at geo xs top) h ∙ before (subst (Valid geo) h pv.0))

      go : Grown (pos r d (q / per_list geo)) → Dec (node geo xs (top r) d (q / per_list geo) ≡ 0) → Dec (e ≡ 0) → Grown (pos r (suc d) q)
      go (inl s) (yes z) w = inl (then ∙ child-none geo ys (q % per_list geo) (s ∙ z) ∙ sym (child-none geo xs (q % per_list geo) z) ∙ sym old)
      go (inl s) (no n) w = by (step (pos r d (q / per_list geo)) pv.0 kin n (q % per_list geo) pv.1)
        where
          there : node geo ys (above r) (suc d) q ≡ entry_at geo ys (node geo xs (top r) d (q / per_list geo)) (q % per_list geo)
          there = then ∙ ap (λ (x : ℕ). child geo ys x (q % per_list geo)) s ∙ child-some geo ys (q % per_list geo) n

          by : (entry_at geo ys (node geo xs (top r) d (q / per_list geo)) (q % per_list geo) ≡ entry_at geo xs (node geo xs (top r) d (q / per_list geo)) (q % per_list geo))
              ⊎ ((pos r (suc d) (q / per_list geo * per_list geo + q % per_list geo) ≡ new) × (entry_at geo ys (node geo xs (top r) d (q / per_list geo)) (q % per_list geo) ≡ e)) → Grown (pos r (suc d) q)
          by (inl t) = inl (there ∙ t ∙ sym (child-some geo xs (q % per_list geo) n) ∙ sym old)
          by (inr t) = inr (ap (pos r (suc d)) (split-is (per_list geo) q) ∙ t.0, there ∙ t.1)
      go (inr h) z (yes w) = inl (then ∙ child-none geo ys (q % per_list geo) (h.1 ∙ w) ∙ sym (nil h.0))
      go (inr h) z (no w) =
          inl
          (then ∙ ap (λ (x : ℕ). child geo ys x (q % per_list geo)) h.1 ∙ child-some geo ys (q % per_list geo) w
          ∙ nowhere (subst (Valid geo) h.0 pv.0) (subst IsList h.0 kin) (q % per_list geo) pv.1
          ∙ sym (nil h.0))

  pub grown : (r d q : ℕ) → Valid geo (pos r d q) → Grown (pos r d q)
  grown r zero q v =
      let z : q ≡ 0 = (let s = rw (pow-zero (per_list geo)) at v.slot in omega arith) in
      ⊎_elim (λ s. inl (node-top geo ys (above r) q ∙ s ∙ sym (node-top geo xs (top r) q)))
      (λ h. inr (ap (pos r 0) z ∙ h.0, node-top geo ys (above r) q ∙ h.1)) (base r v.root)
  grown r (suc d) q v = grown-under r d q v (grown r d (q / per_list geo) (parent-valid geo some r d q v).0)
