-- What the mapping says of an index, and the file's byte there, by the place in the file's tree. Assumes nothing.
use Rattle.std.specs.Prelude.{Option, Some}
use mathlib.Core.Path.{◌≡◌, refl, sym, ap, subst, ◌∙◌}
use mathlib.Core.Bool.{Bool, true, false, ◌||◌}
use mathlib.Core.List.{List}
use mathlib.Core.Logic.{⊎_elim}
use Prim.Native.Nat.{ℕ, zero, suc, ◌+◌, ◌-◌, ◌*◌, ◌/◌, ◌%◌, ◌^◌, ◌<◌}
use native.Mathlib.Nat.{mul_comm, pow-suc, pow-zero, mul-one, zero-mul, mod-lt, div-add-mod', one-le-pow, div-lt_iff_lt-mul}
use native.Mathlib.Omega.{arith}
use native.Mathlib.Decide.{ℕ_discrete}
use lib.ListN.{get_or}
use lib.Dec.{eqb, leb}
use borrow.Author.Tests.{eq-eqb, ne_eqb, lt-ltb, le-leb}
use Rattle.volume.specs.declared.Geometry.{Geometry}
use Rattle.volume.specs.declared.BlockIdx.{BlockIdx}
use Rattle.sound.specs.Clauses.{reserved_from}
use Rattle.frame.specs.Frame.{Frame, RunOk, place_okb, run_okb}
use Rattle.inode.specs.Size.{pick, held_at}
use Rattle.mapping.specs.declared.Place.{Place}
use Rattle.mapping.specs.declared.Place.TheVariants as Place
use Rattle.mapping.specs.declared.Mapped.{Mapped}
use Rattle.mapping.specs.declared.Mapped.TheVariants as Mapped
use Rattle.mapping.specs.Zones.{place_of}
use Rattle.mapping.specs.Mapping.{per_list, entry_at, list_ok, down, mapped}
use Rattle.mapping.proofs.MappingLaws.{per-some, down-hole, down-at, down-list, mapped-under, mapped-past}
use Rattle.mapping.proofs.ZoneLaws.{under_good}
use Rattle.inode_run.specs.declared.Run.{Run}
use Rattle.inode_run.specs.declared.Run.TheVariants as Run
use Rattle.inode_run.specs.Run.{run_for, run_at, byte_in}
use Rattle.inode_run.proofs.RunLaws.{run-at-is, run-good}
use Rattle.written.specs.Own.{Pos, levels, Valid, child, node, node_at, addresses, block_index, bytes_of, length_at, Claims, Own}
use Rattle.written.proofs.NodeLaws.{pos, IsData, child-none, child-some, child-node, child-valid, node-top, length_data}
use Rattle.written.proofs.ClaimLaws.{list-run}
use Rattle.written.proofs.SetOwn.{over-place}
use Rattle.written.proofs.IndexLaws.{place_level, index_back}

-- a run passes its test
pub run-yes : (geo : Geometry) (img : List ℕ) (a n : ℕ) → RunOk geo img a n → run_okb geo img a n ≡ true
unfolding run_okb place_okb
run-yes geo img a n r =
    rw (lt-ltb _ _ r.group, le-leb _ _ r.within)
    (⊎_elim (λ l. rw (le-leb (a % geo.fpg + n) (reserved_from geo (a / geo.fpg)) l) refl)
    (λ l. rw (le-leb geo.dblkno (a % geo.fpg) l) (or-true (leb (a % geo.fpg + n) (reserved_from geo (a / geo.fpg))))) r.apart)
  where
    or-true : (b : Bool) → (b || true) ≡ true
    or-true true = refl
    or-true false = refl

-- an address, or a hole
abbrev pub landing : ℕ → Mapped
landing a = pick (eqb a 0) Mapped.Hole (Mapped.At (record { 0 = a }))

landing_hole : (a : ℕ) → a ≡ 0 → landing a ≡ Mapped.Hole
landing_hole a z = rw (eq-eqb a 0 z) refl

pub landing_at : (a : ℕ) → (a ≡ 0 → ⊥) → landing a ≡ Mapped.At (record { 0 = a })
landing_at a n = rw (ne_eqb a 0 n) refl

module _ (geo : Geometry) (size : ℕ) (top : ℕ → ℕ) (img : List ℕ) (fr : Frame geo img) (own : Own geo size top img) where
  -- down from a place
  module _ (l r d q x : ℕ) (v : Valid geo (pos r d q)) (e : d + suc l ≡ levels r) (b : x < per_list geo ^ suc l) where
    abbrev s : ℕ
    s = x / per_list geo ^ l

    abbrev t : ℕ
    t = x % per_list geo ^ l

    some : 0 < per_list geo
    some = per-some geo img fr

    s-in : s < per_list geo
    s-in = let e = mul_comm (per_list geo ^ l) (per_list geo) in (div-lt_iff_lt-mul {k = per_list geo ^ l} (one-le-pow l (per_list geo) some)).1 (omega (arith, pow-suc (per_list geo) l, e, b))

    t-in : t < per_list geo ^ l
    t-in = mod-lt x (one-le-pow l (per_list geo) some)

    below : d < levels r
    below = omega (arith, e)

    next-valid : Valid geo (pos r (suc d) (q * per_list geo + s))
    next-valid = child-valid geo some r d q s v below s-in

    same : q * per_list geo ^ suc l + x ≡ (q * per_list geo + s) * per_list geo ^ l + t
    same = over-place q (per_list geo) s (per_list geo ^ l) (per_list geo ^ suc l) x t (pow-suc (per_list geo) l) (div-add-mod' x (per_list geo ^ l))

    down_step : down geo img l (node geo img (top r) (suc d) (q * per_list geo + s)) t ≡ landing (node geo img (top r) (levels r) ((q * per_list geo + s) * per_list geo ^ l + t))
        → down geo img (suc l) (node geo img (top r) d q) x ≡ landing (node geo img (top r) (levels r) (q * per_list geo ^ suc l + x))
    down_step ih = go (ℕ_discrete (node geo img (top r) d q) 0)
      where
        step : node geo img (top r) (suc d) (q * per_list geo + s) ≡ child geo img (node geo img (top r) d q) s
        step = child-node geo some img (top r) d q s s-in

        there : down geo img l (node geo img (top r) (suc d) (q * per_list geo + s)) t ≡ landing (node geo img (top r) (levels r) (q * per_list geo ^ suc l + x))
        there = ih ∙ ap (λ (n : ℕ). landing (node geo img (top r) (levels r) n)) (sym same)

        go : Dec (node geo img (top r) d q ≡ 0) → down geo img (suc l) (node geo img (top r) d q) x ≡ landing (node geo img (top r) (levels r) (q * per_list geo ^ suc l + x))
        go (yes z) =
            sym (down-hole (list_ok geo img) (entry_at geo img) (per_list geo) (suc l) (node geo img (top r) d q) x z)
            ∙ down-hole (list_ok geo img) (entry_at geo img) (per_list geo) l (node geo img (top r) (suc d) (q * per_list geo + s)) t (step ∙ child-none geo img s z) ∙ there
        go (no n) =
            let pred : suc l - 1 ≡ l = omega arith in
            let ok : list_ok geo img (node geo img (top r) d q) ≡ true = run-yes geo img (node geo img (top r) d q) geo.frag (list-run geo size top img fr own (pos r d q) v below n) in
            sym (down-list (list_ok geo img) (entry_at geo img) (per_list geo) (suc l) (node geo img (top r) d q) x (per_list geo ^ l) (node geo img (top r) (suc d) (q * per_list geo + s)) n (λ z. let f : ⊥ = omega arith in f) ok (ap (λ (k : ℕ). per_list geo ^ k) (sym pred)) (step ∙ child-some geo img s n))
            ∙ ap (λ (k : ℕ). down geo img k (node geo img (top r) (suc d) (q * per_list geo + s)) t) pred ∙ there

  pub down-node : (l r d q x : ℕ) → Valid geo (pos r d q) → d + l ≡ levels r → x < per_list geo ^ l → down geo img l (node geo img (top r) d q) x ≡ landing (node geo img (top r) (levels r) (q * per_list geo ^ l + x))
  down-node zero r d q x v e b =
      let one = pow-zero (per_list geo) in
      let z : q * per_list geo ^ 0 + x ≡ q = (let m = ap (λ (k : ℕ). q * k) one ∙ mul-one q in let c = rw one at b in omega (arith, m, c)) in
      let deep : d ≡ levels r = omega (arith, e) in
      go (ℕ_discrete (node geo img (top r) d q) 0) ∙ ap landing (ap (λ (k : ℕ). node geo img (top r) k q) deep ∙ ap (node geo img (top r) (levels r)) (sym z))
    where
      go : Dec (node geo img (top r) d q ≡ 0) → down geo img 0 (node geo img (top r) d q) x ≡ landing (node geo img (top r) d q)
      go (yes z) = sym (down-hole (list_ok geo img) (entry_at geo img) (per_list geo) 0 (node geo img (top r) d q) x z) ∙ rw (eq-eqb (node geo img (top r) d q) 0 z) refl
      go (no n) = sym (down-at (list_ok geo img) (entry_at geo img) (per_list geo) 0 (node geo img (top r) d q) x n refl) ∙ rw (ne_eqb (node geo img (top r) d q) 0 n) refl
  down-node (suc l) r d q x v e b =
      down_step l r d q x v e b (down-node l r (suc d) (q * per_list geo + s l r d q x v e b) (t l r d q x v e b) (next-valid l r d q x v e b) (omega (arith, e)) (t-in l r d q x v e b))

-- ---- an index

-- c is the place of the data block at index i
pub record Indexed (geo : Geometry) (i : ℕ) (c : Pos) : Type 0 where
  pub place : Place.Under c.root c.depth (record { 0 = c.slot }) ≡ place_of (per_list geo) i
  pub valid : Valid geo c
  pub leaf : IsData c
  pub index : block_index (per_list geo) c.root c.slot ≡ i

pub indexed : (geo : Geometry) (i root level : ℕ) (rest : BlockIdx) → Place.Under root level rest ≡ place_of (per_list geo) i → Indexed geo i (pos root level rest.0)
indexed geo i root level rest e =
    let g = under_good (per_list geo) i root level e in
    let f = place_level (per_list geo) i root level e in
    record { place = e; valid = record { root = g.0; depth = omega (arith, f.0); slot = g.2 }; leaf = f.0; index = f.1 }

-- one place, one index
pub index-same : (geo : Geometry) (i k : ℕ) (c d : Pos) → Indexed geo i c → Indexed geo k d → c ≡ d → i ≡ k
index-same geo i k c d p q e = sym p.index ∙ ap (λ (c : Pos). block_index (per_list geo) c.root c.slot) e ∙ q.index

-- byte k of the block at address v
abbrev pub content : Geometry → List ℕ → ℕ → ℕ → ℕ
content geo img v k = pick (eqb v 0) 0 (get_or img (v * geo.fsize + k) 0)

module _ (geo : Geometry) (size at : ℕ) (img : List ℕ) (fr : Frame geo img) (own : Own geo size (addresses geo at img) img) (i : ℕ) where
  module _ (c : Pos) (p : Indexed geo i c) where
    pub mapped-node : mapped geo at img i ≡ landing (node_at geo img (addresses geo at img) c)
    mapped-node =
        let r = c.root in
        let top = addresses geo at img in
        let one : Valid geo (pos r 0 0) = record { root = p.valid.root; depth = omega arith; slot = rw (pow-zero (per_list geo)) (omega arith) } in
        let z : 0 * per_list geo ^ c.depth + c.slot ≡ c.slot = (let y = zero-mul (per_list geo ^ c.depth) in omega (arith, y)) in
        sym (mapped-under geo at img i (per_list geo) refl r c.depth p.place (top r) refl)
        ∙ ap (λ (a : ℕ). down geo img c.depth a c.slot) (sym (node-top geo img (top r) 0))
        ∙ down-node geo size top img fr own c.depth r 0 0 c.slot one (omega (arith, p.leaf)) p.valid.slot
        ∙ ap landing (ap (λ (k : ℕ). node geo img (top r) k (0 * per_list geo ^ c.depth + c.slot)) (sym p.leaf) ∙ ap (node geo img (top r) c.depth) z)

    module _ (n : ℕ) (h : held_at geo size i ≡ Some n) where
      pub length-there : length_at geo size c ≡ n
      length-there = length_data geo size c p.leaf ∙ ap (λ (k : ℕ). bytes_of (held_at geo size k)) p.index ∙ ap bytes_of h

      abbrev run_is : run_at geo at size img i ≡ run_for geo img (Some n) (landing (node_at geo img (addresses geo at img) c))
      run_is = run-at-is geo at size img i ∙ ap (λ (x : Option ℕ). run_for geo img x (mapped geo at img i)) h ∙ ap (run_for geo img (Some n)) mapped-node

      pub run-hole : node_at geo img (addresses geo at img) c ≡ 0 → run_at geo at size img i ≡ Run.Hole n
      run-hole z = run_is ∙ ap (run_for geo img (Some n)) (landing_hole (node_at geo img (addresses geo at img) c) z)

      -- the first of its bytes is claimed
      pub data-claim : (node_at geo img (addresses geo at img) c ≡ 0 → ⊥) → (k : ℕ) → k < n → Claims geo size (addresses geo at img) img c (node_at geo img (addresses geo at img) c * geo.fsize + k)
      data-claim l k b = record { valid = p.valid; live = l; byte = (omega arith, omega (arith, length-there, b)) }

      pub run-there : (node_at geo img (addresses geo at img) c ≡ 0 → ⊥) → 0 < n → run_at geo at size img i ≡ Run.At (record { 0 = node_at geo img (addresses geo at img) c }) n
      run-there l b =
          let v = node_at geo img (addresses geo at img) c in
          let ok : RunOk geo img v (n / geo.fsize) = subst (λ (m : ℕ). RunOk geo img v (m / geo.fsize)) length-there (own.ok c (v * geo.fsize + 0) (data-claim l 0 b)) in
          run_is ∙ sym (run-good geo img n (landing v) (record { 0 = v }) (landing_at v l) (run-yes geo img v (n / geo.fsize) ok))

      -- byte k of the block
      pub byte-there : (k : ℕ) → k < n → byte_in geo img (run_at geo at size img i) k ≡ content geo img (node_at geo img (addresses geo at img) c) k
      byte-there k b = go (ℕ_discrete (node_at geo img (addresses geo at img) c) 0)
        where
          go : Dec (node_at geo img (addresses geo at img) c ≡ 0) → byte_in geo img (run_at geo at size img i) k ≡ content geo img (node_at geo img (addresses geo at img) c) k
          go (yes z) = ap (λ (r : Run). byte_in geo img r k) (run-hole z) ∙ rw (eq-eqb (node_at geo img (addresses geo at img) c) 0 z) refl
          go (no l) = ap (λ (r : Run). byte_in geo img r k) (run-there l (omega arith)) ∙ rw (ne_eqb (node_at geo img (addresses geo at img) c) 0 l) refl

  -- past the zones nothing is read
  pub run_past : Place.Past ≡ place_of (per_list geo) i → (n : ℕ) → held_at geo size i ≡ Some n → run_at geo at size img i ≡ Run.Bad
  run_past e n h = run-at-is geo at size img i ∙ ap (λ (x : Option ℕ). run_for geo img x (mapped geo at img i)) h ∙ ap (run_for geo img (Some n)) (sym (mapped-past geo at img i (per_list geo) refl e))

-- a place of data is that of its index
pub place_indexed : (geo : Geometry) (c : Pos) → Valid geo c → IsData c → Indexed geo (block_index (per_list geo) c.root c.slot) c
place_indexed geo c v e = record { place = index_back (per_list geo) c.root c.depth c.slot e v.slot v.root; valid = v; leaf = e; index = refl }
