-- Setting a block's address keeps the layout, at every cut. Assumes nothing.
use mathlib.Core.Path.{◌≡◌, refl, sym, subst, ◌∙◌}
use mathlib.Core.Bool.{true}
use mathlib.Core.List.{List, [], ◌∷◌}
use Prim.Native.Nat.{ℕ, zero, suc, ◌+◌, ◌-◌, ◌*◌, ◌/◌, ◌%◌, ◌^◌, ◌<◌}
use native.Mathlib.Omega.{arith}
use lib.ListN.{length}
use lib.Dec.{eqb}
use Rattle.field.specs.Field.{part}
use Rattle.field.proofs.Laws.{length-part}
use Rattle.refusal.specs.declared.Refusal.TheVariants.{Damaged}
use Rattle.store.specs.Store.{Store, apply}
use Rattle.store.specs.Where.{none, more, WriteIn, StoreIn, Range}
use Rattle.store.specs.Act.{Out, Act, pure, store, ◌>>=◌, choose, leaves, cut_act, Always}
use Rattle.store.proofs.ActLaws.{left-image}
use Rattle.store.proofs.AlwaysLaws.{always-all, always-bind, always-pure, always-refuse, always-store, always-store-bind, always-choose}
use Rattle.store.proofs.CutLaws.{cut_act_lem}
use Rattle.store.proofs.OnlyLaws.{number_in, kept-store}
use Rattle.volume.specs.declared.Geometry.{Geometry}
use Rattle.frame.specs.Frame.{Frame}
use Rattle.frame.proofs.Places.{run_is}
use Rattle.mapping.specs.Mapping.{per_list, entry_at, list_ok}
use Rattle.mapping.proofs.MappingLaws.{per-is, per-some}
use Rattle.mapping.specs.declared.Place.{Place}
use Rattle.mapping.specs.declared.Place.TheVariants as Place
use Rattle.mapping.specs.Zones.{place_of}
use Rattle.mapping.proofs.ZoneLaws.{under_good}
use Rattle.inode.specs.Shape.{address_at}
use Rattle.inode.specs.Places.{address_write, blocks_write}
use Rattle.inode.proofs.PlaceLaws.{address-inside, blocks-inside}
use Rattle.ialloc_tree.proofs.TreeLaws.{always-list}
use Rattle.balloc_give.specs.Give.{give_zeroed}
use Rattle.books.specs.Books.{Steady}
use Rattle.books.proofs.SteadyLaws.{steady-trans, steady-run, table-steady}
use Rattle.books.proofs.KeepLaws.{Keeps}
use Rattle.inode_setblock.specs.Set.{InTable, entry_write, list_store, record_store, next_list, set_in, set_root, set_under, set_at, set_block}
use Rattle.inode_setblock.proofs.GivenLaws.{block-steady, keeps_zeroed}
use Rattle.inode_setblock.proofs.SetLaws.{list-room, slot-in, rest_in, last_in}

-- a call that reads first
pub always_reads : {A : Type 0} {P : List ℕ → Type 0} (f : List ℕ → Act A) {img : List ℕ} → Always P (f img) img → Always P (λ x. f x x) img
always_reads {A} {P} f {img} p = record { holds = λ k. rw (same k) (p.holds k) }
  where
    same : (k : ℕ) → cut_act k (λ x. f x x) img ≡ cut_act k (f img) img
    same k = cut_act_lem k (λ x. f x x) img ∙ sym (cut_act_lem k (f img) img)

-- what code that makes the call leaves
pub kept-by : {A : Type 0} (geo : Geometry) {m : Act A} {img s : List ℕ} {o : Out A} → Always (Steady geo img) m img → (s, o) ≡ leaves m img → Steady geo img s
kept-by geo {m} {img} p e = subst (Steady geo img) (sym (left-image m img e)) (always-all p)

module _ (geo : Geometry) (img : List ℕ) (fr : Frame geo img) (a i v : ℕ) (h : list_ok geo img a ≡ true) (l : i < per_list geo) where
  entry_in : WriteIn (Range (a * geo.fsize) geo.bsize) (entry_write geo a i v)
  unfolding entry_write
  entry_in = number_in geo.order 8 (a * geo.fsize + i * 8) v (λ j r. (omega (arith, r.0), omega (arith, r.1, rw (per-is geo img fr) at l)))

  pub entry-steady : Steady geo img (apply (entry_write geo a i v ∷ []) img)
  entry-steady = block-steady geo img fr a (run_is geo img a geo.frag h) (entry_write geo a i v ∷ []) (more entry_in none)

  pub list-steady : (bytes : List ℕ) → length bytes ≡ geo.bsize → Steady geo img (apply (list_store geo bytes a i v) img)
  unfolding list_store
  list-steady bytes long =
      block-steady geo img fr a (run_is geo img a geo.frag h) (record { at = a * geo.fsize; bytes = bytes } ∷ entry_write geo a i v ∷ [])
      (more (λ j lo hi. (lo, rw long at hi)) (more entry_in none))

module _ (geo : Geometry) (start : List ℕ) where
  pub next-always : (img : List ℕ) → Steady geo start img → (a i : ℕ) → list_ok geo img a ≡ true → i < per_list geo → Always (Steady geo start) (next_list geo a i) img
  unfolding next_list
  next-always img s a i h l =
      always_reads (λ x. choose (eqb (entry_at geo x a i) 0) (give_zeroed geo >>= (λ e. store (list_store geo (part geo.bsize (a * geo.fsize) x) a i e) >>= (λ _. pure e))) (pure (entry_at geo x a i)))
      (always-choose (eqb (entry_at geo img a i) 0)
      (λ _. let z = keeps_zeroed geo start img s in
      always-bind z (λ n e.
      let t = always-all z in
      let ok = steady-run geo t a geo.frag ∙ sym (steady-run geo s a geo.frag) ∙ h in
      always-store-bind (list_store geo (part geo.bsize (a * geo.fsize) img) a i n) (λ _. pure n) t
      (always-pure n (steady-trans geo t (list-steady geo _ t.frame a i n ok l (part geo.bsize (a * geo.fsize) img) (length-part geo.bsize (a * geo.fsize) img (list-room geo img s.frame a h).0))))))
      (λ _. always-pure (entry_at geo img a i) s))

  pub in-always : (l : ℕ) (img : List ℕ) → Steady geo start img → (r x a : ℕ) → x < per_list geo ^ (l + 1) → Always (Steady geo start) (set_in geo l r x a) img
  unfolding set_in
  in-always zero img s r x a b =
      always-list geo r s (λ h. always-store (entry_write geo r x a ∷ []) s (steady-trans geo s (entry-steady geo img s.frame r x a h (last_in (per_list geo) 0 x refl b))))
  in-always (suc l) img s r x a b =
      let some = per-some geo img s.frame in
      always-list geo r s
      (λ h. let n = next-always img s r (x / per_list geo ^ suc l) h (slot-in (per_list geo) (suc l) _ some refl x b) in
      always-bind n (λ e q. in-always l _ (always-all n) e (x % per_list geo ^ suc l) a (low some)))
    where
      low : 0 < per_list geo → x % per_list geo ^ suc l < per_list geo ^ (l + 1)
      low some = let same : suc l - 1 + 1 ≡ l + 1 = omega arith in rw same at (rest_in (per_list geo) (suc l) _ some refl x (λ z. let f : ⊥ = omega arith in f))

-- ---- into the record

pub record_steady : (geo : Geometry) (img : List ℕ) → Frame geo img → (at : ℕ) → InTable geo at → (s : Store) → StoreIn (Range at 256) s → Steady geo img (apply s img)
record_steady geo img fr at t s o = table-steady geo img fr t.group at 256 (apply s img) t.one t.first t.last (kept-store o img)

module _ (geo : Geometry) (at : ℕ) (t : InTable geo at) where
  root-steady : (img : List ℕ) → Frame geo img → (root a held : ℕ) → root < 15 → Steady geo img (apply (record_store geo at root a held) img)
  unfolding record_store
  root-steady img fr root a held l =
      record_steady geo img fr at t (address_write geo.order at root a ∷ blocks_write geo.order at held ∷ [])
      (more (address-inside geo.order at root a l) (more (blocks-inside geo.order at held) none))

  module _ (root a held x : ℕ) (lr : root < 15) where
    keeps-root : (l : ℕ) → x < per_list geo ^ (l + 1) → Keeps geo (set_root geo at root l x a held)
    unfolding set_root
    keeps-root l b start img s =
        let z = keeps_zeroed geo start img s in
        always-bind z (λ r e.
        let n = in-always geo start l _ (always-all z) r x a b in
        always-bind n (λ _ q. let u = always-all n in always-store (record_store geo at root r held) u (steady-trans geo u (root-steady _ u.frame root r held lr))))

    keeps-under : (l : ℕ) → x < per_list geo ^ l → Keeps geo (set_under geo at root l x a held)
    unfolding set_under
    keeps-under zero b start img s = always-store (record_store geo at root a held) s (steady-trans geo s (root-steady img s.frame root a held lr))
    keeps-under (suc l) b start img s =
        let up : l + 1 ≡ suc l = omega arith in
        let c : x < per_list geo ^ (l + 1) = rw up b in
        always_reads (λ y. choose (eqb (address_at geo.order at root y) 0) (set_root geo at root l x a held) (set_in geo l (address_at geo.order at root y) x a))
        (always-choose (eqb (address_at geo.order at root img) 0) (λ _. keeps-root l c start img s) (λ _. in-always geo start l img s (address_at geo.order at root img) x a c))

  pub keeps-set : (i a held : ℕ) → Keeps geo (set_block geo at i a held)
  unfolding set_block
  keeps-set i a held = go (place_of (per_list geo) i) refl
    where
      go : (p : Place) → place_of (per_list geo) i ≡ p → Keeps geo (set_at geo at a held p)
      go (Place.Under root level rest) e = let g = under_good (per_list geo) i root level (sym e) in keeps-under root a held rest.0 g.0 level g.2
      go Place.Past e = λ start img s. always-refuse (Unit {0}) Damaged s
