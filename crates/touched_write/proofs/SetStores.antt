-- Where each store of setting a block's address lies. Assumes nothing.
use mathlib.Core.Path.{◌≡◌, refl, sym, ap, subst, ◌∙◌}
use mathlib.Core.Bool.{true}
use mathlib.Core.List.{List, [], ◌∷◌}
use Prim.Native.Nat.{ℕ, zero, suc, ◌+◌, ◌-◌, ◌*◌, ◌/◌, ◌%◌, ◌^◌, ◌<◌}
use native.Mathlib.Omega.{arith}
use lib.ListN.{length}
use lib.Dec.{eqb}
use Rattle.field.specs.Field.{part, zeros}
use Rattle.field.proofs.Laws.{length-part, length-zeros}
use Rattle.refusal.specs.declared.Refusal.TheVariants.{Damaged}
use Rattle.store.specs.Store.{Store, apply, apply_all}
use Rattle.store.specs.Where.{none, more, WriteIn, StoreIn, Range}
use Rattle.store.specs.Act.{got, pure, store, ◌>>=◌, choose}
use Rattle.store.proofs.ActLaws.{through, choose-out, pure-out}
use Rattle.store.proofs.AlwaysLaws.{always-start}
use Rattle.store.proofs.OnlyLaws.{number_in}
use Rattle.bits.proofs.BitsLaws.{frag-some}
use Rattle.volume.specs.declared.Geometry.{Geometry}
use Rattle.frame.specs.Frame.{Frame, RunOk}
use Rattle.frame.proofs.Places.{run_is}
use Rattle.inode.specs.Shape.{address_at}
use Rattle.inode.proofs.PlaceLaws.{address-inside, blocks-inside}
use Rattle.mapping.specs.declared.Place.{Place}
use Rattle.mapping.specs.declared.Place.TheVariants as Place
use Rattle.mapping.specs.Zones.{place_of}
use Rattle.mapping.specs.Mapping.{per_list, entry_at, list_ok}
use Rattle.mapping.proofs.MappingLaws.{per-is, per-some}
use Rattle.mapping.proofs.ZoneLaws.{under_good}
use Rattle.balloc_give.specs.Give.{give_block, give_zeroed, zero_write}
use Rattle.books.proofs.BookLaws.{give-only}
use Rattle.books.proofs.SteadyLaws.{steady-run}
use Rattle.inode_setblock.specs.Set.{InTable, entry_write, list_store, record_store, next_list, set_in, set_root, set_under, set_at, set_block}
use Rattle.inode_setblock.proofs.GivenLaws.{block-bytes, given_stays}
use Rattle.inode_setblock.proofs.SetLaws.{list-room, slot-in, rest_in, last_in}
use Rattle.touched.proofs.PlaceLaws.{book_moves}
use Rattle.touched_write.specs.Free.{Free}
use Rattle.touched_write.specs.Stores.{Led, root, under, fresh, WriteByte, of_books, of_record, of_free, of_list}
use Rattle.touched_write.proofs.FreeLaws.{given-free}
use Rattle.touched_write.proofs.GoesLaws.{goes_only, Fine, fine_bind, fine-pure, fine-refuse, fine-store, fine-store-bind, fine-choose, fine-reads, fine-list}
use Rattle.touched_write.proofs.ApartLaws.{Going, going-record, going-run, going-give}

-- ---- the stores into a list

pub zero_in : (geo : Geometry) (a : ℕ) → StoreIn (Range (a * geo.fsize) geo.bsize) (zero_write geo a ∷ [])
unfolding zero_write
zero_in geo a = more {x = record { at = a * geo.fsize; bytes = zeros geo.bsize }} (λ j lo hi. (lo, rw (length-zeros geo.bsize) at hi)) none

module _ (geo : Geometry) (img : List ℕ) (fr : Frame geo img) (a i v : ℕ) (l : i < per_list geo) where
  entry-write-in : WriteIn (Range (a * geo.fsize) geo.bsize) (entry_write geo a i v)
  unfolding entry_write
  entry-write-in = number_in geo.order 8 (a * geo.fsize + i * 8) v (λ j r. (omega (arith, r.0), omega (arith, r.1, rw (per-is geo img fr) at l)))

  pub entry_in : StoreIn (Range (a * geo.fsize) geo.bsize) (entry_write geo a i v ∷ [])
  entry_in = more entry-write-in none

  pub list-in : (bytes : List ℕ) → length bytes ≡ geo.bsize → StoreIn (Range (a * geo.fsize) geo.bsize) (list_store geo bytes a i v)
  unfolding list_store
  list-in bytes long = more {x = record { at = a * geo.fsize; bytes = bytes }} (λ j lo hi. (lo, rw long at hi)) (more entry-write-in none)

pub record_in_lem : (geo : Geometry) (at r a held : ℕ) → r < 15 → StoreIn (Range at 256) (record_store geo at r a held)
unfolding record_store
record_in_lem geo at r a held l = more (address-inside geo.order at r a l) (more (blocks-inside geo.order at held) none)

-- what a store writes, of other bytes too
pub store-more : {Q R : ℕ → Type 0} → ((j : ℕ) → Q j → R j) → {s : Store} → StoreIn Q s → StoreIn R s
store-more h none = none
store-more h (more p ps) = more (λ j lo hi. h j (p j lo hi)) (store-more h ps)

-- the block that is zeroed is the one given
pub zeroed_out_lem : (geo : Geometry) (img : List ℕ) {a : ℕ} → (give_zeroed geo img).out ≡ got a → (give_block geo img).out ≡ got a
unfolding give_zeroed
zeroed_out_lem geo img {a} e =
    let t = through (give_block geo) (λ b. store (zero_write geo b ∷ []) >>= (λ _. pure b)) img e in
    let u = through (store (zero_write geo t.mid ∷ [])) (λ _. pure t.mid) (apply_all (give_block geo img).stores img) t.second in
    t.first ∙ ap got (pure-out t.mid _ u.second)

module _ (geo : Geometry) (start : List ℕ) (Seen : List ℕ → Type 0) (at : ℕ) (t : InTable geo at) (size : ℕ) where
  abbrev Q : List ℕ → ℕ → Type 0
  Q = WriteByte geo start Seen at size

  abbrev P : List ℕ → Type 0
  P = Going geo start

  -- ---- whole blocks

  pub going-block : (a : ℕ) (s : Store) → StoreIn (Range (a * geo.fsize) geo.bsize) s → {x : List ℕ} → RunOk geo x a geo.frag → P x → P (apply s x)
  going-block a s o {x} r p =
      let fr = p.steady.frame in
      going-run geo start a geo.frag (frag-some geo.frag fr.sizes.frag) s (rw (block-bytes geo x fr) o) r p

  pub fine-give : {x : List ℕ} → P x → Fine Q P Seen (give_block geo) x
  fine-give {x} p seen = record { keeps = going-give geo start p; goes = goes_only (λ y j b. of_books (book_moves geo p.steady b)) (give-only geo x p.steady.frame).every x }

  -- the block given was free at the start
  pub given-fresh : {x : List ℕ} → P x → {a : ℕ} → (give_block geo x).out ≡ got a → (j : ℕ) → Range (a * geo.fsize) geo.bsize j → Free geo start j
  given-fresh {x} p {a} e j r = p.fewer (given-free geo x p.steady.frame a e j r)

  fine-zeroed : {x : List ℕ} → P x → Fine Q P Seen (give_zeroed geo) x
  unfolding give_zeroed
  fine-zeroed {x} p =
      fine_bind Q P Seen {m = give_block geo} (fine-give p)
      (λ a e q. let w = going-block a (zero_write geo a ∷ []) (zero_in geo a) (given_stays geo x p.steady.frame a e) q in
      fine-store-bind Q P Seen (zero_write geo a ∷ []) (λ _. pure a) q w
      (λ _. store-more (λ j r. of_free (given-fresh p e j r)) (zero_in geo a))
      (fine-pure Q P Seen a w))

  -- ---- the way down

  module _ (x : List ℕ) (p : P x) (a i : ℕ) (of : Led geo start Seen at a) (ok : list_ok geo x a ≡ true) (l : i < per_list geo) where
    next-led : Seen x → {e : ℕ} → (next_list geo a i x).out ≡ got e → Led geo start Seen at e
    unfolding next_list
    next-led seen {e} q =
        choose-out (Led geo start Seen at e) (eqb (entry_at geo x a i) 0) (give_zeroed geo >>= (λ n. store (list_store geo (part geo.bsize (a * geo.fsize) x) a i n) >>= (λ _. pure n))) (pure (entry_at geo x a i)) x
        (λ _ h. let u = through (give_zeroed geo) (λ n. store (list_store geo (part geo.bsize (a * geo.fsize) x) a i n) >>= (λ _. pure n)) x h in
        let v = through (store (list_store geo (part geo.bsize (a * geo.fsize) x) a i u.mid)) (λ _. pure u.mid) (apply_all (give_zeroed geo x).stores x) u.second in
        subst (Led geo start Seen at) (pure-out u.mid _ v.second) (fresh (given-fresh p (zeroed_out_lem geo x u.first))))
        (λ _ h. under x seen a i of l (sym (pure-out (entry_at geo x a i) x h)))
        q

    next-fine : Fine Q P Seen (next_list geo a i) x
    unfolding next_list
    next-fine =
        fine-reads Q P Seen (λ x. choose (eqb (entry_at geo x a i) 0) (give_zeroed geo >>= (λ e. store (list_store geo (part geo.bsize (a * geo.fsize) x) a i e) >>= (λ _. pure e))) (pure (entry_at geo x a i)))
        (λ _. fine-choose Q P Seen (eqb (entry_at geo x a i) 0)
        (λ _. fine_bind Q P Seen {m = give_zeroed geo} (fine-zeroed p)
        (λ n e u.
        let home : list_ok geo start a ≡ true = sym (steady-run geo p.steady a geo.frag) ∙ ok in
        let there : list_ok geo (apply_all (give_zeroed geo x).stores x) a ≡ true = steady-run geo u.steady a geo.frag ∙ home in
        let o = list-in geo x p.steady.frame a i n l (part geo.bsize (a * geo.fsize) x) (length-part geo.bsize (a * geo.fsize) x (list-room geo x p.steady.frame a ok).0) in
        let w = going-block a (list_store geo (part geo.bsize (a * geo.fsize) x) a i n) o (run_is geo _ a geo.frag there) u in
        fine-store-bind Q P Seen (list_store geo (part geo.bsize (a * geo.fsize) x) a i n) (λ _. pure n) u w
        (λ _. store-more (λ j r. of_list a of home r) o) (fine-pure Q P Seen n w)))
        (λ _. fine-pure Q P Seen (entry_at geo x a i) p))

  set-in : (l : ℕ) (x : List ℕ) → P x → (r k a : ℕ) → Led geo start Seen at r → k < per_list geo ^ (l + 1) → Fine Q P Seen (set_in geo l r k a) x
  unfolding set_in
  set-in zero x p r k a of b =
      fine-list Q P Seen geo r p
      (λ ok. let home : list_ok geo start r ≡ true = sym (steady-run geo p.steady r geo.frag) ∙ ok in
      let o = entry_in geo x p.steady.frame r k a (last_in (per_list geo) 0 k refl b) in
      fine-store Q P Seen (entry_write geo r k a ∷ []) p (going-block r (entry_write geo r k a ∷ []) o (run_is geo x r geo.frag ok) p) (λ _. store-more (λ j q. of_list r of home q) o))
  set-in (suc l) x p r k a of b =
      let some = per-some geo x p.steady.frame in
      let s : k / per_list geo ^ suc l < per_list geo = slot-in (per_list geo) (suc l) _ some refl k b in
      fine-list Q P Seen geo r p
      (λ ok seen. fine_bind Q P Seen {m = next_list geo r (k / per_list geo ^ suc l)} {f = λ e. set_in geo l e (k % per_list geo ^ suc l) a} (next-fine x p r (k / per_list geo ^ suc l) of ok s)
      (λ e q u. set-in l _ u e (k % per_list geo ^ suc l) a (next-led x p r (k / per_list geo ^ suc l) of ok s (always-start seen) q) (low some)) seen)
    where
      low : 0 < per_list geo → k % per_list geo ^ suc l < per_list geo ^ (l + 1)
      low some = let same : suc l - 1 + 1 ≡ l + 1 = omega arith in rw same at (rest_in (per_list geo) (suc l) _ some refl k (λ z. let f : ⊥ = omega arith in f))

  -- ---- into the record

  set-record : (r a held : ℕ) → r < 15 → {x : List ℕ} → P x → Fine Q P Seen (store (record_store geo at r a held)) x
  set-record r a held l p =
      fine-store Q P Seen (record_store geo at r a held) p (going-record geo start at t (record_store geo at r a held) (record_in_lem geo at r a held l) p) (λ _. store-more (λ j q. of_record q) (record_in_lem geo at r a held l))

  module _ (r a held k : ℕ) (lr : r < 15) where
    set-root : (l : ℕ) → k < per_list geo ^ (l + 1) → {x : List ℕ} → P x → Fine Q P Seen (set_root geo at r l k a held) x
    unfolding set_root
    set-root l b {x} p =
        fine_bind Q P Seen {m = give_zeroed geo} (fine-zeroed p)
        (λ e q u. fine_bind Q P Seen {m = set_in geo l e k a} (set-in l _ u e k a (fresh (given-fresh p (zeroed_out_lem geo x q))) b) (λ _ _ v. set-record r e held lr v))

    set-under : (l : ℕ) → k < per_list geo ^ l → {x : List ℕ} → P x → Fine Q P Seen (set_under geo at r l k a held) x
    unfolding set_under
    set-under zero b p = set-record r a held lr p
    set-under (suc l) b {x} p =
        let up : l + 1 ≡ suc l = omega arith in
        let c : k < per_list geo ^ (l + 1) = rw up b in
        fine-reads Q P Seen (λ y. choose (eqb (address_at geo.order at r y) 0) (set_root geo at r l k a held) (set_in geo l (address_at geo.order at r y) k a))
        (λ seen. fine-choose Q P Seen (eqb (address_at geo.order at r x) 0) (λ _. set-root l c p) (λ _. set-in l x p (address_at geo.order at r x) k a (root x seen r lr refl) c))

  pub set-fine : (i a held : ℕ) {x : List ℕ} → P x → Fine Q P Seen (set_block geo at i a held) x
  unfolding set_block
  set-fine i a held {x} p = go (place_of (per_list geo) i) refl
    where
      go : (w : Place) → place_of (per_list geo) i ≡ w → Fine Q P Seen (set_at geo at a held w) x
      go (Place.Under r level rest) e = let g = under_good (per_list geo) i r level (sym e) in set-under r a held rest.0 g.0 level g.2 p
      go Place.Past e = fine-refuse Q P Seen (Unit {0}) Damaged p
