-- Laws of setting a block's address: its stores and its cases. Assumes nothing.
use mathlib.Core.Path.{◌≡◌, refl, sym, ap, subst, ◌∙◌}
use mathlib.Core.Bool.{true, false}
use mathlib.Core.List.{List, [], ◌∷◌}
use Prim.Native.Nat.{ℕ, zero, suc, ◌+◌, ◌-◌, ◌*◌, ◌/◌, ◌%◌, ◌^◌, ◌≤◌, ◌<◌}
use native.Mathlib.Omega.{arith}
use lib.ListN.{length}
use borrow.Author.Tests.{eq-eqb, ne_eqb}
use Rattle.refusal.specs.declared.Refusal.{Refusal}
use Rattle.refusal.specs.declared.Refusal.TheVariants.{Damaged}
use Rattle.field.specs.Field.{put, part, put_num}
use Rattle.field.proofs.Laws.{length-part, part-put}
use Rattle.store.specs.Store.{Write, apply}
use Rattle.store.specs.Act.{Out, got, refused, Act, pure, store, ◌>>=◌, Left, leaves}
use Rattle.store.proofs.StoreLaws.{apply-one, apply_append, apply-number}
use Rattle.store.proofs.ActLaws.{step-good, step-bad, step_store, leaves-pure, leaves-refuse, leaves-store, choose-yes, choose_no}
use Rattle.volume.specs.declared.Geometry.{Geometry}
use Rattle.frame.specs.Frame.{Frame}
use Rattle.frame.proofs.Places.{run_is, run_inside}
use Rattle.inode.specs.Places.{address_write, blocks_write}
use Rattle.inode.specs.Shape.{address_at}
use Rattle.volume.specs.declared.BlockIdx.{BlockIdx}
use Rattle.mapping.specs.declared.Place.TheVariants as Place
use Rattle.mapping.specs.Zones.{place_of}
use Rattle.mapping.proofs.ZoneLaws.{pow_one, each-pos, slot-below, rest_below}
use Rattle.mapping.specs.Mapping.{per_list, entry_at, list_ok}
use Rattle.balloc_give.specs.Give.{give_zeroed}
use Rattle.inode_setblock.specs.Set.{entry_write, list_store, record_store, next_list, set_in, set_root, set_under, set_block}
use Rattle.ialloc_tree.proofs.TreeLaws.{list-no, list-yes}
use Rattle.inode_setblock.proofs.GivenLaws.{block-bytes}

-- ---- a list lies in the image

module _ (geo : Geometry) (img : List ℕ) (fr : Frame geo img) (r : ℕ) (h : list_ok geo img r ≡ true) where
  pub list-room : (r * geo.fsize + geo.bsize ≤ length img) × (length img ≤ 1073741824)
  list-room = (omega (arith, run_inside geo img fr r geo.frag (run_is geo img r geo.frag h), block-bytes geo img fr), fr.laid.high)

-- ---- the stores, as code makes them

module _ (geo : Geometry) (r slot a at : ℕ) (img : List ℕ) (e : at ≡ r * geo.fsize) where
  pub entry-made : {x : List ℕ} → x ≡ put_num geo.order 8 (at + slot * 8) a img → x ≡ apply (entry_write geo r slot a ∷ []) img
  unfolding entry_write
  entry-made q = q ∙ rw e (sym (apply-number geo.order 8 (r * geo.fsize + slot * 8) a img))

  pub list-made : (bytes : List ℕ) {x y : List ℕ} → x ≡ put at bytes img → y ≡ put_num geo.order 8 (at + slot * 8) a x → y ≡ apply (list_store geo bytes r slot a) img
  unfolding list_store entry_write
  list-made bytes {x} {y} p q =
      let w : Write = record { at = r * geo.fsize; bytes = bytes } in
      let first : x ≡ apply (w ∷ []) img = p ∙ ap (λ (k : ℕ). put k bytes img) e ∙ sym (apply-one w img) in
      q ∙ ap (λ (k : ℕ). put_num geo.order 8 (k + slot * 8) a x) e
      ∙ sym (apply-number geo.order 8 (r * geo.fsize + slot * 8) a x)
      ∙ ap (apply (entry_write geo r slot a ∷ [])) first
      ∙ sym (apply_append (w ∷ []) (entry_write geo r slot a ∷ []) img)

pub record_made : (geo : Geometry) (at root a held : ℕ) (img : List ℕ) {x y : List ℕ} → x ≡ apply (address_write geo.order at root a ∷ []) img → y ≡ apply (blocks_write geo.order at held ∷ []) x
    → y ≡ apply (record_store geo at root a held) img
unfolding record_store
record_made geo at root a held img p q =
    q ∙ ap (apply (blocks_write geo.order at held ∷ [])) p ∙ sym (apply_append (address_write geo.order at root a ∷ []) (blocks_write geo.order at held ∷ []) img)

-- what was copied to the front of a buffer stands there
pub kept_list : (n : ℕ) (from at : ℕ) (img list : List ℕ) → from ≡ at → from + n ≤ length img → n ≤ length list → {x : List ℕ} → x ≡ put 0 (part n from img) list → part n 0 x ≡ part n at img
kept_list n from at img list e l m {x} q =
    let long = length-part n from img l in
    ap (part n 0) q ∙ subst (λ (k : ℕ). part k 0 (put 0 (part n from img) list) ≡ part n from img) long (part-put 0 (part n from img) list (omega arith)) ∙ ap (λ (k : ℕ). part n k img) e

-- ---- the next list

module _ (geo : Geometry) (a i e : ℕ) (img : List ℕ) (q : e ≡ entry_at geo img a i) where
  pub next-there : (e ≡ 0 → ⊥) → ◌≡◌ {A = Left ℕ} (img, got e) (leaves (next_list geo a i) img)
  unfolding next_list leaves
  next-there n = ap (λ (x : ℕ). (img, got x)) q ∙ leaves-pure (entry_at geo img a i) img ∙ choose_no _ _ img (ne_eqb _ 0 (λ z. n (q ∙ z)))

  module _ (z : e ≡ 0) {s : List ℕ} {o : Out ℕ} (r : (s, o) ≡ leaves (give_zeroed geo) img) where
    pub next-given : {n : ℕ} → o ≡ got n → (bytes : List ℕ) → bytes ≡ part geo.bsize (a * geo.fsize) img → {x : List ℕ} → x ≡ apply (list_store geo bytes a i n) s
        → ◌≡◌ {A = Left ℕ} (x, got n) (leaves (next_list geo a i) img)
    unfolding next_list leaves
    next-given {n} g bytes b {x} m =
        ap (λ (y : List ℕ). (y, got n)) (m ∙ ap (λ (l : List ℕ). apply (list_store geo l a i n) s) b)
        ∙ leaves-pure n (apply (list_store geo (part geo.bsize (a * geo.fsize) img) a i n) s)
        ∙ step_store (list_store geo (part geo.bsize (a * geo.fsize) img) a i n) (λ _. pure n) s
        ∙ step-good (give_zeroed geo) (λ e. store (list_store geo (part geo.bsize (a * geo.fsize) img) a i e) >>= (λ _. pure e)) img r g
        ∙ choose-yes _ _ img (eq-eqb _ 0 (sym q ∙ z))

    pub next-none : {f : Refusal} → o ≡ refused f → ◌≡◌ {A = Left ℕ} (s, refused f) (leaves (next_list geo a i) img)
    unfolding next_list leaves
    next-none g =
        step-bad (give_zeroed geo) (λ e. store (list_store geo (part geo.bsize (a * geo.fsize) img) a i e) >>= (λ _. pure e)) img r g
        ∙ choose-yes _ _ img (eq-eqb _ 0 (sym q ∙ z))

-- ---- the way down, by how many lists are below

module _ (geo : Geometry) (r x a : ℕ) (img : List ℕ) where
  pub set-bad : (l : ℕ) → list_ok geo img r ≡ false → ◌≡◌ {A = Left (Unit {0})} (img, refused Damaged) (leaves (set_in geo l r x a) img)
  unfolding set_in
  set-bad zero h = list-no geo r img _ h
  set-bad (suc l) h = list-no geo r img _ h

  module _ (h : list_ok geo img r ≡ true) where
    pub set_here : (l : ℕ) → l ≡ 0 → {y : List ℕ} → y ≡ apply (entry_write geo r x a ∷ []) img → ◌≡◌ {A = Left (Unit {0})} (y, got (tt {0})) (leaves (set_in geo l r x a) img)
    unfolding set_in
    set_here zero z q = ap (λ (y : List ℕ). (y, got (tt {0}))) q ∙ leaves-store (entry_write geo r x a ∷ []) img ∙ list-yes geo r img _ h
    set_here (suc l) z q = let f : ⊥ = omega arith in absurd f

    module _ (each slot rest : ℕ) {s : List ℕ} {o : Out ℕ} where
      pub set_next : (l : ℕ) → (l ≡ 0 → ⊥) → each ≡ per_list geo ^ l → slot ≡ x / each → rest ≡ x % each → (s, o) ≡ leaves (next_list geo r slot) img → {e : ℕ} → o ≡ got e
          → leaves (set_in geo (l - 1) e rest a) s ≡ leaves (set_in geo l r x a) img
      unfolding set_in
      set_next zero nz p q t n g = absurd (nz refl)
      set_next (suc l) nz p q t n {e} g =
          let same : suc l - 1 ≡ l = omega arith in
          ap (λ (k : ℕ). leaves (set_in geo k e rest a) s) same
          ∙ ap (λ (k : ℕ). leaves (set_in geo l e k a) s) (t ∙ ap (λ (k : ℕ). x % k) p)
          ∙ step-good (next_list geo r (x / per_list geo ^ suc l)) (λ e. set_in geo l e (x % per_list geo ^ suc l) a) img (n ∙ ap (λ (k : ℕ). leaves (next_list geo r k) img) (q ∙ ap (λ (k : ℕ). x / k) p)) g
          ∙ list-yes geo r img _ h

      pub set-none : (l : ℕ) → (l ≡ 0 → ⊥) → each ≡ per_list geo ^ l → slot ≡ x / each → (s, o) ≡ leaves (next_list geo r slot) img → {f : Refusal} → o ≡ refused f
          → ◌≡◌ {A = Left (Unit {0})} (s, refused f) (leaves (set_in geo l r x a) img)
      unfolding set_in
      set-none zero nz p q n g = absurd (nz refl)
      set-none (suc l) nz p q n g =
          step-bad (next_list geo r (x / per_list geo ^ suc l)) (λ e. set_in geo l e (x % per_list geo ^ suc l) a) img (n ∙ ap (λ (k : ℕ). leaves (next_list geo r k) img) (q ∙ ap (λ (k : ℕ). x / k) p)) g
          ∙ list-yes geo r img _ h

-- ---- places on the way down: `each` blocks stand under an address of a list that is l lists above the last

module _ (p l each : ℕ) (pos : 0 < p) (e : each ≡ p ^ l) where
  span-is : each ≡ p ^ (l + 1 - 1)
  span-is = e ∙ ap (λ (k : ℕ). p ^ k) (omega arith)

  pub span-some : 0 < each
  span-some = each-pos p (l + 1) each pos span-is

  pub slot-in : (x : ℕ) → x < p ^ (l + 1) → x / each < p
  slot-in x lt = slot-below p (l + 1) each pos span-is x lt (λ z. let f : ⊥ = omega arith in f)

  pub rest_in : (x : ℕ) → (l ≡ 0 → ⊥) → x % each < p ^ (l - 1 + 1)
  rest_in x nz = let up : l + 1 - 1 ≡ l - 1 + 1 = omega (arith, nz) in rw up at (rest_below p (l + 1) each pos span-is x)

pub last_in : (p l x : ℕ) → l ≡ 0 → x < p ^ (l + 1) → x < p
last_in p l x z lt = let one : l + 1 ≡ 1 = omega arith in rw (one, ← pow_one p) at lt

-- ---- a root that is not yet there

module _ (geo : Geometry) (at root l x a held : ℕ) (img : List ℕ) {s : List ℕ} {o : Out ℕ} (r : (s, o) ≡ leaves (give_zeroed geo) img) where
  abbrev after-root : ℕ → Act (Unit {0})
  after-root e = set_in geo l e x a >>= (λ _. store (record_store geo at root e held))

  pub root_none : {f : Refusal} → o ≡ refused f → ◌≡◌ {A = Left (Unit {0})} (s, refused f) (leaves (set_root geo at root l x a held) img)
  unfolding set_root
  root_none g = step-bad (give_zeroed geo) after-root img r g

  module _ {e : ℕ} (g : o ≡ got e) {t : List ℕ} {w : Out (Unit {0})} (d : (t, w) ≡ leaves (set_in geo l e x a) s) where
    pub root-set : w ≡ got (tt {0}) → {y : List ℕ} → y ≡ apply (record_store geo at root e held) t → ◌≡◌ {A = Left (Unit {0})} (y, got (tt {0})) (leaves (set_root geo at root l x a held) img)
    unfolding set_root
    root-set q m =
        ap (λ (y : List ℕ). (y, got (tt {0}))) m ∙ leaves-store (record_store geo at root e held) t
        ∙ step-good (set_in geo l e x a) (λ _. store (record_store geo at root e held)) s d q
        ∙ step-good (give_zeroed geo) after-root img r g

    pub root-not : {f : Refusal} → w ≡ refused f → ◌≡◌ {A = Left (Unit {0})} (t, refused f) (leaves (set_root geo at root l x a held) img)
    unfolding set_root
    root-not q = step-bad (set_in geo l e x a) (λ _. store (record_store geo at root e held)) s d q ∙ step-good (give_zeroed geo) after-root img r g

-- ---- from the record

module _ (geo : Geometry) (at root x a held : ℕ) (img : List ℕ) where
  pub under-direct : (l : ℕ) → l ≡ 0 → {y : List ℕ} → y ≡ apply (record_store geo at root a held) img → ◌≡◌ {A = Left (Unit {0})} (y, got (tt {0})) (leaves (set_under geo at root l x a held) img)
  unfolding set_under
  under-direct zero z q = ap (λ (y : List ℕ). (y, got (tt {0}))) q ∙ leaves-store (record_store geo at root a held) img
  under-direct (suc l) z q = let f : ⊥ = omega arith in absurd f

  module _ (r : ℕ) (q : r ≡ address_at geo.order at root img) where
    pub under-new : (l : ℕ) → (l ≡ 0 → ⊥) → r ≡ 0 → leaves (set_root geo at root (l - 1) x a held) img ≡ leaves (set_under geo at root l x a held) img
    unfolding set_under leaves
    under-new zero nz z = absurd (nz refl)
    under-new (suc l) nz z =
        let same : suc l - 1 ≡ l = omega arith in
        ap (λ (k : ℕ). leaves (set_root geo at root k x a held) img) same ∙ choose-yes _ _ img (eq-eqb _ 0 (sym q ∙ z))

    pub under-old : (l : ℕ) → (l ≡ 0 → ⊥) → (r ≡ 0 → ⊥) → leaves (set_in geo (l - 1) r x a) img ≡ leaves (set_under geo at root l x a held) img
    unfolding set_under leaves
    under-old zero nz n = absurd (nz refl)
    under-old (suc l) nz n =
        let same : suc l - 1 ≡ l = omega arith in
        ap (λ (k : ℕ). leaves (set_in geo k r x a) img) same ∙ ap (λ (k : ℕ). leaves (set_in geo l k x a) img) q ∙ choose_no _ _ img (ne_eqb _ 0 (λ z. n (q ∙ z)))

module _ (geo : Geometry) (at i a held : ℕ) (img : List ℕ) (p : ℕ) (e : p ≡ per_list geo) where
  pub block-under : (root level : ℕ) {rest : BlockIdx} → Place.Under root level rest ≡ place_of p i → leaves (set_under geo at root level rest.0 a held) img ≡ leaves (set_block geo at i a held) img
  unfolding set_block
  block-under root level h = let f = h ∙ ap (λ (p : ℕ). place_of p i) e in rw (← f)

  pub block-past : Place.Past ≡ place_of p i → ◌≡◌ {A = Left (Unit {0})} (img, refused Damaged) (leaves (set_block geo at i a held) img)
  unfolding set_block
  block-past h = let f = h ∙ ap (λ (p : ℕ). place_of p i) e in rw (← f) (leaves-refuse Damaged img)

-- one list fewer
pub one-below : (p l x : ℕ) → (l ≡ 0 → ⊥) → x < p ^ l → x < p ^ (l - 1 + 1)
one-below p l x nz lt = let up : l - 1 + 1 ≡ l = omega (arith, nz) in rw up lt
