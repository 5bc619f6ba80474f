-- Laws of shrinking a file: the cases of a list, of a list of lists and of the zones, and that the layout stays. Assumes nothing.
use mathlib.Core.Path.{◌≡◌, refl, sym, ap, subst, ◌∙◌}
use mathlib.Core.Bool.{Bool, true, false}
use mathlib.Core.List.{List, [], ◌∷◌, ◌++◌}
use Prim.Native.Nat.{ℕ, zero, suc, ◌+◌, ◌-◌, ◌*◌, ◌/◌, ◌%◌, ◌≤◌, ◌<◌}
use native.Mathlib.Nat.{mul_comm, mul-le-mul, mul-le-mul_left, div-lt_iff_lt-mul, div-mul-le_self, mod-lt}
use native.Mathlib.Omega.{arith}
use mathlib.Core.Logic.{◌⊎◌, inl, inr, ⊎_elim}
use lib.ListN.{length, get_or, length-append}
use lib.Dec.{eqb, ltb}
use borrow.Author.Tests.{eq-eqb, ne_eqb, lt-ltb, le-ltb}
use Rattle.field.specs.declared.Order.{Order}
use Rattle.field.specs.Field.{Kept, num, part, put, zeros}
use Rattle.field.proofs.Laws.{kept-put, kept_wider, length-zeros, length-part, get_or-part, part-is, part-put, length-put, put_append}
use Rattle.refusal.specs.declared.Refusal.{Refusal}
use Rattle.refusal.specs.declared.Refusal.TheVariants.{Damaged}
use Rattle.store.specs.Store.{Write, Store, apply}
use Rattle.store.specs.Act.{Out, got, refused, Act, pure, refuse, reads, store, ◌>>=◌, choose, each, Left, leaves, cut_act, Always}
use Rattle.store.proofs.StoreLaws.{apply-one}
use Rattle.store.proofs.CutLaws.{cut_act_lem}
use Rattle.store.proofs.AlwaysLaws.{always-all, always-pure, always-choose, always-bind, always-store-bind}
use Rattle.store.proofs.ActLaws.{step-good, step-bad, step_store, step_read, leaves-pure, leaves-refuse, leaves-store, choose-yes, choose_no, each-end, each-good, each-bad}
use Rattle.volume.specs.declared.Geometry.{Geometry}
use Rattle.bits.proofs.BitsLaws.{frag-some}
use Rattle.sound.specs.Test.{Sized}
use Rattle.sound.proofs.Laws.{size_cases}
use Rattle.frame.specs.Frame.{Frame, RunOk}
use Rattle.frame.proofs.Places.{run_is, run_inside}
use Rattle.inode.specs.declared.Shape.{Shape}
use Rattle.inode.specs.Size.{pick, extent_of}
use Rattle.inode.proofs.SizeLaws.{units, size-is}
use Rattle.mapping.specs.Mapping.{entry_width, per_list, entry_at, list_ok}
use Rattle.mapping.proofs.MappingLaws.{per-is, per-most}
use Rattle.books.specs.Books.{Steady}
use Rattle.books.proofs.SteadyLaws.{steady-refl, steady-trans, run-steady, steady-run}
use Rattle.books.proofs.KeepLaws.{Keeps, keeps-each}
use Rattle.ialloc_tree.specs.Tree.{on_list, at_entry, free_tree}
use Rattle.ialloc_tree.proofs.TreeLaws.{list-no, list-yes, always-list, keeps-list, keeps_entry, keeps-tree}
use Rattle.inode_shrink.specs.Shrink.{free_rest, rest_write, shrink_list, entry_in, free_lists, root_write, Copied, shrink_from, shrink_lists}

-- ---- a list of which the first addresses stay

pub rest-left : (geo : Geometry) (s : Shape) (a base u held : ℕ) (img : List ℕ)
    → leaves (each (at_entry (λ e i h. free_tree geo s 0 e (base + i) h) geo a) (per_list geo - u) u held) img ≡ leaves (free_rest geo s a base u held) img
unfolding free_rest
rest-left geo s a base u held img = refl

pub rest-apply : (geo : Geometry) (a u : ℕ) (img : List ℕ) → apply (rest_write geo a u ∷ []) img ≡ put (a * geo.fsize + u * 8) (zeros ((per_list geo - u) * 8)) img
unfolding rest_write
rest-apply geo a u img = apply-one _ img

-- a list's bytes: p entries of 8
pub per_bytes : (geo : Geometry) (img : List ℕ) → Frame geo img → per_list geo * 8 ≡ geo.bsize
per_bytes geo img fr =
    let p = per-is geo img fr in
    ⊎_elim (λ e. omega arith) (λ x. ⊎_elim (λ e. omega arith) (λ x. ⊎_elim (λ e. omega arith) (λ x. ⊎_elim (λ e. omega arith) (λ e. omega arith) x) x) x) (size_cases geo.bsize fr.sizes.bsize)

pub list_bytes : (geo : Geometry) (img : List ℕ) → Frame geo img → (a : ℕ) → list_ok geo img a ≡ true
    → (per_list geo * 8 ≡ geo.bsize) × (a * geo.fsize + geo.bsize ≤ length img) × (length img ≤ 1073741824)
list_bytes geo img fr a ok =
    let u = units geo fr.sizes in
    let r = run_inside geo img fr a geo.frag (run_is geo img a geo.frag ok) in
    (per_bytes geo img fr, omega (arith, r, mul_comm geo.frag geo.fsize, u.frags), fr.laid.high)

-- ---- the cases of such a list

module _ (geo : Geometry) (s : Shape) (a base u held : ℕ) (img : List ℕ) where
  pub shrink-none : a ≡ 0 → ◌≡◌ {A = Left ℕ} (img, got held) (leaves (shrink_list geo s a base u held) img)
  unfolding shrink_list
  shrink-none e = leaves-pure held img ∙ choose-yes _ _ img (eq-eqb a 0 e)

  module _ (ne : a ≡ 0 → ⊥) where
    pub shrink-bad : list_ok geo img a ≡ false → ◌≡◌ {A = Left ℕ} (img, refused Damaged) (leaves (shrink_list geo s a base u held) img)
    unfolding shrink_list
    shrink-bad e = list-no geo a img _ e ∙ choose_no _ _ img (ne_eqb a 0 ne)

    module _ (ok : list_ok geo img a ≡ true) {x : List ℕ} {o : Out ℕ} (r : (x, o) ≡ leaves (free_rest geo s a base u held) img) where
      pub shrink-refused : {e : Refusal} → o ≡ refused e → ◌≡◌ {A = Left ℕ} (x, refused e) (leaves (shrink_list geo s a base u held) img)
      unfolding shrink_list
      shrink-refused q = step-bad (free_rest geo s a base u held) _ img r q ∙ list-yes geo a img _ ok ∙ choose_no _ _ img (ne_eqb a 0 ne)

      pub shrink-done : {h : ℕ} → o ≡ got h → {y : List ℕ} → y ≡ apply (rest_write geo a u ∷ []) x → ◌≡◌ {A = Left ℕ} (y, got h) (leaves (shrink_list geo s a base u held) img)
      unfolding shrink_list
      shrink-done {h} q {y} e =
          rw e (leaves-pure h _ ∙ step_store (rest_write geo a u ∷ []) (λ _. pure h) x)
          ∙ step-good (free_rest geo s a base u held) _ img r q ∙ list-yes geo a img _ ok ∙ choose_no _ _ img (ne_eqb a 0 ne)

-- ---- a root at hand

pub copied : (geo : Geometry) (img : List ℕ) → Frame geo img → (a : ℕ) → list_ok geo img a ≡ true → (xs root : List ℕ) → length xs ≡ 65536 → root ≡ put 0 (part geo.bsize (a * geo.fsize) img) xs → Copied geo img a root
copied geo img fr a ok xs root n e =
    let u = units geo fr.sizes in
    let b = list_bytes geo img fr a ok in
    let w = length-part geo.bsize (a * geo.fsize) img b.1 in
    record {
      room = rw (e, length-put 0 (part geo.bsize (a * geo.fsize) img) xs, n) u.block_top;
      bytes = rw e (subst (λ (x : ℕ). part x 0 (put 0 (part geo.bsize (a * geo.fsize) img) xs) ≡ part geo.bsize (a * geo.fsize) img) w
          (part-put 0 (part geo.bsize (a * geo.fsize) img) xs (omega (arith, w, n, u.block_top))));
    }

num-same : (o : Order) (n a c : ℕ) (xs ys : List ℕ) → part n a xs ≡ part n c ys → num o n a xs ≡ num o n c ys
unfolding num
num-same o n a c xs ys e = rw e

-- a part of a part
part-part : (n k m at : ℕ) (xs : List ℕ) → k + n ≤ m → at + m ≤ length xs → part n k (part m at xs) ≡ part n (at + k) xs
part-part n k m at xs l r =
    let e = length-part n (at + k) xs (omega arith) in
    let f = length-part m at xs r in
    subst (λ (x : ℕ). part x k (part m at xs) ≡ part n (at + k) xs) e
    (part-is k (part n (at + k) xs) (part m at xs) (omega arith)
    (λ i h. get_or-part m at xs (k + i) (omega arith) ∙ ap (λ (x : ℕ). get_or xs x 0) (let q : at + (k + i) ≡ at + k + i = omega arith in q) ∙ sym (get_or-part n (at + k) xs i (omega arith))))

module _ (geo : Geometry) (img : List ℕ) (fr : Frame geo img) (a : ℕ) (ok : list_ok geo img a ≡ true) (root : List ℕ) (c : Copied geo img a root) where
  copied-part : (n k : ℕ) → k + n ≤ geo.bsize → part n k root ≡ part n (a * geo.fsize + k) img
  copied-part n k l =
      let b = list_bytes geo img fr a ok in
      let z : k ≡ 0 + k = omega arith in
      ap (λ (x : ℕ). part n x root) z ∙ sym (part-part n k geo.bsize 0 root l (omega (arith, c.room))) ∙ ap (part n k) c.bytes ∙ part-part n k geo.bsize (a * geo.fsize) img l b.1

  pub copied-entry : (i : ℕ) → i < per_list geo → entry_in geo root i ≡ entry_at geo img a i
  unfolding entry_in entry_at
  copied-entry i l =
      let b = list_bytes geo img fr a ok in
      num-same geo.order 8 (i * 8) (a * geo.fsize + i * 8) root img (copied-part 8 (i * 8) (omega (arith, b.0, l)))

  pub root-apply : (u : ℕ) → u ≤ per_list geo → (x : List ℕ) → put (a * geo.fsize + u * 8) (zeros ((per_list geo - u) * 8)) (put (a * geo.fsize) (part (u * 8) 0 root) x) ≡ apply (root_write geo img a u ∷ []) x
  unfolding root_write
  root-apply u l x =
      let b = list_bytes geo img fr a ok in
      let e = copied-part (u * 8) 0 (omega (arith, b.0, l)) in
      let z : a * geo.fsize + 0 ≡ a * geo.fsize = omega arith in
      let n = length-part (u * 8) (a * geo.fsize) img (omega (arith, b.0, b.1, l)) in
      rw (e, z) (ap (λ (y : ℕ). put (a * geo.fsize + y) (zeros ((per_list geo - u) * 8)) (put (a * geo.fsize) (part (u * 8) (a * geo.fsize) img) x)) (sym n))
      ∙ sym (apply-one _ x ∙ put_append (a * geo.fsize) (part (u * 8) (a * geo.fsize) img) (zeros ((per_list geo - u) * 8)) x)

-- ---- the lists at addresses that agree

each_agree : {S : Type 0} (f g : ℕ → S → Act S) (n i : ℕ) (h : S) → ((j : ℕ) → i ≤ j → j < i + n → f j ≡ g j) → each f n i h ≡ each g n i h
unfolding each
each_agree f g zero i h e = refl
each_agree f g (suc n) i h e = rw (e i (omega arith) (omega arith)) (ap (λ k. g i h >>= k) (λ x. λ h'. each_agree f g n (i + 1) h' (λ j l r. e j (omega arith) (omega arith)) x))

pub lists_agree : (geo : Geometry) (s : Shape) (f g : ℕ → ℕ) (u held : ℕ) → ((j : ℕ) → j < per_list geo → f j ≡ g j) → free_lists geo s f u held ≡ free_lists geo s g u held
unfolding free_lists
lists_agree geo s f g u held e =
    each_agree (λ i h. free_tree geo s 1 (f i) i h) (λ i h. free_tree geo s 1 (g i) i h) (per_list geo - u) u held (λ j l r. ap (λ (x : ℕ). λ h. free_tree geo s 1 x j h) (e j (omega arith)))

-- as a loop meets them: those before place i are done
module _ (geo : Geometry) (s : Shape) (f : ℕ → ℕ) (per : ℕ) (ep : per ≡ per_list geo) (i left : ℕ) (img : List ℕ) (whole : Left ℕ)
    (inv : leaves (each (λ i h. free_tree geo s 1 (f i) i h) (per_list geo - i) i left) img ≡ whole) where
  module _ (l : i < per) (e : ℕ) (q : e ≡ f i) {x : List ℕ} {o : Out ℕ} (r : (x, o) ≡ leaves (free_tree geo s 1 e i left) img) where
    at_place : (x, o) ≡ leaves (free_tree geo s 1 (f i) i left) img
    at_place = r ∙ ap (λ (y : ℕ). leaves (free_tree geo s 1 y i left) img) q

    pub lists-good : {h : ℕ} → o ≡ got h → leaves (each (λ i h. free_tree geo s 1 (f i) i h) (per_list geo - (i + 1)) (i + 1) h) x ≡ whole
    lists-good g = each-good (λ i h. free_tree geo s 1 (f i) i h) (per_list geo) i img left (rw (← ep) l) at_place g ∙ inv

    pub lists-bad : {n : Refusal} → o ≡ refused n → (x, refused n) ≡ whole
    lists-bad g = each-bad (λ i h. free_tree geo s 1 (f i) i h) (per_list geo) i img left (rw (← ep) l) at_place g ∙ inv

  pub lists-end : per ≤ i → (img, got left) ≡ whole
  lists-end l = each-end (λ i h. free_tree geo s 1 (f i) i h) (per_list geo) i img left (rw (← ep) l) ∙ inv

pub lists-left : (geo : Geometry) (s : Shape) (f : ℕ → ℕ) (u held : ℕ) (img : List ℕ) → leaves (each (λ i h. free_tree geo s 1 (f i) i h) (per_list geo - u) u held) img ≡ leaves (free_lists geo s f u held) img
unfolding free_lists
lists-left geo s f u held img = refl

-- a call that reads the image it meets
pub here-left : {A : Type 0} (f : List ℕ → Act A) (img : List ℕ) → leaves (f img) img ≡ leaves (λ x. f x x) img
unfolding leaves
here-left f img = refl

-- where the list that stays in part stands, of u blocks
pub high-below : (geo : Geometry) (u p : ℕ) → p ≡ per_list geo → 0 < per_list geo → u < per_list geo * per_list geo → u / p < per_list geo
high-below geo u p e z l = rw e ((div-lt_iff_lt-mul {k = per_list geo} {x = u} {y = per_list geo} z).1 l)

pub low-below : (geo : Geometry) (u p : ℕ) → p ≡ per_list geo → 0 < per_list geo → u % p ≤ per_list geo
low-below geo u p e z = rw e (let l = mod-lt u z in omega (arith, l))

pub first-below : (geo : Geometry) (u p : ℕ) → p ≡ per_list geo → per_list geo ≤ 8192 → u < per_list geo * per_list geo → u / p * p < 67108864
first-below geo u p e m l = let q : per_list geo * per_list geo ≤ 8192 * 8192 = mul-le-mul m m in omega (arith, div-mul-le_self u p, l, q)

cut-here : {A : Type 0} (f : List ℕ → Act A) (k : ℕ) (img : List ℕ) → cut_act k (λ x. f x x) img ≡ cut_act k (f img) img
cut-here f k img = cut_act_lem k (λ x. f x x) img ∙ sym (cut_act_lem k (f img) img)

-- ---- the cases of a list of lists

module _ (geo : Geometry) (s : Shape) (a first high low held : ℕ) (before img : List ℕ) {x : List ℕ} {o : Out ℕ} (r : (x, o) ≡ leaves (shrink_list geo s (entry_at geo before a high) first low held) img) where
  pub from-stopped : {e : Refusal} → o ≡ refused e → ◌≡◌ {A = Left ℕ} (x, refused e) (leaves (shrink_from geo s a first high low held before) img)
  unfolding shrink_from
  from-stopped q = step-bad (shrink_list geo s (entry_at geo before a high) first low held) _ img r q

  module _ (h : ℕ) (q : o ≡ got h) {y : List ℕ} {p : Out ℕ} (t : (y, p) ≡ leaves (free_lists geo s (entry_at geo before a) (high + 1) h) x) where
    pub from-refused : {e : Refusal} → p ≡ refused e → ◌≡◌ {A = Left ℕ} (y, refused e) (leaves (shrink_from geo s a first high low held before) img)
    unfolding shrink_from
    from-refused w = step-bad (free_lists geo s (entry_at geo before a) (high + 1) h) _ x t w ∙ step-good (shrink_list geo s (entry_at geo before a high) first low held) _ img r q

    pub from-done : {h' : ℕ} → p ≡ got h' → {z : List ℕ} → z ≡ apply (root_write geo before a (high + 1) ∷ []) y → ◌≡◌ {A = Left ℕ} (z, got h') (leaves (shrink_from geo s a first high low held before) img)
    unfolding shrink_from
    from-done {h'} w {z} e =
        rw e (leaves-pure h' _ ∙ step_store (root_write geo before a (high + 1) ∷ []) (λ _. pure h') y)
        ∙ step-good (free_lists geo s (entry_at geo before a) (high + 1) h) _ x t w ∙ step-good (shrink_list geo s (entry_at geo before a high) first low held) _ img r q

module _ (geo : Geometry) (s : Shape) (a base u held : ℕ) (img : List ℕ) where
  pub lists-none : a ≡ 0 → ◌≡◌ {A = Left ℕ} (img, got held) (leaves (shrink_lists geo s a base u held) img)
  unfolding shrink_lists
  lists-none e = leaves-pure held img ∙ choose-yes _ _ img (eq-eqb a 0 e)

  module _ (ne : a ≡ 0 → ⊥) where
    pub lists-not : list_ok geo img a ≡ false → ◌≡◌ {A = Left ℕ} (img, refused Damaged) (leaves (shrink_lists geo s a base u held) img)
    unfolding shrink_lists
    lists-not e = list-no geo a img _ e ∙ choose_no _ _ img (ne_eqb a 0 ne)

    pub lists-from : list_ok geo img a ≡ true → (p : ℕ) → p ≡ per_list geo → leaves (shrink_from geo s a (base + u / p * p) (u / p) (u % p) held img) img ≡ leaves (shrink_lists geo s a base u held) img
    unfolding shrink_lists
    lists-from ok p e = rw e (at_once ∙ list-yes geo a img _ ok ∙ choose_no _ _ img (ne_eqb a 0 ne))
      where
        at_once : leaves (shrink_from geo s a (base + u / per_list geo * per_list geo) (u / per_list geo) (u % per_list geo) held img) img
            ≡ leaves (λ x. shrink_from geo s a (base + u / per_list geo * per_list geo) (u / per_list geo) (u % per_list geo) held x x) img
        at_once = here-left (λ x. shrink_from geo s a (base + u / per_list geo * per_list geo) (u / per_list geo) (u % per_list geo) held x) img

-- the same from what the code has at hand
module _ (geo : Geometry) (s : Shape) (a first high low held : ℕ) (img : List ℕ) (fr : Frame geo img) (ok : list_ok geo img a ≡ true) (root : List ℕ) (c : Copied geo img a root) where
  pub list-at-hand : (e : ℕ) → e ≡ entry_in geo root high → high < per_list geo → {x : List ℕ} {o : Out ℕ} → (x, o) ≡ leaves (shrink_list geo s e first low held) img
      → (x, o) ≡ leaves (shrink_list geo s (entry_at geo img a high) first low held) img
  list-at-hand e q l r = r ∙ ap (λ (y : ℕ). leaves (shrink_list geo s y first low held) img) (q ∙ copied-entry geo img fr a ok root c high l)

module _ (geo : Geometry) (s : Shape) (a : ℕ) (img : List ℕ) (fr : Frame geo img) (ok : list_ok geo img a ≡ true) (root : List ℕ) (c : Copied geo img a root) where
  pub lists-at-hand : (u h : ℕ) (x : List ℕ) {y : List ℕ} {p : Out ℕ} → (y, p) ≡ leaves (free_lists geo s (entry_in geo root) u h) x → (y, p) ≡ leaves (free_lists geo s (entry_at geo img a) u h) x
  lists-at-hand u h x r = r ∙ ap (λ (m : Act ℕ). leaves m x) (lists_agree geo s (entry_in geo root) (entry_at geo img a) u h (λ j l. copied-entry geo img fr a ok root c j l))

-- ---- the layout stays

-- zeros in a list
pub keeps_rest_write : (geo : Geometry) (a u : ℕ) (start img : List ℕ) → Steady geo start img → list_ok geo img a ≡ true → u ≤ per_list geo → Steady geo start (apply (rest_write geo a u ∷ []) img)
keeps_rest_write geo a u start img st ok l =
    let b = list_bytes geo img st.frame a ok in
    let n = units geo st.frame.sizes in
    steady-trans geo st
    (run-steady geo img st.frame a geo.frag _ (frag-some geo.frag st.frame.sizes.frag) (run_is geo img a geo.frag ok)
    (rw (rest-apply geo a u img)
    (kept_wider (a * geo.fsize) (geo.frag * geo.fsize) (omega arith) (omega (arith, b.0, l, mul_comm geo.frag geo.fsize, n.frags, length-zeros ((per_list geo - u) * 8)))
    (kept-put (a * geo.fsize + u * 8) (zeros ((per_list geo - u) * 8)) img))))

module _ (geo : Geometry) where
  pub keeps-rest : (s : Shape) (a base u held : ℕ) → Keeps geo (free_rest geo s a base u held)
  unfolding free_rest
  keeps-rest s a base u held = keeps-each geo _ (keeps_entry geo (λ e i h. free_tree geo s 0 e (base + i) h) (λ e i h. keeps-tree geo s 0 e (base + i) h) a) (per_list geo - u) u held

  pub keeps-shrink-list : (s : Shape) (a base u held : ℕ) → u ≤ per_list geo → Keeps geo (shrink_list geo s a base u held)
  unfolding shrink_list
  keeps-shrink-list s a base u held l start img st =
      always-choose (eqb a 0) (λ e. always-pure held st)
      (λ e. always-list geo a st (λ ok. always-bind (keeps-rest s a base u held start img st)
      (λ h q. let t = always-all (keeps-rest s a base u held start img st) in
      let m = always-all (keeps-rest s a base u held img img (steady-refl geo img st.frame)) in
      always-store-bind (rest_write geo a u ∷ []) (λ _. pure h) t (always-pure h (keeps_rest_write geo a u start _ t (steady-run geo m a geo.frag ∙ ok) l)))))

  pub keeps-lists : (s : Shape) (f : ℕ → ℕ) (u held : ℕ) → Keeps geo (free_lists geo s f u held)
  unfolding free_lists
  keeps-lists s f u held = keeps-each geo _ (λ i h. keeps-tree geo s 1 (f i) i h) (per_list geo - u) u held

-- a root stored as it was, with zeros behind
pub keeps_root_write : (geo : Geometry) (before : List ℕ) (a u : ℕ) (start img : List ℕ) → Steady geo start img → Steady geo before img → Frame geo before → list_ok geo before a ≡ true → u ≤ per_list geo
    → Steady geo start (apply (root_write geo before a u ∷ []) img)
unfolding root_write
keeps_root_write geo before a u start img st sb fr ok l =
    let b = list_bytes geo before fr a ok in
    let n = units geo fr.sizes in
    let w = length-part (u * 8) (a * geo.fsize) before (omega (arith, b.0, b.1, l)) in
    let z = length-zeros ((per_list geo - u) * 8) in
    let k = length-append (part (u * 8) (a * geo.fsize) before) (zeros ((per_list geo - u) * 8)) in
    let here = steady-run geo sb a geo.frag ∙ ok in
    steady-trans geo st
    (run-steady geo img st.frame a geo.frag _ (frag-some geo.frag fr.sizes.frag) (run_is geo img a geo.frag here)
    (rw (apply-one (record { at = a * geo.fsize; bytes = part (u * 8) (a * geo.fsize) before ++ zeros ((per_list geo - u) * 8) }) img)
    (kept_wider (a * geo.fsize) (geo.frag * geo.fsize) (omega arith) (omega (arith, b.0, l, mul_comm geo.frag geo.fsize, n.frags, w, z, k))
    (kept-put (a * geo.fsize) (part (u * 8) (a * geo.fsize) before ++ zeros ((per_list geo - u) * 8)) img))))

module _ (geo : Geometry) where
  always-from : (s : Shape) (a first high low held : ℕ) (before : List ℕ) → Frame geo before → list_ok geo before a ≡ true → high < per_list geo → low ≤ per_list geo
      → (start img : List ℕ) → Steady geo start img → Steady geo before img → Always (Steady geo start) (shrink_from geo s a first high low held before) img
  unfolding shrink_from
  always-from s a first high low held before fr ok h l start img st sb =
      always-bind (keeps-shrink-list geo s (entry_at geo before a high) first low held l start img st)
      (λ m q. let t = always-all (keeps-shrink-list geo s (entry_at geo before a high) first low held l start img st) in
      let tb = always-all (keeps-shrink-list geo s (entry_at geo before a high) first low held l before img sb) in
      always-bind (keeps-lists geo s (entry_at geo before a) (high + 1) m start _ t)
      (λ n q. let r = always-all (keeps-lists geo s (entry_at geo before a) (high + 1) m start _ t) in
      let rb = always-all (keeps-lists geo s (entry_at geo before a) (high + 1) m before _ tb) in
      always-store-bind (root_write geo before a (high + 1) ∷ []) (λ _. pure n) r (always-pure n (keeps_root_write geo before a (high + 1) start _ r rb fr ok (omega arith)))))

  pub keeps-shrink-lists : (s : Shape) (a base u held : ℕ) → 0 < per_list geo → u < per_list geo * per_list geo → Keeps geo (shrink_lists geo s a base u held)
  unfolding shrink_lists
  keeps-shrink-lists s a base u held z l start img st =
      always-choose (eqb a 0) (λ e. always-pure held st)
      (λ e. always-list geo a st (λ ok. record {
        holds = λ k. rw (cut-here (λ x. shrink_from geo s a (base + u / per_list geo * per_list geo) (u / per_list geo) (u % per_list geo) held x) k img)
            ((always-from s a (base + u / per_list geo * per_list geo) (u / per_list geo) (u % per_list geo) held img st.frame ok (high-below geo u (per_list geo) refl z l) (low-below geo u (per_list geo) refl z) start img st (steady-refl geo img st.frame)).holds k);
      }))
