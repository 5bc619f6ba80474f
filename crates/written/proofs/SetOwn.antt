-- Setting a block's address adds that place alone, with the lists above it, and leaves the file's blocks its own. Assumes nothing.
use mathlib.Core.Path.{◌≡◌, refl, sym, ap, subst, ◌∙◌}
use mathlib.Core.Bool.{Bool, true, false}
use mathlib.Core.List.{List, [], ◌∷◌}
use mathlib.Core.Logic.{◌⊎◌, ⊎_elim}
use Prim.Native.Nat.{ℕ, zero, suc, ◌+◌, ◌-◌, ◌*◌, ◌/◌, ◌%◌, ◌^◌, ◌≤◌, ◌<◌}
use native.Mathlib.Nat.{add-mul, mul_assoc, mul_comm, pow-suc, pow-zero, one-mul, div-add-mod'}
use native.Mathlib.Omega.{arith}
use native.Mathlib.Decide.{ℕ_discrete}
use lib.ListN.{length}
use Rattle.field.specs.Field.{put, part}
use Rattle.field.proofs.Laws.{put-part}
use Rattle.refusal.specs.declared.Refusal.TheVariants.{Damaged}
use Rattle.store.specs.Store.{Write, Store, apply, apply_all}
use Rattle.store.specs.Where.{none, more, Range, KeptBut}
use Rattle.store.specs.Act.{Out, got, refused, Act, refuse, store, ◌>>=◌, choose, leaves}
use Rattle.store.proofs.StoreLaws.{apply-one, apply_append, apply_all-one, apply_all_append, num-number}
use Rattle.store.proofs.ActLaws.{through, stores-store, stores-good, left-image, left_out, refuse-out}
use Rattle.store.proofs.OnlyLaws.{number_in, kept-but-refl, kept-but_trans, kept-but-more, kept-but-part, kept-but-store}
use Rattle.volume.specs.declared.Geometry.{Geometry}
use Rattle.frame.specs.Frame.{Frame, RunOk}
use Rattle.frame.proofs.Places.{run_inside}
use Rattle.bits.proofs.BitsLaws.{frag-some}
use Rattle.mapping.specs.Mapping.{per_list, entry_at, list_ok}
use Rattle.mapping.proofs.MappingLaws.{per-is, per-some}
use Rattle.balloc_give.specs.Give.{give_zeroed}
use Rattle.books.specs.Books.{Book, Steady}
use Rattle.books.proofs.SteadyLaws.{steady-refl, steady-trans}
use Rattle.ialloc_tree.specs.Tree.{on_list}
use Rattle.inode_setblock.specs.Set.{entry_write, list_store, next_list, set_in}
use Rattle.inode_setblock.proofs.GivenLaws.{block-bytes, block-steady, run-moves}
use Rattle.inode_setblock.proofs.SetLaws.{slot-in, rest_in, last_in, next-there, next-given, next-none}
use Rattle.touched_write.specs.Free.{Free}
use Rattle.touched_write.proofs.SetStores.{entry_in}
use Rattle.written.specs.Own.{Pos, levels, Valid, node, node_at, Claims, Own}
use Rattle.written.proofs.NodeLaws.{pos, IsData, child-some, child-node, child-valid}
use Rattle.written.proofs.MoveLaws.{Moved, moved-trans, Spare, spare-moved}
use Rattle.written.proofs.ClaimLaws.{list-claim, claim-books, list-run, run-small, run-some, entry-same, entry-among}
use Rattle.written.proofs.LinkLaws.{Nothing, LinkByte, by_book, by_free, by_entry, else-moved, link-list, link-node, link-data}
use Rattle.written.proofs.GivenOwn.{block-fewer, Fresh, zeroed-fresh, zeroed-blank, fresh-unclaimed}

-- ---- what calls leave

pub bind_image : {A B : Type 0} (m : Act A) (f : A → Act B) (img : List ℕ) {a : A} → (m img).out ≡ got a → apply_all ((m >>= f) img).stores img ≡ apply_all (f a (apply_all (m img).stores img)).stores (apply_all (m img).stores img)
bind_image m f img {a} e = ap (λ (ss : List Store). apply_all ss img) (stores-good m f img e) ∙ apply_all_append (m img).stores (f a (apply_all (m img).stores img)).stores img

-- on a list that is one
pub on_list_lem : {A : Type 0} (geo : Geometry) (a : ℕ) (m : Act A) (img : List ℕ) {u : A} → (on_list geo a m img).out ≡ got u → ((on_list geo a m img).stores ≡ (m img).stores) × ((m img).out ≡ got u)
unfolding on_list choose
on_list_lem {A} geo a m img {u} e = go (list_ok geo img a) e
  where
    go : (b : Bool) → (choose b m (refuse Damaged) img).out ≡ got u → ((choose b m (refuse Damaged) img).stores ≡ (m img).stores) × ((m img).out ≡ got u)
    go true e = (refl, e)
    go false e = absurd (refuse-out Damaged img e)

-- ---- an entry stored: from y, which differs from x in books and in what was free

module _ (geo : Geometry) (x y : List ℕ) (fr : Frame geo x) (s : Steady geo x y) (fewer : (j : ℕ) → Free geo y j → Free geo x j) (kept : KeptBut (λ j. Book geo x j ⊎ Free geo x j) x y)
    (b i e : ℕ) (l : i < per_list geo) (run : RunOk geo y b geo.frag) where
  abbrev stored : List ℕ
  stored = apply (entry_write geo b i e ∷ []) y

  entry-only : KeptBut (Range (b * geo.fsize + i * 8) 8) y stored
  unfolding entry_write
  entry-only = kept-but-store (more (number_in geo.order 8 (b * geo.fsize + i * 8) e (λ j r. r)) none) y

  pub entry-link : KeptBut (LinkByte geo x b i) x stored
  entry-link = kept-but_trans (kept-but-more (λ j q. ⊎_elim by_book by_free q) kept) (kept-but-more (λ j r. by_entry r) entry-only)

  pub entry-back : e ≤ 1073741824 → entry_at geo stored b i ≡ e
  unfolding entry_at entry_write
  entry-back small =
      let w = run_inside geo y s.frame b geo.frag run in
      let p = rw (per-is geo x fr) at l in
      num-number geo.order 8 (b * geo.fsize + i * 8) e y (omega arith) (omega (arith, w, p, block-bytes geo x fr))

  pub entry-moves : Steady geo x stored
  entry-moves = steady-trans geo s (block-steady geo y s.frame b run (entry_write geo b i e ∷ []) (entry_in geo y s.frame b i e l))

  pub entry-fewer : (j : ℕ) → Free geo stored j → Free geo y j
  entry-fewer j f = block-fewer geo y s.frame b run (entry_write geo b i e ∷ []) (entry_in geo y s.frame b i e l) f

  -- another list has its entries
  pub entry-beside : (a m : ℕ) → m < per_list geo → ((j : ℕ) → Range (a * geo.fsize) geo.bsize j → Range (b * geo.fsize) geo.bsize j → ⊥) → entry_at geo stored a m ≡ entry_at geo y a m
  entry-beside a m lm n = entry-same geo s.frame entry-only a m lm (λ j r q. n j r (entry-among geo y s.frame b i j l q))

-- a list stored as it was read, with an entry changed, is the entry stored
list_again : (geo : Geometry) (y bytes : List ℕ) (b i e : ℕ) → bytes ≡ part geo.bsize (b * geo.fsize) y → b * geo.fsize + geo.bsize ≤ length y → apply (list_store geo bytes b i e) y ≡ apply (entry_write geo b i e ∷ []) y
unfolding list_store
list_again geo y bytes b i e h l =
    let w : Write = record { at = b * geo.fsize; bytes = bytes } in
    apply_append (w ∷ []) (entry_write geo b i e ∷ []) y
    ∙ ap (apply (entry_write geo b i e ∷ [])) (apply-one w y ∙ ap (λ (v : List ℕ). put (b * geo.fsize) v y) h ∙ put-part geo.bsize (b * geo.fsize) y l)

-- ---- numbers of places

pub over-place : (q p s e big k t : ℕ) → big ≡ e * p → s * e + t ≡ k → q * big + k ≡ (q * p + s) * e + t
over-place q p s e big k t a b =
    let h : (q * p + s) * e ≡ q * p * e + s * e = add-mul (q * p) s e in
    let g : q * p * e ≡ q * big = mul_assoc q p e ∙ ap (λ (x : ℕ). q * x) (mul_comm p e ∙ sym a) in
    omega (arith, h, g, b)

-- ---- the way down

module _ (geo : Geometry) (size : ℕ) (top : ℕ → ℕ) (c : Pos) (a : ℕ) where
  -- what is known of a list on the way to place c, which has no address yet
  pub record Way (x : List ℕ) (l r d q k : ℕ) : Type 0 where
    pub frame : Frame geo x
    pub own : Own geo size top x
    pub valid : Valid geo (pos r d q)
    pub deep : d + suc l ≡ levels r
    pub live : node geo x (top r) d q ≡ 0 → ⊥
    pub rest : k < per_list geo ^ (l + 1)
    pub target : c ≡ pos r (levels r) (q * per_list geo ^ (l + 1) + k)
    pub hole : node_at geo x top c ≡ 0
    pub spare : Spare geo size top x a
    pub there : Valid geo c

  module _ (x : List ℕ) (r d q k : ℕ) (w : Way x 0 r d q k) where
    abbrev b : ℕ
    b = node geo x (top r) d q

    below : d < levels r
    below = omega (arith, w.deep)

    slot : k < per_list geo
    slot = last_in (per_list geo) 0 k refl w.rest

    is-new : c ≡ pos r (suc d) (q * per_list geo + k)
    is-new =
        let e : levels r ≡ suc d = omega (arith, w.deep) in
        let p : per_list geo ^ (0 + 1) ≡ per_list geo = pow-suc (per_list geo) 0 ∙ ap (λ (y : ℕ). y * per_list geo) (pow-zero (per_list geo)) ∙ one-mul (per_list geo) in
        w.target ∙ ap (λ (n : ℕ). pos r n (q * per_list geo ^ (0 + 1) + k)) e ∙ ap (λ (n : ℕ). pos r (suc d) (q * n + k)) p

    was-none : entry_at geo x b k ≡ 0
    was-none = sym (child-some geo x k w.live) ∙ sym (child-node geo (per-some geo x w.frame) x (top r) d q k slot) ∙ ap (node_at geo x top) (sym is-new) ∙ w.hole

    last-moved : Moved Nothing geo size c a top x top (apply (entry_write geo b k a ∷ []) x)
    last-moved =
        let fr = w.frame in
        let run = list-run geo size top x fr w.own (pos r d q) w.valid below w.live in
        let same = steady-refl geo x fr in
        let stays = entry-moves geo x x fr same (λ j f. f) (kept-but-refl _ x) b k a slot run in
        subst (λ (c : Pos). Moved Nothing geo size c a top x top (apply (entry_write geo b k a ∷ []) x)) (sym is-new)
        (link-data geo size top x (apply (entry_write geo b k a ∷ []) x) fr w.own r d q k w.valid below w.live slot a
        (entry-link geo x x fr same (λ j f. f) (kept-but-refl _ x) b k a slot run)
        (entry-back geo x x fr same (λ j f. f) (kept-but-refl _ x) b k a slot run (run-small geo x fr a geo.frag w.spare.run))
        was-none stays
        (λ j f. entry-fewer geo x x fr same (λ j f. f) (kept-but-refl _ x) b k a slot run j f)
        (run-moves geo same stays a geo.frag w.spare.run)
        w.spare.unclaimed
        (λ j f t. w.spare.taken (entry-fewer geo x x fr same (λ j f. f) (kept-but-refl _ x) b k a slot run j f) t)
        (λ t. absurd (let z : ⊥ = omega (arith, t, w.deep) in z))
        (omega (arith, w.deep)))

  module _ (x : List ℕ) (l r d q k : ℕ) (w : Way x (suc l) r d q k) where
    -- the list above, the place in it, and what is left
    abbrev high : ℕ
    high = node geo x (top r) d q

    abbrev s : ℕ
    s = k / per_list geo ^ suc l

    abbrev t : ℕ
    t = k % per_list geo ^ suc l

    some : 0 < per_list geo
    some = per-some geo x w.frame

    above-data : d < levels r
    above-data = omega (arith, w.deep)

    s-in : s < per_list geo
    s-in = slot-in (per_list geo) (suc l) _ some refl k w.rest

    t-in : t < per_list geo ^ (l + 1)
    t-in = let same : suc l - 1 + 1 ≡ l + 1 = omega arith in rw same at (rest_in (per_list geo) (suc l) _ some refl k (λ z. let f : ⊥ = omega arith in f))

    next-target : c ≡ pos r (levels r) ((q * per_list geo + s) * per_list geo ^ (l + 1) + t)
    next-target =
        let p = per_list geo in
        let up : l + 1 ≡ suc l = omega arith in
        let big : p ^ (suc l + 1) ≡ p ^ suc l * p = ap (λ (n : ℕ). p ^ n) (omega arith) ∙ pow-suc p (suc l) in
        let e = over-place q p s (p ^ suc l) (p ^ (suc l + 1)) k t big (div-add-mod' k (p ^ suc l)) in
        w.target ∙ ap (pos r (levels r)) (e ∙ ap (λ (n : ℕ). (q * p + s) * p ^ n + t) (sym up))

    -- what the next list leaves
    pub record Next (e : ℕ) (y : List ℕ) : Type 0 where
      pub moved : Moved Nothing geo size c 0 top x top y
      pub is : node geo y (top r) (suc d) (q * per_list geo + s) ≡ e
      pub way : Way y l r (suc d) (q * per_list geo + s) t

    data-there : IsData c
    data-there = ap (λ (c : Pos). c.depth) w.target ∙ sym (ap (λ (c : Pos). levels c.root) w.target)

    go_on : {e : ℕ} {y : List ℕ} → Moved Nothing geo size c 0 top x top y → node geo y (top r) (suc d) (q * per_list geo + s) ≡ e → (e ≡ 0 → ⊥) → Next e y
    go_on m is n =
        record {
          moved = m;
          is = is;
          way = record {
            frame = m.steady.frame;
            own = m.own;
            valid = child-valid geo some r d q s w.valid above-data s-in;
            deep = omega (arith, w.deep);
            live = λ z. n (sym is ∙ z);
            rest = t-in;
            target = next-target;
            hole = m.here;
            spare = spare-moved geo size c a w.frame m w.spare;
            there = w.there;
          };
        }

    old-list : (entry_at geo x high s ≡ 0 → ⊥) → Next (entry_at geo x high s) x
    old-list n =
        go_on (else-moved geo size top top x x w.frame (λ k l. refl) Nothing (kept-but-refl Nothing x) (λ c j l p q. q) Nothing w.own (steady-refl geo x w.frame) (λ j f. f) (kept-but-refl _ x) c w.there w.hole)
        (child-node geo some x (top r) d q s s-in ∙ child-some geo x s w.live) n

    module _ (z : entry_at geo x high s ≡ 0) {e : ℕ} (g : (give_zeroed geo x).out ≡ got e) where
      abbrev mid : List ℕ
      mid = apply_all (give_zeroed geo x).stores x

      new-fresh : Fresh geo x mid e
      new-fresh = zeroed-fresh geo x w.frame g

      high-run : RunOk geo x high geo.frag
      high-run = list-run geo size top x w.frame w.own (pos r d q) w.valid above-data w.live

      high-then : RunOk geo mid high geo.frag
      high-then = run-moves geo (steady-refl geo x w.frame) new-fresh.steady high geo.frag high-run

      high-claim : (j : ℕ) → Range (high * geo.fsize) geo.bsize j → Claims geo size top x (pos r d q) j
      high-claim j u = list-claim geo size top x w.frame (pos r d q) w.valid above-data w.live j u

      -- the list is stored as it still is
      read-still : part geo.bsize (high * geo.fsize) x ≡ part geo.bsize (high * geo.fsize) mid
      read-still = sym (kept-but-part new-fresh.kept geo.bsize (high * geo.fsize) (λ j u o. ⊎_elim (λ b. claim-books geo size top x w.frame w.own (pos r d q) j (high-claim j u) b) (λ f. w.own.used (pos r d q) j (high-claim j u) f) o))

      abbrev left : List ℕ
      left = apply (entry_write geo high s e ∷ []) mid

      left_is : apply (list_store geo (part geo.bsize (high * geo.fsize) x) high s e) mid ≡ left
      left_is =
          let i = run_inside geo mid new-fresh.steady.frame high geo.frag high-then in
          list_again geo mid (part geo.bsize (high * geo.fsize) x) high s e read-still (omega (arith, i, block-bytes geo x w.frame))

      -- the new list is none that the file has
      apart-lists : (j : ℕ) → Range (e * geo.fsize) geo.bsize j → Range (high * geo.fsize) geo.bsize j → ⊥
      apart-lists j u v = w.own.used (pos r d q) j (high-claim j v) (new-fresh.free j u)

      still-blank : (m : ℕ) → m < per_list geo → entry_at geo left e m ≡ 0
      still-blank m lm =
          entry-beside geo x mid w.frame new-fresh.steady new-fresh.fewer new-fresh.kept high s e s-in high-then e m lm apart-lists ∙ zeroed-blank geo x w.frame g m lm

      new-list : Next e left
      new-list =
          let fr = w.frame in
          let f = new-fresh in
          let stays = entry-moves geo x mid fr f.steady f.fewer f.kept high s e s-in high-then in
          let born = run-moves geo f.steady stays e geo.frag f.born in
          let less = entry-fewer geo x mid fr f.steady f.fewer f.kept high s e s-in high-then in
          let link = entry-link geo x mid fr f.steady f.fewer f.kept high s e s-in high-then in
          let back = entry-back geo x mid fr f.steady f.fewer f.kept high s e s-in high-then (run-small geo mid f.steady.frame e geo.frag f.born) in
          let kin : suc d < levels r = omega (arith, w.deep) in
          go_on
          (link-list geo size top x left fr w.own r d q s w.valid above-data w.live s-in e link back z stays (λ j h. f.fewer j (less j h)) born
          (fresh-unclaimed geo size top x mid fr w.own e f) (λ j h u. f.taken j (less j h) u) (λ _. still-blank) c w.there kin data-there w.hole f.free)
          (link-node geo size top x left fr w.own r d q s w.valid above-data w.live s-in e link back z stays (λ j h. f.fewer j (less j h)) born
          (fresh-unclaimed geo size top x mid fr w.own e f) (λ j h u. f.taken j (less j h) u) (λ _. still-blank))
          (run-some geo left stays.frame e geo.frag born (frag-some geo.frag fr.sizes.frag))

    -- as the call leaves it
    next-left : {e : ℕ} {y : List ℕ} → (y, got e) ≡ leaves (next_list geo high s) x → Next e y → {n : ℕ} → (next_list geo high s x).out ≡ got n → Next n (apply_all (next_list geo high s x).stores x)
    next-left {e} {y} h p {n} o =
        let same : e ≡ n = (let q : got e ≡ got n = sym (left_out (next_list geo high s) x h) ∙ o in cc) in
        subst (λ (m : ℕ). Next m (apply_all (next_list geo high s x).stores x)) same (subst (Next e) (left-image (next_list geo high s) x h) p)

    pub next-made : {n : ℕ} → (next_list geo high s x).out ≡ got n → Next n (apply_all (next_list geo high s x).stores x)
    unfolding leaves
    next-made {n} o = go (ℕ_discrete (entry_at geo x high s) 0) (give_zeroed geo x).out refl
      where
        go : Dec (entry_at geo x high s ≡ 0) → (z : Out ℕ) → (give_zeroed geo x).out ≡ z → Next n (apply_all (next_list geo high s x).stores x)
        go (no m) z e = next-left (next-there geo high s (entry_at geo x high s) x refl m) (old-list m) o
        go (yes m) (got f) e =
            next-left
            (next-given geo high s (entry_at geo x high s) x refl m {s = apply_all (give_zeroed geo x).stores x} {o = (give_zeroed geo x).out} refl e (part geo.bsize (high * geo.fsize) x) refl (sym (left_is m e)))
            (new-list m e) o
        go (yes m) (refused f) e =
            let h = next-none geo high s (entry_at geo x high s) x refl m {s = apply_all (give_zeroed geo x).stores x} {o = (give_zeroed geo x).out} refl e in
            let q : ◌≡◌ {A = Out ℕ} (refused f) (got n) = sym (left_out (next_list geo high s) x h) ∙ o in
            absurd (let y : ◌≡◌ {A = ℕ} 0 1 = cc in let z : ⊥ = omega arith in z)

  -- ---- to the end

  -- what is left is said of the place, whose address is the list's
  pub set-moved : (l : ℕ) (x : List ℕ) (r d q k : ℕ) → Way x l r d q k → {u : Unit {0}} → (set_in geo l (node geo x (top r) d q) k a x).out ≡ got u
      → Moved Nothing geo size c a top x top (apply_all (set_in geo l (node geo x (top r) d q) k a x).stores x)
  unfolding set_in
  set-moved zero x r d q k w {u} o =
      let n = node geo x (top r) d q in
      let h = on_list_lem geo n (store (entry_write geo n k a ∷ [])) x o in
      subst (Moved Nothing geo size c a top x top)
      (sym (ap (λ (ss : List Store). apply_all ss x) (h.0 ∙ stores-store (entry_write geo n k a ∷ []) x) ∙ apply_all-one (entry_write geo n k a ∷ []) x))
      (last-moved x r d q k w)
  set-moved (suc l) x r d q k w {u} o =
      let n = node geo x (top r) d q in
      let p = per_list geo in
      let m = next_list geo n (k / p ^ suc l) in
      let h = on_list_lem geo n (m >>= (λ e. set_in geo l e (k % p ^ suc l) a)) x o in
      let two = through m (λ e. set_in geo l e (k % p ^ suc l) a) x h.1 in
      let y = apply_all (m x).stores x in
      let next = next-made x l r d q k w two.first in
      let end = set-moved l y r (suc d) (q * p + k / p ^ suc l) (k % p ^ suc l) next.way (subst (λ (e : ℕ). (set_in geo l e (k % p ^ suc l) a y).out ≡ got u) (sym next.is) two.second) in
      subst (Moved Nothing geo size c a top x top)
      (sym (ap (λ (ss : List Store). apply_all ss x) h.0 ∙ bind_image m (λ e. set_in geo l e (k % p ^ suc l) a) x two.first))
      (moved-trans geo size c next.moved (subst (λ (e : ℕ). Moved Nothing geo size c a top y top (apply_all (set_in geo l e (k % p ^ suc l) a y).stores y)) next.is end))
