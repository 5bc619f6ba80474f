-- The calls on one block in the words of what its walk shows: linking adds one record, unlinking takes the first of that name out,
-- and a search by name is one of what is shown. From `Theorems`. Assumes nothing.
use Rattle.std.specs.Prelude.{Option, Some, None, Result, Ok, Err}
use mathlib.Core.Path.{◌≡◌, refl, sym, ap, ap₂, subst, ◌∙◌}
use mathlib.Core.Bool.{Bool, true, false, cond, not, ◌&&◌}
use mathlib.Core.List.{List, [], ◌∷◌, ◌++◌}
use mathlib.Core.Logic.{◌⊎◌, inl, inr}
use Prim.Native.Nat.{ℕ, ◌+◌, ◌<◌}
use native.Mathlib.Decide.{dec_lt}
use native.Mathlib.Omega.{arith}
use lib.ListN.{length}
use lib.Dec.{eqb}
use Rattle.field.specs.declared.Order.{Order}
use Rattle.field.specs.Field.{Bytes}
use Rattle.dirblock.specs.declared.Entry.{Entry}
use Rattle.dirblock.specs.declared.Rec.{Rec}
use Rattle.dirblock.specs.declared.Rec.TheVariants as Rec
use Rattle.dirblock.specs.declared.Spot.{Spot}
use Rattle.dirblock.specs.declared.Linked.{Linked}
use Rattle.dirblock.specs.declared.Linked.TheVariants as Linked
use Rattle.dirblock.specs.declared.Unlinked.{Unlinked}
use Rattle.dirblock.specs.declared.Unlinked.TheVariants as Unlinked
use Rattle.dirblock.specs.Record.{rec_at, name_at, absorb, listed, findable}
use Rattle.dirblock.specs.Walk.{Item, Stop, ended, damaged, walk_from}
use Rattle.dirblock.specs.Search.{pick_find, search_among, search_from, same_name, named, find_in, room_in}
use Rattle.dirblock.specs.Write.{put_rec}
use Rattle.dirblock.specs.Link.{link_at, linking, link_in, by_next, unlink_later, unlink_first, unlink_in}
use Rattle.dirblock.specs.Shown.{Shown, shown, shown_all, shows, Health, whole, health_of, health, inode, absent, looked_of, wanted, pick_looked, look_among}
use Rattle.dirblock.proofs.RecordLaws.{held, never-unused}
use Rattle.dirblock.proofs.SearchLaws.{same-name, name-same}
use Rattle.dirblock.proofs.FoundLaws.{Leads, NoneOf, Prior, FoundAt, find-found, room-found}
use Rattle.dirblock.proofs.LinkLaws.{first-there, unlink-first-told, unlink-later-told, unlink-absent, unlink-bad}
use Rattle.dirblock.proofs.KeptLaws.{item, leads_on, leads-same}
use Rattle.dirblock.proofs.Theorems.{shown_as, shown_snoc, first-shows, first-whole, Removed, later-removed, first-removed, Linkable, Added, link-added}
use Rattle.refusal.specs.Refusal.{damage}
use Rattle.refusal.specs.declared.Damage.{Damage}

-- ---- linking

-- a link that is done adds the record, and leaves every other as it was shown
pub link_adds : (o : Order) (block now : List ℕ) (ino kind : ℕ) (name : List ℕ) → Bytes block → Linkable ino kind name
    → link_in o block ino kind name ≡ (now, Ok Linked.Done) → Added o block now (record { inr = ino; kind = kind; name = name })
unfolding link_in
link_adds o block now ino kind name b can q = go (room_in o block (length name)) refl q
  where
    go : (k : Result (Option (ℕ × Entry)) Damage) → room_in o block (length name) ≡ k → linking o block ino kind name k ≡ (now, Ok Linked.Done) → Added o block now (record { inr = ino; kind = kind; name = name })
    go (Ok (Some (pos, e))) h q =
        let s : link_at o block pos e ino kind name ≡ now = ap (λ (x : List ℕ × Result Linked Damage). x.0) q in
        subst (λ (x : List ℕ). Added o block x (record { inr = ino; kind = kind; name = name })) s
        (link-added o block ino kind name pos e b (room-found o block (length name) pos e h) can)
    go (Ok None) h q = absurd (let d : ◌≡◌ {A = Result Linked Damage} (Ok Linked.Full) (Ok Linked.Done) = ap (λ (x : List ℕ × Result Linked Damage). x.1) q in let z : ◌≡◌ {A = ℕ} 0 1 = cc in let y : ⊥ = omega arith in y)
    go (Err harm) h q = absurd (let d : ◌≡◌ {A = Result Linked Damage} (Err damage) (Ok Linked.Done) = ap (λ (x : List ℕ × Result Linked Damage). x.1) q in let z : ◌≡◌ {A = ℕ} 0 1 = cc in let y : ⊥ = omega arith in y)

-- ---- a search by name, over what is shown

search_shown : (block name : List ℕ) (whiteouts : Bool) (prev : ℕ) (is : List Item) (s : Stop)
    → looked_of (search_among (named block name whiteouts) prev is s) ≡ look_among (wanted name whiteouts) (shown_all block is) (health_of s)
unfolding search_among look_among shown_all named wanted listed findable
search_shown block name whiteouts prev [] (ended at) = refl
search_shown block name whiteouts prev [] (damaged at) = refl
search_shown block name whiteouts prev (i ∷ is) s = go (named block name whiteouts i) (search_shown block name whiteouts i.pos is s)
  where
    go : (t : Bool) → looked_of (search_among (named block name whiteouts) i.pos is s) ≡ look_among (wanted name whiteouts) (shown_all block is) (health_of s)
        → looked_of (pick_find t (Ok (Some (record { pos = i.pos; prev = prev; entry = i.entry }))) (search_among (named block name whiteouts) i.pos is s))
        ≡ pick_looked t (inode i.entry.inr) (look_among (wanted name whiteouts) (shown_all block is) (health_of s))
    go true f = refl
    go false f = f

-- finding is looking among what the walk shows
pub find-shown : (o : Order) (block name : List ℕ) (whiteouts : Bool) → looked_of (find_in o block name whiteouts) ≡ look_among (wanted name whiteouts) (shows o block) (health o block)
unfolding find_in search_from shows health
find-shown o block name whiteouts = search_shown block name whiteouts 0 (walk_from o block 0).records (walk_from o block 0).stopped

-- none of these is the one asked for
abbrev pub NoneShown : (Shown → Bool) → List Shown → Type 0
NoneShown p [] = Unit {0}
NoneShown p (x ∷ xs) = (p x ≡ false) × NoneShown p xs

module _ (p : Shown → Bool) where
  look-past : (xs ys : List Shown) (h : Health) → NoneShown p xs → look_among p (xs ++ ys) h ≡ look_among p ys h
  unfolding look_among
  look-past [] ys h n = refl
  look-past (x ∷ xs) ys h (f, n) = rw f (look-past xs ys h n)

  look_hit : (x : Shown) (xs : List Shown) (h : Health) → p x ≡ true → look_among p (x ∷ xs) h ≡ inode x.inr
  unfolding look_among
  look_hit x xs h t = rw t

  none-shown : (xs ys : List Shown) (h : Health) → look_among p (xs ++ ys) h ≡ absent → NoneShown p xs
  unfolding look_among
  none-shown [] ys h q = tt {0}
  none-shown (x ∷ xs) ys h q = go (p x) refl q (none-shown xs ys h)
    where
      go : (t : Bool) → p x ≡ t → pick_looked t (inode x.inr) (look_among p (xs ++ ys) h) ≡ absent → (look_among p (xs ++ ys) h ≡ absent → NoneShown p xs) → NoneShown p (x ∷ xs)
      go true e q f = absurd (let z : ◌≡◌ {A = ℕ} 0 1 = cc in let y : ⊥ = omega arith in y)
      go false e q f = (e, f q)

new-wanted : (ino kind : ℕ) (name : List ℕ) (whiteouts : Bool) → eqb kind 14 ≡ false → wanted name whiteouts (record { inr = ino; kind = kind; name = name }) ≡ true
unfolding wanted
new-wanted ino kind name true e = same-name name name refl
new-wanted ino kind name false e = rw e (same-name name name refl)

-- linking a name that was absent, then finding it, gives the inode
pub link_then_find : (o : Order) (block now : List ℕ) (ino kind : ℕ) (name : List ℕ) (whiteouts : Bool) → Bytes block → Linkable ino kind name
    → eqb kind 14 ≡ false
    → find_in o block name whiteouts ≡ Ok None
    → link_in o block ino kind name ≡ (now, Ok Linked.Done)
    → looked_of (find_in o now name whiteouts) ≡ inode ino
link_then_find o block now ino kind name whiteouts b can k f q =
    let a = link_adds o block now ino kind name b can q in
    let p = wanted name whiteouts in
    let n = none-shown p a.before a.after (health o block) (sym (ap (λ (l : List Shown). look_among p l (health o block)) a.had) ∙ sym (find-shown o block name whiteouts) ∙ ap looked_of f) in
    find-shown o now name whiteouts
    ∙ ap (λ (l : List Shown). look_among p l (health o now)) a.left
    ∙ look-past p a.before (record { inr = ino; kind = kind; name = name } ∷ a.after) (health o now) n
    ∙ look_hit p (record { inr = ino; kind = kind; name = name }) a.after (health o now) (new-wanted ino kind name whiteouts k)

-- ---- unlinking

none_items : (block name : List ℕ) (whiteouts : Bool) (xs : List Item) → NoneOf (named block name whiteouts) xs → NoneShown (wanted name whiteouts) (shown_all block xs)
unfolding shown_all named wanted listed findable
none_items block name whiteouts [] n = tt {0}
none_items block name whiteouts (x ∷ xs) (f, n) = (f, none_items block name whiteouts xs n)

done-of : (o : Order) (block : List ℕ) (prev : ℕ) (e : Entry) → Ok (Unlinked.Done e.inr) ≡ (unlink_later o block prev e).1
unfolding unlink_later
done-of o block prev e = refl

-- the first record of that name is taken out: it is the inode answered, none before it has the name, and every other is left
pub record Taken (o : Order) (block now name : List ℕ) (ino : ℕ) : Type 0 where
  pub before : List Shown
  pub gone : Shown
  pub inode : gone.inr ≡ ino
  pub called : gone.name ≡ name
  pub first : NoneShown (wanted name true) before
  pub removed : Removed o block now before gone

both_true : (a b : Bool) → a && b ≡ true → b ≡ true
both_true true b e = e
both_true false b e = absurd (let z : ◌≡◌ {A = ℕ} 0 1 = cc in let y : ⊥ = omega arith in y)

found-name : (block name : List ℕ) (s : Spot) → named block name true (item s.pos s.entry) ≡ true → name_at block s.pos s.entry ≡ name
unfolding named
found-name block name s e = name-same (name_at block s.pos s.entry) name (both_true (findable s.entry) (same_name (name_at block s.pos s.entry) name) e)

module _ (o : Order) (block now name : List ℕ) (ino : ℕ) (b : Bytes block) (l : length block ≡ 512) where
  first_taken : (e : Entry) → rec_at o block 0 ≡ Rec.Used e → name_at block 0 e ≡ name → unlink_first o block e ≡ (now, Ok (Unlinked.Done ino)) → Taken o block now name ino
  unfolding unlink_first
  first_taken e h n q = go (rec_at o block e.reclen) refl q
    where
      go : (k : Rec) → rec_at o block e.reclen ≡ k → by_next o block e k ≡ (now, Ok (Unlinked.Done ino)) → Taken o block now name ino
      go (Rec.Used next) g q =
          let a = ap (λ (x : List ℕ × Result Unlinked Damage). x.0) q in
          let d : ◌≡◌ {A = Result Unlinked Damage} (Ok (Unlinked.Done e.inr)) (Ok (Unlinked.Done ino)) = ap (λ (x : List ℕ × Result Unlinked Damage). x.1) q in
          let i : e.inr ≡ ino = cc in
          record { before = []; gone = shown_as e (name_at block 0 e); inode = i; called = n; first = tt {0}; removed = subst (λ (x : List ℕ). Removed o block x [] (shown_as e (name_at block 0 e))) a (first-removed o block e next b l h g) }
      go (Rec.Unused next) g q = absurd (never-unused o block e.reclen next g)
      go Rec.End g q = absurd (let d : ◌≡◌ {A = Result Unlinked Damage} (Ok (Unlinked.Alone e.inr)) (Ok (Unlinked.Done ino)) = ap (λ (x : List ℕ × Result Unlinked Damage). x.1) q in let z : ◌≡◌ {A = ℕ} 0 1 = cc in let y : ⊥ = omega arith in y)
      go Rec.Bad g q = absurd (let d : ◌≡◌ {A = Result Unlinked Damage} (Err damage) (Ok (Unlinked.Done ino)) = ap (λ (x : List ℕ × Result Unlinked Damage). x.1) q in let z : ◌≡◌ {A = ℕ} 0 1 = cc in let y : ⊥ = omega arith in y)

  later-taken : (s : Spot) → FoundAt (named block name true) o block 0 0 s → Prior o block 0 s.prev s.pos
      → unlink_later o block s.prev s.entry ≡ (now, Ok (Unlinked.Done ino)) → Taken o block now name ino
  unfolding unlink_later
  later-taken s f r q =
      let p = r.entry in
      let d = held o block s.prev p r.there in
      let there : rec_at o block (s.prev + p.reclen) ≡ Rec.Used s.entry = ap (rec_at o block) r.next ∙ f.there in
      let u : ◌≡◌ {A = Result Unlinked Damage} (Ok (Unlinked.Done s.entry.inr)) (Ok (Unlinked.Done ino)) = ap (λ (x : List ℕ × Result Unlinked Damage). x.1) q in
      let i : s.entry.inr ≡ ino = cc in
      let same : f.passed ≡ r.passed ++ (item s.prev p ∷ []) =
      leads-same o block f.leads (subst (Leads o block 0 (r.passed ++ (item s.prev p ∷ []))) r.next (leads_on o block p r.leads r.there)) in
      record {
        before = shown_all block r.passed ++ (shown_as p (name_at block s.prev p) ∷ []);
        gone = shown_as s.entry (name_at block (s.prev + p.reclen) s.entry);
        inode = i;
        called = ap (λ (k : ℕ). name_at block k s.entry) r.next ∙ found-name block name s f.holds;
        first =
            subst (NoneShown (wanted name true)) (shown_snoc block r.passed s.prev p)
            (none_items block name true (r.passed ++ (item s.prev p ∷ [])) (subst (NoneOf (named block name true)) same f.none));
        removed =
            subst (λ (x : List ℕ). Removed o block x (shown_all block r.passed ++ (shown_as p (name_at block s.prev p) ∷ [])) (shown_as s.entry (name_at block (s.prev + p.reclen) s.entry)))
            (ap (λ (x : Entry). put_rec o s.prev (absorb s.entry.reclen x) (name_at block s.prev x) block) d.same ∙ ap (λ (x : List ℕ × Result Unlinked Damage). x.0) q)
            (later-removed o block r.passed s.prev p s.entry b l r.leads r.there there);
      }

  -- an unlinking that is done takes the first record of that name out, and leaves every other
  pub unlink-takes : unlink_in o block name ≡ (now, Ok (Unlinked.Done ino)) → Taken o block now name ino
  unlink-takes q = go (find_in o block name true) refl
    where
      at_first : (s : Spot) → find_in o block name true ≡ Ok (Some s) → s.pos ≡ 0 → Taken o block now name ino
      at_first s h z =
          first_taken s.entry (first-there o block name s h z)
          (ap (λ (k : ℕ). name_at block k s.entry) (sym z) ∙ found-name block name s (find-found o block name true s h).holds)
          (sym (unlink-first-told o block name s h z) ∙ q)

      at-later : (s : Spot) → find_in o block name true ≡ Ok (Some s) → (s.pos ≡ 0 → ⊥)
          → ((s.pos ≡ 0) × (s.prev ≡ 0)) ⊎ Prior o block 0 s.prev s.pos → Taken o block now name ino
      at-later s h z (inl (a, c)) = absurd (z a)
      at-later s h z (inr r) = later-taken s (find-found o block name true s h) r (sym (unlink-later-told o block name s h z) ∙ q)

      split : (s : Spot) → find_in o block name true ≡ Ok (Some s) → Dec (0 < s.pos) → Taken o block now name ino
      split s h (yes m) = at-later s h (λ z. omega arith) (find-found o block name true s h).before
      split s h (no m) = at_first s h (omega arith)

      go : (k : Result (Option Spot) Damage) → find_in o block name true ≡ k → Taken o block now name ino
      go (Ok (Some s)) h = split s h (dec_lt 0 s.pos)
      go (Ok None) h = absurd (let d : ◌≡◌ {A = Result Unlinked Damage} (Ok Unlinked.Absent) (Ok (Unlinked.Done ino)) = ap (λ (x : List ℕ × Result Unlinked Damage). x.1) (unlink-absent o block name h ∙ q) in let z : ◌≡◌ {A = ℕ} 0 1 = cc in let y : ⊥ = omega arith in y)
      go (Err harm) h = absurd (let d : ◌≡◌ {A = Result Unlinked Damage} (Err damage) (Ok (Unlinked.Done ino)) = ap (λ (x : List ℕ × Result Unlinked Damage). x.1) (unlink-bad o block name h ∙ q) in let z : ◌≡◌ {A = ℕ} 0 1 = cc in let y : ⊥ = omega arith in y)

-- with whiteouts passed over fewer are asked for
fewer : (a b : Bool) → b ≡ false → a && b ≡ false
fewer true b e = e
fewer false b e = refl

none-fewer : (name : List ℕ) (whiteouts : Bool) (xs : List Shown) → NoneShown (wanted name true) xs → NoneShown (wanted name whiteouts) xs
unfolding wanted
none-fewer name whiteouts [] n = tt {0}
none-fewer name whiteouts (x ∷ xs) (f, n) = (fewer (cond whiteouts true (not (eqb x.kind 14))) (same_name x.name name) f, none-fewer name whiteouts xs n)

-- unlinking a name, then finding it, gives what stood behind it, or nothing
pub unlink_then_find : (o : Order) (block now name : List ℕ) (ino : ℕ) (whiteouts : Bool) (t : Taken o block now name ino)
    → looked_of (find_in o now name whiteouts) ≡ look_among (wanted name whiteouts) t.removed.after (health o block)
unlink_then_find o block now name ino whiteouts t =
    let p = wanted name whiteouts in
    find-shown o now name whiteouts
    ∙ ap₂ (λ (x : List Shown) (h : Health). look_among p x h) t.removed.left t.removed.same
    ∙ look-past p t.before t.removed.after (health o block) (none-fewer name whiteouts t.before t.first)

-- a record that is alone is all that the block shows, so no other is lost with the block
pub record Only (o : Order) (block name : List ℕ) (ino : ℕ) : Type 0 where
  pub gone : Shown
  pub inode : gone.inr ≡ ino
  pub called : gone.name ≡ name
  pub shown : shows o block ≡ gone ∷ []
  pub ends : health o block ≡ whole

module _ (o : Order) (block now name : List ℕ) (ino : ℕ) where
  alone-first : (e : Entry) → rec_at o block 0 ≡ Rec.Used e → name_at block 0 e ≡ name → unlink_first o block e ≡ (now, Ok (Unlinked.Alone ino)) → Only o block name ino
  unfolding unlink_first
  alone-first e h n q = go (rec_at o block e.reclen) refl q
    where
      not_done : (x : ℕ) (b : List ℕ) → ◌≡◌ {A = List ℕ × (Result Unlinked Damage)} (b, Ok (Unlinked.Done x)) (now, Ok (Unlinked.Alone ino)) → ⊥
      not_done x b q = let d : ◌≡◌ {A = Result Unlinked Damage} (Ok (Unlinked.Done x)) (Ok (Unlinked.Alone ino)) = ap (λ (y : List ℕ × Result Unlinked Damage). y.1) q in let z : ◌≡◌ {A = ℕ} 0 1 = cc in omega arith

      go : (k : Rec) → rec_at o block e.reclen ≡ k → by_next o block e k ≡ (now, Ok (Unlinked.Alone ino)) → Only o block name ino
      go (Rec.Used next) g q = absurd (not_done e.inr _ q)
      go (Rec.Unused next) g q = absurd (never-unused o block e.reclen next g)
      go Rec.End g q =
          let d : ◌≡◌ {A = Result Unlinked Damage} (Ok (Unlinked.Alone e.inr)) (Ok (Unlinked.Alone ino)) = ap (λ (x : List ℕ × Result Unlinked Damage). x.1) q in
          let i : e.inr ≡ ino = cc in
          record {
            gone = shown_as e (name_at block 0 e);
            inode = i;
            called = n;
            shown = first-shows o block e h g;
            ends = first-whole o block e h g;
          }
      go Rec.Bad g q = absurd (let d : ◌≡◌ {A = Result Unlinked Damage} (Err damage) (Ok (Unlinked.Alone ino)) = ap (λ (x : List ℕ × Result Unlinked Damage). x.1) q in let z : ◌≡◌ {A = ℕ} 0 1 = cc in let y : ⊥ = omega arith in y)

  pub unlink-alone : unlink_in o block name ≡ (now, Ok (Unlinked.Alone ino)) → Only o block name ino
  unlink-alone q = go (find_in o block name true) refl
    where
      later : (s : Spot) → unlink_later o block s.prev s.entry ≡ (now, Ok (Unlinked.Alone ino)) → ⊥
      later s q = let d : ◌≡◌ {A = Result Unlinked Damage} (Ok (Unlinked.Done s.entry.inr)) (Ok (Unlinked.Alone ino)) = done-of o block s.prev s.entry ∙ ap (λ (y : List ℕ × Result Unlinked Damage). y.1) q in let z : ◌≡◌ {A = ℕ} 0 1 = cc in omega arith

      split : (s : Spot) → find_in o block name true ≡ Ok (Some s) → Dec (0 < s.pos) → Only o block name ino
      split s h (yes m) = absurd (later s (sym (unlink-later-told o block name s h (λ z. omega arith)) ∙ q))
      split s h (no m) =
          let z : s.pos ≡ 0 = omega arith in
          alone-first s.entry (first-there o block name s h z)
          (ap (λ (k : ℕ). name_at block k s.entry) (sym z) ∙ found-name block name s (find-found o block name true s h).holds)
          (sym (unlink-first-told o block name s h z) ∙ q)

      go : (k : Result (Option Spot) Damage) → find_in o block name true ≡ k → Only o block name ino
      go (Ok (Some s)) h = split s h (dec_lt 0 s.pos)
      go (Ok None) h = absurd (let d : ◌≡◌ {A = Result Unlinked Damage} (Ok Unlinked.Absent) (Ok (Unlinked.Alone ino)) = ap (λ (x : List ℕ × Result Unlinked Damage). x.1) (unlink-absent o block name h ∙ q) in let z : ◌≡◌ {A = ℕ} 0 1 = cc in let y : ⊥ = omega arith in y)
      go (Err harm) h = absurd (let d : ◌≡◌ {A = Result Unlinked Damage} (Err damage) (Ok (Unlinked.Alone ino)) = ap (λ (x : List ℕ × Result Unlinked Damage). x.1) (unlink-bad o block name h ∙ q) in let z : ◌≡◌ {A = ℕ} 0 1 = cc in let y : ⊥ = omega arith in y)
