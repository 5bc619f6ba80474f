-- The laws of `specs/Search.antt`: a search hits, passes on or stops; texts are listed one after another. Assumes nothing.
use Rattle.std.specs.Prelude.{Option, Some, None, Result, Ok, Err}
use mathlib.Core.Path.{◌≡◌, refl, sym, ap, ◌∙◌}
use mathlib.Core.Bool.{Bool, true, false}
use mathlib.Core.List.{List, [], ◌∷◌, ◌++◌, append-nil}
use Prim.Native.Nat.{ℕ, zero, suc, ◌+◌, ◌-◌, ◌≤◌}
use native.Mathlib.Omega.{arith}
use lib.ListN.{length, take, drop, length-append, length-drop, take-append-drop}
use lib.Seq.{take-append_seam, drop-append_seam, drop-drop, take-add}
use Rattle.field.specs.declared.Order.{Order}
use Rattle.attrrec.specs.declared.Entry.{Entry}
use Rattle.attrrec.specs.Record.{attr_at}
use Rattle.attrrec.specs.Walk.{Item, Stop, ended, damaged, onward, walk_for, walk_from}
use Rattle.attrrec.specs.Text.{shown_text, texts_of}
use Rattle.attrrec.specs.Search.{pick_find, search_among, search_from, named, find_in, Texts, texts, bad, before, texts_in, list_from, list_in, all_texts}
use Rattle.attrrec.proofs.WalkLaws.{walk_is, walk_end, walk-bad}
use Rattle.refusal.specs.Refusal.{damage}
use Rattle.refusal.specs.declared.Damage.{Damage}

-- ---- one turn of a search

module _ (p : Item → Bool) (o : Order) (area : List ℕ) (b : ℕ) where
  pub search-hit : (e : Entry) → attr_at o area b ≡ Ok (Some e) → p (record { pos = b; entry = e }) ≡ true → search_from p o area b ≡ Ok (Some (b, e))
  unfolding search_from search_among
  search-hit e h t = rw (walk_is o area b e h, t)

  pub search-pass : (e : Entry) → attr_at o area b ≡ Ok (Some e) → p (record { pos = b; entry = e }) ≡ false → search_from p o area b ≡ search_from p o area (b + e.len)
  unfolding search_from search_among
  search-pass e h t = rw (walk_is o area b e h, t)

  pub search-end : attr_at o area b ≡ Ok None → search_from p o area b ≡ Ok None
  unfolding search_from search_among
  search-end h = rw (walk_end o area b h)

  pub search-bad : attr_at o area b ≡ Err damage → search_from p o area b ≡ Err damage
  unfolding search_from search_among
  search-bad h = rw (walk-bad o area b h)

pub find_start : (o : Order) (area name : List ℕ) → search_from (named area name) o area 0 ≡ find_in o area name
unfolding find_in
find_start o area name = refl

-- ---- what is found is an attribute of the area

module _ (p : Item → Bool) (o : Order) (area : List ℕ) (c : ℕ) (e : Entry) where
  taken-for : (n b : ℕ) → search_among p (walk_for o area n b).attrs (walk_for o area n b).stopped ≡ Ok (Some (c, e)) → attr_at o area c ≡ Ok (Some e)
  unfolding search_among walk_for
  taken-for zero b h = absurd (let z : ◌≡◌ {A = ℕ} 0 1 = cc in let y : ⊥ = omega arith in y)
  taken-for (suc n) b h = go (attr_at o area b) refl h (taken-for n)
    where
      hit : (f : Entry) → attr_at o area b ≡ Ok (Some f) → (t : Bool) → (r : Result (Option (ℕ × Entry)) Damage) → (r ≡ Ok (Some (c, e)) → attr_at o area c ≡ Ok (Some e)) → pick_find t (Ok (Some (b, f))) r ≡ Ok (Some (c, e)) → attr_at o area c ≡ Ok (Some e)
      hit f q true r k h =
          let w : ◌≡◌ {A = ℕ × Entry} (b, f) (c, e) = cc in
          let u : b ≡ c = ap (λ (z : ℕ × Entry). z.0) w in
          let v : f ≡ e = ap (λ (z : ℕ × Entry). z.1) w in
          rw (← u, ← v) q
      hit f q false r k h = k h

      go : (k : Result (Option Entry) Damage) → attr_at o area b ≡ k → search_among p (onward b k (walk_for o area n)).attrs (onward b k (walk_for o area n)).stopped ≡ Ok (Some (c, e))
          → ((q : ℕ) → search_among p (walk_for o area n q).attrs (walk_for o area n q).stopped ≡ Ok (Some (c, e)) → attr_at o area c ≡ Ok (Some e)) → attr_at o area c ≡ Ok (Some e)
      go (Ok (Some f)) q h r = hit f q (p (record { pos = b; entry = f })) _ (r (b + f.len)) h
      go (Ok None) q h r = absurd (let z : ◌≡◌ {A = ℕ} 0 1 = cc in let y : ⊥ = omega arith in y)
      go (Err harm) q h r = absurd (let z : ◌≡◌ {A = ℕ} 0 1 = cc in let y : ⊥ = omega arith in y)

pub find-taken : (o : Order) (area name : List ℕ) (b : ℕ) (e : Entry) → find_in o area name ≡ Ok (Some (b, e)) → attr_at o area b ≡ Ok (Some e)
unfolding find_in search_from walk_from
find-taken o area name b e h = taken-for (named area name) o area b e (suc (length area)) 0 h

-- ---- the texts listed, from b on

module _ (o : Order) (area : List ℕ) (b : ℕ) where
  pub list-is : (e : Entry) → attr_at o area b ≡ Ok (Some e) → list_from o area b ≡ before (shown_text area (record { pos = b; entry = e })) (list_from o area (b + e.len))
  unfolding list_from texts_of
  list-is e h = rw (walk_is o area b e h) (go (walk_from o area (b + e.len)).stopped)
    where
      go : (s : Stop) → texts_in area (record { pos = b; entry = e } ∷ (walk_from o area (b + e.len)).attrs) s
          ≡ before (shown_text area (record { pos = b; entry = e })) (texts_in area (walk_from o area (b + e.len)).attrs s)
      go ended = refl
      go damaged = refl

  pub list-end : attr_at o area b ≡ Ok None → list_from o area b ≡ texts []
  unfolding list_from texts_of
  list-end h = rw (walk_end o area b h)

  pub list-bad : attr_at o area b ≡ Err damage → list_from o area b ≡ bad
  unfolding list_from texts_of
  list-bad h = rw (walk-bad o area b h)

pub list_start : (o : Order) (area : List ℕ) → list_from o area 0 ≡ list_in o area
unfolding list_in
list_start o area = refl

-- ---- texts written one after another, n bytes of them so far

pub record Step (t all : List ℕ) (n : ℕ) (rest : Texts) : Type 0 where
  pub left : rest ≡ texts (drop (n + length t) all)
  pub more : take (n + length t) all ≡ take n all ++ t
  pub within : n + length t ≤ length all

pub texts_step : (t all : List ℕ) (n : ℕ) (rest : Texts) → n ≤ length all → before t rest ≡ texts (drop n all) → Step t all n rest
texts_step t all n (texts ts) l e =
    let q : t ++ ts ≡ drop n all = cc in
    let m : length t + length ts ≡ length all - n = sym (length-append t ts) ∙ ap length q ∙ length-drop n all in
    record {
      left = ap texts (sym (drop-append_seam t ts) ∙ ap (drop (length t)) q ∙ drop-drop (length t) n all);
      more = take-add n (length t) all ∙ ap (λ (x : List ℕ). take n all ++ x) (ap (take (length t)) (sym q) ∙ take-append_seam t ts);
      within = omega arith;
    }
texts_step t all n bad l e = absurd (let z : ◌≡◌ {A = ℕ} 0 1 = cc in let y : ⊥ = omega arith in y)

pub texts-done : (all : List ℕ) (n : ℕ) → texts [] ≡ texts (drop n all) → take n all ≡ all
texts-done all n e =
    let q : [] ≡ drop n all = cc in
    sym (append-nil (take n all)) ∙ ap (λ (x : List ℕ). take n all ++ x) q ∙ take-append-drop n all

pub texts-never : (all : List ℕ) → bad ≡ texts all → ⊥
texts-never all e = let z : ◌≡◌ {A = ℕ} 0 1 = cc in omega arith

-- the texts of an area whose walk ends
pub list_all : (o : Order) (area t : List ℕ) → list_in o area ≡ texts t → t ≡ all_texts o area
unfolding list_in list_from all_texts
list_all o area t e = go (walk_from o area 0).stopped e
  where
    go : (s : Stop) → texts_in area (walk_from o area 0).attrs s ≡ texts t → t ≡ texts_of area (walk_from o area 0).attrs
    go ended e = let q : texts_of area (walk_from o area 0).attrs ≡ t = cc in sym q
    go damaged e = absurd (texts-never t e)
