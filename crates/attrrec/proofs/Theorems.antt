-- What is listed is what is found, the first match wins, and what was encoded is decoded. Assumes nothing.
use Rattle.std.specs.Prelude.{Option, Some, Result, Ok}
use mathlib.Core.Path.{◌≡◌, refl, ap, ◌∙◌}
use mathlib.Core.Bool.{Bool, true, false, ◌&&◌}
use mathlib.Core.List.{List, [], ◌∷◌}
use Prim.Native.Nat.{ℕ, ◌^◌, ◌≤◌, ◌<◌}
use native.Mathlib.Omega.{arith}
use lib.ListN.{length}
use Rattle.field.specs.declared.Order.{Order}
use Rattle.field.specs.Field.{zeros}
use Rattle.field.proofs.Laws.{length-zeros}
use Rattle.dirblock.specs.Search.{same_name}
use Rattle.dirblock.proofs.SearchLaws.{same-name, name-same}
use Rattle.attrrec.specs.declared.Entry.{Entry}
use Rattle.attrrec.specs.Record.{attr_at, name_at, value_at}
use Rattle.attrrec.specs.Walk.{Item, Stop, ended, damaged, walk_from}
use Rattle.attrrec.specs.Text.{known, item_text}
use Rattle.attrrec.specs.Search.{pick_find, search_among, search_from, named, find_in}
use Rattle.attrrec.specs.Encode.{attr_length, new_entry, encode}
use Rattle.attrrec.proofs.EncodeLaws.{Fits, length-attr, attr-written, name-written, value_written}
use Rattle.refusal.specs.declared.Damage.{Damage}

-- ---- the first match wins

-- j is the first of the attributes that p holds of
pub data First (p : Item → Bool) : List Item → Item → Type 0 where
  here : {i : Item} {is : List Item} → p i ≡ true → First p (i ∷ is) i
  later : {i j : Item} {is : List Item} → p i ≡ false → First p is j → First p (i ∷ is) j

-- i is one of the attributes
pub data Among (i : Item) : List Item → Type 0 where
  head : {is : List Item} → Among i (i ∷ is)
  tail : (j : Item) (is : List Item) → Among i is → Among i (j ∷ is)

pub first-among : {p : Item → Bool} {is : List Item} {j : Item} → First p is j → Among j is
first-among (here t) = head
first-among (later f r) = tail _ _ (first-among r)

pub first-holds : {p : Item → Bool} {is : List Item} {j : Item} → First p is j → p j ≡ true
first-holds (here t) = t
first-holds (later f r) = first-holds r

abbrev place : Item → Result (Option (ℕ × Entry)) Damage
place i = Ok (Some (i.pos, i.entry))

pub first-found : {p : Item → Bool} {is : List Item} {j : Item} → First p is j → (s : Stop) → search_among p is s ≡ place j
unfolding search_among
first-found (here t) s = rw t
first-found (later f r) s = rw f (first-found r s)

pub found-first : (p : Item → Bool) (is : List Item) (s : Stop) (b : ℕ) (e : Entry) → search_among p is s ≡ Ok (Some (b, e)) → First p is (record { pos = b; entry = e })
unfolding search_among
found-first p [] ended b e h = absurd (let z : ◌≡◌ {A = ℕ} 0 1 = cc in let y : ⊥ = omega arith in y)
found-first p [] damaged b e h = absurd (let z : ◌≡◌ {A = ℕ} 0 1 = cc in let y : ⊥ = omega arith in y)
found-first p (i ∷ is) s b e h = go (p i) refl h (found-first p is s b e)
  where
    go : (t : Bool) → p i ≡ t → pick_find t (place i) (search_among p is s) ≡ Ok (Some (b, e)) → (search_among p is s ≡ Ok (Some (b, e)) → First p is (record { pos = b; entry = e }))
        → First p (i ∷ is) (record { pos = b; entry = e })
    go true t h r =
        let w : ◌≡◌ {A = ℕ × Entry} (i.pos, i.entry) (b, e) = cc in
        let q : i.pos ≡ b = ap (λ (z : ℕ × Entry). z.0) w in
        let v : i.entry ≡ e = ap (λ (z : ℕ × Entry). z.1) w in
        rw (← q, ← v) (here t)
    go false t h r = later t (r h)

-- an attribute that p holds of: one is found, that one or one before it
pub record Found (p : Item → Bool) (is : List Item) : Type 0 where
  pub item : Item
  pub first : First p is item

pub among-found : (p : Item → Bool) (i : Item) {is : List Item} → Among i is → p i ≡ true → Found p is
among-found p i head t = record { item = i; first = here t }
among-found p i (tail j is a) t = go (p j) refl (among-found p i a t)
  where
    go : (u : Bool) → p j ≡ u → Found p is → Found p (j ∷ is)
    go true h f = record { item = j; first = here h }
    go false h f = record { item = f.item; first = later h f.first }

-- ---- what is listed is what is found

-- an attribute of the area that has a text
pub record Listed (o : Order) (area : List ℕ) (i : Item) : Type 0 where
  pub among : Among i (walk_from o area 0).attrs
  pub known : known i.entry.namespace ≡ true

both : (a b : Bool) → a && b ≡ true → (a ≡ true) × (b ≡ true)
both true true e = (refl, refl)
both true false e = absurd (let z : ◌≡◌ {A = ℕ} 0 1 = cc in let y : ⊥ = omega arith in y)
both false b e = absurd (let z : ◌≡◌ {A = ℕ} 0 1 = cc in let y : ⊥ = omega arith in y)

module _ (o : Order) (area : List ℕ) where
  -- the answer is listed under the text asked for, and no attribute before it has that text
  pub record Answer (name : List ℕ) (i : Item) : Type 0 where
    pub listed : Listed o area i
    pub text : item_text area i ≡ name
    pub first : First (named area name) (walk_from o area 0).attrs i

  answer : (name : List ℕ) (i : Item) → First (named area name) (walk_from o area 0).attrs i → Answer name i
  unfolding named
  answer name i f =
      let b = both (known i.entry.namespace) (same_name (item_text area i) name) (first-holds f) in
      record { listed = record { among = first-among f; known = b.0 }; text = name-same _ _ b.1; first = f }

  -- what is found is listed, and is the first of its text
  pub found-listed : (name : List ℕ) (b : ℕ) (e : Entry) → find_in o area name ≡ Ok (Some (b, e)) → Answer name (record { pos = b; entry = e })
  unfolding find_in search_from
  found-listed name b e h = answer name _ (found-first (named area name) (walk_from o area 0).attrs (walk_from o area 0).stopped b e h)

  -- what is listed is found by its text: it, or one before it of the same text
  pub record Finds (name : List ℕ) : Type 0 where
    pub item : Item
    pub answer : Answer name item
    pub found : find_in o area name ≡ Ok (Some (item.pos, item.entry))

  pub listed_found : (i : Item) → Listed o area i → Finds (item_text area i)
  unfolding find_in search_from named
  listed_found i l =
      let t : named area (item_text area i) i ≡ true = rw (l.known, same-name (item_text area i) (item_text area i) refl) in
      let f = among-found (named area (item_text area i)) i l.among t in
      record { item = f.item; answer = answer (item_text area i) f.item f.first; found = first-found f.first (walk_from o area 0).stopped }

-- ---- encode, then decode

pub record Decoded (o : Order) (ns : ℕ) (name value area : List ℕ) : Type 0 where
  pub attr : attr_at o area 0 ≡ Ok (Some (new_entry ns name value))
  pub named : name_at area 0 (new_entry ns name value) ≡ name
  pub valued : value_at area 0 (new_entry ns name value) ≡ value
  pub whole : length area ≡ attr_length (length name) (length value)

pub encode_decode : (o : Order) (ns : ℕ) (name value : List ℕ) → ns < 256 → (length name ≡ 0 → ⊥) → length name ≤ 64 → attr_length (length name) (length value) < 256 ^ 4
    → Decoded o ns name value (encode o ns name value)
unfolding encode
encode_decode o ns name value n s h l =
    let z = length-zeros (attr_length (length name) (length value)) in
    let f : Fits 0 ns name value (zeros (attr_length (length name) (length value))) =
    record { namespace = omega arith; some = s; short = h; bound = l; aligned = refl; inside = omega arith } in
    record {
      attr = attr-written o 0 ns name value _ f;
      named = name-written o 0 ns name value _ f;
      valued = value_written o 0 ns name value _ f;
      whole = length-attr o 0 ns name value _ ∙ z;
    }
