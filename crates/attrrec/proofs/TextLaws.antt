-- The laws of `specs/Text.antt`: the prefix of each namespace, a text compared and a text written. Assumes nothing.
use mathlib.Core.Path.{◌≡◌, refl, sym, ap, ◌∙◌}
use mathlib.Core.Bool.{Bool, true, false, cond, ◌&&◌}
use mathlib.Core.List.{List, [], ◌∷◌, ◌++◌}
use Prim.Native.Nat.{ℕ, ◌+◌, ◌≤◌, ◌<◌}
use native.Mathlib.Omega.{arith}
use borrow.Author.Tests.{eq-eqb, ne_eqb, lt-ltb, le-ltb}
use lib.Dec.{ltb}
use lib.ListN.{length, length-append}
use lib.Seq.{take-append_seam, drop-append_seam, take-length}
use Rattle.field.specs.Field.{part, put, zeros}
use Rattle.field.proofs.Laws.{part-split, put_append}
use Rattle.dirblock.specs.Search.{same_name}
use Rattle.dirblock.proofs.SearchLaws.{same-name, other-name}
use Rattle.dirblock.proofs.WriteLaws.{part-whole}
use Rattle.attrrec.specs.declared.Entry.{Entry}
use Rattle.attrrec.specs.Record.{name_at}
use Rattle.attrrec.specs.Walk.{Item}
use Rattle.attrrec.specs.Text.{known, prefix, text_of, item_text, shown_text, shown_len}
use Rattle.attrrec.proofs.RecordLaws.{name-length}

-- ---- the prefixes

abbrev pub user : List ℕ
user = 117 ∷ 115 ∷ 101 ∷ 114 ∷ 46 ∷ []

abbrev pub system : List ℕ
system = 115 ∷ 121 ∷ 115 ∷ 116 ∷ 101 ∷ 109 ∷ 46 ∷ []

module _ (ns : ℕ) where
  pub prefix-empty : ns ≡ 0 → prefix ns ≡ []
  unfolding prefix
  prefix-empty z = rw (eq-eqb ns 0 z)

  pub prefix-user : (ns ≡ 0 → ⊥) → ns ≡ 1 → prefix ns ≡ user
  unfolding prefix
  prefix-user z h = rw (ne_eqb ns 0 z, eq-eqb ns 1 h)

  pub prefix-system : (ns ≡ 0 → ⊥) → (ns ≡ 1 → ⊥) → prefix ns ≡ system
  unfolding prefix
  prefix-system z h = rw (ne_eqb ns 0 z, ne_eqb ns 1 h)

  pub text-is : (name p : List ℕ) → prefix ns ≡ p → text_of ns name ≡ p ++ name
  unfolding text_of
  text-is name p q = rw q

  pub length-text : (name : List ℕ) → length (text_of ns name) ≡ length (prefix ns) + length name
  unfolding text_of
  length-text name = length-append (prefix ns) name

  pub known-test : ltb ns 3 ≡ known ns
  unfolding known
  known-test = refl

  pub known-low : ns < 3 → known ns ≡ true
  unfolding known
  known-low h = rw (lt-ltb ns 3 h)

  pub known-not : 3 ≤ ns → known ns ≡ false
  unfolding known
  known-not h = rw (le-ltb ns 3 h)

-- ---- a text asked for

-- a list in two parts of known length is the two
two_parts : (p name asked : List ℕ) → length asked ≡ length p + length name → asked ≡ part (length p) 0 asked ++ part (length name) (length p) asked
two_parts p name asked l =
    sym (part-whole (length p + length name) asked l) ∙ part-split (length p) (length name) 0 asked
    ∙ ap (λ (k : ℕ). part (length p) 0 asked ++ part (length name) k asked) (omega arith)

first-part : (p name asked : List ℕ) → p ++ name ≡ asked → part (length p) 0 asked ≡ p
unfolding part
first-part p name asked q = rw (← q) (take-append_seam p name)

second-part : (p name asked : List ℕ) → p ++ name ≡ asked → part (length name) (length p) asked ≡ name
unfolding part
second-part p name asked q = rw (← q, drop-append_seam p name) (take-length name)

-- as `same_bytes` tells it of each part
pub text_told : (p name asked : List ℕ) (r s : Bool) → length asked ≡ length p + length name
    → (r ≡ true → part (length p) 0 asked ≡ p) → (r ≡ false → part (length p) 0 asked ≡ p → ⊥)
    → (s ≡ true → part (length name) (length p) asked ≡ name) → (s ≡ false → part (length name) (length p) asked ≡ name → ⊥)
    → r && s ≡ same_name (p ++ name) asked
text_told p name asked true true l ry rn sy sn =
    sym (same-name _ _ (sym (two_parts p name asked l ∙ rw (ry refl, sy refl))))
text_told p name asked true false l ry rn sy sn = sym (other-name _ _ (λ q. sn refl (second-part p name asked q)))
text_told p name asked false s l ry rn sy sn = sym (other-name _ _ (λ q. rn refl (first-part p name asked q)))

pub text_long : (p name asked : List ℕ) → (length asked ≡ length p + length name → ⊥) → false ≡ same_name (p ++ name) asked
text_long p name asked d = sym (other-name _ _ (λ q. d (ap length (sym q) ∙ length-append p name)))

-- an attribute of a namespace that has a name
pub asked-known : (ns : ℕ) (p name asked : List ℕ) (r : Bool) → ns < 3 → prefix ns ≡ p → r ≡ same_name (p ++ name) asked → r ≡ known ns && same_name (text_of ns name) asked
asked-known ns p name asked r k q e = rw (known-low ns k, text-is ns name p q) e

pub asked-other : (ns : ℕ) (name asked : List ℕ) → 3 ≤ ns → false ≡ known ns && same_name (text_of ns name) asked
asked-other ns name asked k = rw (known-not ns k)

-- ---- a text written

one-zero : zeros 1 ≡ 0 ∷ []
unfolding zeros
one-zero = refl

pub parts_told : (at : ℕ) (p name out one two three : List ℕ)
    → one ≡ put at (part (length p) 0 p) out
    → two ≡ put (at + length p) (part (length name) 0 name) one
    → three ≡ put (at + length p + length name) (zeros 1) two
    → (three ≡ put at ((p ++ name) ++ (0 ∷ [])) out) × (length p + length name + 1 ≡ length (p ++ name) + 1)
parts_told at p name out one two three a b c =
    let l = length-append p name in (
      c ∙ ap (λ (l : List ℕ). put (at + length p + length name) l two) one-zero
          ∙ ap (λ (k : ℕ). put k (0 ∷ []) two) (omega arith)
          ∙ ap (put (at + length (p ++ name)) (0 ∷ [])) (b ∙ rw (a, part-whole (length p) p refl, part-whole (length name) name refl) (sym (put_append at p name out)))
          ∙ sym (put_append at (p ++ name) (0 ∷ []) out),
      omega arith,
    )

-- the text of an attribute, by the prefix of its namespace
module _ (ns : ℕ) (p name : List ℕ) (q : prefix ns ≡ p) where
  pub text-length : length (text_of ns name) ≡ length p + length name
  text-length = ap length (text-is ns name p q) ∙ length-append p name

  pub text-put : (at : ℕ) (out now : List ℕ) (r : ℕ) → (now ≡ put at ((p ++ name) ++ (0 ∷ [])) out) × (r ≡ length (p ++ name) + 1)
      → (now ≡ put at (text_of ns name ++ (0 ∷ [])) out) × (r ≡ length (text_of ns name) + 1)
  text-put at out now r e = rw (text-is ns name p q) e

-- ---- what an attribute adds to the list

module _ (e : Entry) where
  pub shown-len-known : known e.namespace ≡ true → (n : ℕ) → n ≡ length (prefix e.namespace) → n + e.namelen + 1 ≡ shown_len e
  unfolding shown_len
  shown-len-known k n q = rw (k, q)

  pub shown-len-other : known e.namespace ≡ false → 0 ≡ shown_len e
  unfolding shown_len
  shown-len-other k = rw k

module _ (area : List ℕ) (i : Item) where
  pub shown-known : known i.entry.namespace ≡ true → shown_text area i ≡ item_text area i ++ (0 ∷ [])
  unfolding shown_text
  shown-known k = rw k

  pub shown-other : known i.entry.namespace ≡ false → shown_text area i ≡ []
  unfolding shown_text
  shown-other k = rw k

  pub length-shown : i.pos + 7 + i.entry.namelen ≤ length area → length (shown_text area i) ≡ shown_len i.entry
  unfolding shown_len
  length-shown h = go (known i.entry.namespace) refl
    where
      go : (k : Bool) → known i.entry.namespace ≡ k → length (shown_text area i) ≡ cond k (length (prefix i.entry.namespace) + i.entry.namelen + 1) 0
      go true k =
          ap length (shown-known k) ∙ length-append (item_text area i) (0 ∷ [])
          ∙ omega (arith, length-text i.entry.namespace (name_at area i.pos i.entry), name-length area i.pos i.entry h)
      go false k = ap length (shown-other k)
