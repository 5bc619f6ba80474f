-- The laws of `specs/Text.antt`: texts written one after the other, and how long they are. Assumes nothing.
use mathlib.Core.Path.{◌≡◌, refl, sym, ap, ap₂, ◌∙◌}
use mathlib.Core.List.{List, [], ◌∷◌, ◌++◌, append_assoc}
use Prim.Native.Nat.{ℕ, zero, suc, ◌+◌, ◌*◌, ◌/◌, ◌%◌, ◌^◌, ◌≤◌, ◌<◌}
use native.Mathlib.Nat.{pow-succ'}
use native.Mathlib.Decide.{dec_lt}
use native.Mathlib.Omega.{arith}
use borrow.Author.Tests.{lt-ltb, le-ltb, eq-eqb, ne_eqb}
use lib.ListN.{length, set, get_or, length-append}
use lib.Dec.{ltb}
use Rattle.field.specs.declared.Order.{Order}
use Rattle.field.specs.Field.{part, put}
use Rattle.field.proofs.Laws.{put_append, length-put, length-part, part-split, part-is}
use Rattle.dirblock.specs.declared.Entry.{Entry}
use Rattle.dirblock.specs.declared.Rec.TheVariants.{Used, End, Bad}
use Rattle.dirblock.specs.Record.{name_at, rec_at}
use Rattle.dirblock.specs.Walk.{walk_from}
use Rattle.dirblock.proofs.RecordLaws.{held, smallest-low}
use Rattle.dirblock.proofs.WalkLaws.{walk-used, walk_end, walk-bad}
use Rattle.dirblock.proofs.WriteLaws.{part-whole}
use Rattle.dirtext.specs.Text.{pick_text, decimal_for, decimal_text, glyph_of, hex_text, name_text, spaced, line_text, stop_text, lines_text, walk_text, dirlist_text, end_word, damage_word, size_word, wrote}

-- ---- texts one after the other

pub wrote-more : (at mid last : ℕ) (one two out between after : List ℕ) → (between, mid) ≡ wrote at one out → (after, last) ≡ wrote mid two between
    → (after, last) ≡ wrote at (one ++ two) out
unfolding wrote
wrote-more at mid last one two out between after p q =
    let a : between ≡ put at one out = ap (λ (x : List ℕ × ℕ). x.0) p in
    let b : mid ≡ at + length one = ap (λ (x : List ℕ × ℕ). x.1) p in
    let c : after ≡ put mid two between = ap (λ (x : List ℕ × ℕ). x.0) q in
    let d : last ≡ mid + length two = ap (λ (x : List ℕ × ℕ). x.1) q in
    ap₂ (λ (x : List ℕ) (y : ℕ). (x, y))
    (c ∙ rw (a, b, put_append at one two out))
    (rw (length-append one two) (omega arith))

pub wrote-long : (at last : ℕ) (text out after : List ℕ) → (after, last) ≡ wrote at text out → (length after ≡ length out) × (last ≡ at + length text)
unfolding wrote
wrote-long at last text out after p = (ap (λ (x : List ℕ × ℕ). length x.0) p ∙ length-put at text out, ap (λ (x : List ℕ × ℕ). x.1) p)

-- ---- decimals

enough : (k j n : ℕ) → n ≤ k → n ≤ j → decimal_for k n ≡ decimal_for j n
unfolding decimal_for
enough zero zero n a b = refl
enough zero (suc j) n a b = let z : n ≡ 0 = omega arith in rw z
enough (suc k) zero n a b = let z : n ≡ 0 = omega arith in rw z
enough (suc k) (suc j) n a b = go (dec_lt n 10) (enough k j (n / 10))
  where
    go : Dec (n < 10) → (n / 10 ≤ k → n / 10 ≤ j → decimal_for k (n / 10) ≡ decimal_for j (n / 10)) → decimal_for (suc k) n ≡ decimal_for (suc j) n
    go (yes l) f = rw (lt-ltb n 10 l)
    go (no l) f = rw (le-ltb n 10 (omega arith), f (omega arith) (omega arith))

decimal_step : (n : ℕ) → decimal_text n ≡ pick_text (ltb n 10) ((48 + n) ∷ []) (decimal_for n (n / 10) ++ ((48 + n % 10) ∷ []))
unfolding decimal_text decimal_for
decimal_step n = enough n (suc n) n (omega arith) (omega arith)

pub decimal_one : (n : ℕ) → n < 10 → decimal_text n ≡ (48 + n) ∷ []
decimal_one n l = decimal_step n ∙ rw (lt-ltb n 10 l)

pub decimal_more : (n : ℕ) → 10 ≤ n → decimal_text n ≡ decimal_text (n / 10) ++ ((48 + n % 10) ∷ [])
unfolding decimal_text
decimal_more n l = decimal_step n ∙ rw (le-ltb n 10 l, enough n (n / 10) (n / 10) (omega arith) (omega arith))

-- a number below a power of ten has no more digits than that
pub decimal_short : (d n : ℕ) → n < 10 ^ suc d → length (decimal_text n) ≤ suc d
decimal_short zero n h = rw (decimal_one n (omega arith)) (omega arith)
decimal_short (suc d) n h = go (dec_lt n 10) (decimal_short d (n / 10))
  where
    go : Dec (n < 10) → (n / 10 < 10 ^ suc d → length (decimal_text (n / 10)) ≤ suc d) → length (decimal_text n) ≤ suc (suc d)
    go (yes l) f = rw (decimal_one n l) (omega arith)
    go (no l) f = rw (decimal_more n (omega arith), length-append) (omega (arith, f (omega (arith, pow-succ' 10 (suc d)))))

pub decimal_ten : (n : ℕ) → n < 4294967296 → length (decimal_text n) ≤ 10
decimal_ten n h = decimal_short 9 n (omega arith)

pub decimal_nine : (n : ℕ) → n < 4294967296 → length (decimal_text (n / 10)) ≤ 9
decimal_nine n h = decimal_short 8 (n / 10) (omega arith)

-- ---- one byte, and a text from a slice

pub wrote-byte : (at b : ℕ) (out : List ℕ) → (set out at b, at + 1) ≡ wrote at (b ∷ []) out
unfolding wrote put
wrote-byte at b out = refl

pub wrote_text : (at : ℕ) (text out after : List ℕ) → after ≡ put at (part (length text) 0 text) out → (after, at + length text) ≡ wrote at text out
unfolding wrote
wrote_text at text out after q = rw (q, part-whole (length text) text refl)

-- ---- a decimal, digit by digit

pub wrote-one : (at n last : ℕ) (out after : List ℕ) → n < 10 → (after, last) ≡ wrote at ((48 + n) ∷ []) out → (after, last) ≡ wrote at (decimal_text n) out
wrote-one at n last out after l q = rw (decimal_one n l) q

pub wrote-digits : (at n mid last : ℕ) (out between after : List ℕ) → 10 ≤ n → (between, mid) ≡ wrote at (decimal_text (n / 10)) out
    → (after, last) ≡ wrote mid ((48 + n % 10) ∷ []) between → (after, last) ≡ wrote at (decimal_text n) out
wrote-digits at n mid last out between after l p q =
    rw (decimal_more n l) (wrote-more at mid last (decimal_text (n / 10)) ((48 + n % 10) ∷ []) out between after p q)

-- the last digit has its place
pub last-place : (at n mid : ℕ) (out between : List ℕ) → n < 4294967296 → at + 10 ≤ length out → (between, mid) ≡ wrote at (decimal_text (n / 10)) out → mid < length between
last-place at n mid out between b h p = let w = wrote-long at mid (decimal_text (n / 10)) out between p in omega (arith, decimal_nine n b)

-- ---- a number and a space

pub spaced-short : (n : ℕ) → n < 4294967296 → length (spaced n) ≤ 11
unfolding spaced
spaced-short n h = rw length-append (omega (arith, decimal_ten n h))

pub wrote-spaced : (at n mid last : ℕ) (out between after : List ℕ) → (between, mid) ≡ wrote at (decimal_text n) out
    → (after, last) ≡ wrote mid (32 ∷ []) between → (after, last) ≡ wrote at (spaced n) out
unfolding spaced
wrote-spaced at n mid last out between after p q = wrote-more at mid last (decimal_text n) (32 ∷ []) out between after p q

-- ---- hex

hex_long : (bs : List ℕ) → length (hex_text bs) ≡ 2 * length bs
unfolding hex_text
hex_long [] = refl
hex_long (b ∷ bs) = omega (arith, hex_long bs)

hex_append : (us vs : List ℕ) → hex_text (us ++ vs) ≡ hex_text us ++ hex_text vs
unfolding hex_text
hex_append [] vs = refl
hex_append (u ∷ us) vs = ap (λ (l : List ℕ). glyph_of (u / 16) ∷ glyph_of (u % 16) ∷ l) (hex_append us vs)

part-next : (i from : ℕ) (block : List ℕ) → from + i < length block → part (i + 1) from block ≡ part i from block ++ (get_or block (from + i) 0 ∷ [])
part-next i from block h =
    part-split i 1 from block ∙ ap (λ (l : List ℕ). part i from block ++ l) (part-is (from + i) (get_or block (from + i) 0 ∷ []) block (omega arith) only)
  where
    only : (k : ℕ) → k < 1 → get_or block (from + i + k) 0 ≡ get_or (get_or block (from + i) 0 ∷ []) k 0
    only zero l = ap (λ (m : ℕ). get_or block m 0) (omega arith)
    only (suc k) l = absurd (let z : ⊥ = omega arith in z)

module _ (at from : ℕ) (block out : List ℕ) where
  pub hex-start : (out, at) ≡ wrote at (hex_text (part 0 from block)) out
  unfolding hex_text part wrote put
  hex-start = ap₂ (λ (x : List ℕ) (y : ℕ). (x, y)) refl (omega arith)

  module _ (i end : ℕ) (so : List ℕ) (p : (so, end) ≡ wrote at (hex_text (part i from block)) out) where
    pub hex-place : from + i ≤ length block → (length so ≡ length out) × (end ≡ at + 2 * i)
    hex-place h =
        let w = wrote-long at end (hex_text (part i from block)) out so p in
        (w.0, omega (arith, w.1, hex_long (part i from block), length-part i from block h))

    pub hex-turn : (b h l high last : ℕ) (mid after : List ℕ) → from + i < length block → b ≡ get_or block (from + i) 0 → h ≡ glyph_of (b / 16) → l ≡ glyph_of (b % 16)
        → (mid, high) ≡ wrote end (h ∷ []) so → (after, last) ≡ wrote high (l ∷ []) mid
        → (after, last) ≡ wrote at (hex_text (part (i + 1) from block)) out
    unfolding hex_text
    hex-turn b h l high last mid after r eb eh el q s =
        let two : hex_text (part (i + 1) from block) ≡ (hex_text (part i from block) ++ (h ∷ [])) ++ (l ∷ []) =
        ap hex_text (part-next i from block r)
        ∙ hex_append (part i from block) (get_or block (from + i) 0 ∷ [])
        ∙ rw (← eb, ← eh, ← el) (sym (append_assoc (hex_text (part i from block)) (h ∷ []) (l ∷ []))) in
        rw two (wrote-more at high last (hex_text (part i from block) ++ (h ∷ [])) (l ∷ []) out mid after (wrote-more at end high (hex_text (part i from block)) (h ∷ []) out so mid p q) s)

-- ---- a name

some-name : (xs : List ℕ) → 0 < length xs → name_text xs ≡ hex_text xs
unfolding name_text
some-name [] h = absurd (let z : ⊥ = omega arith in z)
some-name (x ∷ xs) h = refl

module _ (block : List ℕ) (pos : ℕ) (e : Entry) (inside : pos + 8 + e.namelen ≤ length block) where
  no_name : e.namelen ≡ 0 → name_text (name_at block pos e) ≡ 45 ∷ []
  unfolding name_text name_at part
  no_name z = rw z

  pub name-dash : (at last : ℕ) (out after : List ℕ) → e.namelen ≡ 0 → (after, last) ≡ wrote at (45 ∷ []) out → (after, last) ≡ wrote at (name_text (name_at block pos e)) out
  name-dash at last out after z q = rw (no_name z) q

  is-hex : (e.namelen ≡ 0 → ⊥) → name_text (name_at block pos e) ≡ hex_text (part e.namelen (pos + 8) block)
  unfolding name_at
  is-hex z = some-name (part e.namelen (pos + 8) block) (omega (arith, length-part e.namelen (pos + 8) block inside, z))

  pub name-hex : (at last : ℕ) (out after : List ℕ) → (e.namelen ≡ 0 → ⊥) → (after, last) ≡ wrote at (hex_text (part e.namelen (pos + 8) block)) out
      → (after, last) ≡ wrote at (name_text (name_at block pos e)) out
  name-hex at last out after z q = rw (is-hex z) q

  -- a name's text is twice as long, or one dash
  pub name-short : length (name_text (name_at block pos e)) ≤ 2 * e.namelen + 1
  name-short = go (dec_lt 0 e.namelen)
    where
      go : Dec (0 < e.namelen) → length (name_text (name_at block pos e)) ≤ 2 * e.namelen + 1
      go (yes l) = rw (is-hex (λ z. omega arith)) (omega (arith, hex_long (part e.namelen (pos + 8) block), length-part e.namelen (pos + 8) block inside))
      go (no l) = rw (no_name (omega arith)) (omega arith)

-- ---- a line, and the lines of a walk

pub wrote_line : (block : List ℕ) (pos : ℕ) (e : Entry) (a0 a1 a2 a3 a4 a5 a6 : ℕ) (o0 o1 o2 o3 o4 o5 o6 : List ℕ)
    → (o1, a1) ≡ wrote a0 (spaced pos) o0
    → (o2, a2) ≡ wrote a1 (spaced e.inr) o1
    → (o3, a3) ≡ wrote a2 (spaced e.reclen) o2
    → (o4, a4) ≡ wrote a3 (spaced e.kind) o3
    → (o5, a5) ≡ wrote a4 (name_text (name_at block pos e)) o4
    → (o6, a6) ≡ wrote a5 (10 ∷ []) o5
    → (o6, a6) ≡ wrote a0 (line_text block pos e) o0
unfolding line_text
wrote_line block pos e a0 a1 a2 a3 a4 a5 a6 o0 o1 o2 o3 o4 o5 o6 p q r s t u =
    wrote-more a0 a1 a6 _ _ o0 o1 o6 p
    (wrote-more a1 a2 a6 _ _ o1 o2 o6 q
    (wrote-more a2 a3 a6 _ _ o2 o3 o6 r
    (wrote-more a3 a4 a6 _ _ o3 o4 o6 s
    (wrote-more a4 a5 a6 _ _ o4 o5 o6 t u))))

module _ (o : Order) (block : List ℕ) (pos : ℕ) where
  walk-line : (e : Entry) → rec_at o block pos ≡ Used e → walk_text block (walk_from o block pos) ≡ line_text block pos e ++ walk_text block (walk_from o block (pos + e.reclen))
  unfolding walk_text lines_text
  walk-line e h =
      rw (walk-used o block pos e h)
      (append_assoc (line_text block pos e) (lines_text block (walk_from o block (pos + e.reclen)).records) (stop_text (walk_from o block (pos + e.reclen)).stopped))

  -- the rest of the listing after one line
  pub listed-line : (e : Entry) (at last : ℕ) (so after : List ℕ) → rec_at o block pos ≡ Used e → (after, last) ≡ wrote at (line_text block pos e) so
      → wrote last (walk_text block (walk_from o block (pos + e.reclen))) after ≡ wrote at (walk_text block (walk_from o block pos)) so
  listed-line e at last so after h p =
      let rest = walk_text block (walk_from o block (pos + e.reclen)) in
      rw (walk-line e h) (wrote-more at last (wrote last rest after).1 (line_text block pos e) rest so after (wrote last rest after).0 p refl)

  pub listed-end : (at last : ℕ) (so after : List ℕ) → rec_at o block pos ≡ End → (after, last) ≡ wrote at (end_word ++ (decimal_text pos ++ (10 ∷ []))) so
      → (after, last) ≡ wrote at (walk_text block (walk_from o block pos)) so
  unfolding walk_text lines_text stop_text
  listed-end at last so after h p = rw (walk_end o block pos h) p

  pub listed-bad : (at last : ℕ) (so after : List ℕ) → rec_at o block pos ≡ Bad → (after, last) ≡ wrote at (damage_word ++ (decimal_text pos ++ (10 ∷ []))) so
      → (after, last) ≡ wrote at (walk_text block (walk_from o block pos)) so
  unfolding walk_text lines_text stop_text
  listed-bad at last so after h p = rw (walk-bad o block pos h) p

  -- six bytes of text for each byte of a record are enough
  pub line-room : (e : Entry) (at n : ℕ) → rec_at o block pos ≡ Used e → length block ≡ 512 → at ≤ 6 * pos → 4096 ≤ n
      → (at + 46 + 2 * e.namelen ≤ n) × (pos + 8 + e.namelen ≤ length block) × (pos < 4294967296)
  line-room e at n h l a m =
      let d = held o block pos e h in
      let s = smallest-low e.namelen in
      let i = d.inside in
      let k = d.least in
      (omega arith, omega arith, omega arith)

  pub line-next : (e : Entry) (at last : ℕ) → rec_at o block pos ≡ Used e → at ≤ 6 * pos → last ≤ at + 46 + 2 * e.namelen → last ≤ 6 * (pos + e.reclen)
  line-next e at last h a b = let d = held o block pos e h in omega (arith, d.least, smallest-low e.namelen)

-- ---- the whole input

pub listed-whole : (o : Order) (input out after : List ℕ) (last : ℕ) → length input ≡ 512 → (after, last) ≡ wrote 0 (walk_text input (walk_from o input 0)) out → (after, last) ≡ wrote 0 (dirlist_text o input) out
unfolding dirlist_text
listed-whole o input out after last l p = rw (eq-eqb (length input) 512 l) p

pub listed-other : (o : Order) (input out after : List ℕ) (last : ℕ) → (length input ≡ 512 → ⊥) → (after, last) ≡ wrote 0 size_word out → (after, last) ≡ wrote 0 (dirlist_text o input) out
unfolding dirlist_text
listed-other o input out after last l p = rw (ne_eqb (length input) 512 l) p
