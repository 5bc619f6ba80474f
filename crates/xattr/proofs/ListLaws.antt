-- The laws of the list: measured text by text, written text by text. Assumes nothing.
use Rattle.std.specs.Prelude.{Some, None, Result, Ok, Err}
use mathlib.Core.Path.{◌≡◌, refl, sym, ap, ◌∙◌}
use mathlib.Core.Bool.{true, false}
use mathlib.Core.List.{List, [], ◌∷◌, ◌++◌}
use Prim.Native.Nat.{ℕ, ◌+◌, ◌-◌, ◌≤◌, ◌<◌}
use native.Mathlib.Nat.{sub-zero}
use native.Mathlib.Omega.{arith}
use borrow.Author.Tests.{lt-ltb, le-ltb}
use lib.ListN.{length, take, drop, length-append}
use lib.Seq.{length-take-le}
use Rattle.field.specs.declared.Order.{Order}
use Rattle.field.specs.Field.{part, put}
use Rattle.field.proofs.Laws.{put_append, put-none}
use Rattle.refusal.specs.declared.Refusal.{Refusal}
use Rattle.refusal.specs.declared.Refusal.TheVariants.{Damaged, BufferTooSmall}
use Rattle.volume.specs.declared.Geometry.{Geometry}
use Rattle.inode_read.specs.Calls.{place_in, known_of}
use Rattle.attrrec.specs.declared.Entry.{Entry}
use Rattle.attrrec.specs.Record.{attr_at, name_at}
use Rattle.attrrec.specs.Text.{known, text_of, item_text, shown_text, shown_len}
use Rattle.attrrec.specs.Search.{Texts, texts, bad, before, list_from, list_in, all_texts}
use Rattle.attrrec.proofs.RecordLaws.{name-length}
use Rattle.attrrec.proofs.TextLaws.{shown-known, shown-other, length-shown}
use Rattle.attrrec.proofs.SearchLaws.{list-is, list-end, list-bad, list_start, list_all, Step, texts_step, texts-done, texts-never}
use Rattle.xattr.specs.Area.{area_of}
use Rattle.xattr.specs.Calls.{measured, texts_put, list_lies, list_known, xattr_list}
use Rattle.xattr.proofs.WindowLaws.{window}
use Rattle.inode_run.specs.declared.Spot.{Spot}
use Rattle.refusal.specs.Refusal.{damage}
use Rattle.refusal.specs.declared.Damage.{Damage}
use Rattle.xattr.specs.declared.Area.{Area}

-- ---- measuring

-- n bytes more
abbrev pub plus : ℕ → Result ℕ Refusal → Result ℕ Refusal
plus n (Ok m) = Ok (n + m)
plus n (Err e) = Err e

measured-before : (n : ℕ) (t : List ℕ) (ts : Texts) → plus n (measured (before t ts)) ≡ plus (n + length t) (measured ts)
measured-before n t (texts ts) = ap Ok (omega (arith, length-append t ts))
measured-before n t bad = refl

module _ (o : Order) (area : List ℕ) where
  pub measure-start : plus 0 (measured (list_from o area 0)) ≡ measured (list_in o area)
  measure-start = rw (list_start o area) (go (list_in o area))
    where
      go : (t : Texts) → plus 0 (measured t) ≡ measured t
      go (texts t) = ap Ok (omega arith)
      go bad = refl

  module _ (b n : ℕ) where
    pub measure-step : (e : Entry) → attr_at o area b ≡ Ok (Some e) → b + 7 + e.namelen ≤ length area → (m : ℕ) → m ≡ shown_len e
        → plus n (measured (list_from o area b)) ≡ plus (n + m) (measured (list_from o area (b + e.len)))
    measure-step e h l m q =
        ap (λ (t : Texts). plus n (measured t)) (list-is o area b e h)
        ∙ measured-before n (shown_text area (record { pos = b; entry = e })) (list_from o area (b + e.len))
        ∙ ap (λ (k : ℕ). plus (n + k) (measured (list_from o area (b + e.len)))) (length-shown area (record { pos = b; entry = e }) l ∙ sym q)

    pub measure-end : attr_at o area b ≡ Ok None → plus n (measured (list_from o area b)) ≡ Ok n
    measure-end h = ap (λ (t : Texts). plus n (measured t)) (list-end o area b h) ∙ ap Ok (omega arith)

    pub measure-bad : attr_at o area b ≡ Err damage → plus n (measured (list_from o area b)) ≡ Err Damaged
    measure-bad h = ap (λ (t : Texts). plus n (measured t)) (list-bad o area b h)

-- ---- writing

module _ (area : List ℕ) (b : ℕ) (e : Entry) (out : List ℕ) (n : ℕ) where
  pub wrote_none : known e.namespace ≡ false
      → (out ≡ put n (shown_text area (record { pos = b; entry = e })) out) × (0 ≡ length (shown_text area (record { pos = b; entry = e })))
  wrote_none k = rw (shown-other area (record { pos = b; entry = e }) k) (sym (put-none n out), refl)

  module _ (k : known e.namespace ≡ true) (buf name : List ℕ) (h : b + 7 + e.namelen ≤ length area) (l : e.namelen ≤ length buf)
      (q : name ≡ put 0 (part e.namelen (b + 7) area) buf) where
    copied : part (e.namelen - 0) 0 name ≡ name_at area b e
    unfolding name_at
    copied = ap (λ (m : ℕ). part m 0 name) (sub-zero e.namelen) ∙ window e.namelen (b + 7) area buf name h l q

    pub room_for : n + length (shown_text area (record { pos = b; entry = e })) ≤ length out → n + length (text_of e.namespace (part (e.namelen - 0) 0 name)) + 1 ≤ length out
    room_for r =
        let s = ap length (shown-known area (record { pos = b; entry = e }) k) ∙ length-append (item_text area (record { pos = b; entry = e })) (0 ∷ []) in
        rw copied (omega arith)

    pub short-name : e.namelen ≤ 64 → length (part (e.namelen - 0) 0 name) ≤ 64
    short-name r = rw copied (omega (arith, name-length area b e h))

    pub wrote : (now : List ℕ) (r : ℕ) → (now ≡ put n (text_of e.namespace (part (e.namelen - 0) 0 name) ++ (0 ∷ [])) out) × (r ≡ length (text_of e.namespace (part (e.namelen - 0) 0 name)) + 1)
        → (now ≡ put n (shown_text area (record { pos = b; entry = e })) out) × (r ≡ length (shown_text area (record { pos = b; entry = e })))
    wrote now r w =
        let s = shown-known area (record { pos = b; entry = e }) k in (
          w.0 ∙ rw (s, copied),
          w.1 ∙ rw (s, copied) (sym (length-append (item_text area (record { pos = b; entry = e })) (0 ∷ []))),
        )

-- the first n bytes of the list are written, and what is left begins at b
pub record Writing (o : Order) (area was out : List ℕ) (b n : ℕ) : Type 0 where
  pub within : n ≤ length (all_texts o area)
  pub left : list_from o area b ≡ texts (drop n (all_texts o area))
  pub is : out ≡ put 0 (take n (all_texts o area)) was

pub write_start : (o : Order) (area out : List ℕ) → list_in o area ≡ texts (all_texts o area) → Writing o area out out 0 0
write_start o area out e = record { within = omega arith; left = list_start o area ∙ e; is = sym (put-none 0 out) }

module _ (o : Order) (area was out : List ℕ) (b n : ℕ) (w : Writing o area was out b n) where
  module _ (e : Entry) (h : attr_at o area b ≡ Ok (Some e)) where
    pub write-fits : Step (shown_text area (record { pos = b; entry = e })) (all_texts o area) n (list_from o area (b + e.len))
    write-fits =
        texts_step (shown_text area (record { pos = b; entry = e })) (all_texts o area) n (list_from o area (b + e.len)) w.within (sym (list-is o area b e h) ∙ w.left)

    pub write-next : (now : List ℕ) (r : ℕ) → (now ≡ put n (shown_text area (record { pos = b; entry = e })) out) × (r ≡ length (shown_text area (record { pos = b; entry = e })))
        → Writing o area was now (b + e.len) (n + r)
    write-next now r q =
        let t = shown_text area (record { pos = b; entry = e }) in
        let all = all_texts o area in
        let s = write-fits in
        let l : length (take n all) ≡ n = length-take-le n all w.within in
        let k : 0 + length (take n all) ≡ n = omega arith in
        rw q.1
        (record {
          within = s.within;
          left = s.left;
          is =
              q.0 ∙ ap (put n t) w.is ∙ ap (λ (x : ℕ). put x t (put 0 (take n all) was)) (sym k) ∙ sym (put_append 0 (take n all) t was)
              ∙ ap (λ (x : List ℕ). put 0 x was) (sym s.more);
        })

  pub write-end : attr_at o area b ≡ Ok None → out ≡ put 0 (all_texts o area) was
  write-end h = w.is ∙ ap (λ (x : List ℕ). put 0 x was) (texts-done (all_texts o area) n (sym (list-end o area b h) ∙ w.left))

  pub write-bad : attr_at o area b ≡ Err damage → ⊥
  write-bad h = texts-never (drop n (all_texts o area)) (sym (list-bad o area b h) ∙ w.left)

-- ---- the answer

module _ (o : Order) (area out : List ℕ) where
  pub measured-texts : (n : ℕ) → Ok n ≡ measured (list_in o area) → (list_in o area ≡ texts (all_texts o area)) × (n ≡ length (all_texts o area))
  measured-texts n h = go (list_in o area) refl h
    where
      go : (t : Texts) → list_in o area ≡ t → Ok n ≡ measured t → (list_in o area ≡ texts (all_texts o area)) × (n ≡ length (all_texts o area))
      go (texts t) q h = let r = list_all o area t q in let m : n ≡ length t = cc in (q ∙ ap texts r, m ∙ ap length r)
      go bad q h = absurd (let z : ◌≡◌ {A = ℕ} 0 1 = cc in let y : ⊥ = omega arith in y)

  pub list-damaged : (e : Refusal) → Err e ≡ measured (list_in o area) → (out, Err e) ≡ texts_put out (list_in o area)
  list-damaged e h = go (list_in o area) h
    where
      go : (t : Texts) → Err e ≡ measured t → (out, Err e) ≡ texts_put out t
      go (texts t) h = absurd (let z : ◌≡◌ {A = ℕ} 0 1 = cc in let y : ⊥ = omega arith in y)
      go bad h = ap (λ (r : Result ℕ Refusal). (out, r)) h

  module _ (n : ℕ) (h : Ok n ≡ measured (list_in o area)) where
    pub list-short : length out < n → (out, Err BufferTooSmall) ≡ texts_put out (list_in o area)
    list-short l = let m = measured-texts n h in rw (m.0, lt-ltb (length out) (length (all_texts o area)) (omega arith))

    pub list_wrote : n ≤ length out → (now : List ℕ) → now ≡ put 0 (all_texts o area) out → (now, Ok n) ≡ texts_put out (list_in o area)
    list_wrote l now q = let m = measured-texts n h in rw (m.0, le-ltb (length out) (length (all_texts o area)) (omega arith), q, m.1)

pub lies_told : (geo : Geometry) (at : ℕ) (img out : List ℕ) (l : Result Area Damage) → l ≡ area_of geo at img → list_lies geo img out l ≡ list_lies geo img out (area_of geo at img)
lies_told geo at img out l e = ap (list_lies geo img out) e

pub list_known_lem : (img : List ℕ) (i : ℕ) (k : Result (Geometry × Spot) Refusal) → k ≡ known_of (place_in img i) → (out : List ℕ) → list_known img out k ≡ xattr_list img i out
unfolding xattr_list
list_known_lem img i k e out = rw e
