-- The laws of `specs/Encode.antt`: an attribute that was written is read back, and nothing outside it is touched. Assumes nothing.
use Rattle.std.specs.Prelude.{Some, Ok}
use mathlib.Core.Path.{◌≡◌, refl, sym, ◌∙◌}
use mathlib.Core.List.{List}
use mathlib.Core.Logic.{inl}
use Prim.Native.Nat.{ℕ, ◌+◌, ◌-◌, ◌%◌, ◌^◌, ◌≤◌, ◌<◌}
use native.Mathlib.Omega.{arith}
use lib.ListN.{length}
use Rattle.field.specs.declared.Order.{Order}
use Rattle.field.specs.Field.{num, put, put_num, zeros, Kept}
use Rattle.field.proofs.Laws.{length-put, length-put_num, length-zeros, num-put_num, num-put_num-before, part-put, part-put-apart, kept_trans, kept_wider, kept-put, kept-put_num, kept-num}
use Rattle.attrrec.specs.declared.Entry.{Entry}
use Rattle.attrrec.specs.Record.{entry_at, name_at, gap, value_len, value_at, judged, attr_at}
use Rattle.attrrec.specs.Encode.{attr_pad, attr_length, new_entry, put_header, put_attr}
use Rattle.attrrec.proofs.RecordLaws.{gap-low, gap-aligned, judged-is, attr-judged}

-- ---- lengths

pub pad-small : (n : ℕ) → attr_pad n < 8
unfolding attr_pad
pad-small n = omega arith

pub length-is : (namelen n : ℕ) → attr_length namelen n ≡ gap 0 namelen + n + attr_pad n
unfolding attr_length
length-is namelen n = refl

pub length-aligned : (namelen n : ℕ) → attr_length namelen n % 8 ≡ 0
unfolding attr_length attr_pad gap
length-aligned namelen n = omega arith

-- ---- the header

-- each field fits its bytes
pub record Narrow (e : Entry) : Type 0 where
  pub len : e.len < 256 ^ 4
  pub namespace : e.namespace < 256 ^ 1
  pub pad : e.pad < 256 ^ 1
  pub namelen : e.namelen < 256 ^ 1

module _ (o : Order) (b : ℕ) (e : Entry) (area : List ℕ) where
  pub length_header : length (put_header o b e area) ≡ length area
  unfolding put_header
  length_header = simp length-put_num

  header_read : b + 7 ≤ length area → Narrow e → entry_at o b (put_header o b e area) ≡ e
  unfolding entry_at put_header
  header_read r w =
      let b1 = put_num o 4 b e.len area in
      let b2 = put_num o 1 (b + 4) e.namespace b1 in
      let b3 = put_num o 1 (b + 5) e.pad b2 in
      let l1 : length b1 ≡ length area = length-put_num o 4 b e.len area in
      let l2 : length b2 ≡ length b1 = length-put_num o 1 (b + 4) e.namespace b1 in
      let l3 : length b3 ≡ length b2 = length-put_num o 1 (b + 5) e.pad b2 in
      let l : num o 4 b (put_num o 1 (b + 6) e.namelen b3) ≡ e.len =
      num-put_num-before o 1 (b + 6) e.namelen b3 o 4 b (omega arith)
      ∙ num-put_num-before o 1 (b + 5) e.pad b2 o 4 b (omega arith)
      ∙ num-put_num-before o 1 (b + 4) e.namespace b1 o 4 b (omega arith)
      ∙ num-put_num o 4 b e.len area w.len (omega arith) in
      let s : num o 1 (b + 4) (put_num o 1 (b + 6) e.namelen b3) ≡ e.namespace =
      num-put_num-before o 1 (b + 6) e.namelen b3 o 1 (b + 4) (omega arith)
      ∙ num-put_num-before o 1 (b + 5) e.pad b2 o 1 (b + 4) (omega arith)
      ∙ num-put_num o 1 (b + 4) e.namespace b1 w.namespace (omega arith) in
      let p : num o 1 (b + 5) (put_num o 1 (b + 6) e.namelen b3) ≡ e.pad =
      num-put_num-before o 1 (b + 6) e.namelen b3 o 1 (b + 5) (omega arith)
      ∙ num-put_num o 1 (b + 5) e.pad b2 w.pad (omega arith) in
      let n : num o 1 (b + 6) (put_num o 1 (b + 6) e.namelen b3) ≡ e.namelen = num-put_num o 1 (b + 6) e.namelen b3 w.namelen (omega arith) in
      rw (l, s, p, n)

  header-kept : Kept b 7 area (put_header o b e area)
  unfolding put_header
  header-kept =
      kept_trans (kept_wider b 7 (omega arith) (omega arith) (kept-put_num o 4 b e.len area))
      (kept_trans (kept_wider b 7 (omega arith) (omega arith) (kept-put_num o 1 (b + 4) e.namespace (put_num o 4 b e.len area)))
      (kept_trans (kept_wider b 7 (omega arith) (omega arith) (kept-put_num o 1 (b + 5) e.pad (put_num o 1 (b + 4) e.namespace (put_num o 4 b e.len area))))
      (kept_wider b 7 (omega arith) (omega arith) (kept-put_num o 1 (b + 6) e.namelen (put_num o 1 (b + 5) e.pad (put_num o 1 (b + 4) e.namespace (put_num o 4 b e.len area)))))))

-- what lies behind a header does not matter to it
entry-kept : (o : Order) (b a n : ℕ) (xs ys : List ℕ) → Kept a n xs ys → b + 7 ≤ a → entry_at o b ys ≡ entry_at o b xs
unfolding entry_at
entry-kept o b a n xs ys k h =
    rw (kept-num o 4 b k (inl (omega arith)), kept-num o 1 (b + 4) k (inl (omega arith)), kept-num o 1 (b + 5) k (inl (omega arith)), kept-num o 1 (b + 6) k (inl (omega arith)))

-- ---- the whole

-- what can be written at b
pub record Fits (b ns : ℕ) (name value area : List ℕ) : Type 0 where
  pub namespace : ns < 256 ^ 1
  pub some : length name ≡ 0 → ⊥
  pub short : length name ≤ 64
  pub bound : attr_length (length name) (length value) < 256 ^ 4
  pub aligned : b % 8 ≡ 0
  pub inside : b + attr_length (length name) (length value) ≤ length area

module _ (o : Order) (b ns : ℕ) (name value area : List ℕ) where
  -- the area with header and name, and the value still to come
  headed : List ℕ
  headed = put_header o b (new_entry ns name value) (put b (zeros (attr_length (length name) (length value))) area)

  length-headed : length headed ≡ length area
  unfolding headed
  length-headed = length_header o b (new_entry ns name value) _ ∙ length-put b (zeros (attr_length (length name) (length value))) area

  pub length-attr : length (put_attr o b ns name value area) ≡ length area
  unfolding put_attr headed
  length-attr = length-put _ value _ ∙ length-put _ name _ ∙ length-headed

  module _ (f : Fits b ns name value area) where
    narrow : Narrow (new_entry ns name value)
    unfolding new_entry
    narrow = record { len = f.bound; namespace = f.namespace; pad = omega (arith, pad-small (length value)); namelen = omega (arith, f.short) }

    -- name and value stand behind the header
    behind : Kept (b + 7) (attr_length (length name) (length value) - 7) headed (put_attr o b ns name value area)
    unfolding put_attr headed
    behind =
        let g = gap-low 0 (length name) in
        let l = length-is (length name) (length value) in
        kept_trans (kept_wider (b + 7) (attr_length (length name) (length value) - 7) (omega arith) (omega arith) (kept-put (b + 7) name headed))
        (kept_wider (b + 7) (attr_length (length name) (length value) - 7) (omega arith) (omega arith) (kept-put (b + gap 0 (length name)) value (put (b + 7) name headed)))

    -- nothing outside the attribute is touched
    pub attr-kept : Kept b (attr_length (length name) (length value)) area (put_attr o b ns name value area)
    unfolding headed
    attr-kept =
        let g = gap-low 0 (length name) in
        let l = length-is (length name) (length value) in
        let z = length-zeros (attr_length (length name) (length value)) in
        kept_trans (kept_wider b (attr_length (length name) (length value)) (omega arith) (omega arith) (kept-put b (zeros (attr_length (length name) (length value))) area))
        (kept_trans (kept_wider b (attr_length (length name) (length value)) (omega arith) (omega arith) (header-kept o b (new_entry ns name value) (put b (zeros (attr_length (length name) (length value))) area)))
        (kept_wider b (attr_length (length name) (length value)) (omega arith) (omega arith) behind))

    entry-written : entry_at o b (put_attr o b ns name value area) ≡ new_entry ns name value
    unfolding headed
    entry-written =
        let g = gap-low 0 (length name) in
        let l = length-is (length name) (length value) in
        let z = length-put b (zeros (attr_length (length name) (length value))) area in
        entry-kept o b (b + 7) _ headed (put_attr o b ns name value area) behind (omega arith)
        ∙ header_read o b (new_entry ns name value) _ (omega (arith, f.inside)) narrow

    taken : judged b (length area - b) (new_entry ns name value) ≡ Ok (Some (new_entry ns name value))
    unfolding new_entry
    taken =
        let g = gap-low 0 (length name) in
        let l = length-is (length name) (length value) in
        let a = gap-aligned b (length name) f.aligned in
        let i = f.inside in
        judged-is b (length area - b) (new_entry ns name value) (omega arith) f.some f.short (omega arith) (omega arith) (omega arith) (omega arith)

    -- the attribute is read back
    pub attr-written : attr_at o (put_attr o b ns name value area) b ≡ Ok (Some (new_entry ns name value))
    attr-written =
        attr-judged o (put_attr o b ns name value area) b (length area - b) (new_entry ns name value) (rw length-attr) (sym entry-written) ∙ taken

    -- and so is its name
    pub name-written : name_at (put_attr o b ns name value area) b (new_entry ns name value) ≡ name
    unfolding name_at new_entry put_attr headed
    name-written =
        let g = gap-low 0 (length name) in
        let l = length-is (length name) (length value) in
        part-put-apart (length name) (b + 7) (b + gap 0 (length name)) value (put (b + 7) name headed) (inl (omega arith))
        ∙ part-put (b + 7) name headed (omega (arith, f.inside, length-headed))

    -- and its value
    pub value_written : value_at (put_attr o b ns name value area) b (new_entry ns name value) ≡ value
    unfolding value_at value_len new_entry put_attr headed
    value_written =
        let l = length-is (length name) (length value) in
        let a = gap-aligned b (length name) f.aligned in
        let n : attr_length (length name) (length value) - gap b (length name) - attr_pad (length value) ≡ length value = omega arith in
        let p : b + gap b (length name) ≡ b + gap 0 (length name) = omega arith in
        let k = length-put (b + 7) name headed in
        rw (n, p) (part-put (b + gap 0 (length name)) value (put (b + 7) name headed) (omega (arith, f.inside, length-headed)))
