-- Laws of telling a directory's records one by one. Assumes nothing.
use Rattle.std.specs.Prelude.{Option, Some, None, Result, Ok, Err}
use mathlib.Core.Path.{◌≡◌, refl, sym, ap, subst, ◌∙◌}
use mathlib.Core.Bool.{Bool, true, false, ◌||◌}
use mathlib.Core.Logic.{◌⊎◌, ⊎_elim}
use mathlib.Core.List.{List, [], ◌++◌}
use Prim.Native.Nat.{ℕ, zero, suc, ◌+◌, ◌-◌, ◌*◌, ◌/◌, ◌%◌, ◌≤◌, ◌<◌}
use native.Mathlib.Nat.{mul-div_left}
use native.Mathlib.Omega.{arith}
use lib.ListN.{length, take, drop, take-append-drop}
use lib.Dec.{eqb, leb}
use borrow.Author.Tests.{eq-eqb, ne_eqb, le-leb, lt-leb}
use Rattle.field.specs.Field.{put, part}
use Rattle.field.proofs.Laws.{part-put, length-put, put-middle}
use Rattle.field.specs.declared.Order.{Order}
use Rattle.refusal.specs.declared.Refusal.{Refusal}
use Rattle.refusal.specs.declared.Refusal.TheVariants.{Damaged, NotDirectory, BufferTooSmall}
use Rattle.store.specs.Act.{Out, got, refused}
use Rattle.volume.specs.declared.Geometry.{Geometry}
use Rattle.frame.specs.Frame.{Frame}
use Rattle.frame.proofs.Places.{order}
use Rattle.inode.specs.declared.InodeType.{InodeType}
use Rattle.inode.specs.Shape.{type_of, is_dir}
use Rattle.inode.specs.Kind.{kind_of}
use Rattle.inode_run.specs.declared.Spot.{Spot}
use Rattle.inode_read.specs.Calls.{Place, place_in}
use Rattle.dirblock.specs.declared.Entry.{Entry}
use Rattle.dirblock.specs.declared.Spot as place
use Rattle.dirblock.specs.Record.{kind_known}
use Rattle.dirblock.proofs.RecordLaws.{held}
use Rattle.dirblock.proofs.FoundLaws.{found}
use Rattle.dirblock.specs.Search.{search_from}
use Rattle.dirfile.specs.Block.{dir_block, read_into}
use Rattle.dirfile.proofs.BlockLaws.{block-long}
use Rattle.dirnext.specs.declared.DirEntry.{DirEntry}
use Rattle.dirnext.specs.Next.{is_listed, listed_from, Told, last, told_as, by_find, by_block, next_among, next_from, next_found, next_in, dir_next, next_of, next_answer, fetched, entry_name}
use Rattle.refusal.specs.Refusal.{damage}
use Rattle.refusal.specs.declared.Damage.{Damage}

-- ---- one block

pub listed_start : (o : Order) (block : List ℕ) (pos : ℕ) → search_from is_listed o block pos pos ≡ listed_from o block pos
unfolding listed_from
listed_start o block pos = refl

-- ---- a record told: its type is a kind's number

pub kind-number : (n : ℕ) → type_of (n * 4096) ≡ n
unfolding type_of
kind-number n = mul-div_left n (omega arith)

module _ (k pos inr reclen namelen : ℕ) {kind : (Option InodeType)} where
  pub told_is : (t : InodeType) → kind ≡ Some t → Ok (Some (record { inr = inr; kind = t; from = pos + 8; len = namelen; next = k * 512 + pos + reclen })) ≡ next_of (told_as k pos inr reclen namelen kind)
  told_is t e = rw e

  pub told-nameless : kind ≡ None → Err Damaged ≡ next_of (told_as k pos inr reclen namelen kind)
  told-nameless e = rw e

-- a type that a record may have is small
pub kind-small : (k : ℕ) → kind_known k ≡ true → k < 16
unfolding kind_known
kind-small k h = ⊎_elim (λ l. l) (λ g. absurd (let y : ⊥ = large g in y)) (order k 16)
  where
    large : (k ≡ 16) ⊎ (16 < k) → ⊥
    large g =
        let l : 16 ≤ k = ⊎_elim (λ e. omega arith) (λ e. omega arith) g in
        let f : (eqb k 1 || eqb k 2 || eqb k 4 || eqb k 6 || eqb k 8 || eqb k 10 || eqb k 12 || eqb k 14) ≡ false =
        rw (ne_eqb k 1 (λ e. omega arith), ne_eqb k 2 (λ e. omega arith), ne_eqb k 4 (λ e. omega arith), ne_eqb k 6 (λ e. omega arith), ne_eqb k 8 (λ e. omega arith), ne_eqb k 10 (λ e. omega arith), ne_eqb k 12 (λ e. omega arith), ne_eqb k 14 (λ e. omega arith)) in
        let z : ◌≡◌ {A = ℕ} 0 1 = cc in
        omega arith

pub told_pair : (new : List ℕ) {x : List ℕ × Out Told} {o : Out Told} (r : Result (Option DirEntry) Refusal) → r ≡ next_of o → x ≡ (new, o) → (new, r) ≡ next_answer x
told_pair new r h e = rw (e, h)

-- ---- the blocks, upward: n in all

-- what `read_block` leaves in the buffer's first 512 bytes
pub fetch_told : (buf b : List ℕ) (ok : Bool) (o : Out (List ℕ)) → o ≡ read_into ok b → (ok ≡ false → b ≡ take 512 buf) → length b ≡ 512 → 512 ≤ length buf
    → (b ++ drop 512 buf, ok) ≡ fetched buf o
fetch_told buf b true o e f l h = rw e (ap (λ (xs : List ℕ). (xs, true)) (put-middle 0 512 b buf l h))
fetch_told buf b false o e f l h = rw e (ap (λ (xs : List ℕ). (xs, false)) (ap (λ (xs : List ℕ). xs ++ drop 512 buf) (f refl) ∙ take-append-drop 512 buf))

-- what the code is told of a block that it asked for
pub record Fetched (buf new : List ℕ) (o : Out (List ℕ)) : Type 0 where
  pub block : List ℕ
  pub is : o ≡ got block
  pub there : new ≡ put 0 block buf

pub fetch_got : (buf new : List ℕ) (ok : Bool) (o : Out (List ℕ)) → (new, ok) ≡ fetched buf o → ok ≡ true → Fetched buf new o
fetch_got buf new ok (got b) e h = record { block = b; is = refl; there = ap (λ (p : List ℕ × Bool). p.0) e }
fetch_got buf new ok (refused r) e h = absurd (let q : ok ≡ false = ap (λ (p : List ℕ × Bool). p.1) e in let z : ◌≡◌ {A = ℕ} 0 1 = cc in let y : ⊥ = omega arith in y)

pub record Unread (buf new : List ℕ) (o : Out (List ℕ)) : Type 0 where
  pub why : Refusal
  pub is : o ≡ refused why
  pub same : new ≡ buf

pub fetch_refused : (buf new : List ℕ) (ok : Bool) (o : Out (List ℕ)) → (new, ok) ≡ fetched buf o → ok ≡ false → Unread buf new o
fetch_refused buf new ok (got b) e h = absurd (let q : ok ≡ true = ap (λ (p : List ℕ × Bool). p.1) e in let z : ◌≡◌ {A = ℕ} 0 1 = cc in let y : ⊥ = omega arith in y)
fetch_refused buf new ok (refused r) e h = record { why = r; is = refl; same = ap (λ (p : List ℕ × Bool). p.0) e }

-- the block stands at the start of the buffer
pub block-first : (buf new : List ℕ) (o : Out (List ℕ)) (f : Fetched buf new o) → length f.block ≡ 512 → 512 ≤ length buf → part 512 0 new ≡ f.block
block-first buf new o f l h = rw f.there (ap (λ (n : ℕ). part n 0 (put 0 f.block buf)) (sym l) ∙ part-put 0 f.block buf (omega (arith, l)))

pub fetch_long : (buf new : List ℕ) (ok : Bool) (o : Out (List ℕ)) → (new, ok) ≡ fetched buf o → length new ≡ length buf
fetch_long buf new ok (got b) e = ap length (ap (λ (p : List ℕ × Bool). p.0) e) ∙ length-put 0 b buf
fetch_long buf new ok (refused r) e = ap length (ap (λ (p : List ℕ × Bool). p.0) e)

module _ (geo : Geometry) (at size : ℕ) (img : List ℕ) (n k pos : ℕ) (buf : List ℕ) where
  pub among-end : n ≤ k → next_among geo at size img (n - k) k pos buf ≡ (buf, got last)
  unfolding next_among
  among-end l = let e : n - k ≡ 0 = omega arith in rw e

  among-step : k < n → next_among geo at size img (n - k) k pos buf ≡ by_block geo.order k pos buf (dir_block geo at size img k) (next_among geo at size img (n - (k + 1)) (k + 1) 0)
  unfolding next_among
  among-step l = let e : n - k ≡ suc (n - (k + 1)) = omega arith in rw e

  pub among-unread : k < n → (new : List ℕ) → Unread buf new (dir_block geo at size img k) → next_among geo at size img (n - k) k pos buf ≡ (new, refused Damaged)
  among-unread l new u = among-step l ∙ rw (u.is, u.same)

  -- what the block in the buffer says
  module _ (l : k < n) (new : List ℕ) (f : Fetched buf new (dir_block geo at size img k)) (whole : part 512 0 new ≡ f.block) where
    among-block : (x : Result (Option place.Spot) Damage) → x ≡ listed_from geo.order (part 512 0 new) pos → next_among geo at size img (n - k) k pos buf ≡ by_find k new x (next_among geo at size img (n - (k + 1)) (k + 1) 0)
    among-block x e = among-step l ∙ rw (f.is, ← f.there, ← whole, ← e)

    among-told : (s : place.Spot) → Ok (Some s) ≡ listed_from geo.order (part 512 0 new) pos → next_among geo at size img (n - k) k pos buf ≡ (new, told_as k s.pos s.entry.inr s.entry.reclen s.entry.namelen (kind_of s.entry.kind))
    among-told s e = among-block (Ok (Some s)) e

    among_next : (Ok None) ≡ listed_from geo.order (part 512 0 new) pos → next_among geo at size img (n - k) k pos buf ≡ next_among geo at size img (n - (k + 1)) (k + 1) 0 new
    among_next e = among-block (Ok None) e

    among-bad : (Err damage) ≡ listed_from geo.order (part 512 0 new) pos → next_among geo at size img (n - k) k pos buf ≡ (new, refused Damaged)
    among-bad e = among-block (Err damage) e

-- one turn of the code: the block that it fetched
module _ (geo : Geometry) (img : List ℕ) (fr : Frame geo img) (at size n k pos : ℕ) (buf : List ℕ) (l : k < n) (inside : k * 512 + 512 ≤ size) (wide : 512 ≤ length buf) (new : List ℕ) (ok : Bool) (e : (new, ok) ≡ fetched buf (dir_block geo at size img k)) (h : ok ≡ true) where
  turn : Fetched buf new (dir_block geo at size img k)
  turn = fetch_got buf new ok (dir_block geo at size img k) e h

  turn-first : part 512 0 new ≡ turn.block
  turn-first = block-first buf new (dir_block geo at size img k) turn (block-long geo img fr at size k inside turn.block turn.is) wide

  pub turn-told : (s : place.Spot) → Ok (Some s) ≡ listed_from geo.order (part 512 0 new) pos → next_among geo at size img (n - k) k pos buf ≡ (new, told_as k s.pos s.entry.inr s.entry.reclen s.entry.namelen (kind_of s.entry.kind))
  turn-told = among-told geo at size img n k pos buf l new turn turn-first

  pub turn-next : (Ok None) ≡ listed_from geo.order (part 512 0 new) pos → next_among geo at size img (n - k) k pos buf ≡ next_among geo at size img (n - (k + 1)) (k + 1) 0 new
  turn-next = among_next geo at size img n k pos buf l new turn turn-first

  pub turn-bad : (Err damage) ≡ listed_from geo.order (part 512 0 new) pos → next_among geo at size img (n - k) k pos buf ≡ (new, refused Damaged)
  turn-bad = among-bad geo at size img n k pos buf l new turn turn-first

pub from_start : (geo : Geometry) (at size : ℕ) (img : List ℕ) (cur : ℕ) (buf : List ℕ) → next_among geo at size img (size / 512 - cur / 512) (cur / 512) (cur % 512) buf ≡ next_from geo at size img cur buf
unfolding next_from
from_start geo at size img cur buf = refl

-- where the record that is told lies
pub record InBlock (pos : ℕ) (e : Entry) : Type 0 where
  pub ends : pos + e.reclen ≤ 512
  pub small : e.kind < 16

pub told_inside : (o : Order) (block : List ℕ) (pos : ℕ) (s : place.Spot) → length block ≡ 512 → Ok (Some s) ≡ listed_from o block pos → InBlock s.pos s.entry
unfolding listed_from
told_inside o block pos s l e =
    let f = found is_listed o block s pos pos (sym e) in
    let h = held o block s.pos s.entry f.there in
    record { ends = omega (arith, h.inside, l); small = kind-small s.entry.kind h.kind }

-- ---- the tests before

module _ (geo : Geometry) (s : Spot) (img : List ℕ) (cur : ℕ) (buf : List ℕ) where
  pub next-other : is_dir s.shape ≡ false → next_found geo s img cur buf ≡ (buf, refused NotDirectory)
  unfolding next_found
  next-other h = rw h

  module _ (d : is_dir s.shape ≡ true) where
    pub next-odd : eqb (s.shape.size % 512) 0 ≡ false → next_found geo s img cur buf ≡ (buf, refused Damaged)
    unfolding next_found
    next-odd h = rw (d, h)

    module _ (m : eqb (s.shape.size % 512) 0 ≡ true) where
      pub next_small : length buf < 512 → next_found geo s img cur buf ≡ (buf, refused BufferTooSmall)
      unfolding next_found
      next_small h = rw (d, m, lt-leb 512 (length buf) h)

      pub next-work : 512 ≤ length buf → next_found geo s img cur buf ≡ next_from geo s.at s.shape.size img cur buf
      unfolding next_found
      next-work h = rw (d, m, le-leb 512 (length buf) h)

pub next_in_lem : (img : List ℕ) (i : ℕ) (o : Out Place) → place_in img i ≡ o → (cur : ℕ) (buf : List ℕ) → dir_next img i cur buf ≡ next_in img cur buf o
unfolding dir_next
next_in_lem img i o e cur buf = rw e

-- ---- the name

module _ (buf : List ℕ) (e : DirEntry) where
  pub name-past : length buf < e.from + e.len → entry_name buf e ≡ []
  unfolding entry_name
  name-past h = rw (lt-leb (e.from + e.len) (length buf) h)

  pub name-there : e.from + e.len ≤ length buf → take (e.from + e.len - e.from) (drop e.from buf) ≡ entry_name buf e
  unfolding entry_name part
  name-there h = let n : e.from + e.len - e.from ≡ e.len = omega arith in rw (le-leb (e.from + e.len) (length buf) h, n)
