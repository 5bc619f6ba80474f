-- Reading: byte by byte, in two parts, at or past the size, and what a refusal leaves. That two answers which meet one promise coincide is balloc's `coincide`. Assumes nothing.
use Rattle.std.specs.Prelude.{Option, Some, None}
use mathlib.Core.Path.{◌≡◌, refl, sym, ap, subst, ◌∙◌}
use mathlib.Core.Bool.{Bool, true, false}
use mathlib.Core.List.{List}
use mathlib.Core.Logic.{◌⊎◌, inl, inr, ⊎_elim}
use Prim.Native.Nat.{ℕ, ◌+◌, ◌-◌, ◌*◌, ◌≤◌, ◌<◌}
use native.Mathlib.Nat.{eq-zero-or-pos, min-le_left, min-le_right, min-eq_left, min-eq_right}
use native.Mathlib.Omega.{arith}
use lib.ListN.{length, get_or}
use Rattle.field.specs.Field.{put}
use Rattle.field.proofs.Laws.{put-none, part-put, part_at, get_or-put, length-put}
use Rattle.refusal.specs.declared.Refusal.{Refusal}
use Rattle.refusal.specs.declared.Refusal.TheVariants.{Damaged}
use Rattle.store.specs.Act.{Out, got, refused}
use Rattle.frame.proofs.Places.{order}
use Rattle.inode.specs.Shape.{sized, in_place}
use Rattle.inode_run.specs.Run.{file_byte, file_bytes}
use Rattle.inode_read.specs.Read.{stop}
use Rattle.inode_read.specs.Calls.{Place, place_in, asked, read_out, inode_read}
use Rattle.inode_read.proofs.JudgeLaws.{place-stands}
use Rattle.inode_read.proofs.FileLaws.{bytes-none, length-bytes, byte_at}
use Rattle.inode_read.proofs.ReachLaws.{block-some}
use Rattle.inode_read.proofs.ReadLaws.{stop-good, good-stop, good-parts, parts-good, read_whole, read_short}
use Rattle.inode_read.proofs.CallLaws.{read_none, read-in-place, read-unsized, read-blocks, read_found_lem}

-- ---- the n bytes of a place from `off` on can all be read

abbrev bytes_of : Place → List ℕ → ℕ → ℕ → List ℕ
bytes_of p img off n = file_bytes p.geo p.spot.at p.spot.shape.size img off n

abbrev pub byte_of : Place → List ℕ → ℕ → ℕ
byte_of p img x = file_byte p.geo p.spot.at p.spot.shape.size img x

abbrev stop_of : Place → List ℕ → ℕ → ℕ → Option ℕ
stop_of p img off n = stop p.geo p.spot.at p.spot.shape.size img off n

record Clear (p : Place) (img : List ℕ) (off n : ℕ) : Type 0 where
  pub blocks : in_place p.spot.shape ≡ false
  pub kind : sized p.spot.shape ≡ true
  pub all : stop_of p img off n ≡ None

-- nothing is asked for, or all can be read
abbrev Fine : Place → List ℕ → ℕ → ℕ → Type 0
Fine p img off n = (n ≡ 0) ⊎ Clear p img off n

-- what a read then leaves and answers
abbrev Whole : Place → List ℕ → ℕ → ℕ → List ℕ → Type 0
Whole p img off n buf = read_out p.geo p.spot img off n buf ≡ (put 0 (bytes_of p img off n) buf, got n)

fine-whole : (p : Place) (img : List ℕ) (off n : ℕ) (buf : List ℕ) → Fine p img off n → Whole p img off n buf
fine-whole p img off n buf f = ⊎_elim none (λ c. ⊎_elim none (λ l. some l c) (eq-zero-or-pos n)) f
  where
    none : n ≡ 0 → Whole p img off n buf
    none z =
        read_none p.geo p.spot img off n buf z
        ∙ ap (λ (x : List ℕ). (x, got 0)) (sym (put-none 0 buf) ∙ ap (λ (x : List ℕ). put 0 x buf) (sym (bytes-none p.geo p.spot.at p.spot.shape.size img off)))
        ∙ ap (λ (k : ℕ). (put 0 (bytes_of p img off k) buf, got k)) (sym z)

    some : 0 < n → Clear p img off n → Whole p img off n buf
    some l c =
        read-blocks p.geo p.spot img off n buf (λ z. omega arith) c.blocks c.kind n refl
        ∙ read_whole p.geo p.spot.at p.spot.shape.size img off n buf c.all

-- how a read of n bytes ends: all read, refused before any byte, or stopped at a block
data Ended (p : Place) (img : List ℕ) (off n : ℕ) (buf : List ℕ) : Type 0 where
  whole : Fine p img off n → Ended p img off n buf
  judged : (e : Refusal) → read_out p.geo p.spot img off n buf ≡ (buf, refused e) → Ended p img off n buf
  short : (j : ℕ) → stop_of p img off n ≡ Some j → read_out p.geo p.spot img off n buf ≡ (put 0 (bytes_of p img off (j * p.geo.bsize - off)) buf, refused Damaged) → Ended p img off n buf

ended : (p : Place) (img : List ℕ) (off n : ℕ) (buf : List ℕ) → Ended p img off n buf
ended p img off n buf = ⊎_elim (λ z. whole (inl z)) (λ l. some l (in_place p.spot.shape) refl (sized p.spot.shape) refl (stop_of p img off n) refl) (eq-zero-or-pos n)
  where
    some : 0 < n → (a : Bool) → in_place p.spot.shape ≡ a → (b : Bool) → sized p.spot.shape ≡ b → (f : Option ℕ) → stop_of p img off n ≡ f → Ended p img off n buf
    some l true a b k f s = judged _ (read-in-place p.geo p.spot img off n buf (λ z. omega arith) a)
    some l false a false k f s = judged _ (read-unsized p.geo p.spot img off n buf (λ z. omega arith) a k)
    some l false a true k None s = whole (inr (record { blocks = a; kind = k; all = s }))
    some l false a true k (Some j) s =
        short j s
        (read-blocks p.geo p.spot img off n buf (λ z. omega arith) a k n refl ∙ read_short p.geo p.spot.at p.spot.shape.size img off n buf j s)

-- a good answer is no refusal
apart : {x y : List ℕ} {m : ℕ} {e : Refusal} → ◌≡◌ {A = List ℕ × Out ℕ} (x, got m) (y, refused e) → ⊥
apart {m = m} {e = e} q =
    let r : ◌≡◌ {A = Out ℕ} (got m) (refused e) = ap (λ (p : List ℕ × Out ℕ). p.1) q in
    let z : ◌≡◌ {A = ℕ} 0 1 = cc in
    omega arith

-- a good answer is one of n bytes that can be read
good_fine : (p : Place) (img : List ℕ) (off n : ℕ) (buf left : List ℕ) (m : ℕ) → read_out p.geo p.spot img off n buf ≡ (left, got m) → Fine p img off n
good_fine p img off n buf left m h = by (ended p img off n buf)
  where
    by : Ended p img off n buf → Fine p img off n
    by (whole f) = f
    by (judged e q) = absurd (apart (sym h ∙ q))
    by (short j s q) = absurd (apart (sym h ∙ q))

-- ---- the call

-- a good answer m of `inode_read`: the inode that is read, how many bytes, which, and that no other byte of the buffer changes
pub record ReadWell (img : List ℕ) (i off : ℕ) (buf left : List ℕ) (m : ℕ) : Type 0 where
  pub place : Place
  pub found : place_in img i ≡ got place
  pub count : m ≡ asked (length buf) place.spot.shape.size off
  pub long : length left ≡ length buf
  pub bytes : (k : ℕ) → k < m → get_or left k 0 ≡ byte_of place img (off + k)
  pub kept : (k : ℕ) → m ≤ k → get_or left k 0 ≡ get_or buf k 0

well : (img : List ℕ) (i off : ℕ) (buf : List ℕ) (p : Place) (n : ℕ) → place_in img i ≡ got p → n ≡ asked (length buf) p.spot.shape.size off → ReadWell img i off buf (put 0 (bytes_of p img off n) buf) n
well img i off buf p n e c =
    let len = length-bytes p.geo p.spot.at p.spot.shape.size img off n in
    let fits : n ≤ length buf = omega (arith, c, min-le_left (length buf) (p.spot.shape.size - off)) in
    record {
      place = p;
      found = e;
      count = c;
      long = length-put 0 (bytes_of p img off n) buf;
      bytes = λ k l.
          ap (λ (x : ℕ). get_or (put 0 (bytes_of p img off n) buf) x 0) (omega arith)
          ∙ part_at 0 (bytes_of p img off n) (put 0 (bytes_of p img off n) buf) k (omega (arith, len)) (part-put 0 (bytes_of p img off n) buf (omega (arith, len)))
          ∙ byte_at p.geo p.spot.at p.spot.shape.size img off n k l;
      kept = λ k l. get_or-put 0 (bytes_of p img off n) buf k (inr (omega (arith, len)));
    }

-- what a good answer says: the inode is found, and what is asked for can be read
record Good (img : List ℕ) (i off room : ℕ) (buf left : List ℕ) (m : ℕ) : Type 0 where
  pub place : Place
  pub found : place_in img i ≡ got place
  pub fine : Fine place img off (asked room place.spot.shape.size off)
  pub left_is : left ≡ put 0 (bytes_of place img off (asked room place.spot.shape.size off)) buf
  pub count : m ≡ asked room place.spot.shape.size off

good_is : (img : List ℕ) (i off : ℕ) (buf left : List ℕ) (m : ℕ) → inode_read img i off buf ≡ (left, got m) → Good img i off (length buf) buf left m
good_is img i off buf left m h = by (place_in img i) refl
  where
    by : (o : Out Place) → place_in img i ≡ o → Good img i off (length buf) buf left m
    by (got p) e =
        let n = asked (length buf) p.spot.shape.size off in
        let q = sym (read_found_lem img i (got p) e off buf) ∙ h in
        let f = good_fine p img off n buf left m q in
        let w = sym (fine-whole p img off n buf f) ∙ q in
        record { place = p; found = e; fine = f; left_is = sym (ap (λ (x : List ℕ × Out ℕ). x.0) w); count = (let r = ap (λ (x : List ℕ × Out ℕ). x.1) w in cc) }
    by (refused r) e = absurd (apart (sym h ∙ read_found_lem img i (refused r) e off buf))

fine_good : (img : List ℕ) (i off : ℕ) (buf : List ℕ) (p : Place) → place_in img i ≡ got p → Fine p img off (asked (length buf) p.spot.shape.size off)
    → inode_read img i off buf ≡ (put 0 (bytes_of p img off (asked (length buf) p.spot.shape.size off)) buf, got (asked (length buf) p.spot.shape.size off))
fine_good img i off buf p e f = read_found_lem img i (got p) e off buf ∙ fine-whole p img off _ buf f

-- byte by byte; `byte_of` is 0 in a hole, else the image's byte: FileLaws `byte-hole`, `byte-placed`
pub read_well : (img : List ℕ) (i off : ℕ) (buf left : List ℕ) (m : ℕ) → inode_read img i off buf ≡ (left, got m) → ReadWell img i off buf left m
read_well img i off buf left m h =
    let g = good_is img i off buf left m h in
    subst (λ (k : ℕ). ReadWell img i off buf left k) (sym g.count)
    (subst (λ (x : List ℕ). ReadWell img i off buf x (asked (length buf) g.place.spot.shape.size off)) (sym g.left_is) (well img i off buf g.place _ g.found refl))

-- "A read at or past the size gives 0 bytes", and leaves the buffer
pub read-past : (img : List ℕ) (i off : ℕ) (buf : List ℕ) (p : Place) → place_in img i ≡ got p → p.spot.shape.size ≤ off → inode_read img i off buf ≡ (buf, got 0)
read-past img i off buf p e l =
    let z : asked (length buf) p.spot.shape.size off ≡ 0 = omega (arith, min-le_right (length buf) (p.spot.shape.size - off)) in
    read_found_lem img i (got p) e off buf ∙ read_none p.geo p.spot img off _ buf z

-- ---- what a refusal leaves

-- the buffer as it was; or 97 in the work, at block j, and what stands before that block is read
pub data Refused (img : List ℕ) (i off : ℕ) (buf left : List ℕ) (e : Refusal) : Type 0 where
  before : left ≡ buf → Refused img i off buf left e
  at_block : (p : Place) (j : ℕ) → place_in img i ≡ got p → stop p.geo p.spot.at p.spot.shape.size img off (asked (length buf) p.spot.shape.size off) ≡ Some j → e ≡ Damaged
      → left ≡ put 0 (file_bytes p.geo p.spot.at p.spot.shape.size img off (j * p.geo.bsize - off)) buf → Refused img i off buf left e

pub read-refused : (img : List ℕ) (i off : ℕ) (buf left : List ℕ) (e : Refusal) → inode_read img i off buf ≡ (left, refused e) → Refused img i off buf left e
read-refused img i off buf left e h = by (place_in img i) refl
  where
    found : (p : Place) → place_in img i ≡ got p → (n : ℕ) → asked (length buf) p.spot.shape.size off ≡ n → read_out p.geo p.spot img off n buf ≡ (left, refused e) → Ended p img off n buf → Refused img i off buf left e
    found p f n a q (whole w) = absurd (apart (sym (fine-whole p img off n buf w) ∙ q))
    found p f n a q (judged x r) = before (ap (λ (x : List ℕ × Out ℕ). x.0) (sym q ∙ r))
    found p f n a q (short j s r) =
        let w = sym q ∙ r in
        at_block p j f (ap (stop_of p img off) a ∙ s) (let v = ap (λ (x : List ℕ × Out ℕ). x.1) w in cc) (ap (λ (x : List ℕ × Out ℕ). x.0) w)

    by : (o : Out Place) → place_in img i ≡ o → Refused img i off buf left e
    by (got p) f =
        let n = asked (length buf) p.spot.shape.size off in
        found p f n refl (sym (read_found_lem img i (got p) f off buf) ∙ h) (ended p img off n buf)
    by (refused r) f = before (ap (λ (x : List ℕ × Out ℕ). x.0) (sym h ∙ read_found_lem img i (refused r) f off buf))

-- so only 97 can leave anything else
pub refused-kept : (img : List ℕ) (i off : ℕ) (buf left : List ℕ) (e : Refusal) → inode_read img i off buf ≡ (left, refused e) → (e ≡ Damaged → ⊥) → left ≡ buf
refused-kept img i off buf left e h n = by (read-refused img i off buf left e h)
  where
    by : Refused img i off buf left e → left ≡ buf
    by (before q) = q
    by (at_block p j f s d q) = absurd (n d)

-- ---- reading in two parts, and at once

-- what is asked for in two parts: the second part asks for nothing unless the first is full
module _ (room next size off : ℕ) where
  asked-parts : asked room size off + asked next size (off + room) ≡ asked (room + next) size off
  asked-parts = ⊎_elim full (λ r. short (⊎_elim (λ e. omega arith) (λ l. omega arith) r)) (order room (size - off))
    where
      full : room < size - off → asked room size off + asked next size (off + room) ≡ asked (room + next) size off
      full l = ⊎_elim (λ x. omega (arith, min-eq_left {n = room} {m = size - off} (omega arith), min-eq_left {n = next} {m = size - (off + room)} (omega arith), min-eq_left {n = room + next} {m = size - off} (omega arith)))
          (λ r. let g : size - (off + room) ≤ next = ⊎_elim (λ e. omega arith) (λ y. omega arith) r in
          omega (arith, min-eq_left {n = room} {m = size - off} (omega arith), min-eq_right {n = size - (off + room)} {m = next} g, min-eq_right {n = size - off} {m = room + next} (omega arith)))
          (order next (size - (off + room)))

      short : size - off ≤ room → asked room size off + asked next size (off + room) ≡ asked (room + next) size off
      short l = omega (arith, min-eq_right {n = size - off} {m = room} l, min-le_right next (size - (off + room)), min-eq_right {n = size - off} {m = room + next} (omega arith))

  next-full : 0 < asked next size (off + room) → asked room size off ≡ room
  next-full l = min-eq_left (omega (arith, min-le_right next (size - (off + room))))

module _ (p : Place) (img : List ℕ) (b : 0 < p.geo.bsize) (off m k : ℕ) where
  fine-parts : Fine p img off (m + k) → Fine p img off m × Fine p img (off + m) k
  fine-parts f = by f (eq-zero-or-pos m) (eq-zero-or-pos k)
    where
      by : Fine p img off (m + k) → (m ≡ 0) ⊎ (0 < m) → (k ≡ 0) ⊎ (0 < k) → Fine p img off m × Fine p img (off + m) k
      by (inl z) x y = (inl (omega arith), inl (omega arith))
      by (inr c) (inl x) (inl y) = (inl x, inl y)
      by (inr c) (inl x) (inr y) =
          let o : off + m ≡ off = omega arith in
          let n : m + k ≡ k = omega arith in
          (inl x, inr (rw o (subst (Clear p img off) n c)))
      by (inr c) (inr x) (inl y) = let n : m + k ≡ m = omega arith in (inr (subst (Clear p img off) n c), inl y)
      by (inr c) (inr x) (inr y) =
          let g = good-parts p.geo p.spot.at p.spot.shape.size img b off m k x y (stop-good p.geo p.spot.at p.spot.shape.size img b off (m + k) (omega arith) c.all) in (
            inr (record { blocks = c.blocks; kind = c.kind; all = good-stop p.geo p.spot.at p.spot.shape.size img b off m x g.0 }),
            inr (record { blocks = c.blocks; kind = c.kind; all = good-stop p.geo p.spot.at p.spot.shape.size img b (off + m) k y g.1 }),
          )

  parts-fine : Fine p img off m → Fine p img (off + m) k → Fine p img off (m + k)
  parts-fine f g = by f g (eq-zero-or-pos m) (eq-zero-or-pos k)
    where
      second : m ≡ 0 → Fine p img (off + m) k → Fine p img off (m + k)
      second x f =
          let o : off + m ≡ off = omega arith in
          let n : k ≡ m + k = omega arith in
          subst (Fine p img off) n (subst (λ (o : ℕ). Fine p img o k) o f)

      first-only : k ≡ 0 → Fine p img off m → Fine p img off (m + k)
      first-only y f = let n : m ≡ m + k = omega arith in subst (Fine p img off) n f

      by : Fine p img off m → Fine p img (off + m) k → (m ≡ 0) ⊎ (0 < m) → (k ≡ 0) ⊎ (0 < k) → Fine p img off (m + k)
      by f g (inl x) y = second x g
      by f g (inr x) (inl y) = first-only y f
      by (inl z) g (inr x) (inr y) = absurd (let w : ⊥ = omega arith in w)
      by (inr c) (inl z) (inr x) (inr y) = absurd (let w : ⊥ = omega arith in w)
      by (inr c) (inr d) (inr x) (inr y) =
          let g = stop-good p.geo p.spot.at p.spot.shape.size img b off m x c.all in
          let h = stop-good p.geo p.spot.at p.spot.shape.size img b (off + m) k y d.all in
          inr (record { blocks = c.blocks; kind = c.kind; all = good-stop p.geo p.spot.at p.spot.shape.size img b off (m + k) (omega arith) (parts-good p.geo p.spot.at p.spot.shape.size img b off m k x y g h) })

-- a block has bytes where an inode is found
some-bytes : (img : List ℕ) (i : ℕ) (p : Place) → place_in img i ≡ got p → 0 < p.geo.bsize
some-bytes img i p e = block-some p.geo (place-stands img i p e).frame.sizes

same-place : {p q : Place} → ◌≡◌ {A = Out Place} (got p) (got q) → p ≡ q
same-place e = cc

-- two reads agree on each byte of the file that both give
pub reads_agree : (img : List ℕ) (i off at : ℕ) (buf left buf_at left_at : List ℕ) (m n : ℕ) → inode_read img i off buf ≡ (left, got m) → inode_read img i at buf_at ≡ (left_at, got n)
    → (j k : ℕ) → j < m → k < n → off + j ≡ at + k → get_or left j 0 ≡ get_or left_at k 0
reads_agree img i off at buf left buf_at left_at m n f g j k l u e =
    let v = read_well img i off buf left m f in
    let w = read_well img i at buf_at left_at n g in
    v.bytes j l
    ∙ ap (λ (p : Place). byte_of p img (off + j)) (same-place (sym v.found ∙ w.found))
    ∙ ap (byte_of w.place img) e
    ∙ sym (w.bytes k u)

-- a good read of the second part's buffer past the first part's: how many bytes each gives
module _ (img : List ℕ) (i off : ℕ) (buf front back : List ℕ) (rooms : length buf ≡ length front + length back) where
  pub record InParts (n : ℕ) : Type 0 where
    pub ahead : ℕ
    pub behind : ℕ
    pub left_ahead : List ℕ
    pub left_behind : List ℕ
    pub front_read : inode_read img i off front ≡ (left_ahead, got ahead)
    pub back_read : inode_read img i (off + length front) back ≡ (left_behind, got behind)
    pub count : ahead + behind ≡ n

  -- the second part's bytes, whether counted from the room of the first or from its answer
  from-full : (p : Place) (m k : ℕ) → m ≡ asked (length front) p.spot.shape.size off → k ≡ asked (length back) p.spot.shape.size (off + length front) → Fine p img (off + m) k → Fine p img (off + length front) k
  from-full p m k em ek f = ⊎_elim inl (λ l. let q : m ≡ length front = em ∙ next-full (length front) (length back) p.spot.shape.size off (omega (arith, ek)) in subst (λ (x : ℕ). Fine p img (off + x) k) q f) (eq-zero-or-pos k)

  to-full : (p : Place) (m k : ℕ) → m ≡ asked (length front) p.spot.shape.size off → k ≡ asked (length back) p.spot.shape.size (off + length front) → Fine p img (off + length front) k → Fine p img (off + m) k
  to-full p m k em ek f = ⊎_elim inl (λ l. let q : length front ≡ m = sym (em ∙ next-full (length front) (length back) p.spot.shape.size off (omega (arith, ek))) in subst (λ (x : ℕ). Fine p img (off + x) k) q f) (eq-zero-or-pos k)

  -- if the whole is read, so are the parts, with counts that add up
  pub whole_parts : (left : List ℕ) (n : ℕ) → inode_read img i off buf ≡ (left, got n) → InParts n
  whole_parts left n h =
      let g = good_is img i off buf left n h in
      let p = g.place in
      let s = p.spot.shape.size in
      let m = asked (length front) s off in
      let k = asked (length back) s (off + length front) in
      let sum : asked (length buf) s off ≡ m + k = ap (λ (x : ℕ). asked x s off) rooms ∙ sym (asked-parts (length front) (length back) s off) in
      let f = fine-parts p img (some-bytes img i p g.found) off m k (subst (Fine p img off) sum g.fine) in
      record {
        ahead = m;
        behind = k;
        left_ahead = put 0 (bytes_of p img off m) front;
        left_behind = put 0 (bytes_of p img (off + length front) k) back;
        front_read = fine_good img i off front p g.found f.0;
        back_read = fine_good img i (off + length front) back p g.found (from-full p m k refl refl f.1);
        count = sym (g.count ∙ sum);
      }

  -- and if the parts are read, so is the whole
  pub parts_whole : (n : ℕ) → InParts n → (left : List ℕ) × (inode_read img i off buf ≡ (left, got n))
  parts_whole n a =
      let f = good_is img i off front a.left_ahead a.ahead a.front_read in
      let g = good_is img i (off + length front) back a.left_behind a.behind a.back_read in
      let p = f.place in
      let s = p.spot.shape.size in
      let same : g.place ≡ p = same-place (sym g.found ∙ f.found) in
      let m = asked (length front) s off in
      let k = asked (length back) s (off + length front) in
      let fine_back : Fine p img (off + length front) k = subst (λ (q : Place). Fine q img (off + length front) (asked (length back) q.spot.shape.size (off + length front))) same g.fine in
      let count-back : a.behind ≡ k = g.count ∙ ap (λ (q : Place). asked (length back) q.spot.shape.size (off + length front)) same in
      let sum : asked (length buf) s off ≡ m + k = ap (λ (x : ℕ). asked x s off) rooms ∙ sym (asked-parts (length front) (length back) s off) in
      let all = parts-fine p img (some-bytes img i p f.found) off m k f.fine (to-full p m k refl refl fine_back) in
      let n-is : asked (length buf) s off ≡ n = omega (arith, sum, f.count, count-back, a.count) in
      (put 0 (bytes_of p img off (asked (length buf) s off)) buf, fine_good img i off buf p f.found (subst (Fine p img off) (sym sum) all) ∙ ap (λ (x : ℕ). (put 0 (bytes_of p img off (asked (length buf) s off)) buf, got x)) n-is)
