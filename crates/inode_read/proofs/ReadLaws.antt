-- Laws of reading block by block: how it begins, one block more, and how it ends. Assumes nothing.
use Rattle.std.specs.Prelude.{Some, None, Ok, Err}
use mathlib.Core.Path.{◌≡◌, refl, sym, ap, subst, ◌∙◌}
use mathlib.Core.Bool.{true, false}
use mathlib.Core.List.{List}
use mathlib.Core.Logic.{◌⊎◌, inl, inr, ⊎_elim}
use Prim.Native.Nat.{ℕ, ◌+◌, ◌-◌, ◌*◌, ◌/◌, ◌%◌, ◌≤◌, ◌<◌, min}
use native.Mathlib.Nat.{mod-lt, div-add-mod', div-mul-le_self, le-div_iff_mul-le, div-lt_iff_lt-mul, div-le_self, lt-div-mul-add, add-mul, one-mul, min-le_left, min-le_right, min-eq_left, min-eq_right}
use native.Mathlib.Omega.{arith}
use lib.ListN.{length}
use Rattle.field.specs.Field.{put, part, zeros}
use Rattle.field.proofs.Laws.{put-none, put_append, length-put}
use Rattle.refusal.specs.declared.Refusal.TheVariants.{Damaged}
use Rattle.store.specs.Act.{got, refused}
use Rattle.volume.specs.declared.Geometry.{Geometry}
use Rattle.volume.specs.declared.FragNum.{FragNum}
use Rattle.bits.specs.Upto.{first}
use Rattle.bits.proofs.UptoLaws.{first-here, first_next, first-end, first_missing, first_fails}
use Rattle.frame.proofs.Places.{order}
use Rattle.inode_run.specs.declared.Run.{Run}
use Rattle.inode_run.specs.Run.{run_at, readable, file_bytes}
use Rattle.inode_read.specs.Read.{bad, past_last, stop, read_at, piece_of, Reaches}
use Rattle.inode_read.specs.Calls.{read_answer}
use Rattle.inode_read.proofs.FileLaws.{bytes-none, length-bytes, bytes_append, piece_bytes}

-- ---- a piece of a run that is known

pub reach-at : (geo : Geometry) (img : List ℕ) (end : ℕ) {r : Run} {a : FragNum} {m : ℕ} → r ≡ Run.At a m → Reaches geo img r end → a.0 * geo.fsize + end ≤ length img
reach-at geo img end e h = subst (λ (r : Run). Reaches geo img r end) e h

module _ (geo : Geometry) (img : List ℕ) (at from n : ℕ) (buf : List ℕ) where
  pub piece-at : {r : Run} {a : FragNum} {m : ℕ} → r ≡ Run.At a m → (x : ℕ) → x ≡ a.0 * geo.fsize → {new : List ℕ} → new ≡ put at (part n (x + from) img) buf
      → (true ≡ readable r) × (new ≡ put at (piece_of geo img r from n) buf)
  piece-at e x h q = (rw e, q ∙ rw (e, h))

  pub piece-hole : {r : Run} {m : ℕ} → r ≡ Run.Hole m → {new : List ℕ} → new ≡ put at (zeros n) buf → (true ≡ readable r) × (new ≡ put at (piece_of geo img r from n) buf)
  piece-hole e q = (rw e, q ∙ rw e)

  pub piece-none : (r : Run) → readable r ≡ false → buf ≡ put at (piece_of geo img r from n) buf
  piece-none (Run.At a m) h = absurd (let z : ◌≡◌ {A = ℕ} 0 1 = cc in let y : ⊥ = omega arith in y)
  piece-none (Run.Hole m) h = absurd (let z : ◌≡◌ {A = ℕ} 0 1 = cc in let y : ⊥ = omega arith in y)
  piece-none Run.Past h = sym (put-none at buf)
  piece-none Run.Bad h = sym (put-none at buf)

-- ---- where a turn stands: the next byte is byte `from` of block i, and the blocks before it are read

pub record Turn (bs off n i from done : ℕ) : Type 0 where
  pub place : done < n → off + done ≡ i * bs + from
  pub inside : done < n → from < bs
  pub before : done < n → i * bs - off ≡ done
  pub past : n ≤ done → (off + n - 1) / bs + 1 ≤ i

-- what the turn reads: `num` bytes of block i, all of them asked for
pub record Piece (bs off n i from done num : ℕ) : Type 0 where
  pub some : 0 < num
  pub within_block : from + num ≤ bs
  pub asked : done + num ≤ n
  pub reach : i * bs + (from + num) ≤ off + n

module _ (bs off n : ℕ) (b : 0 < bs) where
  pub turn-start : 0 < n → Turn bs off n (off / bs) (off % bs) 0
  turn-start p =
      record {
        place = λ l. omega (arith, div-add-mod' off bs);
        inside = λ l. mod-lt off b;
        before = λ l. omega (arith, div-mul-le_self off bs);
        past = λ l. absurd (let y : ⊥ = omega arith in y);
      }

  module _ (i from done : ℕ) (t : Turn bs off n i from done) (l : done < n) where
    -- the block is one of those that are asked for
    pub turn_below : i < (off + n - 1) / bs + 1
    turn_below =
        let m : i ≤ (off + n - 1) / bs = (le-div_iff_mul-le {k = bs} b).1 (omega (arith, t.place l)) in
        omega arith

    pub turn_small : i + 1 ≤ off + n
    turn_small = omega (arith, turn_below, div-le_self (off + n - 1) bs)

    module _ (num : ℕ) (e : num ≡ min (bs - from) (n - done)) where
      num-most : (num ≡ bs - from) ⊎ (num ≡ n - done)
      num-most = ⊎_elim (λ x. inl (e ∙ min-eq_left (omega arith))) (λ r. inr (e ∙ min-eq_right (⊎_elim (λ x. omega arith) (λ x. omega arith) r))) (order (bs - from) (n - done))

      pub turn-piece : Piece bs off n i from done num
      turn-piece =
          let low = min-le_left (bs - from) (n - done) in
          let asked = min-le_right (bs - from) (n - done) in
          record {
            some = ⊎_elim (λ x. omega (arith, t.inside l)) (λ x. omega arith) num-most;
            within_block = omega (arith, t.inside l);
            asked = omega arith;
            reach = omega (arith, t.place l);
          }

      pub turn-next : Turn bs off n (i + 1) 0 (done + num)
      turn-next =
          let p = t.place l in
          let w = t.before l in
          let q : (i + 1) * bs ≡ i * bs + bs = add-mul i 1 bs ∙ ap (λ (x : ℕ). i * bs + x) (one-mul bs) in
          let f = t.inside l in
          let whole : done + num < n → num ≡ bs - from = λ d. ⊎_elim (λ x. x) (λ x. absurd (let y : ⊥ = omega arith in y)) num-most in
          let c = turn-piece.within_block in
          record {
            place = λ d. let x = whole d in omega arith;
            inside = λ d. b;
            before = λ d. let x = whole d in omega arith;
            past = λ d. let m : (off + n - 1) / bs < i + 1 = (div-lt_iff_lt-mul {k = bs} b).1 (omega arith) in omega arith;
          }

-- ---- the blocks that are asked for, all of them readable or not

div_mono : (b x y : ℕ) → 0 < b → x ≤ y → x / b ≤ y / b
div_mono b x y p l = (le-div_iff_mul-le {k = b} p).1 (omega (arith, div-mul-le_self x b))

module _ (geo : Geometry) (at size : ℕ) (img : List ℕ) (b : 0 < geo.bsize) where
  pub record AllGood (off n : ℕ) : Type 0 where
    pub good : (j : ℕ) → off / geo.bsize ≤ j → j < past_last geo off n → bad geo at size img j ≡ false

  some-asked : (off n : ℕ) → 0 < n → off / geo.bsize ≤ past_last geo off n
  some-asked off n p = omega (arith, div_mono geo.bsize off (off + n - 1) b (omega arith))

  pub stop-good : (off n : ℕ) → 0 < n → stop geo at size img off n ≡ None → AllGood off n
  unfolding stop
  stop-good off n p e = record { good = λ j l u. first_missing (bad geo at size img) _ _ e j l (omega (arith, some-asked off n p)) }

  pub good-stop : (off n : ℕ) → 0 < n → AllGood off n → stop geo at size img off n ≡ None
  unfolding stop
  good-stop off n p g = first_fails (bad geo at size img) _ _ (λ j l u. g.good j l (omega (arith, some-asked off n p)))

  -- in two parts, and at once
  pub good-parts : (off m k : ℕ) → 0 < m → 0 < k → AllGood off (m + k) → AllGood off m × AllGood (off + m) k
  good-parts off m k p q g = (
    record { good = λ j l u. g.good j l (omega (arith, div_mono geo.bsize (off + m - 1) (off + (m + k) - 1) b (omega arith))) },
    record { good = λ j l u. g.good j (omega (arith, div_mono geo.bsize off (off + m) b (omega arith))) (omega (arith, div_mono geo.bsize (off + m + k - 1) (off + (m + k) - 1) b (omega arith))) },
  )

  pub parts-good : (off m k : ℕ) → 0 < m → 0 < k → AllGood off m → AllGood (off + m) k → AllGood off (m + k)
  parts-good off m k p q f g =
      let touch : off + m < ((off + m - 1) / geo.bsize + 1) * geo.bsize + 1 = omega (arith, add-mul ((off + m - 1) / geo.bsize) 1 geo.bsize, one-mul geo.bsize, lt-div-mul-add {a = off + m - 1} b) in
      let next : (off + m) / geo.bsize < (off + m - 1) / geo.bsize + 2 = (div-lt_iff_lt-mul {k = geo.bsize} b).1 (omega (arith, add-mul ((off + m - 1) / geo.bsize) 1 geo.bsize, add-mul ((off + m - 1) / geo.bsize) 2 geo.bsize, one-mul geo.bsize)) in
      record {
        good = λ j l u.
            ⊎_elim (λ x. f.good j l x)
            (λ r. let low : past_last geo off m ≤ j = ⊎_elim (λ e. omega arith) (λ x. omega arith) r in
            g.good j (omega arith) (omega (arith, div_mono geo.bsize (off + (m + k) - 1) (off + m + k - 1) b (omega arith))))
            (order j (past_last geo off m));
      }

-- ---- reading, when `done` bytes of n are read, and block i is next

module _ (geo : Geometry) (at size : ℕ) (img : List ℕ) (off n : ℕ) (buf : List ℕ) where
  pub record Reading (now : List ℕ) (i from done : ℕ) : Type 0 where
    pub turn : Turn geo.bsize off n i from done
    pub left : now ≡ put 0 (file_bytes geo at size img off done) buf
    pub rest : stop geo at size img off n ≡ first (bad geo at size img) i (past_last geo off n - i)

  pub reading-long : {now : List ℕ} {i from done : ℕ} → Reading now i from done → length now ≡ length buf
  reading-long g = ap length g.left ∙ length-put 0 _ buf

  pub reading-start : 0 < geo.bsize → 0 < n → Reading buf (off / geo.bsize) (off % geo.bsize) 0
  unfolding stop
  reading-start b p =
      record {
        turn = turn-start geo.bsize off n b p;
        left = sym (ap (λ (l : List ℕ). put 0 l buf) (bytes-none geo at size img off) ∙ put-none 0 buf);
        rest = refl;
      }

  pub read_whole : stop geo at size img off n ≡ None → read_at geo at size img off n buf ≡ (put 0 (file_bytes geo at size img off n) buf, got n)
  unfolding read_at
  read_whole e = rw e

  pub read_short : (j : ℕ) → stop geo at size img off n ≡ Some j → read_at geo at size img off n buf ≡ (put 0 (file_bytes geo at size img off (j * geo.bsize - off)) buf, refused Damaged)
  unfolding read_at
  read_short j e = rw e

  module _ (b : 0 < geo.bsize) (now : List ℕ) (i from done : ℕ) (g : Reading now i from done) where
    pub reading-end : n ≤ done → done ≤ n → (now, Ok n) ≡ read_answer (read_at geo at size img off n buf)
    reading-end l m =
        let q : done ≡ n = omega arith in
        let e = g.rest ∙ first-end (bad geo at size img) (past_last geo off n) i (g.turn.past l) in
        ap (λ (x : List ℕ). (x, Ok n)) (g.left ∙ ap (λ (k : ℕ). put 0 (file_bytes geo at size img off k) buf) q) ∙ sym (ap read_answer (read_whole e))

    module _ (l : done < n) (r : Run) (er : r ≡ run_at geo at size img i) (num : ℕ) (new : List ℕ) (en : new ≡ put done (piece_of geo img r from num) now) where
      -- a block that cannot be read
      pub reading-stop : readable r ≡ false → (new, Err Damaged) ≡ read_answer (read_at geo at size img off n buf)
      reading-stop h =
          let hit : bad geo at size img i ≡ true = rw (← er, h) in
          let e = g.rest ∙ first-here (bad geo at size img) (past_last geo off n) i (turn_below geo.bsize off n b i from done g.turn l) hit in
          ap (λ (x : List ℕ). (x, Err Damaged)) (en ∙ sym (piece-none geo img done from num now r h) ∙ g.left ∙ ap (λ (k : ℕ). put 0 (file_bytes geo at size img off k) buf) (sym (g.turn.before l))) ∙ sym (ap read_answer (read_short i e))

      -- one block more
      pub reading-next : readable r ≡ true → num ≡ min (geo.bsize - from) (n - done) → Reaches geo img r (from + num) → Reading new (i + 1) 0 (done + num)
      reading-next h e reach =
          let miss : bad geo at size img i ≡ false = rw (← er, h) in
          let t = g.turn in
          let piece = piece_bytes geo at size img i from num r er h (turn-piece geo.bsize off n b i from done t l num e).within_block reach in
          let here : file_bytes geo at size img (i * geo.bsize + from) num ≡ file_bytes geo at size img (off + done) num = ap (λ (x : ℕ). file_bytes geo at size img x num) (sym (t.place l)) in
          let both : put 0 (file_bytes geo at size img off (done + num)) buf ≡ put (0 + done) (file_bytes geo at size img (off + done) num) (put 0 (file_bytes geo at size img off done) buf) =
          ap (λ (x : List ℕ). put 0 x buf) (bytes_append geo at size img off done num)
          ∙ put_append 0 (file_bytes geo at size img off done) (file_bytes geo at size img (off + done) num) buf
          ∙ ap (λ (k : ℕ). put (0 + k) (file_bytes geo at size img (off + done) num) (put 0 (file_bytes geo at size img off done) buf)) (length-bytes geo at size img off done) in
          record {
            turn = turn-next geo.bsize off n b i from done t l num e;
            left = en ∙ ap (λ (x : List ℕ). put done x now) (piece ∙ here) ∙ ap (λ (x : List ℕ). put done (file_bytes geo at size img (off + done) num) x) g.left ∙ ap (λ (k : ℕ). put k (file_bytes geo at size img (off + done) num) (put 0 (file_bytes geo at size img off done) buf)) (omega arith) ∙ sym both;
            rest = g.rest ∙ first_next (bad geo at size img) (past_last geo off n) i (turn_below geo.bsize off n b i from done t l) miss;
          }
