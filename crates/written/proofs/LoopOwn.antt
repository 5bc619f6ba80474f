-- The blocks of a write one after another, finished. Assumes nothing.
use mathlib.Core.Path.{◌≡◌, refl, sym, ap, subst, ◌∙◌}
use mathlib.Core.Bool.{true}
use mathlib.Core.List.{List}
use mathlib.Core.Logic.{◌⊎◌, inl, inr, ⊎_elim}
use Prim.Native.Nat.{ℕ, zero, suc, ◌+◌, ◌-◌, ◌*◌, ◌/◌, ◌≤◌, ◌<◌, min}
use native.Mathlib.Nat.{add-mul, one-mul, mul-le-mul, le_refl, div-mul-le_self, lt-div-mul-add, min-le_left, min-le_right, le-min, le-div_iff_mul-le}
use native.Mathlib.Omega.{arith}
use native.Mathlib.Decide.{dec_lt}
use lib.ListN.{length, get_or}
use Rattle.field.specs.Field.{part}
use Rattle.field.proofs.Laws.{length-part, get_or-part}
use Rattle.store.specs.Store.{Store, apply_all}
use Rattle.store.specs.Where.{Range}
use Rattle.store.specs.Act.{got, pure, ◌>>=◌, each}
use Rattle.store.proofs.StoreLaws.{apply_all-none}
use Rattle.store.proofs.ActLaws.{through, stores-pure}
use Rattle.volume.specs.declared.Geometry.{Geometry}
use Rattle.frame.specs.Frame.{Frame}
use Rattle.inode_run.specs.Run.{run_at, readable, file_byte}
use Rattle.inode_read.specs.Read.{past_last}
use Rattle.books.specs.Books.{Steady}
use Rattle.books.proofs.SteadyLaws.{steady-refl, steady-trans}
use Rattle.inode_setblock.specs.Set.{InTable}
use Rattle.inode_write.specs.Write.{piece_at, write_turn, write_blocks}
use Rattle.written.specs.Own.{addresses, Own, Ended}
use Rattle.written.proofs.SetOwn.{bind_image}
use Rattle.written.proofs.TouchLaws.{Touched, touched-refl, touched-trans}
use Rattle.written.proofs.PutOwn.{Turned}
use Rattle.written.proofs.TurnOwn.{block-turned}

-- ---- a byte of a block, and of the buffer: s is where the block begins

module _ (off s w : ℕ) (a : off ≤ w) (b : s ≤ w) where
  in-piece : w ≡ s + (off - s + (w - (s + (off - s))))
  in-piece = omega arith

  in_buffer : s - off + (w - (s + (off - s))) ≡ w - off
  in_buffer = omega arith

  within_block : (bs : ℕ) → w < s + bs → suc (w - (s + (off - s))) ≤ bs - (off - s)
  within_block bs c = omega arith

  within-buffer : (n : ℕ) → w < off + n → suc (w - (s + (off - s))) ≤ n - (s - off)
  within-buffer n c = omega arith

module _ (geo : Geometry) (size at : ℕ) (t : InTable geo at) (off : ℕ) (buf : List ℕ) (some : 0 < length buf) (fits : off + length buf ≤ size) where
  -- from the image x the blocks below i are written: the file's bytes that were asked for, and no others
  pub record Wrote (i : ℕ) (x z : List ℕ) : Type 0 where
    pub steady : Steady geo x z
    pub touched : Touched geo size at x z
    pub front : (j : ℕ) → Range at 24 j → get_or z j 0 ≡ get_or x j 0
    pub own : Own geo size (addresses geo at z) z
    pub ended : Ended geo size (addresses geo at x) x → Ended geo size (addresses geo at z) z
    pub inside : (w : ℕ) → off ≤ w → w < off + length buf → w < i * geo.bsize → file_byte geo at size z w ≡ get_or buf (w - off) 0
    pub outside : (w : ℕ) → w < size → (w < off) ⊎ (off + length buf ≤ w) → file_byte geo at size z w ≡ file_byte geo at size x w
    pub reads : (k : ℕ) → off / geo.bsize ≤ k → k < i → k * geo.bsize < size → readable (run_at geo at size z k) ≡ true

  module _ (b : 0 < geo.bsize) (i : ℕ) (lo : off / geo.bsize ≤ i) (hi : i < past_last geo off (length buf)) where
    abbrev from : ℕ
    from = off - i * geo.bsize

    abbrev skip : ℕ
    skip = i * geo.bsize - off

    abbrev num : ℕ
    num = min (geo.bsize - from) (length buf - skip)

    after : off < i * geo.bsize + geo.bsize
    after = omega (arith, lt-div-mul-add {a = off} b, mul-le-mul lo (le_refl geo.bsize))

    before : i * geo.bsize ≤ off + length buf - 1
    before =
        let m : i ≤ (off + length buf - 1) / geo.bsize = omega arith in
        omega (arith, div-mul-le_self (off + length buf - 1) geo.bsize, mul-le-mul m (le_refl geo.bsize))

    block_holds : num ≤ geo.bsize - from
    block_holds = min-le_left (geo.bsize - from) (length buf - skip)

    in-buf : num ≤ length buf - skip
    in-buf = min-le_right (geo.bsize - from) (length buf - skip)

    one : 1 ≤ num
    one = le-min (omega (arith, after)) (omega (arith, before))

    long : length (part num skip buf) ≡ num
    long = length-part num skip buf (omega (arith, in-buf, before))

    next-wrote : {x y z : List ℕ} → Wrote i x y → Turned geo size at i from (part num skip buf) y z → Wrote (i + 1) x z
    next-wrote {x} {y} {z} p q =
        record {
          steady = steady-trans geo p.steady q.steady;
          touched = touched-trans geo size at p.steady p.touched q.touched;
          front = λ j r. q.front j r ∙ p.front j r;
          ended = λ e. q.ended (p.ended e);
          own = q.own;
          inside = λ w a c d. within w a c d (dec_lt w (i * geo.bsize));
          outside = λ w l o. q.outside w l (⊎_elim (λ a. inl (omega (arith, a))) (λ a. inr (omega (arith, a, long, in-buf, before))) o) ∙ p.outside w l o;
          reads = λ k a c d. readies k a c d (dec_lt k i);
        }
      where
        within : (w : ℕ) → off ≤ w → w < off + length buf → w < (i + 1) * geo.bsize → Dec (w < i * geo.bsize) → file_byte geo at size z w ≡ get_or buf (w - off) 0
        within w a c d (yes l) = q.outside w (omega (arith, c, fits)) (inl (omega (arith, l))) ∙ p.inside w a c l
        within w a c d (no l) =
            let up : (i + 1) * geo.bsize ≡ i * geo.bsize + geo.bsize = add-one i geo.bsize in
            let k = w - (i * geo.bsize + from) in
            let b : i * geo.bsize ≤ w = omega (arith, l) in
            let most : suc k ≤ num = le-min (within_block off (i * geo.bsize) w a b geo.bsize (omega (arith, d, up))) (within-buffer off (i * geo.bsize) w a b (length buf) c) in
            let is = in-piece off (i * geo.bsize) w a b in
            let at-buf = in_buffer off (i * geo.bsize) w a b in
            ap (file_byte geo at size z) is ∙ q.inside k (omega (arith, long, most)) ∙ get_or-part num skip buf k (omega (arith, most)) ∙ ap (λ (j : ℕ). get_or buf j 0) at-buf
          where
            add-one : (m n : ℕ) → (m + 1) * n ≡ m * n + n
            add-one m n = add-mul m 1 n ∙ ap (λ (k : ℕ). m * n + k) (one-mul n)

        readies : (k : ℕ) → off / geo.bsize ≤ k → k < i + 1 → k * geo.bsize < size → Dec (k < i) → readable (run_at geo at size z k) ≡ true
        readies k a c d (yes l) = q.reads k d (p.reads k a l d)
        readies k a c d (no l) = let e : i ≡ k = omega arith in subst (λ (k : ℕ). readable (run_at geo at size z k) ≡ true) e q.here

    pub piece-some : 0 < length (part num skip buf)
    piece-some = omega (arith, long, one)

    pub piece-fits : from + length (part num skip buf) ≤ geo.bsize
    piece-fits = omega (arith, long, block_holds, after)

    pub piece_inside : i * geo.bsize + (from + length (part num skip buf)) ≤ size
    piece_inside = omega (arith, long, in-buf, before, fits)

    pub turn-turned : {y : List ℕ} → Frame geo y → Own geo size (addresses geo at y) y → (h : ℕ) {k : ℕ} → (write_turn geo at size off buf i h y).out ≡ got k → Turned geo size at i from (part num skip buf) y (apply_all (write_turn geo at size off buf i h y).stores y)
    unfolding piece_at
    turn-turned {y} fr own h o = block-turned geo size at t y fr own i from (part num skip buf) piece-some piece-fits piece_inside h o

    turn-wrote : {x y : List ℕ} → Wrote i x y → (h : ℕ) {k : ℕ} → (write_turn geo at size off buf i h y).out ≡ got k → Wrote (i + 1) x (apply_all (write_turn geo at size off buf i h y).stores y)
    turn-wrote p h o = next-wrote p (turn-turned p.steady.frame p.own h o)

  rest-wrote : (b : 0 < geo.bsize) (m i h : ℕ) (x y : List ℕ) → Wrote i x y → off / geo.bsize ≤ i → i + m ≤ past_last geo off (length buf) → {k : ℕ} → (each (write_turn geo at size off buf) m i h y).out ≡ got k
      → Wrote (i + m) x (apply_all (each (write_turn geo at size off buf) m i h y).stores y)
  unfolding each
  rest-wrote b zero i h x y p lo hi o =
      let z : i + 0 ≡ i = omega arith in
      subst (λ (n : ℕ). Wrote n x (apply_all (pure h y).stores y)) (sym z) (subst (Wrote i x) (sym (ap (λ (ss : List Store). apply_all ss y) (stores-pure h y) ∙ apply_all-none y)) p)
  rest-wrote b (suc m) i h x y p lo hi o =
      let f = write_turn geo at size off buf i h in
      let two = through f (each (write_turn geo at size off buf) m (i + 1)) y o in
      let q = turn-wrote b i lo (omega arith) p h two.first in
      let r = rest-wrote b m (i + 1) two.mid x (apply_all (f y).stores y) q (omega arith) (omega arith) two.second in
      let e : i + 1 + m ≡ i + suc m = omega arith in
      subst (λ (n : ℕ). Wrote n x (apply_all ((f >>= each (write_turn geo at size off buf) m (i + 1)) y).stores y)) e
      (subst (Wrote (i + 1 + m) x) (sym (bind_image f (each (write_turn geo at size off buf) m (i + 1)) y two.first)) r)

  -- all of them
  pub blocks-wrote : (b : 0 < geo.bsize) (x : List ℕ) → Frame geo x → Own geo size (addresses geo at x) x → (h : ℕ) {k : ℕ} → (write_blocks geo at size off buf h x).out ≡ got k
      → Wrote (past_last geo off (length buf)) x (apply_all (write_blocks geo at size off buf h x).stores x)
  unfolding write_blocks
  blocks-wrote b x fr own h o =
      let first = off / geo.bsize in
      let past = past_last geo off (length buf) in
      let l : first ≤ (off + length buf - 1) / geo.bsize = (le-div_iff_mul-le {k = geo.bsize} b).1 (omega (arith, div-mul-le_self off geo.bsize, some)) in
      let m : first ≤ past = omega (arith, l) in
      let e : first + (past - first) ≡ past = omega (arith, m) in
      let start : Wrote first x x =
      record {
        steady = steady-refl geo x fr;
        touched = touched-refl geo size at x;
        front = λ j r. refl;
        ended = λ e. e;
        own = own;
        inside = λ w a c d. absurd (let f : ⊥ = omega (arith, a, d, div-mul-le_self off geo.bsize) in f);
        outside = λ w l o. refl;
        reads = λ k a c d. absurd (let f : ⊥ = omega (arith, a, c) in f);
      } in
      subst (λ (n : ℕ). Wrote n x (apply_all (each (write_turn geo at size off buf) (past - first) first h x).stores x)) e (rest-wrote b (past - first) first h x x start (le_refl first) (omega (arith, m)) o)
