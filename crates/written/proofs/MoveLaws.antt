-- Steps that keep a file's blocks its own: what one leaves, one after another, and a step that adds one place. Assumes nothing.
use Rattle.std.specs.Prelude.{Some, None}
use mathlib.Core.Path.{◌≡◌, sym, ap, subst, ◌∙◌}
use mathlib.Core.Bool.{Bool, true, false}
use mathlib.Core.List.{List}
use mathlib.Core.Logic.{◌⊎◌, inl, inr, ⊎_elim}
use Prim.Native.Nat.{ℕ, suc, ◌+◌, ◌*◌, ◌/◌, ◌≤◌, ◌<◌}
use native.Mathlib.Nat.{div-le_of_le-mul, mul_comm}
use native.Mathlib.Omega.{arith}
use native.Mathlib.Decide.{ℕ_discrete}
use lib.Dec.{ltb}
use Rattle.store.specs.Where.{Range, KeptBut}
use Rattle.store.proofs.OnlyLaws.{kept-but_trans, kept-but-more}
use Rattle.volume.specs.declared.Geometry.{Geometry}
use Rattle.sound.specs.Test.{Sized}
use Rattle.frame.specs.Frame.{Frame, RunOk}
use Rattle.inode.specs.Size.{pick, extent_of, held_at}
use Rattle.inode.proofs.SizeLaws.{units, tail-fits}
use Rattle.mapping.specs.Mapping.{per_list, entry_at}
use Rattle.books.specs.Books.{Book, Steady}
use Rattle.books.proofs.SteadyLaws.{steady-refl, steady-trans}
use Rattle.inode_setblock.proofs.GivenLaws.{run-moves}
use Rattle.touched.proofs.PlaceLaws.{book_moves}
use Rattle.touched_write.specs.Free.{Free}
use Rattle.written.specs.Own.{Pos, levels, Valid, node_at, block_index, bytes_of, length_at, Claims, Own}
use Rattle.written.proofs.NodeLaws.{pos, pos_dec, IsList, IsData, grown}

-- ---- lengths

pub held-most : (geo : Geometry) → Sized geo → (size i : ℕ) → bytes_of (held_at geo size i) ≤ geo.bsize
unfolding held_at
held-most geo z size i = go (ltb i (extent_of geo size).blocks) (ltb i ((extent_of geo size).blocks + (extent_of geo size).frags))
  where
    go : (a b : Bool) → bytes_of (pick a (Some geo.bsize) (pick b (Some ((extent_of geo size).frags * geo.fsize)) None)) ≤ geo.bsize
    go true b = omega arith
    go false true = tail-fits geo size z
    go false false = omega arith

pub length-most : (geo : Geometry) → Sized geo → (size : ℕ) (c : Pos) → length_at geo size c ≤ geo.bsize
unfolding length_at
length-most geo z size c = go (ltb c.depth (levels c.root))
  where
    go : (a : Bool) → pick a geo.bsize (bytes_of (held_at geo size (block_index (per_list geo) c.root c.slot))) ≤ geo.bsize
    go true = omega arith
    go false = held-most geo z size (block_index (per_list geo) c.root c.slot)

-- part of a run is a run
pub run_less : (geo : Geometry) (img : List ℕ) (a n m : ℕ) → m ≤ n → RunOk geo img a n → RunOk geo img a m
run_less geo img a n m l r = record { group = r.group; within = omega (arith, r.within); apart = ⊎_elim (λ x. inl (omega arith)) (λ x. inr x) r.apart }

pub length-frags : (geo : Geometry) → Sized geo → (size : ℕ) (c : Pos) → length_at geo size c / geo.fsize ≤ geo.frag
length-frags geo z size c = let u = units geo z in div-le_of_le-mul geo.fsize (omega (arith, length-most geo z size c, u.frags, mul_comm geo.frag geo.fsize))

-- ---- what a step may change: the maps and counts, what was free, the file's lists, and bytes of R

pub data ListByte (geo : Geometry) (size : ℕ) (top : ℕ → ℕ) (img : List ℕ) (j : ℕ) : Type 0 where
  of_free : Free geo img j → ListByte geo size top img j
  of_list : (c : Pos) → IsList c → Claims geo size top img c j → ListByte geo size top img j

pub data StepByte (R : ℕ → Type 0) (geo : Geometry) (size : ℕ) (top : ℕ → ℕ) (img : List ℕ) (j : ℕ) : Type 0 where
  of_books : Book geo img j → StepByte R geo size top img j
  of_lists : ListByte geo size top img j → StepByte R geo size top img j
  of_more : R j → StepByte R geo size top img j

-- from the roots `top` and the image x to `above` and y: only the data at place c may have another address, which is then v
pub record Moved (R : ℕ → Type 0) (geo : Geometry) (size : ℕ) (c : Pos) (v : ℕ) (top : ℕ → ℕ) (x : List ℕ) (above : ℕ → ℕ) (y : List ℕ) : Type 0 where
  pub steady : Steady geo x y
  pub fewer : {j : ℕ} → Free geo y j → Free geo x j
  pub own : Own geo size above y
  pub bytes : KeptBut (StepByte R geo size top x) x y
  pub lists : (d : Pos) (j : ℕ) → IsList d → Claims geo size above y d j → ListByte geo size top x j
  pub others : (d : Pos) → IsData d → Valid geo d → (d ≡ c → ⊥) → node_at geo y above d ≡ node_at geo x top d
  pub here : node_at geo y above c ≡ v

module _ (geo : Geometry) (size : ℕ) (c : Pos) where
  list_back : {R : ℕ → Type 0} {u : ℕ} {top mid : ℕ → ℕ} {x y : List ℕ} → Moved R geo size c u top x mid y → (j : ℕ) → ListByte geo size mid y j → ListByte geo size top x j
  list_back m j (of_free f) = of_free (m.fewer f)
  list_back m j (of_list d l p) = m.lists d j l p

  pub step_back : {R : ℕ → Type 0} {u : ℕ} {top mid : ℕ → ℕ} {x y : List ℕ} → Moved R geo size c u top x mid y → (j : ℕ) → StepByte R geo size mid y j → StepByte R geo size top x j
  step_back m j (of_books b) = of_books (book_moves geo m.steady b)
  step_back m j (of_lists l) = of_lists (list_back m j l)
  step_back m j (of_more r) = of_more r

  pub moved-trans : {R : ℕ → Type 0} {u v : ℕ} {top mid above : ℕ → ℕ} {x y z : List ℕ} → Moved R geo size c u top x mid y → Moved R geo size c v mid y above z → Moved R geo size c v top x above z
  moved-trans p q =
      record {
        steady = steady-trans geo p.steady q.steady;
        fewer = λ f. p.fewer (q.fewer f);
        own = q.own;
        bytes = kept-but_trans p.bytes (kept-but-more (step_back p) q.bytes);
        lists = λ d j l k. list_back p j (q.lists d j l k);
        others = λ d e w n. q.others d e w n ∙ p.others d e w n;
        here = q.here;
      }

  pub moved_more : {R S : ℕ → Type 0} → ((j : ℕ) → R j → S j) → {v : ℕ} {top above : ℕ → ℕ} {x y : List ℕ} → Moved R geo size c v top x above y → Moved S geo size c v top x above y
  moved_more {R} {S} h {v} {top} {above} {x} {y} m =
      record { steady = m.steady; fewer = m.fewer; own = m.own; bytes = kept-but-more wider m.bytes; lists = m.lists; others = m.others; here = m.here }
    where
      wider : (j : ℕ) → StepByte R geo size top x j → StepByte S geo size top x j
      wider j (of_books b) = of_books b
      wider j (of_lists l) = of_lists l
      wider j (of_more r) = of_more (h j r)

-- ---- a block that is nobody's: neither claimed nor free

pub record Spare (geo : Geometry) (size : ℕ) (top : ℕ → ℕ) (img : List ℕ) (a : ℕ) : Type 0 where
  pub run : RunOk geo img a geo.frag
  pub unclaimed : (c : Pos) (j : ℕ) → Claims geo size top img c j → Range (a * geo.fsize) geo.bsize j → ⊥
  pub taken : {j : ℕ} → Free geo img j → Range (a * geo.fsize) geo.bsize j → ⊥

-- as long as place c has no address, it stays so
pub spare-moved : {R : ℕ → Type 0} (geo : Geometry) (size : ℕ) (c : Pos) (a : ℕ) {top above : ℕ → ℕ} {x y : List ℕ} → Frame geo x → Moved R geo size c 0 top x above y → Spare geo size top x a → Spare geo size above y a
spare-moved geo size c a {top} {above} {x} {y} fr m s =
    record {
      run = run-moves geo (steady-refl geo x fr) m.steady a geo.frag s.run;
      unclaimed = λ d j p r. claimed d j p r (ℕ_discrete d.depth (levels d.root)) (pos_dec d c);
      taken = λ f r. s.taken (m.fewer f) r;
    }
  where
    in_list : (j : ℕ) → ListByte geo size top x j → Range (a * geo.fsize) geo.bsize j → ⊥
    in_list j (of_free f) r = s.taken f r
    in_list j (of_list d l p) r = s.unclaimed d j p r

    claimed : (d : Pos) (j : ℕ) → Claims geo size above y d j → Range (a * geo.fsize) geo.bsize j → Dec (IsData d) → Dec (d ≡ c) → ⊥
    claimed d j p r (no n) w = in_list j (m.lists d j (omega (arith, p.valid.depth, n)) p) r
    claimed d j p r (yes e) (yes h) = p.live (ap (node_at geo y above) h ∙ m.here)
    claimed d j p r (yes e) (no n) =
        let same = m.others d e p.valid n in
        s.unclaimed d j (record { valid = p.valid; live = λ z. p.live (same ∙ z); byte = subst (λ (k : ℕ). Range (k * geo.fsize) (length_at geo size d) j) same p.byte }) r

-- ---- one place more

module _ (R : ℕ → Type 0) (geo : Geometry) (size : ℕ) (some : 0 < per_list geo) (top above : ℕ → ℕ) (xs ys : List ℕ) (new : Pos) (e : ℕ)
    (base : (k : ℕ) → k < 15 → (above k ≡ top k) ⊎ ((pos k 0 0 ≡ new) × (above k ≡ e)))
    (step : (c : Pos) → Valid geo c → IsList c → (node_at geo xs top c ≡ 0 → ⊥) → (i : ℕ) → i < per_list geo
    → (entry_at geo ys (node_at geo xs top c) i ≡ entry_at geo xs (node_at geo xs top c) i) ⊎ ((pos c.root (suc c.depth) (c.slot * per_list geo + i) ≡ new) × (entry_at geo ys (node_at geo xs top c) i ≡ e)))
    (before : Valid geo new → node_at geo xs top new ≡ 0)
    (nowhere : Valid geo new → IsList new → (i : ℕ) → i < per_list geo → entry_at geo ys e i ≡ 0)
    (fr : Frame geo xs) (own : Own geo size top xs) (steady : Steady geo xs ys) (fewer : (j : ℕ) → Free geo ys j → Free geo xs j)
    -- the new place is a run that nobody claims and that is not free then
    (born : Valid geo new → RunOk geo ys e geo.frag)
    (unclaimed : Valid geo new → (c : Pos) (j : ℕ) → Claims geo size top xs c j → Range (e * geo.fsize) geo.bsize j → ⊥)
    (taken : Valid geo new → (j : ℕ) → Free geo ys j → Range (e * geo.fsize) geo.bsize j → ⊥) where
  -- a claim is one that was, or one of the new place
  Claimed : Pos → ℕ → Type 0
  Claimed c j = Claims geo size top xs c j ⊎ ((c ≡ new) × (Range (e * geo.fsize) geo.bsize j))

  claim-from : (c : Pos) (j : ℕ) → Claims geo size above ys c j → Claimed c j
  unfolding Claimed
  claim-from c j p =
      ⊎_elim
      (λ s. inl (record { valid = p.valid; live = λ z. p.live (s ∙ z); byte = subst (λ (k : ℕ). Range (k * geo.fsize) (length_at geo size c) j) s p.byte }))
      (λ h. let w = subst (λ (k : ℕ). Range (k * geo.fsize) (length_at geo size c) j) h.1 p.byte in inr (h.0, (w.0, omega (arith, w.1, length-most geo fr.sizes size c))))
      (grown geo some top above xs ys new e base step before nowhere c.root c.depth c.slot p.valid)

  own-then : Own geo size above ys
  unfolding Claimed
  own-then =
      record {
        once = λ c d j p q. once c d j p q (claim-from c j p) (claim-from d j q);
        ok = λ c j p. ok c j p (grown geo some top above xs ys new e base step before nowhere c.root c.depth c.slot p.valid) (claim-from c j p);
        used = λ c j p f. ⊎_elim (λ q. own.used c j q (fewer j f)) (λ h. taken (subst (Valid geo) h.0 p.valid) j f h.1) (claim-from c j p);
      }
    where
      once : (c d : Pos) (j : ℕ) → Claims geo size above ys c j → Claims geo size above ys d j → Claimed c j → Claimed d j → c ≡ d
      once c d j p q (inl a) (inl b) = own.once c d j a b
      once c d j p q (inl a) (inr b) = absurd (unclaimed (subst (Valid geo) b.0 q.valid) c j a b.1)
      once c d j p q (inr a) (inl b) = absurd (unclaimed (subst (Valid geo) a.0 p.valid) d j b a.1)
      once c d j p q (inr a) (inr b) = a.0 ∙ sym b.0

      ok : (c : Pos) (j : ℕ) → Claims geo size above ys c j → (node_at geo ys above c ≡ node_at geo xs top c) ⊎ ((c ≡ new) × (node_at geo ys above c ≡ e)) → Claimed c j → RunOk geo ys (node_at geo ys above c) (length_at geo size c / geo.fsize)
      ok c j p (inr h) w = subst (λ (k : ℕ). RunOk geo ys k (length_at geo size c / geo.fsize)) (sym h.1) (run_less geo ys e geo.frag _ (length-frags geo fr.sizes size c) (born (subst (Valid geo) h.0 p.valid)))
      ok c j p (inl s) (inl a) = subst (λ (k : ℕ). RunOk geo ys k (length_at geo size c / geo.fsize)) (sym s) (run-moves geo (steady-refl geo xs fr) steady _ _ (own.ok c j a))
      ok c j p (inl s) (inr a) = absurd (p.live (s ∙ ap (node_at geo xs top) a.0 ∙ before (subst (Valid geo) a.0 p.valid)))

  -- so a step is made
  pub moved-step : KeptBut (StepByte R geo size top xs) xs ys → (Valid geo new → IsList new → (j : ℕ) → Range (e * geo.fsize) geo.bsize j → Free geo xs j)
      → (c : Pos) → (IsData new → new ≡ c) → (v : ℕ) → node_at geo ys above c ≡ v → Moved R geo size c v top xs above ys
  unfolding Claimed
  moved-step bytes room c kind v here =
      record {
        steady = steady;
        fewer = λ f. fewer _ f;
        own = own-then;
        bytes = bytes;
        lists = λ d j l p. ⊎_elim (λ q. of_list d l q) (λ h. of_free (room (subst (Valid geo) h.0 p.valid) (subst IsList h.0 l) j h.1)) (claim-from d j p);
        others = λ d e w n. ⊎_elim (λ s. s) (λ h. absurd (n (h.0 ∙ kind (subst IsData h.0 e)))) (grown geo some top above xs ys new _ base step before nowhere d.root d.depth d.slot w);
        here = here;
      }
