-- Laws of writing: the stores and the cases of a block. Assumes nothing.
use mathlib.Core.Path.{◌≡◌, refl, sym, ap, ◌∙◌}
use mathlib.Core.List.{List, [], ◌∷◌}
use Prim.Native.Nat.{ℕ, ◌+◌, ◌-◌, ◌*◌, ◌/◌, ◌≤◌, ◌<◌, min, max}
use native.Mathlib.Omega.{arith}
use lib.ListN.{length}
use lib.Dec.{eqb}
use borrow.Author.Tests.{lt-ltb, le-ltb, eq-eqb, ne_eqb}
use Rattle.field.specs.Field.{put, part, zeros}
use Rattle.refusal.specs.declared.Refusal.{Refusal}
use Rattle.refusal.specs.declared.Refusal.TheVariants.{Damaged}
use Rattle.store.specs.Store.{Write, apply}
use Rattle.store.specs.Act.{Out, got, refused, Act, pure, reads, store, ◌>>=◌, choose, each, Left, leaves}
use Rattle.store.proofs.StoreLaws.{apply-one, apply_append}
use Rattle.store.proofs.ActLaws.{step-good, step-bad, step_store, step_read, leaves-pure, leaves-refuse, choose-yes, choose_no, each-good, each-bad, each-end}
use Rattle.volume.specs.declared.Geometry.{Geometry}
use Rattle.volume.specs.declared.FragNum.{FragNum}
use Rattle.inode.specs.Places.{size_write, blocks_at}
use Rattle.inode_run.specs.declared.Run.{Run}
use Rattle.inode_run.specs.declared.Run.TheVariants as Run
use Rattle.inode_run.specs.Run.{run_at}
use Rattle.inode_read.specs.Read.{past_last}
use Rattle.inode_read.proofs.ReadLaws.{Turn, turn_below}
use Rattle.balloc_give.specs.Give.{give_block}
use Rattle.inode_setblock.specs.Set.{set_block}
use Rattle.inode_write.specs.Write.{piece_store, fresh_store, held_more, fill_given, fill_hole, write_run, write_block, piece_at, write_turn, write_blocks, write_at}

-- ---- the stores, as code makes them

module _ (geo : Geometry) (a n from place : ℕ) (bytes img : List ℕ) (e : place ≡ a * geo.fsize) where
  pub piece-made : {x : List ℕ} → x ≡ put (place + from) bytes img → x ≡ apply (piece_store geo a from bytes) img
  unfolding piece_store
  piece-made q = q ∙ ap (λ (k : ℕ). put (k + from) bytes img) e ∙ sym (apply-one (record { at = a * geo.fsize + from; bytes = bytes }) img)

  pub fresh-made : {x y : List ℕ} → x ≡ put place (zeros n) img → y ≡ put (place + from) bytes x → y ≡ apply (fresh_store geo a n from bytes) img
  unfolding fresh_store
  fresh-made {x} {y} p q =
      let w : Write = record { at = a * geo.fsize; bytes = zeros n } in
      let v : Write = record { at = a * geo.fsize + from; bytes = bytes } in
      q ∙ ap (λ (k : ℕ). put (k + from) bytes x) e ∙ sym (apply-one v x)
      ∙ ap (apply (v ∷ [])) (p ∙ ap (λ (k : ℕ). put k (zeros n) img) e ∙ sym (apply-one w img))
      ∙ sym (apply_append (w ∷ []) (v ∷ []) img)

-- ---- a block given out

module _ (geo : Geometry) (at i n from : ℕ) (bytes : List ℕ) (h a : ℕ) (img : List ℕ) (more : ℕ) (em : more ≡ geo.bsize / 512) where
  pub given-many : 18446744073709551616 ≤ h + more → ◌≡◌ {A = Left ℕ} (img, refused Damaged) (leaves (fill_given geo at i n from bytes h a) img)
  unfolding fill_given held_more
  given-many l = simp (le-ltb _ _ (rw em at l)) (leaves-refuse Damaged img)

  abbrev after-set : ℕ → Unit {0} → Act ℕ
  after-set m _ = store (fresh_store geo a n from bytes) >>= (λ _. pure m)

  module _ (l : h + more < 18446744073709551616) {s : List ℕ} {o : Out (Unit {0})} (r : (s, o) ≡ leaves (set_block geo at i a (h + more)) img) where
    filled : leaves (set_block geo at i a (h + more) >>= after-set (h + more)) img ≡ leaves (fill_given geo at i n from bytes h a) img
    unfolding fill_given held_more
    filled = rw em (simp (lt-ltb _ _ (rw em at l)) refl)

    pub given-set : o ≡ got (tt {0}) → {x : List ℕ} → x ≡ apply (fresh_store geo a n from bytes) s → ◌≡◌ {A = Left ℕ} (x, got (h + more)) (leaves (fill_given geo at i n from bytes h a) img)
    given-set g q =
        ap (λ (x : List ℕ). (x, got (h + more))) q ∙ leaves-pure (h + more) (apply (fresh_store geo a n from bytes) s)
        ∙ step_store (fresh_store geo a n from bytes) (λ _. pure (h + more)) s
        ∙ step-good (set_block geo at i a (h + more)) (after-set (h + more)) img r g ∙ filled

    pub given-not : {f : Refusal} → o ≡ refused f → ◌≡◌ {A = Left ℕ} (s, refused f) (leaves (fill_given geo at i n from bytes h a) img)
    given-not g = step-bad (set_block geo at i a (h + more)) (after-set (h + more)) img r g ∙ filled

module _ (geo : Geometry) (at i n from : ℕ) (bytes : List ℕ) (h : ℕ) (img : List ℕ) {s : List ℕ} {o : Out ℕ} (r : (s, o) ≡ leaves (give_block geo) img) where
  pub hole-given : {a : ℕ} → o ≡ got a → leaves (fill_given geo at i n from bytes h a) s ≡ leaves (fill_hole geo at i n from bytes h) img
  unfolding fill_hole
  hole-given g = step-good (give_block geo) (fill_given geo at i n from bytes h) img r g

  pub hole-none : {f : Refusal} → o ≡ refused f → ◌≡◌ {A = Left ℕ} (s, refused f) (leaves (fill_hole geo at i n from bytes h) img)
  unfolding fill_hole
  hole-none g = step-bad (give_block geo) (fill_given geo at i n from bytes h) img r g

-- ---- a block, by its run

module _ (geo : Geometry) (at size i from : ℕ) (bytes : List ℕ) (h : ℕ) (img : List ℕ) where
  by-run : {r : Run} → run_at geo at size img i ≡ r → leaves (write_run geo at i from bytes h r) img ≡ leaves (write_block geo at size i from bytes h) img
  unfolding write_block leaves
  by-run e = rw e

  pub block_at : {a : FragNum} {n : ℕ} → run_at geo at size img i ≡ Run.At a n → {x : List ℕ} → x ≡ apply (piece_store geo a.0 from bytes) img
      → ◌≡◌ {A = Left ℕ} (x, got h) (leaves (write_block geo at size i from bytes h) img)
  block_at {a} e q =
      ap (λ (x : List ℕ). (x, got h)) q ∙ leaves-pure h (apply (piece_store geo a.0 from bytes) img)
      ∙ step_store (piece_store geo a.0 from bytes) (λ _. pure h) img ∙ by-run e

  pub block-hole : {n : ℕ} → run_at geo at size img i ≡ Run.Hole n → leaves (fill_hole geo at i n from bytes h) img ≡ leaves (write_block geo at size i from bytes h) img
  block-hole e = by-run e

  pub block-past : run_at geo at size img i ≡ Run.Past → ◌≡◌ {A = Left ℕ} (img, refused Damaged) (leaves (write_block geo at size i from bytes h) img)
  block-past e = leaves-refuse Damaged img ∙ by-run e

  pub block-bad : run_at geo at size img i ≡ Run.Bad → ◌≡◌ {A = Left ℕ} (img, refused Damaged) (leaves (write_block geo at size i from bytes h) img)
  block-bad e = leaves-refuse Damaged img ∙ by-run e

-- ---- the blocks, as a loop meets them: `done` bytes are written, h is carried, block i is next, and what is to come leaves what the whole does

module _ (geo : Geometry) (at size off : ℕ) (buf : List ℕ) (b : 0 < geo.bsize) where
  pub Rest : List ℕ → ℕ → ℕ → List ℕ → ℕ → Type 0
  Rest img i h start held = leaves (each (write_turn geo at size off buf) (past_last geo off (length buf) - i) i h) img ≡ leaves (write_blocks geo at size off buf held) start

  pub rest-start : (img : List ℕ) (h : ℕ) → Rest img (off / geo.bsize) h img h
  unfolding write_blocks Rest
  rest-start img h = refl

  module _ (i from done h : ℕ) (img : List ℕ) (t : Turn geo.bsize off (length buf) i from done) (start : List ℕ) (held : ℕ) (inv : Rest img i h start held) where
    pub rest_end : length buf ≤ done → (img, got h) ≡ leaves (write_blocks geo at size off buf held) start
    unfolding Rest
    rest_end l = each-end (write_turn geo at size off buf) (past_last geo off (length buf)) i img h (t.past l) ∙ inv

    module _ (l : done < length buf) (num : ℕ) (e : num ≡ min (geo.bsize - from) (length buf - done)) {s : List ℕ} {o : Out ℕ}
        (r : (s, o) ≡ leaves (write_block geo at size i from (part num done buf) h) img) where
      from_is : from ≡ off - i * geo.bsize
      from_is = omega (arith, t.place l, t.before l)

      piece_is : part num done buf ≡ piece_at geo off buf i
      unfolding piece_at
      piece_is = rw (e, ← from_is, t.before l) refl

      turn-left : (s, o) ≡ leaves (write_turn geo at size off buf i h) img
      turn-left = r ∙ ap (λ (f : ℕ). leaves (write_block geo at size i f (part num done buf) h) img) from_is ∙ ap (λ (p : List ℕ). leaves (write_block geo at size i (off - i * geo.bsize) p h) img) piece_is

      pub rest-next : {m : ℕ} → o ≡ got m → Rest s (i + 1) m start held
      unfolding Rest
      rest-next g = each-good (write_turn geo at size off buf) (past_last geo off (length buf)) i img h (turn_below geo.bsize off (length buf) b i from done t l) turn-left g ∙ inv

      pub rest-stop : {f : Refusal} → o ≡ refused f → (s, refused f) ≡ leaves (write_blocks geo at size off buf held) start
      unfolding Rest
      rest-stop g = each-bad (write_turn geo at size off buf) (past_last geo off (length buf)) i img h (turn_below geo.bsize off (length buf) b i from done t l) turn-left g ∙ inv

-- ---- the size first

module _ (geo : Geometry) (at size off : ℕ) (buf img : List ℕ) (new : ℕ) (en : new ≡ max size (off + length buf)) {x : List ℕ} (q : x ≡ apply (size_write geo.order at new ∷ []) img) where
  abbrev each-block : ℕ → ℕ → Act (Unit {0})
  each-block new h = write_blocks geo at new off buf h >>= (λ _. pure (tt {0}))

  after-size : leaves (choose (eqb (length buf) 0) (pure (tt {0})) (reads (blocks_at geo.order at) >>= each-block new)) x ≡ leaves (write_at geo at size off buf) img
  unfolding write_at
  after-size =
      ap (leaves (choose (eqb (length buf) 0) (pure (tt {0})) (reads (blocks_at geo.order at) >>= each-block new))) q
      ∙ rw en (step_store (size_write geo.order at (max size (off + length buf)) ∷ []) (λ _. choose (eqb (length buf) 0) (pure (tt {0})) (reads (blocks_at geo.order at) >>= each-block (max size (off + length buf)))) img)

  pub write-none : length buf ≡ 0 → ◌≡◌ {A = Left (Unit {0})} (x, got (tt {0})) (leaves (write_at geo at size off buf) img)
  write-none z = leaves-pure (tt {0}) x ∙ choose-yes _ _ x (eq-eqb _ 0 z) ∙ after-size

  module _ (nz : length buf ≡ 0 → ⊥) (h : ℕ) (eh : h ≡ blocks_at geo.order at x) {s : List ℕ} {o : Out ℕ} (r : (s, o) ≡ leaves (write_blocks geo at new off buf h) x) where
    on-blocks : leaves (each-block new h) x ≡ leaves (write_at geo at size off buf) img
    on-blocks = ap (λ (k : ℕ). leaves (each-block new k) x) eh ∙ step_read (blocks_at geo.order at) (each-block new) x ∙ choose_no _ _ x (ne_eqb _ 0 nz) ∙ after-size

    pub write_done : {m : ℕ} → o ≡ got m → ◌≡◌ {A = Left (Unit {0})} (s, got (tt {0})) (leaves (write_at geo at size off buf) img)
    write_done g = leaves-pure (tt {0}) s ∙ step-good (write_blocks geo at new off buf h) (λ _. pure (tt {0})) x r g ∙ on-blocks

    pub write-stop : {f : Refusal} → o ≡ refused f → ◌≡◌ {A = Left (Unit {0})} (s, refused f) (leaves (write_at geo at size off buf) img)
    write-stop g = step-bad (write_blocks geo at new off buf h) (λ _. pure (tt {0})) x r g ∙ on-blocks
