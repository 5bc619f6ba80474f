-- Which bytes a step changes, named as the image stood before it. Assumes nothing.
use mathlib.Core.Path.{◌≡◌, subst, ◌∙◌}
use mathlib.Core.List.{List}
use Prim.Native.Nat.{ℕ, ◌*◌}
use native.Mathlib.Omega.{arith}
use native.Mathlib.Decide.{ℕ_discrete}
use Rattle.store.specs.Where.{Range, KeptBut}
use Rattle.store.proofs.OnlyLaws.{kept-but-refl, kept-but_trans, kept-but-more}
use Rattle.volume.specs.declared.Geometry.{Geometry}
use Rattle.books.specs.Books.{Steady}
use Rattle.touched.proofs.PlaceLaws.{book_moves}
use Rattle.touched_write.specs.Free.{Free}
use Rattle.written.specs.Own.{Pos, levels, node_at, addresses, length_at, Claims, FileByte, of_books, of_record, of_free, of_claim}
use Rattle.written.proofs.NodeLaws.{pos_dec, IsData}
use Rattle.written.proofs.MoveLaws.{ListByte, StepByte, Moved}
use Rattle.written.proofs.MoveLaws as Move

-- z is x with other bytes where FileByte says, and claims nothing else
pub record Touched (geo : Geometry) (size at : ℕ) (x z : List ℕ) : Type 0 where
  pub fewer : (j : ℕ) → Free geo z j → Free geo x j
  pub bytes : KeptBut (FileByte geo size at x) x z
  pub claims : (c : Pos) (j : ℕ) → Claims geo size (addresses geo at z) z c j → FileByte geo size at x j

module _ (geo : Geometry) (size at : ℕ) where
  pub touched-refl : (x : List ℕ) → Touched geo size at x x
  touched-refl x = record { fewer = λ j f. f; bytes = kept-but-refl _ x; claims = λ c j p. of_claim c p }

  pub touched-back : {x y : List ℕ} → Steady geo x y → Touched geo size at x y → (j : ℕ) → FileByte geo size at y j → FileByte geo size at x j
  touched-back s p j (of_books b) = of_books (book_moves geo s b)
  touched-back s p j (of_record r) = of_record r
  touched-back s p j (of_free f) = of_free (p.fewer j f)
  touched-back s p j (of_claim c q) = p.claims c j q

  pub touched-trans : {x y z : List ℕ} → Steady geo x y → Touched geo size at x y → Touched geo size at y z → Touched geo size at x z
  touched-trans s p q =
      record {
        fewer = λ j f. p.fewer j (q.fewer j f);
        bytes = kept-but_trans p.bytes (kept-but-more (touched-back s p) q.bytes);
        claims = λ c j r. touched-back s p j (q.claims c j r);
      }

  -- a step, where its other bytes and the new claim of place c are such
  module _ {R : ℕ → Type 0} {c : Pos} {v : ℕ} {x y : List ℕ} (m : Moved R geo size c v (addresses geo at x) x (addresses geo at y) y) (more : (j : ℕ) → R j → FileByte geo size at x j)
      (own : (j : ℕ) → Claims geo size (addresses geo at y) y c j → FileByte geo size at x j) where
    in_list : (j : ℕ) → ListByte geo size (addresses geo at x) x j → FileByte geo size at x j
    in_list j (Move.of_free f) = of_free f
    in_list j (Move.of_list d l p) = of_claim d p

    in_step : (j : ℕ) → StepByte R geo size (addresses geo at x) x j → FileByte geo size at x j
    in_step j (Move.of_books b) = of_books b
    in_step j (Move.of_lists l) = in_list j l
    in_step j (Move.of_more r) = more j r

    claimed : (d : Pos) (j : ℕ) → Claims geo size (addresses geo at y) y d j → Dec (IsData d) → Dec (d ≡ c) → FileByte geo size at x j
    claimed d j p (no n) w = in_list j (m.lists d j (omega (arith, p.valid.depth, n)) p)
    claimed d j p (yes e) (yes h) = own j (subst (λ (d : Pos). Claims geo size (addresses geo at y) y d j) h p)
    claimed d j p (yes e) (no n) =
        let same = m.others d e p.valid n in
        of_claim d (record { valid = p.valid; live = λ z. p.live (same ∙ z); byte = subst (λ (k : ℕ). Range (k * geo.fsize) (length_at geo size d) j) same p.byte })

    pub moved-touched : Touched geo size at x y
    moved-touched =
        record {
          fewer = λ j f. m.fewer f;
          bytes = kept-but-more in_step m.bytes;
          claims = λ d j p. claimed d j p (ℕ_discrete d.depth (levels d.root)) (pos_dec d c);
        }

  -- where place c has its address still
  pub stays-touched : {R : ℕ → Type 0} {c : Pos} {x y : List ℕ} → Moved R geo size c (node_at geo x (addresses geo at x) c) (addresses geo at x) x (addresses geo at y) y → ((j : ℕ) → R j → FileByte geo size at x j) → Touched geo size at x y
  stays-touched {R} {c} {x} {y} m more =
      moved-touched m more
      (λ j p. of_claim c (record { valid = p.valid; live = λ z. p.live (m.here ∙ z); byte = subst (λ (k : ℕ). Range (k * geo.fsize) (length_at geo size c) j) m.here p.byte }))
