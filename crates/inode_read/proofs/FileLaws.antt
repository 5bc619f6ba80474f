-- Laws of a file's bytes: how many, which, in two parts, and a piece of one block. Assumes nothing.
use mathlib.Core.Path.{◌≡◌, refl, sym, ap, ◌∙◌}
use mathlib.Core.Bool.{true}
use mathlib.Core.List.{List, [], ◌∷◌, ◌++◌}
use Prim.Native.Nat.{ℕ, zero, suc, ◌+◌, ◌*◌, ◌/◌, ◌%◌, ◌≤◌, ◌<◌}
use native.Mathlib.Nat.{zero-add, suc-add, mul-add-div_right, mul-add-mod_self_right, div-eq_of_lt, mod-eq_of_lt}
use native.Mathlib.Omega.{arith}
use lib.ListN.{length, get_or}
use lib.Seq.{ext_get_or}
use Rattle.field.specs.Field.{part, zeros}
use Rattle.field.proofs.Laws.{length-part, get_or-part, length-zeros, get_or-zeros}
use Rattle.volume.specs.declared.Geometry.{Geometry}
use Rattle.volume.specs.declared.FragNum.{FragNum}
use Rattle.inode_run.specs.declared.Run.{Run}
use Rattle.inode_run.specs.Run.{run_at, readable, byte_in, file_byte, file_bytes}
use Rattle.inode_read.specs.Read.{piece_of, Reaches}

pub bytes-none : (geo : Geometry) (at size : ℕ) (img : List ℕ) (x : ℕ) → file_bytes geo at size img x 0 ≡ []
unfolding file_bytes
bytes-none geo at size img x = refl

pub length-bytes : (geo : Geometry) (at size : ℕ) (img : List ℕ) (x n : ℕ) → length (file_bytes geo at size img x n) ≡ n
unfolding file_bytes
length-bytes geo at size img x zero = refl
length-bytes geo at size img x (suc n) = ap suc (length-bytes geo at size img (x + 1) n)

-- byte k of them
pub byte_at : (geo : Geometry) (at size : ℕ) (img : List ℕ) (x n k : ℕ) → k < n → get_or (file_bytes geo at size img x n) k 0 ≡ file_byte geo at size img (x + k)
unfolding file_bytes
byte_at geo at size img x zero k l = absurd (let y : ⊥ = omega arith in y)
byte_at geo at size img x (suc n) zero l = ap (file_byte geo at size img) (omega arith)
byte_at geo at size img x (suc n) (suc k) l = byte_at geo at size img (x + 1) n k (omega arith) ∙ ap (file_byte geo at size img) (omega arith)

-- those in two parts
pub bytes_append : (geo : Geometry) (at size : ℕ) (img : List ℕ) (x m n : ℕ) → file_bytes geo at size img x (m + n) ≡ file_bytes geo at size img x m ++ file_bytes geo at size img (x + m) n
unfolding file_bytes
bytes_append geo at size img x zero n = rw zero-add (ap (λ (y : ℕ). file_bytes geo at size img y n) (omega arith))
bytes_append geo at size img x (suc m) n =
    rw suc-add
    (ap (λ (l : List ℕ). file_byte geo at size img x ∷ l)
    (bytes_append geo at size img (x + 1) m n ∙ ap (λ (y : ℕ). file_bytes geo at size img (x + 1) m ++ file_bytes geo at size img y n) (omega arith)))

-- "A zero address at any level is a hole, read as zeros"; else a byte of the image
module _ (geo : Geometry) (at size : ℕ) (img : List ℕ) (x : ℕ) where
  pub byte-placed : (a : FragNum) (n : ℕ) → run_at geo at size img (x / geo.bsize) ≡ Run.At a n → file_byte geo at size img x ≡ get_or img (a.0 * geo.fsize + x % geo.bsize) 0
  unfolding file_byte
  byte-placed a n e = rw e

  pub byte-hole : (n : ℕ) → run_at geo at size img (x / geo.bsize) ≡ Run.Hole n → file_byte geo at size img x ≡ 0
  unfolding file_byte
  byte-hole n e = rw e

module _ (geo : Geometry) (at size : ℕ) (img : List ℕ) (i : ℕ) where
  -- byte k of block i is the file's byte there
  pub block-byte : (k : ℕ) → k < geo.bsize → file_byte geo at size img (i * geo.bsize + k) ≡ byte_in geo img (run_at geo at size img i) k
  unfolding file_byte
  block-byte k l =
      let some : 0 < geo.bsize = omega arith in
      let q : (i * geo.bsize + k) / geo.bsize ≡ i = mul-add-div_right some i k ∙ ap (λ (x : ℕ). i + x) (div-eq_of_lt l) ∙ omega arith in
      let r : (i * geo.bsize + k) % geo.bsize ≡ k = mul-add-mod_self_right i geo.bsize k ∙ mod-eq_of_lt l in
      rw (q, r)

  -- a piece of a block is the file's bytes there
  pub piece_bytes : (from n : ℕ) (r : Run) → r ≡ run_at geo at size img i → readable r ≡ true → from + n ≤ geo.bsize → Reaches geo img r (from + n)
      → piece_of geo img r from n ≡ file_bytes geo at size img (i * geo.bsize + from) n
  piece_bytes from n r e ok l in_image = go r e ok in_image
    where
      -- the file's byte there, of a run that is known
      byte : (r : Run) → r ≡ run_at geo at size img i → (k : ℕ) → k < n → get_or (file_bytes geo at size img (i * geo.bsize + from) n) k 0 ≡ byte_in geo img r (from + k)
      byte r e k b =
          byte_at geo at size img (i * geo.bsize + from) n k b
          ∙ ap (file_byte geo at size img) (omega arith)
          ∙ block-byte (from + k) (omega arith)
          ∙ ap (λ (r : Run). byte_in geo img r (from + k)) (sym e)

      go : (r : Run) → r ≡ run_at geo at size img i → readable r ≡ true → Reaches geo img r (from + n) → piece_of geo img r from n ≡ file_bytes geo at size img (i * geo.bsize + from) n
      go (Run.At a m) e ok h =
          let len = length-part n (a.0 * geo.fsize + from) img (omega arith) in
          ext_get_or 0 (part n (a.0 * geo.fsize + from) img) (file_bytes geo at size img (i * geo.bsize + from) n)
          (len ∙ sym (length-bytes geo at size img (i * geo.bsize + from) n))
          (λ k b.
          let b' : k < n = omega (arith, len) in
          get_or-part n (a.0 * geo.fsize + from) img k b' ∙ ap (λ (x : ℕ). get_or img x 0) (omega arith) ∙ sym (byte (Run.At a m) e k b'))
      go (Run.Hole m) e ok h =
          ext_get_or 0 (zeros n) (file_bytes geo at size img (i * geo.bsize + from) n)
          (length-zeros n ∙ sym (length-bytes geo at size img (i * geo.bsize + from) n))
          (λ k b. let b' : k < n = omega (arith, length-zeros n) in get_or-zeros n k ∙ sym (byte (Run.Hole m) e k b'))
      go Run.Past e ok h = absurd (let z : ◌≡◌ {A = ℕ} 0 1 = cc in let y : ⊥ = omega arith in y)
      go Run.Bad e ok h = absurd (let z : ◌≡◌ {A = ℕ} 0 1 = cc in let y : ⊥ = omega arith in y)
