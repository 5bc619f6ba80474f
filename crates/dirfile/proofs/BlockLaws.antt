-- Laws of a directory's blocks. Assumes nothing.
use Rattle.std.specs.Prelude.{Option, Some, None, Result, Ok, Err}
use mathlib.Core.Path.{◌≡◌, refl, sym, ap, subst, ◌∙◌}
use mathlib.Core.Bool.{Bool, true, false}
use mathlib.Core.List.{List}
use mathlib.Core.Logic.{◌⊎◌, ⊎_elim}
use Prim.Native.Nat.{ℕ, ◌+◌, ◌*◌, ◌/◌, ◌%◌, ◌≤◌, ◌<◌}
use native.Mathlib.Nat.{div-add-mod', mod-lt}
use native.Mathlib.Omega.{arith}
use lib.Arith.{mod-mul}
use lib.ListN.{length}
use Rattle.field.specs.Field.{put, part, zeros}
use Rattle.field.proofs.Laws.{length-part, length-zeros, length-put, part-put}
use Rattle.refusal.specs.declared.Refusal.TheVariants.{Damaged, NotDirectory}
use Rattle.refusal.specs.declared.Refusal.{Refusal}
use Rattle.store.specs.Act.{Out, got, refused}
use Rattle.volume.specs.declared.Geometry.{Geometry}
use Rattle.volume.specs.declared.FragNum.{FragNum}
use Rattle.sound.specs.Test.{Sized}
use Rattle.sound.proofs.Laws.{size_cases, size_between}
use Rattle.frame.specs.Frame.{Frame}
use Rattle.inode.specs.Shape.{is_dir}
use Rattle.inode_run.specs.declared.Spot.{Spot}
use Rattle.inode_run.specs.declared.Run.{Run}
use Rattle.inode_run.specs.declared.Run.TheVariants as Run
use Rattle.inode_run.specs.Judge.{ask, and_then}
use Rattle.inode_run.specs.Find.{find_inode, found_of}
use Rattle.inode_run.specs.Run.{run_at, readable}
use Rattle.inode_run.proofs.FindLaws.{found-got, Named, find-named}
use Rattle.inode_read.specs.Read.{Reaches, piece_of}
use Rattle.inode_read.proofs.ReachLaws.{run-reaches}
use Rattle.dirblock.proofs.WriteLaws.{part-whole}
use Rattle.dirfile.specs.Block.{dir_of, dir_run, piece_out, dir_block, bytes_at, InImage, read_into}
use Rattle.refusal.specs.Refusal.{damage}
use Rattle.refusal.specs.declared.Damage.{Damage}

-- ---- the directory that a number names

module _ (geo : Geometry) (img : List ℕ) (i : ℕ) where
  pub dir-got : (s : Spot) → Ok s ≡ found_of (find_inode geo img i) → is_dir s.shape ≡ true → Ok s ≡ found_of (dir_of geo img i)
  unfolding dir_of
  dir-got s e h = rw (found-got (find_inode geo img i) s e, h)

  pub dir-other : (s : Spot) → Ok s ≡ found_of (find_inode geo img i) → is_dir s.shape ≡ false → Err NotDirectory ≡ found_of (dir_of geo img i)
  unfolding dir_of
  dir-other s e h = rw (found-got (find_inode geo img i) s e, h)

  pub dir-none : (r : Refusal) → Err r ≡ found_of (find_inode geo img i) → Err r ≡ found_of (dir_of geo img i)
  unfolding dir_of
  dir-none r e = go (find_inode geo img i) e where
    go : (o : Out Spot) → Err r ≡ found_of o → Err r ≡ found_of (and_then o (λ s. ask (is_dir s.shape) NotDirectory (got s)))
    go (got s) e = absurd (let z : ◌≡◌ {A = ℕ} 0 1 = cc in let y : ⊥ = omega arith in y)
    go (refused q) e = e

-- the directory is an inode that is found
pub dir-is : (geo : Geometry) (img : List ℕ) (i : ℕ) (s : Spot) → dir_of geo img i ≡ got s → (find_inode geo img i ≡ got s) × (is_dir s.shape ≡ true)
unfolding dir_of
dir-is geo img i s e = go (find_inode geo img i) refl e
  where
    by : (t : Spot) (b : Bool) → is_dir t.shape ≡ b → find_inode geo img i ≡ got t → ask b NotDirectory (got t) ≡ got s → (find_inode geo img i ≡ got s) × (is_dir s.shape ≡ true)
    by t true d f e = let q : t ≡ s = cc in (f ∙ ap got q, ap (λ (x : Spot). is_dir x.shape) (sym q) ∙ d)
    by t false d f e = absurd (let z : ◌≡◌ {A = ℕ} 0 1 = cc in let y : ⊥ = omega arith in y)

    go : (o : Out Spot) → find_inode geo img i ≡ o → and_then o (λ x. ask (is_dir x.shape) NotDirectory (got x)) ≡ got s → (find_inode geo img i ≡ got s) × (is_dir s.shape ≡ true)
    go (got t) f e = by t (is_dir t.shape) refl f e
    go (refused r) f e = absurd (let z : ◌≡◌ {A = ℕ} 0 1 = cc in let y : ⊥ = omega arith in y)

-- its number is one of the volume's, and its record lies in the image
pub dir-named : (geo : Geometry) (img : List ℕ) → Frame geo img → (i : ℕ) (s : Spot) → dir_of geo img i ≡ got s → Named geo img i s
dir-named geo img fr i s e = find-named geo img fr i s (dir-is geo img i s e).0

-- ---- 512 bytes of a run

module _ (geo : Geometry) (img : List ℕ) (from : ℕ) where
  pub piece-at : {r : Run} {a : FragNum} {m : ℕ} → r ≡ Run.At a m → (x : ℕ) → x ≡ a.0 * geo.fsize + from → piece_out geo img r from ≡ bytes_at img (Ok (Some x))
  unfolding piece_out
  piece-at e x h = rw (e, h)

  pub piece-hole : {r : Run} {m : ℕ} → r ≡ Run.Hole m → piece_out geo img r from ≡ bytes_at img (Ok None)
  unfolding piece_out
  piece-hole e = rw e

  pub piece-past : {r : Run} → r ≡ Run.Past → piece_out geo img r from ≡ bytes_at img (Err damage)
  unfolding piece_out
  piece-past e = rw e

  pub piece-bad : {r : Run} → r ≡ Run.Bad → piece_out geo img r from ≡ bytes_at img (Err damage)
  unfolding piece_out
  piece-bad e = rw e

-- ---- a block

dir-run : (geo : Geometry) (at size : ℕ) (img : List ℕ) (k : ℕ) → dir_run geo at size img k ≡ run_at geo at size img (k * 512 / geo.bsize)
unfolding dir_run
dir-run geo at size img k = refl

pub block-is : (geo : Geometry) (at size : ℕ) (img : List ℕ) (k : ℕ) (r : Run) → r ≡ run_at geo at size img (k * 512 / geo.bsize) → dir_block geo at size img k ≡ piece_out geo img r (k * 512 % geo.bsize)
unfolding dir_block dir_run
block-is geo at size img k r e = rw e

-- 512 bytes from a multiple of 512 on lie in one block, whose size is such a multiple too
pub in_one : (geo : Geometry) → Sized geo → (k : ℕ) → (k * 512 % geo.bsize + 512 ≤ geo.bsize) × (k * 512 / geo.bsize * geo.bsize + (k * 512 % geo.bsize + 512) ≡ k * 512 + 512)
in_one geo z k = (⊎_elim (fits 8) (λ x. ⊎_elim (fits 16) (λ x. ⊎_elim (fits 32) (λ x. ⊎_elim (fits 64) (fits 128) x) x) x) (size_cases geo.bsize z.bsize), omega (arith, div-add-mod' (k * 512) geo.bsize))
  where
    fits : (n : ℕ) → geo.bsize ≡ n * 512 → k * 512 % geo.bsize + 512 ≤ geo.bsize
    fits n e =
        let some : 0 < geo.bsize = omega (arith, size_between geo.bsize z.bsize) in
        let m : 0 < n = omega arith in
        let low : k * 512 % (n * 512) ≡ k * 512 / 512 % n * 512 + k * 512 % 512 = mod-mul (k * 512) m (omega arith) in
        let rest : k * 512 % 512 ≡ 0 = omega arith in
        let less : k * 512 / 512 % n < n = mod-lt (k * 512 / 512) m in
        rw e (omega (arith, low, rest, less))

-- a block that is read has 512 bytes
pub block-long : (geo : Geometry) (img : List ℕ) → Frame geo img → (at size k : ℕ) → k * 512 + 512 ≤ size → (b : List ℕ) → dir_block geo at size img k ≡ got b → length b ≡ 512
unfolding dir_block piece_out
block-long geo img fr at size k l b e =
    let q = in_one geo fr.sizes k in
    go (dir_run geo at size img k) (run-reaches geo img fr at size (k * 512 / geo.bsize) (k * 512 % geo.bsize + 512) (omega arith) q.0 (omega (arith, q.1)) (dir_run geo at size img k) (dir-run geo at size img k)) e
  where
    go : (r : Run) → Reaches geo img r (k * 512 % geo.bsize + 512) → ask (readable r) Damaged (got (piece_of geo img r (k * 512 % geo.bsize) 512)) ≡ got b → length b ≡ 512
    go (Run.At a m) h e = let q : b ≡ part 512 (a.0 * geo.fsize + k * 512 % geo.bsize) img = cc in ap length q ∙ length-part 512 (a.0 * geo.fsize + k * 512 % geo.bsize) img (omega arith)
    go (Run.Hole m) h e = let q : b ≡ zeros 512 = cc in ap length q ∙ length-zeros 512
    go Run.Past h e = absurd (let z : ◌≡◌ {A = ℕ} 0 1 = cc in let y : ⊥ = omega arith in y)
    go Run.Bad h e = absurd (let z : ◌≡◌ {A = ℕ} 0 1 = cc in let y : ⊥ = omega arith in y)

pub in_image : (img : List ℕ) (p : ℕ) {b : (Result (Option ℕ) Damage)} → b ≡ Ok (Some p) → InImage img b → p + 512 ≤ length img
in_image img p e h = subst (λ (b : Result (Option ℕ) Damage). InImage img b) e h

-- ---- a buffer of 512 bytes

put-over : (vs buf : List ℕ) → length vs ≡ length buf → put 0 vs buf ≡ vs
put-over vs buf l = sym (part-whole (length vs) (put 0 vs buf) (length-put 0 vs buf ∙ sym l)) ∙ part-put 0 vs buf (omega (arith, l))

pub copied : (img : List ℕ) (p : ℕ) {b : (Result (Option ℕ) Damage)} → b ≡ Ok (Some p) → (buf : List ℕ) → length buf ≡ 512 → p + 512 ≤ length img → (new : List ℕ) → new ≡ put 0 (part 512 p img) buf → bytes_at img b ≡ read_into true new
copied img p e buf l h new q = ap (bytes_at img) e ∙ ap got (sym (q ∙ put-over (part 512 p img) buf (length-part 512 p img h ∙ sym l)))

pub zeroed : (img : List ℕ) {b : (Result (Option ℕ) Damage)} → b ≡ Ok None → (buf : List ℕ) → length buf ≡ 512 → (new : List ℕ) → new ≡ put 0 (zeros 512) buf → bytes_at img b ≡ read_into true new
zeroed img e buf l new q = ap (bytes_at img) e ∙ ap got (sym (q ∙ put-over (zeros 512) buf (length-zeros 512 ∙ sym l)))
