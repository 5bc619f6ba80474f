-- What is claimed lies apart from books, records and what is free; and what stays where nothing claimed is stored. Assumes nothing.
use Rattle.std.specs.Prelude.{Some, None}
use mathlib.Core.Path.{◌≡◌, sym, ap, subst, ◌∙◌}
use mathlib.Core.Bool.{Bool, true, false}
use mathlib.Core.List.{List}
use mathlib.Core.Logic.{inr}
use Prim.Native.Nat.{ℕ, zero, suc, ◌+◌, ◌*◌, ◌/◌, ◌≤◌, ◌<◌}
use native.Mathlib.Nat.{mul-div_left, mul-div_right, mul_comm, zero-mul, mul-le-mul, le_refl, mul-one}
use native.Mathlib.Omega.{arith}
use lib.Dec.{ltb}
use Rattle.store.specs.Where.{Range, KeptBut}
use Rattle.store.proofs.OnlyLaws.{kept-but-num}
use Rattle.volume.specs.declared.Geometry.{Geometry}
use Rattle.sound.specs.Test.{Sized}
use Rattle.frame.specs.Frame.{Frame, RunOk}
use Rattle.frame.proofs.Places.{spots, run_inside, run_past}
use Rattle.inode.specs.Size.{pick, extent_of, held_at}
use Rattle.inode.proofs.SizeLaws.{units}
use Rattle.mapping.specs.Mapping.{per_list, entry_at}
use Rattle.mapping.proofs.MappingLaws.{per-is}
use Rattle.books.specs.Books.{Book}
use Rattle.inode_setblock.specs.Set.{InTable}
use Rattle.touched_write.specs.Free.{Free}
use Rattle.touched_write.proofs.FreeLaws.{same-place}
use Rattle.touched_write.proofs.ApartLaws.{run-books, run-table}
use Rattle.written.specs.Own.{Pos, levels, Valid, node_at, block_index, bytes_of, length_at, Claims, Own}
use Rattle.written.proofs.NodeLaws.{IsList, length_list}

-- ---- lengths are whole fragments

block-frags : (geo : Geometry) → Sized geo → geo.bsize / geo.fsize ≡ geo.frag
block-frags geo z = let u = units geo z in ap (λ (x : ℕ). x / geo.fsize) (sym u.frags) ∙ mul-div_right geo.frag (omega (arith, u.unit))

block-whole : (geo : Geometry) → Sized geo → geo.bsize / geo.fsize * geo.fsize ≡ geo.bsize
block-whole geo z = let u = units geo z in ap (λ (x : ℕ). x * geo.fsize) (block-frags geo z) ∙ mul_comm geo.frag geo.fsize ∙ u.frags

held-whole : (geo : Geometry) → Sized geo → (size i : ℕ) → bytes_of (held_at geo size i) / geo.fsize * geo.fsize ≡ bytes_of (held_at geo size i)
unfolding held_at
held-whole geo z size i = go (ltb i (extent_of geo size).blocks) (ltb i ((extent_of geo size).blocks + (extent_of geo size).frags))
  where
    go : (a b : Bool) → bytes_of (pick a (Some geo.bsize) (pick b (Some ((extent_of geo size).frags * geo.fsize)) None)) / geo.fsize * geo.fsize
        ≡ bytes_of (pick a (Some geo.bsize) (pick b (Some ((extent_of geo size).frags * geo.fsize)) None))
    go true b = block-whole geo z
    go false true = let u = units geo z in ap (λ (x : ℕ). x * geo.fsize) (mul-div_left (extent_of geo size).frags (omega (arith, u.unit)))
    go false false = let e = (units geo z).unit in ap (λ (x : ℕ). x * geo.fsize) (zero-over e) ∙ zero-mul geo.fsize
      where
        zero-over : 512 ≤ geo.fsize → 0 / geo.fsize ≡ 0
        zero-over l = ap (λ (x : ℕ). x / geo.fsize) (sym (zero-mul geo.fsize)) ∙ mul-div_left 0 (omega arith)

pub length-whole : (geo : Geometry) → Sized geo → (size : ℕ) (c : Pos) → length_at geo size c / geo.fsize * geo.fsize ≡ length_at geo size c
unfolding length_at
length-whole geo z size c = go (ltb c.depth (levels c.root))
  where
    go : (a : Bool) → pick a geo.bsize (bytes_of (held_at geo size (block_index (per_list geo) c.root c.slot))) / geo.fsize * geo.fsize ≡ pick a geo.bsize (bytes_of (held_at geo size (block_index (per_list geo) c.root c.slot)))
    go true = block-whole geo z
    go false = held-whole geo z size (block_index (per_list geo) c.root c.slot)

pub some-frags : (k n f j : ℕ) → Range n (k * f) j → 0 < k
some-frags zero n f j r = let z = zero-mul f in omega (arith, r.0, r.1)
some-frags (suc k) n f j r = omega arith

-- a run's address fits
pub run-small : (geo : Geometry) (img : List ℕ) → Frame geo img → (a n : ℕ) → RunOk geo img a n → a ≤ 1073741824
run-small geo img fr a n r =
    let u = units geo fr.sizes in
    let one : 1 ≤ geo.fsize = omega (arith, u.unit) in
    omega (arith, run_inside geo img fr a n r, mul-le-mul (le_refl a) one, mul-one a, fr.laid.high)

-- no run begins at 0
pub run-some : (geo : Geometry) (img : List ℕ) → Frame geo img → (a n : ℕ) → RunOk geo img a n → 0 < n → a ≡ 0 → ⊥
run-some geo img fr a n r s z = omega (arith, run_past geo img fr a n r s, ap (λ (x : ℕ). x * geo.fsize) z, zero-mul geo.fsize)

-- nothing free lies among the records
pub free-table : (geo : Geometry) (img : List ℕ) → Frame geo img → (at : ℕ) → InTable geo at → {j : ℕ} → Free geo img j → Range at 256 j → ⊥
free-table geo img fr at t {j} f r =
    let span = (fr.head f.group f.one).span in
    let s = spots geo img fr t.group t.one in
    let h = fr.head t.group t.one in
    let lo = t.first in
    let hi = t.last in
    let q = same-place geo f.group f.frag t.group geo.iblkno geo.dblkno j f.byte (omega (arith, f.within, span)) (omega (arith, lo, r.0)) (omega (arith, hi, r.1)) (omega (arith, h.data_in, h.span)) in
    let z = fr.never f.group f.one f.frag (inr (q.2, inr (omega (arith, q.1, fr.laid.copy, fr.laid.record_first)))) in
    let y : ◌≡◌ {A = ℕ} 0 1 = sym z ∙ f.bit in
    omega arith

-- ---- what is claimed

module _ (geo : Geometry) (size : ℕ) (top : ℕ → ℕ) (xs : List ℕ) (fr : Frame geo xs) where
  -- a byte of a list is claimed
  pub list-claim : (c : Pos) → Valid geo c → IsList c → (node_at geo xs top c ≡ 0 → ⊥) → (j : ℕ) → Range (node_at geo xs top c * geo.fsize) geo.bsize j → Claims geo size top xs c j
  list-claim c v l n j r = record { valid = v; live = n; byte = (r.0, omega (arith, r.1, length_list geo size c l)) }

  module _ (own : Own geo size top xs) where
    module _ (c : Pos) (j : ℕ) (p : Claims geo size top xs c j) where
      claim-run : Range (node_at geo xs top c * geo.fsize) (length_at geo size c / geo.fsize * geo.fsize) j
      claim-run = let w = length-whole geo fr.sizes size c in (p.byte.0, omega (arith, p.byte.1, w))

      pub claim-books : Book geo xs j → ⊥
      claim-books b = run-books geo xs fr (node_at geo xs top c) (length_at geo size c / geo.fsize) (own.ok c j p) (some-frags _ _ geo.fsize j claim-run) claim-run b

      pub claim-table : (at : ℕ) → InTable geo at → Range at 256 j → ⊥
      claim-table at t r = run-table geo xs fr (node_at geo xs top c) (length_at geo size c / geo.fsize) (own.ok c j p) at t claim-run r

    -- a list is a run
    pub list-run : (c : Pos) → Valid geo c → IsList c → (node_at geo xs top c ≡ 0 → ⊥) → RunOk geo xs (node_at geo xs top c) geo.frag
    list-run c v l n =
        let u = units geo fr.sizes in
        let a = node_at geo xs top c * geo.fsize in
        subst (λ (k : ℕ). RunOk geo xs (node_at geo xs top c) k) (ap (λ (x : ℕ). x / geo.fsize) (length_list geo size c l) ∙ block-frags geo fr.sizes)
        (own.ok c a (list-claim c v l n a (omega arith, omega (arith, u.block))))

-- ---- entries of a list

module _ (geo : Geometry) {Q : ℕ → Type 0} {xs ys : List ℕ} (fr : Frame geo xs) (k : KeptBut Q xs ys) (a i : ℕ) (l : i < per_list geo) where
  entry-end : i * 8 + 8 ≤ geo.bsize
  entry-end = let e = rw (per-is geo xs fr) at l in omega (arith, e)

  pub entry-same : ((j : ℕ) → Range (a * geo.fsize) geo.bsize j → Q j → ⊥) → entry_at geo ys a i ≡ entry_at geo xs a i
  unfolding entry_at
  entry-same n = kept-but-num k 8 (a * geo.fsize + i * 8) (λ j r q. n j (omega (arith, r.0), omega (arith, r.1, entry-end)) q) geo.order

  -- byte for byte
  pub entry-kept : ((j : ℕ) → Range (a * geo.fsize + i * 8) 8 j → Q j → ⊥) → entry_at geo ys a i ≡ entry_at geo xs a i
  unfolding entry_at
  entry-kept n = kept-but-num k 8 (a * geo.fsize + i * 8) (λ j r q. n j r q) geo.order

-- the bytes of an entry are among the list's
pub entry-among : (geo : Geometry) (img : List ℕ) → Frame geo img → (a i j : ℕ) → i < per_list geo → Range (a * geo.fsize + i * 8) 8 j → Range (a * geo.fsize) geo.bsize j
entry-among geo img fr a i j l r = let e = rw (per-is geo img fr) at l in (omega (arith, r.0), omega (arith, r.1, e))
