-- How many stores taking back makes, at most: a block's map bytes and three of counts. Assumes nothing.
use Rattle.std.specs.Prelude.{Result, Ok, Err}
use Rattle.std.proofs.Common.{◌≡◌, ℕ, ◌+◌, ◌/◌, ◌%◌, ◌≤◌, Bool, true, false, List, length, refl, arith}
use native.Mathlib.Decide.{ℕ_discrete}
use Rattle.store.specs.Act.{made}
use Rattle.volume.specs.declared.Geometry.{Geometry}
use Rattle.volume.specs.declared.Counts.{Counts}
use Rattle.volume.specs.declared.Totals.{Totals}
use Rattle.volume.specs.Volume.{cg_at, counts_of, totals_of}
use Rattle.bits.proofs.BitsLaws.{frag-most}
use Rattle.frame.specs.Frame.{Frame}
use Rattle.balloc_take.specs.Take.{whole_then, take_test, count_stores, take_stores, take_back}
use Rattle.balloc_take.proofs.TestLaws.{good-run}
use Rattle.balloc_take.proofs.TakeLaws.{block-length, frag-length, stores-block, stores-frags, back-zero, back-good, back-bad}
use Rattle.refusal.specs.declared.Refusal.{Refusal}

counts-most : (geo : Geometry) (g n : ℕ) (c : Counts) (t : Totals) (whole : Bool) → length (count_stores geo g n c t whole) ≤ 3
counts-most geo g n c t false = omega arith
counts-most geo g n c t true = omega arith

module _ (geo : Geometry) (a size : ℕ) (img : List ℕ) (fr : Frame geo img) where
  stores-most : take_test geo a size img ≡ Ok tt → length (take_stores geo a size img) ≤ 11
  stores-most e = go (ℕ_discrete (size / geo.fsize) geo.frag)
    where
      go : Dec (size / geo.fsize ≡ geo.frag) → length (take_stores geo a size img) ≤ 11
      go (yes q) = rw (stores-block geo a size img refl refl q) (omega (arith, block-length geo (a / geo.fpg) (a % geo.fpg) img))
      go (no q) =
          let n = size / geo.fsize in
          let r = good-run geo a size img e fr in
          let m = r.most in
          let p = frag-most geo.frag fr.sizes.frag in
          let l = frag-length geo (a / geo.fpg) (a % geo.fpg) img n in
          let c = counts-most geo (a / geo.fpg) n (counts_of geo.order (cg_at geo (a / geo.fpg)) img) (totals_of geo.order img) (whole_then geo (a / geo.fpg) (a % geo.fpg) n img) in
          rw (stores-frags geo a size img refl refl refl q) (omega arith)

  pub take-most : made (take_back geo a size) img ≤ 11
  take-most = go (ℕ_discrete a 0) (take_test geo a size img) refl
    where
      go : Dec (a ≡ 0) → (j : Result (Unit {0}) Refusal) → take_test geo a size img ≡ j → made (take_back geo a size) img ≤ 11
      go (yes z) j e = rw (back-zero geo a size img z) (omega arith)
      go (no z) (Ok u) e = rw (back-good geo a size img z e) (stores-most e)
      go (no z) (Err n) e = rw (back-bad geo a size img z e) (omega arith)
