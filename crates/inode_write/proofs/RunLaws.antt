-- What the run of a block says of the bytes that are written there. Assumes nothing.
use Rattle.std.specs.Prelude.{Option, Some, None}
use mathlib.Core.Path.{◌≡◌, refl, sym, ap, subst, ◌∙◌}
use mathlib.Core.Bool.{Bool, true, false}
use mathlib.Core.List.{List}
use mathlib.Core.Logic.{◌⊎◌, ⊎_elim}
use Prim.Native.Nat.{ℕ, ◌+◌, ◌-◌, ◌*◌, ◌/◌, ◌≤◌, ◌<◌}
use native.Mathlib.Omega.{arith}
use Rattle.volume.specs.declared.Geometry.{Geometry}
use Rattle.volume.specs.declared.FragNum.{FragNum}
use Rattle.sound.specs.Test.{Sized}
use Rattle.frame.specs.Frame.{Frame, RunOk, run_okb}
use Rattle.frame.proofs.Places.{order, run_is}
use Rattle.inode.specs.Size.{pick, extent_of, held_at}
use Rattle.inode.proofs.SizeLaws.{held-block, held-tail, held-past, tail-fits}
use Rattle.mapping.specs.declared.Mapped.{Mapped}
use Rattle.mapping.specs.declared.Mapped.TheVariants as Mapped
use Rattle.mapping.specs.Mapping.{mapped}
use Rattle.inode_run.specs.declared.Run.{Run}
use Rattle.inode_run.specs.declared.Run.TheVariants as Run
use Rattle.inode_run.specs.Run.{run_for, run_at}
use Rattle.inode_run.proofs.RunLaws.{run-at-is}
use Rattle.inode_read.proofs.ReachLaws.{held-covers}

-- the run of a block that has an address
record Located (geo : Geometry) (img : List ℕ) (h : Option ℕ) (a n : ℕ) : Type 0 where
  pub held : h ≡ Some n
  pub run : run_okb geo img a (n / geo.fsize) ≡ true

module _ (geo : Geometry) (img : List ℕ) where
  at-for : (a : FragNum) (n : ℕ) (h : Option ℕ) (m : Mapped) → run_for geo img h m ≡ Run.At a n → Located geo img h a.0 n
  at-for a n None m e = absurd (let z : ◌≡◌ {A = ℕ} 0 1 = cc in let y : ⊥ = omega arith in y)
  at-for a n (Some k) Mapped.Hole e = absurd (let z : ◌≡◌ {A = ℕ} 0 1 = cc in let y : ⊥ = omega arith in y)
  at-for a n (Some k) Mapped.Bad e = absurd (let z : ◌≡◌ {A = ℕ} 0 1 = cc in let y : ⊥ = omega arith in y)
  at-for a n (Some k) Mapped.Past e = absurd (let z : ◌≡◌ {A = ℕ} 0 1 = cc in let y : ⊥ = omega arith in y)
  at-for a n (Some k) (Mapped.At b) e = by (run_okb geo img b.0 (k / geo.fsize)) refl e
    where
      by : (t : Bool) → run_okb geo img b.0 (k / geo.fsize) ≡ t → pick t (Run.At b k) Run.Bad ≡ Run.At a n → Located geo img (Some k) a.0 n
      by false q e = absurd (let z : ◌≡◌ {A = ℕ} 0 1 = cc in let y : ⊥ = omega arith in y)
      by true q e =
          let same : k ≡ n = cc in
          let there : b ≡ a = cc in
          record { held = ap Some same; run = ap (λ (x : FragNum). run_okb geo img x.0 (n / geo.fsize)) (sym there) ∙ ap (λ (x : ℕ). run_okb geo img b.0 (x / geo.fsize)) (sym same) ∙ q }

  hole-for : (n : ℕ) (h : Option ℕ) (m : Mapped) → run_for geo img h m ≡ Run.Hole n → h ≡ Some n
  hole-for n None m e = absurd (let z : ◌≡◌ {A = ℕ} 0 1 = cc in let y : ⊥ = omega arith in y)
  hole-for n (Some k) Mapped.Hole e = let same : k ≡ n = cc in ap Some same
  hole-for n (Some k) Mapped.Bad e = absurd (let z : ◌≡◌ {A = ℕ} 0 1 = cc in let y : ⊥ = omega arith in y)
  hole-for n (Some k) Mapped.Past e = absurd (let z : ◌≡◌ {A = ℕ} 0 1 = cc in let y : ⊥ = omega arith in y)
  hole-for n (Some k) (Mapped.At b) e = by (run_okb geo img b.0 (k / geo.fsize)) e
    where
      by : (t : Bool) → pick t (Run.At b k) Run.Bad ≡ Run.Hole n → Some k ≡ Some n
      by false e = absurd (let z : ◌≡◌ {A = ℕ} 0 1 = cc in let y : ⊥ = omega arith in y)
      by true e = absurd (let z : ◌≡◌ {A = ℕ} 0 1 = cc in let y : ⊥ = omega arith in y)

-- no block holds more than a block's bytes
held-most : (geo : Geometry) → Sized geo → (size i n : ℕ) → held_at geo size i ≡ Some n → n ≤ geo.bsize
held-most geo z size i n e =
    ⊎_elim (λ l. let q : geo.bsize ≡ n = cc (held-block geo size i l, e) in omega arith)
    (λ r. let low : (extent_of geo size).blocks ≤ i = ⊎_elim (λ x. omega arith) (λ x. omega arith) r in
    ⊎_elim (λ l. let q : (extent_of geo size).frags * geo.fsize ≡ n = cc (held-tail geo size i low l, e) in omega (arith, tail-fits geo size z))
    (λ r. let past : (extent_of geo size).blocks + (extent_of geo size).frags ≤ i = ⊎_elim (λ x. omega arith) (λ x. omega arith) r in
    absurd (let p = held-past geo size i low past in let x : ◌≡◌ {A = ℕ} 0 1 = cc in let y : ⊥ = omega arith in y))
    (order i ((extent_of geo size).blocks + (extent_of geo size).frags)))
    (order i (extent_of geo size).blocks)

-- the first `end` bytes of block i, which the size asks for
module _ (geo : Geometry) (img : List ℕ) (fr : Frame geo img) (at size i end : ℕ) (some : 0 < end) (l : end ≤ geo.bsize) (h : i * geo.bsize + end ≤ size) where
  covered : (n : ℕ) → held_at geo size i ≡ Some n → (end ≤ n) × (n / geo.fsize * geo.fsize ≡ n)
  covered n e =
      let c = held-covers geo fr.sizes size i end some l h in
      let q : Some c.held ≡ Some n = sym c.is ∙ e in
      let same : c.held ≡ n = cc in
      subst (λ (k : ℕ). (end ≤ k) × (k / geo.fsize * geo.fsize ≡ k)) same (c.far, c.whole)

  -- of a hole: its bytes are no more than a block's, and those written are among them
  pub hole-room : (n : ℕ) → run_at geo at size img i ≡ Run.Hole n → (n ≤ geo.bsize) × (end ≤ n)
  hole-room n e =
      let q = hole-for geo img n (held_at geo size i) (mapped geo at img i) (sym (run-at-is geo at size img i) ∙ e) in
      (held-most geo fr.sizes size i n q, (covered n q).0)

  -- of a run: it is one, of fragments that hold the bytes written
  pub at_room : (a : FragNum) (n : ℕ) → run_at geo at size img i ≡ Run.At a n → RunOk geo img a.0 (n / geo.fsize) × (end ≤ n / geo.fsize * geo.fsize)
  at_room a n e =
      let q = at-for geo img a n (held_at geo size i) (mapped geo at img i) (sym (run-at-is geo at size img i) ∙ e) in
      let c = covered n q.held in
      (run_is geo img a.0 (n / geo.fsize) q.run, omega arith)
