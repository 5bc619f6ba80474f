-- Which stage a directory that is not found fails, and what is judged once the names, numbers, inodes and kinds pass. Assumes nothing.
use mathlib.Core.Path.{◌≡◌, refl, sym, ap, ◌∙◌}
use mathlib.Core.Bool.{Bool, true, false}
use mathlib.Core.List.{List}
use Prim.Native.Nat.{ℕ}
use native.Mathlib.Omega.{arith}
use Rattle.refusal.specs.declared.Refusal.{Refusal}
use Rattle.refusal.specs.declared.Refusal.TheVariants.{Invalid, NotDirectory}
use Rattle.store.specs.Act.{Out, got, refused}
use Rattle.volume.specs.declared.Geometry.{Geometry}
use Rattle.inode.specs.Shape.{is_dir}
use Rattle.inode_run.specs.declared.Spot.{Spot}
use Rattle.inode_run.specs.Judge.{ask, and_then}
use Rattle.inode_run.specs.Find.{number_ok, typed, spot_of, find_inode}
use Rattle.stages.specs.Stages.{Stages, in_order, both_out}
use Rattle.stages.proofs.StagesLaws.{Ready, at-numbers, at-inodes, at-dirs}
use Rattle.dirfile.specs.Block.{dir_of}

-- ---- a directory that is not found

-- "numbers, the inode (22), kind (.., 20, ..)": the first of the three that fails
pub data Fails (geo : Geometry) (img : List ℕ) (d : ℕ) (e : Refusal) : Type 0 where
  number : number_ok geo d ≡ false → e ≡ Invalid → Fails geo img d e
  inode : number_ok geo d ≡ true → typed (spot_of geo img d).shape ≡ false → e ≡ Invalid → Fails geo img d e
  kind : number_ok geo d ≡ true → typed (spot_of geo img d).shape ≡ true → is_dir (spot_of geo img d).shape ≡ false → e ≡ NotDirectory → Fails geo img d e

reason : {A : Type 0} (a e : Refusal) → ◌≡◌ {A = Out A} (refused a) (refused e) → e ≡ a
reason a e h = cc

module _ (geo : Geometry) (img : List ℕ) (d : ℕ) (e : Refusal) where
  fails-kind : number_ok geo d ≡ true → typed (spot_of geo img d).shape ≡ true → (k : Bool) → is_dir (spot_of geo img d).shape ≡ k
      → ask k NotDirectory (got (spot_of geo img d)) ≡ refused e → Fails geo img d e
  fails-kind n t true q h = absurd (let z : ◌≡◌ {A = ℕ} 0 1 = cc in let y : ⊥ = omega arith in y)
  fails-kind n t false q h = kind n t q (reason {A = Spot} NotDirectory e h)

  fails_by : (n : Bool) → number_ok geo d ≡ n → (t : Bool) → typed (spot_of geo img d).shape ≡ t
      → and_then (ask n Invalid (ask t Invalid (got (spot_of geo img d)))) (λ s. ask (is_dir s.shape) NotDirectory (got s)) ≡ refused e → Fails geo img d e
  fails_by false p t q h = number p (reason {A = Spot} Invalid e h)
  fails_by true p false q h = inode p q (reason {A = Spot} Invalid e h)
  fails_by true p true q h = fails-kind p q (is_dir (spot_of geo img d).shape) refl h

  pub dir-fails : dir_of geo img d ≡ refused e → Fails geo img d e
  unfolding dir_of find_inode
  dir-fails h = fails_by (number_ok geo d) refl (typed (spot_of geo img d).shape) refl h

-- of a call on directory d whose names pass: what find_dir refuses is what the stages refuse
pub record OnDir (geo : Geometry) (img : List ℕ) (d : ℕ) (s : Stages) : Type 0 where
  pub names : s.names ≡ true
  pub lengths : s.lengths ≡ true
  pub numbers : s.numbers ≡ number_ok geo d
  pub untyped : typed (spot_of geo img d).shape ≡ false → s.inodes ≡ false
  pub other : typed (spot_of geo img d).shape ≡ true → is_dir (spot_of geo img d).shape ≡ false → s.inodes ≡ true
  pub dirs : s.dirs ≡ is_dir (spot_of geo img d).shape

module _ (geo : Geometry) (img : List ℕ) (d : ℕ) (s : Stages) (o : OnDir geo img d s) (e : Refusal) where
  refused-by : Fails geo img d e → in_order s ≡ refused e
  refused-by (number n q) = at-numbers s o.names o.lengths (o.numbers ∙ n) ∙ ap refused (sym q)
  refused-by (inode n t q) = at-inodes s o.names o.lengths (o.numbers ∙ n) (o.untyped t) ∙ ap refused (sym q)
  refused-by (kind n t k q) = at-dirs s o.names o.lengths (o.numbers ∙ n) (o.other t k) (o.dirs ∙ k) ∙ ap refused (sym q)

  pub at-directory : dir_of geo img d ≡ refused e → in_order s ≡ refused e
  at-directory h = refused-by (dir-fails geo img d e h)

-- ---- a directory that is found

-- the answers that are left
pub at-ready : (s : Stages) → Ready s → in_order s ≡ both_out s.walk (both_out s.target (both_out s.empty (both_out s.links (both_out s.ends s.tails))))
unfolding in_order both_out
at-ready s r = rw (r.names, r.lengths, r.numbers, r.inodes, r.dirs, r.files, r.kinds)
