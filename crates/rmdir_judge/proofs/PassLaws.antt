-- What a directory that may go stands in: every inode and record that the work will meet. Assumes nothing.
use Rattle.std.specs.Prelude.{Ok}
use mathlib.Core.Path.{◌≡◌, refl, sym, ap, ◌∙◌}
use mathlib.Core.Bool.{Bool, true, false}
use mathlib.Core.List.{List}
use Prim.Native.Nat.{ℕ}
use native.Mathlib.Omega.{arith}
use lib.Dec.{eqb}
use borrow.Author.Tests.{eqb-true}
use Rattle.refusal.specs.declared.Refusal.{Refusal}
use Rattle.refusal.specs.declared.Refusal.TheVariants.{Damaged}
use Rattle.store.specs.Act.{Out, got, refused}
use Rattle.volume.specs.declared.Geometry.{Geometry}
use Rattle.frame.specs.Frame.{Frame}
use Rattle.inode_run.specs.declared.Spot.{Spot}
use Rattle.inode_run.specs.Judge.{ask}
use Rattle.stages.specs.Stages.{in_order}
use Rattle.dirnames.specs.Names.{taken, short}
use Rattle.dirfile.specs.Block.{dir_of}
use Rattle.dirfile.specs.Seek.{Sought, here, nowhere, hurt}
use Rattle.dirwalk.specs.declared.Hit.{Hit}
use Rattle.dirwalk.specs.Walk.{lookup_dir, find_dir}
use Rattle.rmdir_judge.specs.Rmdir.{dot, dotdot, gone_in, own_ok, rmdir_stages, hits_out, walks_out, dirs_out, found_out, gone_out, removal_of}
use Rattle.rmdir_judge.proofs.RmdirLaws.{dirs_invalid, dirs_are, found-dirs, found_none, rmdir-bad-name, rmdir-long-name, rmdir-no-dir, rmdir-judged, gone-is}
use Rattle.rmdir_judge.proofs.Theorems.{Leads}

-- the directory and the one it is in, the three records that go, and that all else passes
pub record Removable (geo : Geometry) (img : List ℕ) (d : ℕ) (name : List ℕ) (i : ℕ) : Type 0 where
  pub s : Spot
  pub e : Spot
  pub leads : Leads geo img d name s e i
  pub link : Hit
  pub up : Hit
  pub own : Hit
  pub named : find_dir geo s.at s.shape.size img name ≡ here link
  pub same : link.inr ≡ i
  pub parent : find_dir geo e.at e.shape.size img dotdot ≡ here up
  pub itself : find_dir geo e.at e.shape.size img dot ≡ here own
  pub inodes : own_ok geo img i (here up) (here own) ≡ true
  pub rest : hits_out geo img s.shape.size e i link up own ≡ got (tt {0})

no_refusal : {A : Type 0} (o : Out (Unit {0})) (x : Refusal) → o ≡ got (tt {0}) → o ≡ refused x → A
no_refusal o x g r = absurd (let z : ◌≡◌ {A = ℕ} 0 1 = cc in let y : ⊥ = omega arith in y)

dir_answer : (x : Sought ℕ) (o : Out (Unit {0})) (i : ℕ) → removal_of x o ≡ Ok i → (x ≡ here i) × (o ≡ got (tt {0}))
dir_answer (here j) (got u) i h = let q : j ≡ i = cc in (ap here q, refl)
dir_answer (here j) (refused r) i h = absurd (let z : ◌≡◌ {A = ℕ} 0 1 = cc in let y : ⊥ = omega arith in y)
dir_answer nowhere (got u) i h = absurd (let z : ◌≡◌ {A = ℕ} 0 1 = cc in let y : ⊥ = omega arith in y)
dir_answer nowhere (refused r) i h = absurd (let z : ◌≡◌ {A = ℕ} 0 1 = cc in let y : ⊥ = omega arith in y)
dir_answer hurt (got u) i h = absurd (let z : ◌≡◌ {A = ℕ} 0 1 = cc in let y : ⊥ = omega arith in y)
dir_answer hurt (refused r) i h = absurd (let z : ◌≡◌ {A = ℕ} 0 1 = cc in let y : ⊥ = omega arith in y)

module _ (geo : Geometry) (img : List ℕ) (d : ℕ) (name : List ℕ) (i : ℕ) where
  module _ (s e : Spot) (w : Leads geo img d name s e i) where
    by-inode : (v q c : Hit) → find_dir geo s.at s.shape.size img name ≡ here v → find_dir geo e.at e.shape.size img dotdot ≡ here q
        → find_dir geo e.at e.shape.size img dot ≡ here c → own_ok geo img i (here q) (here c) ≡ true
        → (b : Bool) → eqb v.inr i ≡ b → ask b Damaged (hits_out geo img s.shape.size e i v q c) ≡ got (tt {0}) → Removable geo img d name i
    by-inode v q c ev eq ec k true n h =
        record { s = s; e = e; leads = w; link = v; up = q; own = c; named = ev; same = eqb-true v.inr i n; parent = eq; itself = ec; inodes = k; rest = h }
    by-inode v q c ev eq ec k false n h = absurd (let z : ◌≡◌ {A = ℕ} 0 1 = cc in let y : ⊥ = omega arith in y)

    no-entry : (b : Bool) (r : Refusal) → ask b Damaged (refused r) ≡ got (tt {0}) → Removable geo img d name i
    no-entry true r h = absurd (let z : ◌≡◌ {A = ℕ} 0 1 = cc in let y : ⊥ = omega arith in y)
    no-entry false r h = absurd (let z : ◌≡◌ {A = ℕ} 0 1 = cc in let y : ⊥ = omega arith in y)

    by-walks : (link up own : Sought Hit) → find_dir geo s.at s.shape.size img name ≡ link → find_dir geo e.at e.shape.size img dotdot ≡ up
        → find_dir geo e.at e.shape.size img dot ≡ own → own_ok geo img i up own ≡ true → walks_out geo img s.shape.size e i link up own ≡ got (tt {0}) → Removable geo img d name i
    by-walks (here v) (here q) (here c) ev eq ec k h = by-inode v q c ev eq ec k (eqb v.inr i) refl h
    by-walks (here v) (here q) nowhere ev eq ec k h = no-entry (eqb v.inr i) _ h
    by-walks (here v) (here q) hurt ev eq ec k h = absurd (let z : ◌≡◌ {A = ℕ} 0 1 = cc in let y : ⊥ = omega arith in y)
    by-walks (here v) nowhere own ev eq ec k h = no-entry (eqb v.inr i) _ h
    by-walks (here v) hurt own ev eq ec k h = absurd (let z : ◌≡◌ {A = ℕ} 0 1 = cc in let y : ⊥ = omega arith in y)
    by-walks nowhere up own ev eq ec k h = absurd (let z : ◌≡◌ {A = ℕ} 0 1 = cc in let y : ⊥ = omega arith in y)
    by-walks hurt up own ev eq ec k h = absurd (let z : ◌≡◌ {A = ℕ} 0 1 = cc in let y : ⊥ = omega arith in y)

    by-own : (b : Bool) → own_ok geo img i (find_dir geo e.at e.shape.size img dotdot) (find_dir geo e.at e.shape.size img dot) ≡ b → dirs_out geo img s e i name ≡ got (tt {0}) → Removable geo img d name i
    by-own true k h =
        by-walks (find_dir geo s.at s.shape.size img name) (find_dir geo e.at e.shape.size img dotdot) (find_dir geo e.at e.shape.size img dot) refl refl refl k
        (sym (dirs_are geo img s e i name (find_dir geo s.at s.shape.size img name) (find_dir geo e.at e.shape.size img dotdot) (find_dir geo e.at e.shape.size img dot) refl refl refl k) ∙ h)
    by-own false k h = no_refusal (dirs_out geo img s e i name) _ h (dirs_invalid geo img s e i name k)

  -- what the code's good answer says
  pub removable : Frame geo img → removal_of (gone_in geo img d name) (in_order (rmdir_stages geo img d name)) ≡ Ok i → Removable geo img d name i
  removable fr h = by_name (taken true name) refl
    where
      gone : gone_in geo img d name ≡ here i
      gone = (dir_answer (gone_in geo img d name) (in_order (rmdir_stages geo img d name)) i h).0

      passed : in_order (rmdir_stages geo img d name) ≡ got (tt {0})
      passed = (dir_answer (gone_in geo img d name) (in_order (rmdir_stages geo img d name)) i h).1

      by-inner : (n : taken true name ≡ true) (l : short name ≡ true) (s : Spot) → dir_of geo img d ≡ got s → lookup_dir geo s.at s.shape.size img name ≡ here i
          → found_out geo img s i name ≡ got (tt {0}) → (o : Out Spot) → dir_of geo img i ≡ o → Removable geo img d name i
      by-inner n l s ds look f (got e) de =
          by-own s e (record { frame = fr; taken = n; short = l; outer = ds; looked = look; inner = de })
          (own_ok geo img i (find_dir geo e.at e.shape.size img dotdot) (find_dir geo e.at e.shape.size img dot)) refl
          (found-dirs geo img s i name e de (dirs_out geo img s e i name) refl ∙ f)
      by-inner n l s ds look f (refused x) de = no_refusal (found_out geo img s i name) x f (sym (found_none geo img s i name x de))

      by-dir : taken true name ≡ true → short name ≡ true → (o : Out Spot) → dir_of geo img d ≡ o → Removable geo img d name i
      by-dir n l (got s) ds =
          let look : lookup_dir geo s.at s.shape.size img name ≡ here i = sym (gone-is geo img d name n l fr s ds) ∙ gone in
          let f : found_out geo img s i name ≡ got (tt {0}) = sym (ap (gone_out geo img s name) look) ∙ sym (rmdir-judged geo img d name n l fr s ds) ∙ passed in
          by-inner n l s ds look f (dir_of geo img i) refl
      by-dir n l (refused x) ds = no_refusal (in_order (rmdir_stages geo img d name)) x passed (rmdir-no-dir geo img d name n l x ds)

      by_length : taken true name ≡ true → (b : Bool) → short name ≡ b → Removable geo img d name i
      by_length n true l = by-dir n l (dir_of geo img d) refl
      by_length n false l = no_refusal (in_order (rmdir_stages geo img d name)) _ passed (rmdir-long-name geo img d name n l)

      by_name : (b : Bool) → taken true name ≡ b → Removable geo img d name i
      by_name true n = by_length n (short name) refl
      by_name false n = no_refusal (in_order (rmdir_stages geo img d name)) _ passed (rmdir-bad-name geo img d name n)
