-- What rmdir's tests promise together: the counts as its steps meet them, and 01's order where a directory is not empty or lacks its "..". Assumes nothing.
use mathlib.Core.Path.{◌≡◌, refl, sym, ap, ◌∙◌}
use mathlib.Core.Bool.{true, false}
use mathlib.Core.List.{List}
use Prim.Native.Nat.{ℕ}
use native.Mathlib.Omega.{arith}
use borrow.Author.Tests.{eq-eqb}
use Rattle.refusal.specs.declared.Refusal.TheVariants.{NoEntry, NotEmpty}
use Rattle.store.specs.Act.{got, refused}
use Rattle.volume.specs.declared.Geometry.{Geometry}
use Rattle.volume.specs.Volume.{inode_at}
use Rattle.frame.specs.Frame.{Frame}
use Rattle.inode.specs.Places.{nlink_at}
use Rattle.inode_run.specs.declared.Spot.{Spot}
use Rattle.stages.specs.Stages.{in_order}
use Rattle.dirnames.specs.Names.{taken, short}
use Rattle.dirfile.specs.Block.{dir_of}
use Rattle.dirfile.specs.Seek.{Sought, here, nowhere}
use Rattle.dirwalk.specs.declared.Hit.{Hit}
use Rattle.dirwalk.specs.Walk.{lookup_dir, find_dir}
use Rattle.dirother.specs.Other.{others_dir}
use Rattle.rmdir_judge.specs.Rmdir.{dot, dotdot, remain_all, own_ok, empty_out, rmdir_stages, hits_out, walks_out, dirs_out, gone_out}
use Rattle.rmdir_judge.proofs.StepLaws.{falls-same, falls-other, remains-held, remains-spent, remain-is, hits-stop}
use Rattle.rmdir_judge.proofs.RmdirLaws.{dirs_are, found-dirs, rmdir-judged}

-- ---- the counts, of a directory i whose "." is its own and whose ".." is another

module _ (geo : Geometry) (img : List ℕ) (i up : ℕ) where
  abbrev links : ℕ → ℕ
  links x = nlink_at geo.order (inode_at geo x) img

  -- as mkdir leaves it, with two links: "." takes one away, and the directory itself the last
  pub two-links : (i ≡ up → ⊥) → links i ≡ 2 → remain_all geo img i up i ≡ true
  two-links n l =
      sym (remain-is geo img i up i 0 1 0 (falls-other i up n) (falls-same i i refl) (falls-other i up n) true true true
      (sym (remains-held geo img i 0 (omega (arith, l)))) (sym (remains-held geo img i 0 (omega (arith, l)))) (sym (remains-held geo img i 1 (omega (arith, l)))))

  -- with one, "." frees it, and it is not there to fall again: 22
  pub one_link : (i ≡ up → ⊥) → links i ≡ 1 → remain_all geo img i up i ≡ false
  one_link n l =
      sym (remain-is geo img i up i 0 1 0 (falls-other i up n) (falls-same i i refl) (falls-other i up n) true true false
      (sym (remains-held geo img i 0 (omega (arith, l)))) (sym (remains-held geo img i 0 (omega (arith, l)))) (sym (remains-spent geo img i 1 (omega (arith, l)) (omega (arith, l)))))

-- ---- the order

-- directory d has the name, and it leads to a directory: s and e are their records, i is its inode
pub record Leads (geo : Geometry) (img : List ℕ) (d : ℕ) (name : List ℕ) (s e : Spot) (i : ℕ) : Type 0 where
  pub frame : Frame geo img
  pub taken : taken true name ≡ true
  pub short : short name ≡ true
  pub outer : dir_of geo img d ≡ got s
  pub looked : lookup_dir geo s.at s.shape.size img name ≡ here i
  pub inner : dir_of geo img i ≡ got e

module _ (geo : Geometry) (img : List ℕ) (d : ℕ) (name : List ℕ) (s e : Spot) (i : ℕ) (w : Leads geo img d name s e i)
    (v : Hit) (link : find_dir geo s.at s.shape.size img name ≡ here v) (same : v.inr ≡ i) where
  judged-by : (up own : Sought Hit) → find_dir geo e.at e.shape.size img dotdot ≡ up → find_dir geo e.at e.shape.size img dot ≡ own → own_ok geo img i up own ≡ true
      → in_order (rmdir_stages geo img d name) ≡ walks_out geo img s.shape.size e i (here v) up own
  judged-by up own eu eo k =
      rmdir-judged geo img d name w.taken w.short w.frame s w.outer ∙ ap (gone_out geo img s name) w.looked
      ∙ sym (found-dirs geo img s i name e w.inner (dirs_out geo img s e i name) refl)
      ∙ dirs_are geo img s e i name (here v) up own link eu eo k

  -- "2" stands before "66": without "..", whatever the directory holds
  pub no-parent : (own : Sought Hit) → find_dir geo e.at e.shape.size img dotdot ≡ nowhere → find_dir geo e.at e.shape.size img dot ≡ own → own_ok geo img i nowhere own ≡ true
      → in_order (rmdir_stages geo img d name) ≡ refused NoEntry
  no-parent own eu eo k = judged-by nowhere own eu eo k ∙ rw (eq-eqb v.inr i same)

  module _ (q c : Hit) (up : find_dir geo e.at e.shape.size img dotdot ≡ here q) (own : find_dir geo e.at e.shape.size img dot ≡ here c) (ok : own_ok geo img i (here q) (here c) ≡ true) where
    -- both are there: 66, the counts, 27 and 45 are left
    pub both-there : in_order (rmdir_stages geo img d name) ≡ hits_out geo img s.shape.size e i v q c
    both-there = judged-by (here q) (here c) up own ok ∙ rw (eq-eqb v.inr i same)

    -- "66: rmdir of a non-empty directory", whatever its counts and its size
    pub not-empty : others_dir geo e.at e.shape.size img ≡ here (tt {0}) → in_order (rmdir_stages geo img d name) ≡ refused NotEmpty
    not-empty h = both-there ∙ sym (hits-stop geo img s.shape.size e i v q c (refused NotEmpty) (sym (ap empty_out h)) NotEmpty refl)
