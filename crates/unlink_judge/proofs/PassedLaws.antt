-- What is so where unlink goes on to its work: what each of its tests says. Assumes nothing.
use mathlib.Core.Path.{◌≡◌, refl, sym, ◌∙◌}
use mathlib.Core.Bool.{Bool, true, false}
use mathlib.Core.List.{List}
use Prim.Native.Nat.{ℕ}
use native.Mathlib.Omega.{arith}
use Rattle.refusal.specs.declared.Refusal.{Refusal}
use Rattle.store.specs.Act.{Out, got, refused}
use Rattle.volume.specs.declared.Geometry.{Geometry}
use Rattle.frame.specs.Frame.{Frame}
use Rattle.inode_run.specs.declared.Spot.{Spot}
use Rattle.stages.specs.Stages.{in_order}
use Rattle.stages.proofs.StagesLaws.{both_passed}
use Rattle.dirnames.specs.Names.{taken, short}
use Rattle.dirfile.specs.Block.{dir_of}
use Rattle.dirfile.specs.Seek.{Sought, here, nowhere, hurt}
use Rattle.dirwalk.specs.declared.Hit.{Hit}
use Rattle.dirwalk.specs.Walk.{find_dir}
use Rattle.dirjudge.specs.Judge.{drop_end, drop_tail}
use Rattle.unlink_judge.specs.Unlink.{found_ok, fall_out, left_of, unlink_stages}
use Rattle.unlink_judge.proofs.UnlinkLaws.{left-nowhere, left-hurt, left-bad, left-hit, unlink-bad-name, unlink-long-name, unlink-no-dir, unlink-in}

pub record Unlinks (geo : Geometry) (img : List ℕ) (d : ℕ) (name : List ℕ) : Type 0 where
  pub legal : taken false name ≡ true
  pub short : short name ≡ true
  pub spot : Spot
  pub dir : dir_of geo img d ≡ got spot
  pub hit : Hit
  pub seen : find_dir geo spot.at spot.shape.size img name ≡ here hit
  pub found : found_ok geo img hit.inr ≡ true
  pub fall : fall_out geo img hit.inr ≡ got (tt {0})
  pub end : drop_end geo spot.shape.size hit ≡ got (tt {0})
  pub tail : drop_tail geo spot.shape.size hit ≡ got (tt {0})

apart : (e : Refusal) → ◌≡◌ {A = Out (Unit {0})} (got (tt {0})) (refused e) → ⊥
apart e h = let z : ◌≡◌ {A = ℕ} 0 1 = cc in omega arith

module _ (geo : Geometry) (img : List ℕ) (d : ℕ) (name : List ℕ) (fr : Frame geo img) (h : in_order (unlink_stages geo img d name) ≡ got (tt {0})) where
  name_by : (b : Bool) → taken false name ≡ b → taken false name ≡ true
  name_by true q = q
  name_by false q = absurd (apart _ (sym h ∙ unlink-bad-name geo img d name q))

  module _ (n : taken false name ≡ true) where
    short-by : (b : Bool) → short name ≡ b → short name ≡ true
    short-by true q = q
    short-by false q = absurd (apart _ (sym h ∙ unlink-long-name geo img d name n q))

    module _ (l : short name ≡ true) where
      module _ (s : Spot) (q : dir_of geo img d ≡ got s) (e : left_of geo img s.shape.size (find_dir geo s.at s.shape.size img name) ≡ got (tt {0})) where
        hit-by : (k : Hit) → find_dir geo s.at s.shape.size img name ≡ here k → (b : Bool) → found_ok geo img k.inr ≡ b → Unlinks geo img d name
        hit-by k u true f =
            let first = both_passed _ _ (sym (left-hit geo img s.shape.size _ k u f) ∙ e) in
            let second = both_passed _ _ first.1 in
            record { legal = n; short = l; spot = s; dir = q; hit = k; seen = u; found = f; fall = first.0; end = second.0; tail = second.1 }
        hit-by k u false f = absurd (apart _ (sym e ∙ left-bad geo img s.shape.size _ k u f))

        seen_by : (x : Sought Hit) → find_dir geo s.at s.shape.size img name ≡ x → Unlinks geo img d name
        seen_by (here k) u = hit-by k u (found_ok geo img k.inr) refl
        seen_by nowhere u = absurd (apart _ (sym e ∙ left-nowhere geo img s.shape.size _ u))
        seen_by hurt u = absurd (apart _ (sym e ∙ left-hurt geo img s.shape.size _ u))

      unlinks-by : (o : Out Spot) → dir_of geo img d ≡ o → Unlinks geo img d name
      unlinks-by (got s) q = seen_by s q (sym (unlink-in geo img d name n l fr s q) ∙ h) (find_dir geo s.at s.shape.size img name) refl
      unlinks-by (refused e) q = absurd (apart e (sym h ∙ unlink-no-dir geo img d name n l e q))

  pub unlink-passed : Unlinks geo img d name
  unlink-passed =
      let n = name_by (taken false name) refl in
      unlinks-by n (short-by n (short name) refl) (dir_of geo img d) refl
