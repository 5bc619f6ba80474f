-- What is so where mknod or mkdir goes on to its work: what each of its tests says. Assumes nothing.
use mathlib.Core.Path.{◌≡◌, refl, sym, ◌∙◌}
use mathlib.Core.Bool.{Bool, true, false}
use mathlib.Core.List.{List}
use Prim.Native.Nat.{ℕ, ◌<◌}
use native.Mathlib.Omega.{arith}
use lib.ListN.{length}
use Rattle.refusal.specs.declared.Refusal.{Refusal}
use Rattle.store.specs.Act.{Out, got, refused}
use Rattle.volume.specs.declared.Geometry.{Geometry}
use Rattle.frame.specs.Frame.{Frame}
use Rattle.inode_run.specs.declared.Spot.{Spot}
use Rattle.stages.specs.Stages.{in_order}
use Rattle.stages.proofs.StagesLaws.{both_passed}
use Rattle.dirnames.specs.Names.{taken, short}
use Rattle.dirnames.proofs.Theorems.{short-says}
use Rattle.dirfile.specs.Block.{dir_of}
use Rattle.dirfile.specs.Seek.{Sought, here, nowhere, hurt}
use Rattle.dirwalk.specs.Walk.{lookup_dir, room_dir}
use Rattle.dirjudge.specs.Judge.{link_end, link_tail}
use Rattle.mknod_judge.specs.Make.{absent_out, raise_out, make_stages}
use Rattle.mknod_judge.proofs.MakeLaws.{make-bad-name, make-long-name, make-no-dir, make-in}

pub record Makes (geo : Geometry) (img : List ℕ) (d : ℕ) (name : List ℕ) (raises : Bool) : Type 0 where
  pub legal : taken true name ≡ true
  pub few : length name < 256
  pub spot : Spot
  pub dir : dir_of geo img d ≡ got spot
  pub absent : lookup_dir geo spot.at spot.shape.size img name ≡ nowhere
  pub raise : raise_out geo spot img raises ≡ got (tt {0})
  pub end : link_end geo spot.shape.size (room_dir geo spot.at spot.shape.size img (length name)) ≡ got (tt {0})
  pub tail : link_tail geo spot img (room_dir geo spot.at spot.shape.size img (length name)) ≡ got (tt {0})

apart : (e : Refusal) → ◌≡◌ {A = Out (Unit {0})} (got (tt {0})) (refused e) → ⊥
apart e h = let z : ◌≡◌ {A = ℕ} 0 1 = cc in omega arith

absent-is : (x : Sought ℕ) → absent_out x ≡ got (tt {0}) → x ≡ nowhere
absent-is (here i) h = absurd (apart _ (sym h))
absent-is nowhere h = refl
absent-is hurt h = absurd (apart _ (sym h))

module _ (geo : Geometry) (img : List ℕ) (d : ℕ) (name : List ℕ) (raises : Bool) (fr : Frame geo img) (h : in_order (make_stages geo img d name raises) ≡ got (tt {0})) where
  name_by : (b : Bool) → taken true name ≡ b → taken true name ≡ true
  name_by true q = q
  name_by false q = absurd (apart _ (sym h ∙ make-bad-name geo img d name raises q))

  module _ (n : taken true name ≡ true) where
    short-by : (b : Bool) → short name ≡ b → short name ≡ true
    short-by true q = q
    short-by false q = absurd (apart _ (sym h ∙ make-long-name geo img d name raises n q))

    makes-by : short name ≡ true → (o : Out Spot) → dir_of geo img d ≡ o → Makes geo img d name raises
    makes-by l (got s) q =
        let first = both_passed _ _ (sym (make-in geo img d name raises n l fr s q) ∙ h) in
        let second = both_passed _ _ first.1 in
        let third = both_passed _ _ second.1 in
        record {
          legal = n;
          few = omega (arith, short-says name l);
          spot = s;
          dir = q;
          absent = absent-is _ first.0;
          raise = second.0;
          end = third.0;
          tail = third.1;
        }
    makes-by l (refused e) q = absurd (apart e (sym h ∙ make-no-dir geo img d name raises n l e q))

  pub make-passed : Makes geo img d name raises
  make-passed =
      let n = name_by (taken true name) refl in
      makes-by n (short-by n (short name) refl) (dir_of geo img d) refl
