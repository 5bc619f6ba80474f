-- Laws of what mknod and mkdir are judged by: one for each test, in 01's order. Assumes nothing.
use Rattle.std.specs.Prelude.{Option, Some, None, Ok, is_some}
use mathlib.Core.Path.{◌≡◌, refl, sym, ap, ◌∙◌}
use mathlib.Core.Bool.{Bool, true, false, not, ◌&&◌}
use mathlib.Core.List.{List}
use Prim.Native.Nat.{ℕ}
use native.Mathlib.Omega.{arith}
use lib.Dec.{eqb}
use lib.ListN.{length}
use Rattle.refusal.specs.declared.Refusal.{Refusal}
use Rattle.refusal.specs.declared.Refusal.TheVariants.{Exists, Invalid, NameTooLong, TooManyLinks}
use Rattle.store.specs.Act.{Out, got, refused}
use Rattle.volume.specs.declared.Geometry.{Geometry}
use Rattle.frame.specs.Frame.{Frame}
use Rattle.inode.specs.Shape.{is_dir}
use Rattle.inode.specs.Places.{nlink_at}
use Rattle.inode_run.specs.declared.Spot.{Spot}
use Rattle.inode_run.specs.Judge.{ask}
use Rattle.inode_run.specs.Find.{typed, spot_of}
use Rattle.inode_run.proofs.FindLaws.{Named}
use Rattle.stages.specs.Stages.{in_order, both_out}
use Rattle.stages.proofs.StagesLaws.{Ready, at_names, at-lengths, both_then}
use Rattle.dirnames.specs.Names.{taken, short}
use Rattle.dirfile.specs.Block.{dir_of}
use Rattle.dirfile.specs.Seek.{Sought}
use Rattle.dirfile.proofs.BlockLaws.{dir-is, dir-named}
use Rattle.dirwalk.specs.Walk.{looked_out, lookup_dir, room_dir}
use Rattle.dirjudge.specs.Judge.{link_end, link_tail}
use Rattle.dirjudge.proofs.DirLaws.{OnDir, at-directory, at-ready}
use Rattle.mknod_judge.specs.Make.{absent_out, raise_out, stages_in, make_stages}

-- ---- the name looked for

-- as the code tests it: a name that is there already, and one that is not
pub name-there : (o : Option ℕ) {x : Sought ℕ} → looked_out (Ok o) ≡ x → {b : Bool} → b ≡ is_some o → b ≡ true → absent_out x ≡ refused Exists
name-there (Some i) q e f = ap absent_out (sym q)
name-there None q e f = absurd (let z : ◌≡◌ {A = ℕ} 0 1 = cc in let y : ⊥ = omega arith in y)

pub name-absent : (o : Option ℕ) {x : Sought ℕ} → looked_out (Ok o) ≡ x → {b : Bool} → b ≡ is_some o → b ≡ false → absent_out x ≡ got (tt {0})
name-absent (Some i) q e f = absurd (let z : ◌≡◌ {A = ℕ} 0 1 = cc in let y : ⊥ = omega arith in y)
name-absent None q e f = ap absent_out (sym q)

-- ---- the parent's link count

-- as the code tests it, of a count that was read
pub raise-is : (geo : Geometry) (s : Spot) (img : List ℕ) (raises : Bool) (n : ℕ) → n ≡ nlink_at geo.order s.at img → (t : Bool) → (raises && eqb n 65535) ≡ t
    → raise_out geo s img raises ≡ ask (not t) TooManyLinks (got (tt {0}))
unfolding raise_out
raise-is geo s img raises n q t h = rw (← q, h)

-- where it can rise, what is left is what the room says
pub room-left : (geo : Geometry) (s : Spot) (img : List ℕ) (raises : Bool) → raise_out geo s img raises ≡ got (tt {0}) → {o : Out (Unit {0})} (x y : Sought ℕ) → x ≡ y
    → o ≡ both_out (link_end geo s.shape.size x) (link_tail geo s img x)
    → o ≡ both_out (raise_out geo s img raises) (both_out (link_end geo s.shape.size y) (link_tail geo s img y))
room-left geo s img raises f x y q e = e ∙ ap (λ (z : Sought ℕ). both_out (link_end geo s.shape.size z) (link_tail geo s img z)) q ∙ sym (both_then _ _ f)

-- ---- the stages

-- what is left to be judged in the directory whose record is s
abbrev pub judged_in : Geometry → List ℕ → List ℕ → Bool → Spot → Out (Unit {0})
judged_in geo img name raises s =
    both_out (absent_out (lookup_dir geo s.at s.shape.size img name))
    (both_out (raise_out geo s img raises)
    (both_out (link_end geo s.shape.size (room_dir geo s.at s.shape.size img (length name)))
    (link_tail geo s img (room_dir geo s.at s.shape.size img (length name)))))

module _ (geo : Geometry) (img : List ℕ) (d : ℕ) (name : List ℕ) (raises : Bool) where
  pub make-bad-name : taken true name ≡ false → in_order (make_stages geo img d name raises) ≡ refused Invalid
  unfolding make_stages stages_in
  make-bad-name h = at_names (make_stages geo img d name raises) h

  module _ (n : taken true name ≡ true) where
    pub make-long-name : short name ≡ false → in_order (make_stages geo img d name raises) ≡ refused NameTooLong
    unfolding make_stages stages_in
    make-long-name h = at-lengths (make_stages geo img d name raises) n h

    module _ (l : short name ≡ true) where
      make-on : OnDir geo img d (make_stages geo img d name raises)
      unfolding make_stages stages_in
      make-on = record { names = n; lengths = l; numbers = refl; untyped = λ t. t; other = λ t k. t; dirs = refl }

      pub make-no-dir : (e : Refusal) → dir_of geo img d ≡ refused e → in_order (make_stages geo img d name raises) ≡ refused e
      make-no-dir e h = at-directory geo img d (make_stages geo img d name raises) make-on e h

      make-ready : (s : Spot) → Named geo img d s → is_dir s.shape ≡ true → Ready (make_stages geo img d name raises)
      unfolding make_stages stages_in
      make-ready s a k =
          record {
            names = n;
            lengths = l;
            numbers = a.number;
            inodes = ap (λ (s : Spot). typed s.shape) (sym a.is) ∙ a.typed;
            dirs = ap (λ (s : Spot). is_dir s.shape) (sym a.is) ∙ k;
            files = refl;
            kinds = refl;
          }

      make-left : Ready (make_stages geo img d name raises) → in_order (make_stages geo img d name raises) ≡ judged_in geo img name raises (spot_of geo img d)
      unfolding make_stages stages_in both_out
      make-left r = at-ready (make_stages geo img d name raises) r

      pub make-in : Frame geo img → (s : Spot) → dir_of geo img d ≡ got s → in_order (make_stages geo img d name raises) ≡ judged_in geo img name raises s
      make-in fr s h =
          let a = dir-named geo img fr d s h in
          make-left (make-ready s a (dir-is geo img d s h).1) ∙ ap (judged_in geo img name raises) (sym a.is)
