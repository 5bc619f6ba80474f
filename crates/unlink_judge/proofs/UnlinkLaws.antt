-- Laws of what unlink is judged by: one for each test, in 01's order. Assumes nothing.
use mathlib.Core.Path.{◌≡◌, refl, sym, ap, ◌∙◌}
use mathlib.Core.Bool.{Bool, true, false, ◌&&◌}
use mathlib.Core.List.{List}
use Prim.Native.Nat.{ℕ, ◌*◌, ◌<◌, ◌≤◌}
use native.Mathlib.Omega.{arith}
use borrow.Author.Tests.{lt-ltb}
use Rattle.bits.proofs.UptoLaws.{both}
use Rattle.refusal.specs.declared.Refusal.{Refusal}
use Rattle.refusal.specs.declared.Refusal.TheVariants.{Invalid, NameTooLong, Damaged, NoEntry}
use Rattle.store.specs.Act.{Out, got, refused}
use Rattle.volume.specs.declared.Geometry.{Geometry}
use Rattle.volume.specs.Volume.{inode_at}
use Rattle.frame.specs.Frame.{Frame}
use Rattle.inode.specs.Shape.{is_dir}
use Rattle.inode.specs.Places.{nlink_at}
use Rattle.inode_run.specs.declared.Spot.{Spot}
use Rattle.inode_run.specs.Judge.{ask}
use Rattle.inode_run.specs.Find.{number_ok, typed, spot_of, find_inode}
use Rattle.inode_run.proofs.FindLaws.{find-named, number-is}
use Rattle.stages.specs.Stages.{in_order, both_out}
use Rattle.stages.proofs.StagesLaws.{at_names, at-lengths, at-inodes}
use Rattle.dirnames.specs.Names.{taken, short}
use Rattle.dirfile.specs.Block.{dir_of}
use Rattle.dirfile.specs.Seek.{Sought, here, nowhere, hurt}
use Rattle.dirfile.proofs.BlockLaws.{dir-is, dir-named}
use Rattle.dirwalk.specs.declared.Hit.{Hit}
use Rattle.dirwalk.specs.Walk.{find_dir}
use Rattle.dirwalk.proofs.HereLaws.{find-here}
use Rattle.dirjudge.specs.Judge.{drop_end, drop_tail}
use Rattle.dirjudge.proofs.DirLaws.{OnDir, at-directory, at-ready}
use Rattle.unlink_judge.specs.Unlink.{there_out, hit_where, on_hit, in_dir_only, found_ok, fall_out, left_of, stages_of, unlink_stages}

-- ---- the inode that a record names

module _ (geo : Geometry) (img : List ℕ) (i : ℕ) where
  pub found-is : Frame geo img → (s : Spot) → find_inode geo img i ≡ got s → found_ok geo img i ≡ true
  unfolding found_ok
  found-is fr s h = let a = find-named geo img fr i s h in rw (a.number, ← a.is, a.typed)

  pub found-not : (e : Refusal) → find_inode geo img i ≡ refused e → found_ok geo img i ≡ false
  unfolding find_inode found_ok
  found-not e h = by (number_ok geo i) (typed (spot_of geo img i).shape) h where
    by : (n t : Bool) → ask n Invalid (ask t Invalid (got (spot_of geo img i))) ≡ refused e → (n && t) ≡ false
    by true true h = absurd (let z : ◌≡◌ {A = ℕ} 0 1 = cc in let y : ⊥ = omega arith in y)
    by true false h = refl
    by false t h = refl

  pub found_number : found_ok geo img i ≡ true → i < geo.ncg * geo.ipg
  unfolding found_ok
  found_number h = (number-is geo i (both (number_ok geo i) (typed (spot_of geo img i).shape) h).0).1

  -- its count, as it was read
  module _ (at n : ℕ) (p : at ≡ inode_at geo i) (q : n ≡ nlink_at geo.order at img) where
    pub fall-none : n ≡ 0 → fall_out geo img i ≡ refused Damaged
    unfolding fall_out
    fall-none z = rw (← p, ← q, z)

    pub fall-some : (n ≡ 0 → ⊥) → fall_out geo img i ≡ got (tt {0})
    unfolding fall_out
    fall-some f = rw (← p, ← q, lt-ltb 0 n (omega (arith, f)))

-- ---- the record that was found

-- a directory that a record was found in has a block
pub found-size : (geo : Geometry) (at size : ℕ) (img name : List ℕ) (h : Hit) → find_dir geo at size img name ≡ here h → 512 ≤ size
found-size geo at size img name h e = let q = (find-here geo at size img name h e).inside in omega (arith, q)

-- what is left to be judged, by what the search answered
module _ (geo : Geometry) (img : List ℕ) (size : ℕ) (u : Sought Hit) where
  pub left-nowhere : u ≡ nowhere → left_of geo img size u ≡ refused NoEntry
  unfolding both_out
  left-nowhere q = rw q

  pub left-hurt : u ≡ hurt → left_of geo img size u ≡ refused Damaged
  unfolding both_out
  left-hurt q = rw q

  module _ (h : Hit) (q : u ≡ here h) where
    pub left-bad : found_ok geo img h.inr ≡ false → left_of geo img size u ≡ refused Invalid
    left-bad f = rw (q, f)

    pub left-hit : found_ok geo img h.inr ≡ true → left_of geo img size u ≡ both_out (fall_out geo img h.inr) (both_out (drop_end geo size h) (drop_tail geo size h))
    unfolding both_out
    left-hit f = rw (q, f)

-- ---- the stages

module _ (geo : Geometry) (img : List ℕ) (d : ℕ) (name : List ℕ) where
  pub unlink-bad-name : taken false name ≡ false → in_order (unlink_stages geo img d name) ≡ refused Invalid
  unfolding unlink_stages stages_of
  unlink-bad-name h = at_names (unlink_stages geo img d name) h

  module _ (n : taken false name ≡ true) where
    pub unlink-long-name : short name ≡ false → in_order (unlink_stages geo img d name) ≡ refused NameTooLong
    unfolding unlink_stages stages_of
    unlink-long-name h = at-lengths (unlink_stages geo img d name) n h

    module _ (l : short name ≡ true) where
      unlink-on : OnDir geo img d (unlink_stages geo img d name)
      unfolding unlink_stages stages_of
      unlink-on = record { names = n; lengths = l; numbers = refl; untyped = λ t. rw t; other = λ t k. rw (t, k); dirs = refl }

      pub unlink-no-dir : (e : Refusal) → dir_of geo img d ≡ refused e → in_order (unlink_stages geo img d name) ≡ refused e
      unlink-no-dir e h = at-directory geo img d (unlink_stages geo img d name) unlink-on e h

      -- the record of that name in the directory whose record is s
      abbrev record_in : Spot → Sought Hit
      record_in s = find_dir geo s.at s.shape.size img name

      -- what is judged of it once its inode is one of the volume's
      abbrev rest : ℕ → Sought Hit → Out (Unit {0})
      rest size x = both_out (there_out x) (both_out (on_hit x (λ h. fall_out geo img h.inr)) (both_out (on_hit x (drop_end geo size)) (on_hit x (drop_tail geo size))))

      module _ (u : number_ok geo d ≡ true) (t : typed (spot_of geo img d).shape ≡ true) (k : is_dir (spot_of geo img d).shape ≡ true) where
        unlink-inode : (b : Bool) → hit_where (record_in (spot_of geo img d)) (λ h. found_ok geo img h.inr) ≡ b
            → in_order (unlink_stages geo img d name) ≡ left_of geo img (spot_of geo img d).shape.size (record_in (spot_of geo img d))
        unfolding unlink_stages stages_of both_out
        unlink-inode true e =
            at-ready (unlink_stages geo img d name)
            (record { names = n; lengths = l; numbers = u; inodes = rw (t, k, e); dirs = k; files = refl; kinds = refl })
            ∙ ap (λ b. rest (spot_of geo img d).shape.size (in_dir_only b (record_in (spot_of geo img d)))) k ∙ rw e
        unlink-inode false e = at-inodes (unlink_stages geo img d name) n l u (rw (t, k, e)) ∙ rw e

      pub unlink-in : Frame geo img → (s : Spot) → dir_of geo img d ≡ got s → in_order (unlink_stages geo img d name) ≡ left_of geo img s.shape.size (record_in s)
      unlink-in fr s h =
          let a = dir-named geo img fr d s h in
          unlink-inode a.number (ap (λ (s : Spot). typed s.shape) (sym a.is) ∙ a.typed) (ap (λ (s : Spot). is_dir s.shape) (sym a.is) ∙ (dir-is geo img d s h).1) _ refl
          ∙ ap (λ (s : Spot). left_of geo img s.shape.size (record_in s)) (sym a.is)
