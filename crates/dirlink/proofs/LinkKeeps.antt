-- Linking a name into a directory and unlinking one keep the layout, at every cut; so what they leave can be worked on. Assumes nothing.
use mathlib.Core.Path.{◌≡◌, refl}
use mathlib.Core.List.{List}
use Prim.Native.Nat.{ℕ}
use lib.ListN.{length}
use Rattle.refusal.specs.declared.Refusal.TheVariants.{Damaged}
use Rattle.store.specs.Act.{Out, got, refused, Act, Always, leaves}
use Rattle.store.proofs.AlwaysLaws.{always-refuse}
use Rattle.volume.specs.declared.Geometry.{Geometry}
use Rattle.frame.specs.Frame.{Frame}
use Rattle.inode_run.specs.declared.Spot.{Spot}
use Rattle.books.specs.Books.{Steady}
use Rattle.books.specs.Work.{damaged_out, given}
use Rattle.books.proofs.KeepLaws.{Keeps, keeps-pure, keeps-refuse, keeps-bind, keeps-choose, keeps-read, kept-left}
use Rattle.inode_setblock.specs.Set.{InTable}
use Rattle.inode_setblock.proofs.SetKeeps.{always_reads}
use Rattle.inode_write.proofs.CallLaws.{in_table}
use Rattle.dirfile.specs.Block.{dir_of}
use Rattle.dirfile.specs.Seek.{Sought, here, nowhere, hurt}
use Rattle.dirfile.proofs.BlockLaws.{dir-named}
use Rattle.dirwalk.specs.declared.Hit.{Hit}
use Rattle.dirwalk.specs.Walk.{find_dir, room_dir}
use Rattle.dirwrite.proofs.WriteKeeps.{keeps-link, keeps-unlink, keeps-grown, keeps-drop}
use Rattle.dirlink.specs.Link.{link_by, link_into, link_name, take_hit, unlink_hit, unlink_by, unlink_from, unlink_name}

module _ (geo : Geometry) where
  -- ---- of a directory that is found

  module _ (s : Spot) (t : InTable geo s.at) where
    module _ (inr kind : ℕ) (name : List ℕ) where
      keeps-link-by : (r : Sought ℕ) → Keeps geo (link_by geo s inr kind name r)
      keeps-link-by (here k) = keeps-link geo s.at t s.shape.size k inr kind name
      keeps-link-by nowhere = keeps-grown geo s t inr kind name
      keeps-link-by hurt = keeps-refuse geo (Unit {0}) Damaged

      pub keeps-link-into : Keeps geo (link_into geo s inr kind name)
      unfolding link_into
      keeps-link-into =
          keeps-read geo (λ x. link_by geo s inr kind name (room_dir geo s.at s.shape.size x (length name)))
          (λ x. keeps-link-by (room_dir geo s.at s.shape.size x (length name)))

    module _ (d : ℕ) (name : List ℕ) where
      pub keeps-take-hit : (h : Hit) → Keeps geo (take_hit geo d s name h)
      unfolding take_hit
      keeps-take-hit h = keeps-choose geo h.alone (keeps-drop geo d s.at t s.shape.size h.block) (keeps-unlink geo s.at t s.shape.size h.block name)

      pub keeps-unlink-hit : (h : Hit) → Keeps geo (unlink_hit geo d s name h)
      unfolding unlink_hit
      keeps-unlink-hit h = keeps-bind geo (keeps-take-hit h) (λ _. keeps-pure geo h.inr)

      keeps-unlink-by : (r : Sought Hit) → Keeps geo (unlink_by geo d s name r)
      keeps-unlink-by (here h) = keeps-unlink-hit h
      keeps-unlink-by nowhere = keeps-refuse geo ℕ Damaged
      keeps-unlink-by hurt = keeps-refuse geo ℕ Damaged

      pub keeps-unlink-from : Keeps geo (unlink_from geo d s name)
      unfolding unlink_from
      keeps-unlink-from =
          keeps-read geo (λ x. unlink_by geo d s name (find_dir geo s.at s.shape.size x name))
          (λ x. keeps-unlink-by (find_dir geo s.at s.shape.size x name))

  -- ---- of the directory that a number names

  module _ (d : ℕ) where
    keeps-in : {B : Type 0} (f : Spot → Act B) → ((s : Spot) → InTable geo s.at → Keeps geo (f s)) → Keeps geo (λ img. given (damaged_out (dir_of geo img d)) f img)
    keeps-in {B} f p start img st = always_reads (λ x. given (damaged_out (dir_of geo x d)) f) (go (dir_of geo img d) refl)
      where
        go : (o : Out Spot) → dir_of geo img d ≡ o → Always (Steady geo start) (given (damaged_out o) f) img
        go (got s) e = p s (in_table geo img d s.at (dir-named geo img st.frame d s e).place) start img st
        go (refused r) e = always-refuse B Damaged st

    module _ (inr kind : ℕ) (name : List ℕ) where
      pub keeps-link-name : Keeps geo (link_name geo d inr kind name)
      unfolding link_name
      keeps-link-name = keeps-in (λ s. link_into geo s inr kind name) (λ s t. keeps-link-into s t inr kind name)

      module _ (img : List ℕ) (fr : Frame geo img) where
        pub link-frame : Frame geo (leaves (link_name geo d inr kind name) img).0
        link-frame = (kept-left geo keeps-link-name fr refl).frame

        pub link-length : length (leaves (link_name geo d inr kind name) img).0 ≡ length img
        link-length = (kept-left geo keeps-link-name fr refl).long

    module _ (name : List ℕ) where
      pub keeps-unlink-name : Keeps geo (unlink_name geo d name)
      unfolding unlink_name
      keeps-unlink-name = keeps-in (λ s. unlink_from geo d s name) (λ s t. keeps-unlink-from s t d name)

      module _ (img : List ℕ) (fr : Frame geo img) where
        pub unlink-frame : Frame geo (leaves (unlink_name geo d name) img).0
        unlink-frame = (kept-left geo keeps-unlink-name fr refl).frame

        pub unlink-length : length (leaves (unlink_name geo d name) img).0 ≡ length img
        unlink-length = (kept-left geo keeps-unlink-name fr refl).long
