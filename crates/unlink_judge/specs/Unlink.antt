-- 01: what unlink is judged by before any store. Assumes nothing: these are definitions.
use Rattle.std.specs.Prelude.{Bool, true, false, ◌&&◌, List, ℕ, ltb}
use Rattle.refusal.specs.declared.Refusal.TheVariants.{Invalid, Damaged, NoEntry}
use Rattle.store.specs.Act.{Out, got, refused}
use Rattle.volume.specs.declared.Geometry.{Geometry}
use Rattle.volume.specs.Volume.{inode_at}
use Rattle.inode.specs.Shape.{is_dir}
use Rattle.inode.specs.Places.{nlink_at}
use Rattle.inode_run.specs.declared.Spot.{Spot}
use Rattle.inode_run.specs.Judge.{ask}
use Rattle.inode_run.specs.Find.{number_ok, typed, spot_of}
use Rattle.stages.specs.Stages.{Stages, both_out}
use Rattle.dirnames.specs.Names.{taken, short}
use Rattle.dirfile.specs.Seek.{Sought, here, nowhere, hurt}
use Rattle.dirwalk.specs.declared.Hit.{Hit}
use Rattle.dirwalk.specs.Walk.{find_dir}
use Rattle.dirjudge.specs.Judge.{drop_end, drop_tail}

-- "2: name not in directory"
abbrev pub there_out : {A : Type 0} → Sought A → Out (Unit {0})
there_out (here a) = got (tt {0})
there_out nowhere = refused NoEntry
there_out hurt = refused Damaged

-- a test of what was found; where nothing was, it is not made
abbrev pub hit_where : {A : Type 0} → Sought A → (A → Bool) → Bool
hit_where (here a) p = p a
hit_where nowhere p = true
hit_where hurt p = true

abbrev pub on_hit : {A : Type 0} → Sought A → (A → Out (Unit {0})) → Out (Unit {0})
on_hit (here a) f = f a
on_hit nowhere f = got (tt {0})
on_hit hurt f = got (tt {0})

-- what is sought in an inode that is no directory is not there
abbrev pub in_dir_only : {A : Type 0} → Bool → Sought A → Sought A
in_dir_only true s = s
in_dir_only false s = nowhere

-- "inode number 0 or >= ncg * ipg", "inode mode type 0": of an inode that was found
unfoldable pub found_ok : Geometry → List ℕ → ℕ → Bool
found_ok geo img i = number_ok geo i && typed (spot_of geo img i).shape

-- "97 for a count of 0 that must fall"
unfoldable pub fall_out : Geometry → List ℕ → ℕ → Out (Unit {0})
fall_out geo img i = ask (ltb 0 (nlink_at geo.order (inode_at geo i) img)) Damaged (got (tt {0}))

-- what is left to be judged in a directory of that size, of the record u of that name in it: its inode (22), 2, its count, 27, 45
abbrev pub left_of : Geometry → List ℕ → ℕ → Sought Hit → Out (Unit {0})
left_of geo img size u =
    ask (hit_where u (λ h. found_ok geo img h.inr)) Invalid
    (both_out (there_out u) (both_out (on_hit u (λ h. fall_out geo img h.inr)) (both_out (on_hit u (drop_end geo size)) (on_hit u (drop_tail geo size)))))

-- of directory d, whose record is s, and of the record u of that name in it
unfoldable pub stages_of : Geometry → List ℕ → ℕ → List ℕ → Spot → Sought Hit → Stages
stages_of geo img d name s u =
    record {
      names = taken false name;
      lengths = short name;
      numbers = number_ok geo d;
      inodes = typed s.shape && hit_where u (λ h. found_ok geo img h.inr);
      dirs = is_dir s.shape;
      files = true;
      kinds = true;
      walk = there_out u;
      target = got (tt {0});
      empty = got (tt {0});
      links = on_hit u (λ h. fall_out geo img h.inr);
      ends = on_hit u (drop_end geo s.shape.size);
      tails = on_hit u (drop_tail geo s.shape.size);
    }

unfoldable pub unlink_stages : Geometry → List ℕ → ℕ → List ℕ → Stages
unlink_stages geo img d name =
    stages_of geo img d name (spot_of geo img d)
    (in_dir_only (is_dir (spot_of geo img d).shape) (find_dir geo (spot_of geo img d).at (spot_of geo img d).shape.size img name))
