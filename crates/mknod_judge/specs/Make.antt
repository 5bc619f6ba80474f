-- 01: what mknod and mkdir are judged by before any store. Assumes nothing: these are definitions.
use Rattle.std.specs.Prelude.{Bool, true, not, ◌&&◌, List, ℕ, length, eqb}
use Rattle.refusal.specs.declared.Refusal.TheVariants.{Damaged, Exists, TooManyLinks}
use Rattle.store.specs.Act.{Out, got, refused}
use Rattle.volume.specs.declared.Geometry.{Geometry}
use Rattle.inode.specs.Shape.{is_dir}
use Rattle.inode.specs.Places.{nlink_at}
use Rattle.inode_run.specs.declared.Spot.{Spot}
use Rattle.inode_run.specs.Judge.{ask}
use Rattle.inode_run.specs.Find.{number_ok, typed, spot_of}
use Rattle.stages.specs.Stages.{Stages}
use Rattle.dirnames.specs.Names.{taken, short}
use Rattle.dirfile.specs.Seek.{Sought, here, nowhere, hurt}
use Rattle.dirwalk.specs.Walk.{lookup_dir, room_dir}
use Rattle.dirjudge.specs.Judge.{link_end, link_tail}

-- "17: mknod, mkdir or rename without replace: target name found by lookup". The Rust never looked: a form sent again stood in the outbox twice.
abbrev pub absent_out : Sought ℕ → Out (Unit {0})
absent_out (here i) = refused Exists
absent_out nowhere = got (tt {0})
absent_out hurt = refused Damaged

-- "31: link count at 65,535 must rise": the parent's, by a new directory
unfoldable pub raise_out : Geometry → Spot → List ℕ → Bool → Out (Unit {0})
raise_out geo s img raises = ask (not (raises && eqb (nlink_at geo.order s.at img) 65535)) TooManyLinks (got (tt {0}))

-- a name made in directory d, whose record is s
unfoldable pub stages_in : Geometry → List ℕ → ℕ → List ℕ → Bool → Spot → Stages
stages_in geo img d name raises s =
    record {
      names = taken true name;
      lengths = short name;
      numbers = number_ok geo d;
      inodes = typed s.shape;
      dirs = is_dir s.shape;
      files = true;
      kinds = true;
      walk = got (tt {0});
      target = absent_out (lookup_dir geo s.at s.shape.size img name);
      empty = got (tt {0});
      links = raise_out geo s img raises;
      ends = link_end geo s.shape.size (room_dir geo s.at s.shape.size img (length name));
      tails = link_tail geo s img (room_dir geo s.at s.shape.size img (length name));
    }

unfoldable pub make_stages : Geometry → List ℕ → ℕ → List ℕ → Bool → Stages
make_stages geo img d name raises = stages_in geo img d name raises (spot_of geo img d)
