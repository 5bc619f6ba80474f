-- 01: what rmdir is judged by before any store: "each is judged for every step the call would make, found inodes included, on what that step would meet". Assumes nothing: these are definitions.
use Rattle.std.specs.Prelude.{Bool, true, false, not, ◌&&◌, List, [], ◌∷◌, ℕ, ◌+◌, ◌-◌, ◌*◌, ◌<◌, eqb, ltb, leb, Result, Ok, Err}
use Rattle.field.specs.declared.Order.{Order}
use Rattle.refusal.specs.declared.Refusal.TheVariants.{Invalid, Damaged, NoEntry, NotEmpty}
use Rattle.store.specs.Act.{Out, got, refused}
use Rattle.volume.specs.declared.Geometry.{Geometry}
use Rattle.volume.specs.Volume.{inode_at}
use Rattle.inode.specs.Size.{pick}
use Rattle.inode.specs.Shape.{is_dir}
use Rattle.inode.specs.Places.{nlink_at}
use Rattle.inode_run.specs.declared.Spot.{Spot}
use Rattle.inode_run.specs.Judge.{ask, and_then}
use Rattle.inode_run.specs.Find.{number_ok, typed, spot_of}
use Rattle.stages.specs.Stages.{Stages}
use Rattle.dirnames.specs.Names.{taken, short}
use Rattle.dirblock.specs.declared.Unlinked.{Unlinked}
use Rattle.dirblock.specs.declared.Unlinked.TheVariants as Unlinked
use Rattle.dirblock.specs.Link.{unlink_in}
use Rattle.dirfile.specs.Block.{dir_block, dir_of}
use Rattle.dirfile.specs.Seek.{Sought, here, nowhere, hurt}
use Rattle.dirwalk.specs.declared.Hit.{Hit}
use Rattle.dirwalk.specs.Walk.{lookup_dir, find_dir}
use Rattle.dirother.specs.Other.{others_dir}
use Rattle.dirjudge.specs.Judge.{drop_end, drop_tail}
use Rattle.unlink_judge.specs.Unlink.{there_out, hit_where, on_hit, in_dir_only, found_ok, fall_out}
use Rattle.refusal.specs.Refusal.{damage}
use Rattle.refusal.specs.declared.Damage.{Damage}
use Rattle.refusal.specs.declared.Refusal.{Refusal}

-- ---- what the call finds

-- the two records that every directory has of its own
abbrev pub dot : List ℕ
dot = 46 ∷ []

abbrev pub dotdot : List ℕ
dotdot = 46 ∷ 46 ∷ []

-- a search in what was found; where nothing was, it is not made
abbrev pub sought_in : {A B : Type 0} → Sought A → (A → Sought B) → Sought B
sought_in (here a) f = f a
sought_in nowhere f = nowhere
sought_in hurt f = nowhere

-- the directory that is to go, by its name in directory d, as lookup finds it
unfoldable pub gone_in : Geometry → List ℕ → ℕ → List ℕ → Sought ℕ
gone_in geo img d name = in_dir_only (is_dir (spot_of geo img d).shape) (lookup_dir geo (spot_of geo img d).at (spot_of geo img d).shape.size img name)

-- the record that goes with it
unfoldable pub link_in : Geometry → List ℕ → ℕ → List ℕ → Sought Hit
link_in geo img d name = in_dir_only (is_dir (spot_of geo img d).shape) (find_dir geo (spot_of geo img d).at (spot_of geo img d).shape.size img name)

-- a record in the directory that is to go, where its inode is one of the volume's and a directory
unfoldable pub own_in : Geometry → List ℕ → Sought ℕ → List ℕ → Sought Hit
own_in geo img gone name =
    sought_in gone (λ i. in_dir_only (found_ok geo img i && is_dir (spot_of geo img i).shape) (find_dir geo (spot_of geo img i).at (spot_of geo img i).shape.size img name))

-- all of it
pub record Facts : Type 0 where
  pub gone : Sought ℕ
  pub link : Sought Hit
  pub up : Sought Hit  -- ".."
  pub own : Sought Hit  -- "."

unfoldable pub facts_of : Geometry → List ℕ → ℕ → List ℕ → Facts
facts_of geo img d name =
    record {
      gone = gone_in geo img d name;
      link = link_in geo img d name;
      up = own_in geo img (gone_in geo img d name) dotdot;
      own = own_in geo img (gone_in geo img d name) dot;
    }

-- ---- 22: the inodes

-- how often inode x falls where y does
abbrev pub falls : ℕ → ℕ → ℕ
falls x y = pick (eqb x y) 1 0

-- an inode whose links the call's own falls before this step used up is freed, and no longer there; one that has none to begin with is the counts' refusal
unfoldable pub remains : Geometry → List ℕ → ℕ → ℕ → Bool
remains geo img x n = not (ltb 0 (nlink_at geo.order (inode_at geo x) img) && leb (nlink_at geo.order (inode_at geo x) img) n)

-- in step order: ".." falls, the directory i is read, "." falls, the directory falls
unfoldable pub remain_all : Geometry → List ℕ → ℕ → ℕ → ℕ → Bool
remain_all geo img i up own = remains geo img i (falls i up) && remains geo img own (falls own up) && remains geo img i (falls i up + falls i own)

-- the inodes of ".." and ".", and where both were found, that none is met after it went
unfoldable pub own_ok : Geometry → List ℕ → ℕ → Sought Hit → Sought Hit → Bool
own_ok geo img i up own =
    hit_where up (λ q. found_ok geo img q.inr) && (hit_where own (λ c. found_ok geo img c.inr)
    && hit_where up (λ q. hit_where own (λ c. remain_all geo img i q.inr c.inr)))

-- ---- 97 and 2: the walks

-- the record that goes must be that of the inode that lookup found: a whiteout of its name may stand before it
abbrev pub same_out : ℕ → Sought Hit → Out (Unit {0})
same_out i (here v) = ask (eqb v.inr i) Damaged (got (tt {0}))
same_out i nowhere = refused Damaged
same_out i hurt = refused Damaged

-- "66: rmdir of a non-empty directory"
abbrev pub empty_out : Sought (Unit {0}) → Out (Unit {0})
empty_out (here x) = refused NotEmpty
empty_out nowhere = got (tt {0})
empty_out hurt = refused Damaged

-- ---- 97: the counts, in step order

unfoldable pub counts_out : Geometry → List ℕ → ℕ → ℕ → ℕ → Out (Unit {0})
counts_out geo img i up own = and_then (fall_out geo img up) (λ _. and_then (fall_out geo img own) (λ _. fall_out geo img i))

-- ---- 27 and 45, in step order: the name goes, then "..", then ".", which meets what ".." left

abbrev pub is_alone : Result Unlinked Damage → Bool
is_alone (Ok (Unlinked.Done i)) = false
is_alone (Ok (Unlinked.Alone i)) = true
is_alone (Ok Unlinked.Absent) = false
is_alone (Err harm) = false

-- whether "." stands alone in a block that ".." was unlinked from
abbrev pub alone_in : Order → Out (List ℕ) → Bool
alone_in o (got b) = is_alone (unlink_in o (unlink_in o b dotdot).0 dot).1
alone_in o (refused e) = false

-- "." of directory e after ".." went: changed only where both share a block
unfoldable pub own_after : Geometry → List ℕ → Spot → Hit → Hit → Hit
own_after geo img e up own =
    record {
      block = own.block;
      inr = own.inr;
      alone = pick (not up.alone && eqb up.block own.block) (alone_in geo.order (dir_block geo e.at e.shape.size img own.block)) own.alone;
    }

-- where ".." stood alone, its block went
abbrev pub size_after : ℕ → Hit → ℕ
size_after size up = pick up.alone (size - 512) size

-- one test of all three steps: directory d has that size, e is the directory that is to go
unfoldable pub drops_out : (Geometry → ℕ → Hit → Out (Unit {0})) → Geometry → List ℕ → ℕ → Spot → Hit → Hit → Hit → Out (Unit {0})
drops_out drop geo img size e link up own =
    and_then (drop geo size link) (λ _. and_then (drop geo e.shape.size up) (λ _. drop geo (size_after e.shape.size up) (own_after geo img e up own)))

-- ---- the stages

unfoldable pub stages_of : Geometry → List ℕ → ℕ → List ℕ → Facts → Stages
stages_of geo img d name f =
    record {
      names = taken true name;
      lengths = short name;
      numbers = number_ok geo d;
      inodes = typed (spot_of geo img d).shape && hit_where f.gone (λ i. found_ok geo img i && own_ok geo img i f.up f.own);
      dirs = is_dir (spot_of geo img d).shape && hit_where f.gone (λ i. is_dir (spot_of geo img i).shape);
      files = true;
      kinds = true;
      walk = and_then (there_out f.gone) (λ _. and_then (on_hit f.gone (λ i. same_out i f.link)) (λ _. and_then (there_out f.up) (λ _. there_out f.own)));
      target = got (tt {0});
      empty = on_hit f.gone (λ i. empty_out (others_dir geo (spot_of geo img i).at (spot_of geo img i).shape.size img));
      links = on_hit f.gone (λ i. on_hit f.up (λ q. on_hit f.own (λ c. counts_out geo img i q.inr c.inr)));
      ends = on_hit f.gone (λ i. on_hit f.link (λ v. on_hit f.up (λ q. on_hit f.own (drops_out drop_end geo img (spot_of geo img d).shape.size (spot_of geo img i) v q))));
      tails = on_hit f.gone (λ i. on_hit f.link (λ v. on_hit f.up (λ q. on_hit f.own (drops_out drop_tail geo img (spot_of geo img d).shape.size (spot_of geo img i) v q))));
    }

unfoldable pub rmdir_stages : Geometry → List ℕ → ℕ → List ℕ → Stages
rmdir_stages geo img d name = stages_of geo img d name (facts_of geo img d name)

-- ---- what the code is handed

-- inodes of the volume: the directory's, its ".." and its "."
pub record Numbers (geo : Geometry) (i q c : ℕ) : Type 0 where
  pub gone : i < geo.ncg * geo.ipg
  pub up : q < geo.ncg * geo.ipg
  pub own : c < geo.ncg * geo.ipg

-- ---- the same, as the code goes through it

-- every record was found: 66, the counts, 27 and 45
unfoldable pub hits_out : Geometry → List ℕ → ℕ → Spot → ℕ → Hit → Hit → Hit → Out (Unit {0})
hits_out geo img size e i link up own =
    and_then (empty_out (others_dir geo e.at e.shape.size img)) (λ _. and_then (counts_out geo img i up.inr own.inr)
    (λ _. and_then (drops_out drop_end geo img size e link up own) (λ _. drops_out drop_tail geo img size e link up own)))

-- the walks, and what they found
abbrev pub walks_out : Geometry → List ℕ → ℕ → Spot → ℕ → Sought Hit → Sought Hit → Sought Hit → Out (Unit {0})
walks_out geo img size e i (here v) (here q) (here c) = ask (eqb v.inr i) Damaged (hits_out geo img size e i v q c)
walks_out geo img size e i (here v) (here q) nowhere = ask (eqb v.inr i) Damaged (refused NoEntry)
walks_out geo img size e i (here v) (here q) hurt = refused Damaged
walks_out geo img size e i (here v) nowhere own = ask (eqb v.inr i) Damaged (refused NoEntry)
walks_out geo img size e i (here v) hurt own = refused Damaged
walks_out geo img size e i nowhere up own = refused Damaged
walks_out geo img size e i hurt up own = refused Damaged

-- e, the directory that is to go, in the directory s
unfoldable pub dirs_out : Geometry → List ℕ → Spot → Spot → ℕ → List ℕ → Out (Unit {0})
dirs_out geo img s e i name =
    ask (own_ok geo img i (find_dir geo e.at e.shape.size img dotdot) (find_dir geo e.at e.shape.size img dot)) Invalid
    (walks_out geo img s.shape.size e i (find_dir geo s.at s.shape.size img name) (find_dir geo e.at e.shape.size img dotdot) (find_dir geo e.at e.shape.size img dot))

-- the inode that its name leads to: 22, then 20
unfoldable pub found_out : Geometry → List ℕ → Spot → ℕ → List ℕ → Out (Unit {0})
found_out geo img s i name = and_then (dir_of geo img i) (λ e. dirs_out geo img s e i name)

-- its name in the directory s
abbrev pub gone_out : Geometry → List ℕ → Spot → List ℕ → Sought ℕ → Out (Unit {0})
gone_out geo img s name (here i) = found_out geo img s i name
gone_out geo img s name nowhere = refused NoEntry
gone_out geo img s name hurt = refused Damaged

-- ---- the code's answer

abbrev pub removal_of : Sought ℕ → Out (Unit {0}) → Result ℕ Refusal
removal_of (here i) (got x) = Ok i
removal_of (here i) (refused e) = Err e
removal_of nowhere (got x) = Err NoEntry
removal_of nowhere (refused e) = Err e
removal_of hurt (got x) = Err Damaged
removal_of hurt (refused e) = Err e
