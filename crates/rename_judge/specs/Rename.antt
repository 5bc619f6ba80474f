-- 01: what rename is judged by before any store: "each is judged for every step the call would make, found inodes included, on what that step would meet". Assumes nothing: these are definitions.
use Rattle.std.specs.Prelude.{◌≡◌, Bool, true, false, not, ◌&&◌, ◌||◌, List, ℕ, ◌-◌, ◌/◌, ◌%◌, ◌≤◌, length, eqb, ltb, Option, Some, None, Result, Ok, Err}
use Rattle.refusal.specs.declared.Refusal.TheVariants.{Invalid, Damaged, NotDirectory, IsDirectory, TooManyLinks, NotSupported}
use Rattle.store.specs.Act.{Out, got, refused}
use Rattle.volume.specs.declared.Geometry.{Geometry}
use Rattle.volume.specs.Volume.{inode_at}
use Rattle.inode.specs.Shape.{type_of, is_dir}
use Rattle.inode.specs.Kind.{kind_of}
use Rattle.inode.specs.Places.{nlink_at}
use Rattle.inode_run.specs.declared.Spot.{Spot}
use Rattle.inode_run.specs.Judge.{ask}
use Rattle.inode_run.specs.Find.{number_ok, typed, spot_of}
use Rattle.inode_grow.specs.Grow.{tail_short}
use Rattle.stages.specs.Stages.{Stages, in_order, both_out}
use Rattle.dirnames.specs.Names.{taken, short}
use Rattle.dirblock.specs.Search.{same_name, room_in}
use Rattle.dirfile.specs.Block.{dir_block}
use Rattle.dirfile.specs.Seek.{Sought, here, nowhere, hurt, seek_from, in_block, whole_only}
use Rattle.dirwalk.specs.declared.Hit.{Hit}
use Rattle.dirwalk.specs.Walk.{lookup_dir, find_dir, roomy_in, room_dir, looked_out, seen_out}
use Rattle.dirjudge.specs.Judge.{link_end, link_tail, drop_end, drop_tail}
use Rattle.mknod_judge.specs.Make.{absent_out}
use Rattle.unlink_judge.specs.Unlink.{there_out, hit_where, on_hit, in_dir_only, found_ok, fall_out}
use Rattle.rename_judge.specs.declared.Met.{Met}
use Rattle.rename_judge.specs.declared.Verdict.{Verdict}
use Rattle.rename_judge.specs.declared.Verdict.TheVariants as Verdict
use Rattle.inode.specs.declared.InodeType.{InodeType}
use Rattle.refusal.specs.declared.Refusal.{Refusal}

-- ---- what the call finds

-- the names asked for: in directory `to` the new one, in directory `from` the old one
pub record Asked : Type 0 where
  pub to : ℕ
  pub new : List ℕ
  pub from : ℕ
  pub old : List ℕ
  pub replace : Bool

-- "Same directory and name: nothing stored"
unfoldable pub same : Asked → Bool
same a = eqb a.to a.from && same_name a.new a.old

-- in the inode s, where it is a directory: a name as lookup finds it, and the record of that name, whiteouts too
abbrev pub inode_in : Geometry → List ℕ → Spot → List ℕ → Sought ℕ
inode_in geo img s name = in_dir_only (is_dir s.shape) (lookup_dir geo s.at s.shape.size img name)

abbrev pub record_in : Geometry → List ℕ → Spot → List ℕ → Sought Hit
record_in geo img s name = in_dir_only (is_dir s.shape) (find_dir geo s.at s.shape.size img name)

abbrev pub inode_of_hit : Sought Hit → Sought ℕ
inode_of_hit (here h) = here h.inr
inode_of_hit nowhere = nowhere
inode_of_hit hurt = hurt

abbrev pub either_sought : {A : Type 0} → Bool → Sought A → Sought A → Sought A
either_sought true x y = x
either_sought false x y = y

pub record Facts : Type 0 where
  pub moved : Sought ℕ  -- the file by its old name
  pub source : Sought Hit  -- the record that is to go: it is another inode's only if a whiteout of that name stands first
  pub target : Sought Hit  -- with replace, the record that goes before
  pub way : Sought ℕ  -- the inode that has the new name: with replace as unlink finds it, without as lookup does

-- the directories are `to` and `from`
unfoldable pub facts_in : Geometry → List ℕ → Spot → Spot → List ℕ → List ℕ → Bool → Facts
facts_in geo img to from new old replace =
    record {
      moved = inode_in geo img from old;
      source = record_in geo img from old;
      target = either_sought replace (record_in geo img to new) nowhere;
      way = either_sought replace (inode_of_hit (record_in geo img to new)) (inode_in geo img to new);
    }

abbrev pub facts_of : Geometry → List ℕ → Asked → Facts
facts_of geo img a = facts_in geo img (spot_of geo img a.to) (spot_of geo img a.from) a.new a.old a.replace

-- ---- the tests of a stage over all steps

-- the count that is stored in inode i
abbrev pub links_of : Geometry → List ℕ → ℕ → ℕ
links_of geo img i = nlink_at geo.order (inode_at geo i) img

abbrev pub is_file : Geometry → List ℕ → ℕ → Bool
is_file geo img i = not (is_dir (spot_of geo img i).shape)

abbrev pub is_named : Option InodeType → Bool
is_named (Some k) = true
is_named None = false

abbrev pub has_kind : Geometry → List ℕ → ℕ → Bool
has_kind geo img i = is_named (kind_of (type_of (spot_of geo img i).shape.mode))

abbrev pub hit_ok : Geometry → List ℕ → Hit → Bool
hit_ok geo img h = found_ok geo img h.inr

-- inode t, which the first step would free, is not there for the later ones: the moved file i, both directories, the old record's w
unfoldable pub freed_first : Geometry → List ℕ → ℕ → ℕ → ℕ → ℕ → ℕ → Bool
freed_first geo img to from t i w = eqb (links_of geo img t) 1 && (eqb t i || eqb t to || eqb t from || eqb t w)

abbrev pub not_freed : Geometry → List ℕ → ℕ → ℕ → Facts → Bool
not_freed geo img to from f = hit_where f.target (λ t. hit_where f.moved (λ i. hit_where f.source (λ w. not (freed_first geo img to from t.inr i w.inr))))

-- the directories and the moved file
unfoldable pub own_ok : Geometry → List ℕ → Spot → Spot → Sought ℕ → Bool
own_ok geo img to from moved = typed from.shape && typed to.shape && hit_where moved (found_ok geo img)

-- the inodes of the old record and of what stands in the way, which are not looked at where both names are the same
unfoldable pub others_ok : Geometry → List ℕ → ℕ → ℕ → Facts → Bool
others_ok geo img to from f = hit_where f.source (hit_ok geo img) && hit_where f.way (found_ok geo img) && not_freed geo img to from f

-- damage on the way is 97, an absent name is none
abbrev pub unhurt : {A : Type 0} → Sought A → Out (Unit {0})
unhurt (here x) = got (tt {0})
unhurt nowhere = got (tt {0})
unhurt hurt = refused Damaged

abbrev pub walk_out : Facts → Out (Unit {0})
walk_out f = both_out (there_out f.moved) (both_out (unhurt f.source) (unhurt f.target))

-- "17: .. rename without replace: target name found by lookup". The Rust looked up the source.
abbrev pub untaken : Bool → Sought ℕ → Out (Unit {0})
untaken true way = got (tt {0})
untaken false way = absent_out way

-- ---- 31 and 97: the counts, in step order

-- what stands in the way falls, with replace
abbrev pub way_falls : Geometry → List ℕ → Sought Hit → Out (Unit {0})
way_falls geo img target = on_hit target (λ t. fall_out geo img t.inr)

abbrev pub is_of : ℕ → Sought Hit → Bool
is_of i (here h) = eqb h.inr i
is_of i nowhere = false
is_of i hurt = false

-- the moved file rises; one link fewer if it stood in the way itself
abbrev pub rises_out : Geometry → List ℕ → Sought Hit → ℕ → Out (Unit {0})
rises_out geo img target i = ask (not (eqb (links_of geo img i) 65535) || is_of i target) TooManyLinks (got (tt {0}))

-- the old record's inode falls; it is the moved file's own, which rose before, or has a link
abbrev pub source_falls : Geometry → List ℕ → ℕ → Hit → Out (Unit {0})
source_falls geo img i w = ask (eqb w.inr i || ltb 0 (links_of geo img w.inr)) Damaged (got (tt {0}))

abbrev pub counts_out : Geometry → List ℕ → Facts → Out (Unit {0})
counts_out geo img f =
    both_out (way_falls geo img f.target)
    (on_hit f.moved (λ i. both_out (rises_out geo img f.target i) (on_hit f.source (source_falls geo img i))))

-- ---- 27 and 45, in step order: the name in the way goes, the new one is linked, the old one goes

-- room among the blocks but block j, which goes first
abbrev pub rooms_but : Geometry → ℕ → ℕ → List ℕ → ℕ → ℕ → ℕ → Sought ℕ
rooms_but geo at size img n j k = either_sought (eqb k j) nowhere (in_block (dir_block geo at size img k) (λ b. roomy_in k (room_in geo.order b n)))

unfoldable pub room_but : Geometry → ℕ → ℕ → List ℕ → ℕ → ℕ → Sought ℕ
room_but geo at size img n j = whole_only (eqb (size % 512) 0) (seek_from (rooms_but geo at size img n j) (size / 512) 0)

-- where the record in the way shared its block, there is room now; where it stood alone, its block goes
abbrev pub room_after : Geometry → Spot → List ℕ → ℕ → Hit → Sought ℕ
room_after geo s img n h = either_sought h.alone (room_but geo s.at s.shape.size img n h.block) (here h.block)

-- room for a name of n bytes in the directory s, once the record in the way went
abbrev pub room_then : Geometry → Spot → List ℕ → ℕ → Sought Hit → Sought ℕ
room_then geo s img n (here h) = room_after geo s img n h
room_then geo s img n nowhere = room_dir geo s.at s.shape.size img n
room_then geo s img n hurt = room_dir geo s.at s.shape.size img n

-- and its size then
abbrev pub shorter : Bool → ℕ → ℕ
shorter true size = size - 512
shorter false size = size

abbrev pub size_then : ℕ → Sought Hit → ℕ
size_then size (here h) = shorter h.alone size
size_then size nowhere = size
size_then size hurt = size

abbrev pub link_ends : Geometry → ℕ → Sought Hit → Sought ℕ → Out (Unit {0})
link_ends geo size target room = both_out (on_hit target (drop_end geo size)) (link_end geo (size_then size target) room)

-- the tail that is left always has an address
abbrev pub tail_after : Geometry → ℕ → Bool → Sought ℕ → Out (Unit {0})
tail_after geo size false room = got (tt {0})
tail_after geo size true (here k) = got (tt {0})
tail_after geo size true nowhere = ask (not (tail_short geo (size - 512) size)) NotSupported (got (tt {0}))
tail_after geo size true hurt = got (tt {0})

abbrev pub tail_left : Geometry → Spot → List ℕ → Sought Hit → Sought ℕ → Out (Unit {0})
tail_left geo s img (here h) room = tail_after geo s.shape.size h.alone room
tail_left geo s img nowhere room = link_tail geo s img room
tail_left geo s img hurt room = link_tail geo s img room

abbrev pub link_tails : Geometry → Spot → List ℕ → Sought Hit → Sought ℕ → Out (Unit {0})
link_tails geo s img target room = both_out (on_hit target (drop_tail geo s.shape.size)) (tail_left geo s img target room)

-- all steps, the directories being `to` and one of size `old`
abbrev pub ends_out : Geometry → ℕ → ℕ → Sought Hit → Sought Hit → Sought ℕ → Out (Unit {0})
ends_out geo size old source target room = both_out (link_ends geo size target room) (on_hit source (drop_end geo old))

abbrev pub tails_out : Geometry → List ℕ → Spot → ℕ → Sought Hit → Sought Hit → Sought ℕ → Out (Unit {0})
tails_out geo img to old source target room = both_out (link_tails geo to img target room) (on_hit source (drop_tail geo old))

-- ---- the stages, the directories being `to` and `from`

-- the old name alone: all that is asked where both names are the same
unfoldable pub own_stages : Geometry → List ℕ → Asked → Spot → Spot → Sought ℕ → Stages
own_stages geo img a to from moved =
    record {
      names = taken true a.new && taken true a.old;
      lengths = short a.new && short a.old;
      numbers = number_ok geo a.from && number_ok geo a.to;
      inodes = own_ok geo img to from moved;
      dirs = is_dir from.shape && is_dir to.shape;
      files = hit_where moved (is_file geo img);
      kinds = hit_where moved (has_kind geo img);
      walk = there_out moved;
      target = got (tt {0});
      empty = got (tt {0});
      links = got (tt {0});
      ends = got (tt {0});
      tails = got (tt {0});
    }

unfoldable pub moving_stages : Geometry → List ℕ → Asked → Spot → Spot → Facts → Stages
moving_stages geo img a to from f =
    record {
      names = taken true a.new && taken true a.old;
      lengths = short a.new && short a.old;
      numbers = number_ok geo a.from && number_ok geo a.to;
      inodes = own_ok geo img to from f.moved && others_ok geo img a.to a.from f;
      dirs = is_dir from.shape && is_dir to.shape;
      files = hit_where f.moved (is_file geo img) && hit_where f.way (is_file geo img);
      kinds = hit_where f.moved (has_kind geo img);
      walk = walk_out f;
      target = untaken a.replace f.way;
      empty = got (tt {0});
      links = counts_out geo img f;
      ends = ends_out geo to.shape.size from.shape.size f.source f.target (room_then geo to img (length a.new) f.target);
      tails = tails_out geo img to from.shape.size f.source f.target (room_then geo to img (length a.new) f.target);
    }

abbrev pub stages_by : Bool → Stages → Stages → Stages
stages_by true own moving = own
stages_by false own moving = moving

unfoldable pub rename_stages : Geometry → List ℕ → Asked → Stages
rename_stages geo img a =
    stages_by (same a) (own_stages geo img a (spot_of geo img a.to) (spot_of geo img a.from) (facts_of geo img a).moved)
    (moving_stages geo img a (spot_of geo img a.to) (spot_of geo img a.from) (facts_of geo img a))

-- ---- the same, behind the names and numbers, in the order in which the code goes through it

unfoldable pub tests : Bool → Bool → Bool → Bool → Out (Unit {0}) → Out (Unit {0})
tests inodes dirs files kinds next = ask inodes Invalid (ask dirs NotDirectory (ask files IsDirectory (ask kinds Damaged next)))

abbrev pub own_out : Geometry → List ℕ → Spot → Spot → Sought ℕ → Out (Unit {0})
own_out geo img to from moved =
    tests (own_ok geo img to from moved) (is_dir from.shape && is_dir to.shape) (hit_where moved (is_file geo img)) (hit_where moved (has_kind geo img)) (there_out moved)

-- 27 and 45 of a name of n bytes
abbrev pub room_out : Geometry → List ℕ → Spot → ℕ → ℕ → Sought Hit → Sought Hit → Out (Unit {0})
room_out geo img to old n source target =
    both_out (ends_out geo to.shape.size old source target (room_then geo to img n target))
    (tails_out geo img to old source target (room_then geo to img n target))

abbrev pub late_out : Geometry → List ℕ → Spot → ℕ → ℕ → Bool → Facts → Out (Unit {0})
late_out geo img to old n replace f =
    both_out (walk_out f) (both_out (untaken replace f.way) (both_out (counts_out geo img f) (room_out geo img to old n f.source f.target)))

abbrev pub moving_out : Geometry → List ℕ → ℕ → ℕ → Spot → Spot → ℕ → Bool → Facts → Out (Unit {0})
moving_out geo img dd sd to from n replace f =
    tests (own_ok geo img to from f.moved && others_ok geo img dd sd f) (is_dir from.shape && is_dir to.shape)
    (hit_where f.moved (is_file geo img) && hit_where f.way (is_file geo img)) (hit_where f.moved (has_kind geo img))
    (late_out geo img to from.shape.size n replace f)

-- ---- the code's answers

abbrev pub met_facts : Met → Facts
met_facts m = record { moved = looked_out m.moved; source = seen_out m.source; target = seen_out m.target; way = looked_out m.way }

abbrev pub is_there : {A : Type 0} → Sought A → Bool
is_there (here a) = true
is_there nowhere = false
is_there hurt = false

-- the directory that a record was found in holds a block
abbrev pub Holds : ℕ → Sought Hit → Type 0
Holds size (here h) = 512 ≤ size
Holds size nowhere = Unit {0}
Holds size hurt = Unit {0}

-- the record that goes first is the one that stands in the way
abbrev pub InWay : Sought Hit → Sought ℕ → Type 0
InWay (here h) way = way ≡ here h.inr
InWay nowhere way = Unit {0}
InWay hurt way = Unit {0}

-- an inode that passed: both names are the same, or it is to be moved
abbrev pub same_of : Sought ℕ → Result Verdict Refusal
same_of (here i) = Ok (Verdict.Same i)
same_of nowhere = Err Damaged
same_of hurt = Err Damaged

abbrev pub move_of : Geometry → List ℕ → Bool → Sought ℕ → Result Verdict Refusal
move_of geo img clears (here i) = Ok (Verdict.Move i (type_of (spot_of geo img i).shape.mode) clears)
move_of geo img clears nowhere = Err Damaged
move_of geo img clears hurt = Err Damaged

abbrev pub verdict_by : Out (Unit {0}) → Result Verdict Refusal → Result Verdict Refusal
verdict_by (got x) v = v
verdict_by (refused e) v = Err e

abbrev pub either_verdict : Bool → Result Verdict Refusal → Result Verdict Refusal → Result Verdict Refusal
either_verdict true v w = v
either_verdict false v w = w

unfoldable pub verdict_of : Geometry → List ℕ → Asked → Result Verdict Refusal
verdict_of geo img a =
    verdict_by (in_order (rename_stages geo img a))
    (either_verdict (same a) (same_of (facts_of geo img a).moved) (move_of geo img (a.replace && is_there (facts_of geo img a).way) (facts_of geo img a).moved))

-- the same, where the names and the numbers are such as the call takes
unfoldable pub verdict_in : Geometry → List ℕ → Asked → Result Verdict Refusal
verdict_in geo img a =
    either_verdict (same a)
    (verdict_by (own_out geo img (spot_of geo img a.to) (spot_of geo img a.from) (facts_of geo img a).moved) (same_of (facts_of geo img a).moved))
    (verdict_by (moving_out geo img a.to a.from (spot_of geo img a.to) (spot_of geo img a.from) (length a.new) a.replace (facts_of geo img a))
    (move_of geo img (a.replace && is_there (facts_of geo img a).way) (facts_of geo img a).moved))
