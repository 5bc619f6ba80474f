-- 01's order of a directory call's refusals by itself: which stage stands where, and what each says. Assumes nothing: these are definitions.
use Rattle.std.specs.Prelude.{◌≡◌, Bool, ℕ, ◌<◌}
use Rattle.refusal.specs.declared.Refusal.{Refusal}
use Rattle.refusal.specs.declared.Refusal.TheVariants.{Invalid, NameTooLong, NotDirectory, IsDirectory, Damaged}
use Rattle.store.specs.Act.{Out, got, refused}
use Rattle.inode_run.specs.Judge.{ask}
use Rattle.stages.specs.Stages.{Stages}

pub data Stage : Type 0 where
  names : Stage
  lengths : Stage
  numbers : Stage
  inodes : Stage
  dirs : Stage
  files : Stage
  kinds : Stage
  walk : Stage
  target : Stage
  empty : Stage
  links : Stage
  ends : Stage
  tails : Stage

-- where it stands in 01's order
abbrev pub place : Stage → ℕ
place names = 0
place lengths = 1
place numbers = 2
place inodes = 3
place dirs = 4
place files = 5
place kinds = 6
place walk = 7
place target = 8
place empty = 9
place links = 10
place ends = 11
place tails = 12

abbrev pub test : Bool → Refusal → Out (Unit {0})
test b e = ask b e (got (tt {0}))

-- what it says by itself
abbrev pub says : Stages → Stage → Out (Unit {0})
says s names = test s.names Invalid
says s lengths = test s.lengths NameTooLong
says s numbers = test s.numbers Invalid
says s inodes = test s.inodes Invalid
says s dirs = test s.dirs NotDirectory
says s files = test s.files IsDirectory
says s kinds = test s.kinds Damaged
says s walk = s.walk
says s target = s.target
says s empty = s.empty
says s links = s.links
says s ends = s.ends
says s tails = s.tails

-- the stage that refuses; every stage that 01's order puts before it passes
pub record First (s : Stages) (e : Refusal) : Type 0 where
  pub at : Stage
  pub refuses : says s at ≡ refused e
  pub before : (t : Stage) → place t < place at → says s t ≡ got (tt {0})
