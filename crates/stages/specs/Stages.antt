-- 01, "Numbers given back": the order of a directory call's refusals, behind 97 for an unsound volume and 30. Assumes nothing: these are definitions.
use Rattle.std.specs.Prelude.{Bool, true}
use Rattle.refusal.specs.declared.Refusal.TheVariants.{Invalid, NameTooLong, NotDirectory, IsDirectory, Damaged}
use Rattle.store.specs.Act.{Out, got, refused}
use Rattle.inode_run.specs.Judge.{ask, and_then}

-- "Each is judged for every step the call would make": what all its steps say at each stage. A test whose data cannot be had is passed.
pub record Stages : Type 0 where
  pub names : Bool  -- 22
  pub lengths : Bool  -- 63
  pub numbers : Bool  -- 22
  pub inodes : Bool  -- 22
  pub dirs : Bool  -- 20
  pub files : Bool  -- 21
  pub kinds : Bool  -- 97, a kind that has no name
  pub walk : Out (Unit {0})  -- 97, 2
  pub target : Out (Unit {0})  -- 97, 17
  pub empty : Out (Unit {0})  -- 97, 66
  pub links : Out (Unit {0})  -- 31, 97
  pub ends : Out (Unit {0})  -- 27, 97
  pub tails : Out (Unit {0})  -- 45, 97

-- "Order: .. names (22 before 63), numbers, the inode (22), kind (5, 20, 21), 2, 87, 17, 66, 31 (97 for a count of 0 that must fall), 27, 45, .."
unfoldable pub in_order : Stages → Out (Unit {0})
in_order s =
    ask s.names Invalid (ask s.lengths NameTooLong
    (ask s.numbers Invalid (ask s.inodes Invalid (ask s.dirs NotDirectory
    (ask s.files IsDirectory (ask s.kinds Damaged
    (and_then s.walk (λ _. and_then s.target (λ _. and_then s.empty (λ _.
    and_then s.links (λ _. and_then s.ends (λ _. s.tails))))))))))))

-- inside a stage, the earliest step
unfoldable pub both_out : Out (Unit {0}) → Out (Unit {0}) → Out (Unit {0})
both_out x y = and_then x (λ _. y)

-- a test of what was found; where nothing was, it is not made
unfoldable pub where_found : {A : Type 0} → Out A → (A → Bool) → Bool
where_found (got a) p = p a
where_found (refused e) p = true

unfoldable pub on_found : {A : Type 0} → Out A → (A → Out (Unit {0})) → Out (Unit {0})
on_found (got a) f = f a
on_found (refused e) f = got (tt {0})
