-- 01: the public call that looks a name up in a directory, with the order of refusals. Assumes nothing: these are definitions.
use Rattle.std.specs.Prelude.{List, ℕ, false, Result, Ok, Err}
use Rattle.refusal.specs.declared.Refusal.TheVariants.{Invalid, NameTooLong}
use Rattle.store.specs.Act.{Out, got, refused}
use Rattle.volume.specs.declared.Geometry.{Geometry}
use Rattle.inode_run.specs.Judge.{ask, and_then, reading}
use Rattle.dirnames.specs.Names.{taken, short}
use Rattle.dirfile.specs.Block.{dir_of}
use Rattle.dirfile.specs.Seek.{sought_out}
use Rattle.dirwalk.specs.Walk.{lookup_dir}
use Rattle.refusal.specs.declared.Refusal.{Refusal}

-- "names (22 before 63), numbers, the inode (22), kind (.., 20, ..), 2"; the inode's number is given back as it stands in the record
unfoldable pub lookup_for : List ℕ → ℕ → List ℕ → Geometry → Out ℕ
lookup_for img d name geo =
    ask (taken false name) Invalid
    (ask (short name) NameTooLong
    (and_then (dir_of geo img d) (λ s. sought_out (lookup_dir geo s.at s.shape.size img name))))

-- "Order: 97 for an unsound volume, .."
unfoldable pub dir_lookup : List ℕ → ℕ → List ℕ → Out ℕ
dir_lookup img d name = reading (lookup_for img d name) img

-- the code's answer
abbrev pub lookup_of : Out ℕ → Result ℕ Refusal
lookup_of (got i) = Ok i
lookup_of (refused e) = Err e
