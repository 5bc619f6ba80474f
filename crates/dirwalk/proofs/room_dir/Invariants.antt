-- `room_dir` meets its contract: no block passed has the room. Assumes nothing.
use borrow.Author.Rules.{rules}
use mathlib.Core.Path.{◌≡◌}
use Prim.Native.Nat.{◌-◌}
use Rattle.dirfile.specs.Seek.{seek_from}
use Rattle.dirfile.proofs.SeekLaws.{said}
use Rattle.dirwalk.specs.Walk.{room_dir}
use Rattle.dirwalk.proofs.WalkLaws.{rooms}
use Rattle.dirwalk.proofs.room_dir.Given as goal

abbrev pub invariant-loop-k : goal.invariant-loop-k
invariant-loop-k l = seek_from (said l.geo l.at l.size l.img (rooms l.geo l.n)) (l.blocks - l.k) l.k ≡ room_dir l.geo l.at l.size l.img l.n
