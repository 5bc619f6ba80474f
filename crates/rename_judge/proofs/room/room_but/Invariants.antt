-- `room_but` meets its contract. Assumes nothing.
use borrow.Author.Rules.{rules}
use mathlib.Core.Path.{◌≡◌}
use Prim.Native.Nat.{◌-◌, ◌/◌}
use Rattle.dirfile.specs.Seek.{seek_from}
use Rattle.rename_judge.specs.Rename.{rooms_but, room_but}
use Rattle.rename_judge.proofs.room.room_but.Given as goal

abbrev pub invariant-loop-k : goal.invariant-loop-k
invariant-loop-k l = seek_from (rooms_but l.geo l.at l.size l.img l.n l.j) (l.size / 512 - l.k) l.k ≡ room_but l.geo l.at l.size l.img l.n l.j
