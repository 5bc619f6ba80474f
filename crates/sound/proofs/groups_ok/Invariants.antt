-- `groups_ok` meets its contract. Assumes nothing.
use Rattle.sound.specs.Clauses.{group_ok}
use Rattle.bits.specs.Upto.{all}
use mathlib.Core.Path.{◌≡◌}
use mathlib.Core.Bool.{true}
use Rattle.sound.proofs.groups_ok.Given as goal

abbrev pub invariant-loop-g : goal.invariant-loop-g
invariant-loop-g l = all (group_ok l.img l.geo) l.g ≡ true
