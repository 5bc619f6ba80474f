-- `groups_ok` meets its contract. Assumes nothing.
use native.Mathlib.Omega.{arith}
use mathlib.Core.Path.{sym, ◌∙◌}
use Rattle.sound.proofs.Laws.{groups-fail, groups-all}
use Rattle.bits.proofs.UptoLaws.{all-none, all-more}
use Rattle.sound.proofs.groups_ok.Goals as goal

pub loop-g-init : goal.loop-g-init
loop-g-init c = all-none _

pub returns-then-not-group_ok : goal.returns-then-not-group_ok
returns-then-not-group_ok c = sym (groups-fail _ _ c.loop-g.g (omega arith) (sym c.group_ok.ensures ∙ c.if-not-group_ok.true))

pub loop-g-preserved : goal.loop-g-preserved
loop-g-preserved c = rw (all-more, c.loop-g.invariant) (sym c.group_ok.ensures ∙ c.if-not-group_ok.false)

pub returns : goal.returns
returns c = sym (groups-all _ _ c.loop-g.g (omega arith) c.loop-g.invariant)
