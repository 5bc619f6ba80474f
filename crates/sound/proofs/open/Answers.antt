-- `open` meets its contract. Assumes nothing.
use mathlib.Core.Path.{sym, ◌∙◌}
use Rattle.sound.proofs.Laws.{opened-not, opened-yes}
use Rattle.sound.proofs.open.Goals as goal

pub returns-then-not-sound : goal.returns-then-not-sound
returns-then-not-sound c = sym (opened-not _ _ (sym c.sound.ensures ∙ c.if-not-sound.true))

pub returns : goal.returns
returns c = sym (opened-yes _ _ (sym c.sound.ensures ∙ c.if-not-sound.false))
