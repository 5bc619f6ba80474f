-- `take_volume` meets its contract. Assumes nothing.
use mathlib.Core.Path.{sym, ◌∙◌}
use Rattle.sound.proofs.Laws.{taken-not, taken-yes}
use Rattle.sound.proofs.take_volume.Goals as goal

pub returns-then-not-sound : goal.returns-then-not-sound
returns-then-not-sound c = sym (taken-not _ (sym c.sound.ensures ∙ c.if-not-sound.true))

pub geometry_of_sound-requires : goal.geometry_of_sound-requires
geometry_of_sound-requires c = sym c.sound.ensures ∙ c.if-not-sound.false

pub returns : goal.returns
returns c = rw c.geometry_of_sound.ensures (sym (taken-yes _ (sym c.sound.ensures ∙ c.if-not-sound.false)))
