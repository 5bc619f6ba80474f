-- `places_ok` meets its contract. Assumes nothing.
use Rattle.sound.specs.Clauses.{places_ok}
use Rattle.sound.proofs.places_ok.Goals as goal

pub returns : goal.returns
unfolding places_ok
returns c = rw (c.bytes_of.ensures.0, c.bytes_of-2.ensures.0, c.bytes_of-3.ensures.0, c.bytes_of-4.ensures.0)
