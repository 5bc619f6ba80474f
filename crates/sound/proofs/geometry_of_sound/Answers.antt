-- `geometry_of_sound` meets its contract. Assumes nothing.
use Rattle.sound.proofs.Laws.{tested}
use Rattle.sound.proofs.geometry_of_sound.Goals as goal

pub read_geometry-requires : goal.read_geometry-requires
read_geometry-requires c = (tested _ c.requires).low
