-- `read_geometry` meets its contract. Assumes nothing.
use Rattle.volume.specs.Volume.{geometry_of}
use Rattle.volume.proofs.read_geometry.Goals as goal

pub returns : goal.returns
unfolding geometry_of
returns c =
    rw (
      c.get.ensures,
      c.get-2.ensures,
      c.get-3.ensures,
      c.get-4.ensures,
      c.get-5.ensures,
      c.get-6.ensures,
      c.get-7.ensures,
      c.get-8.ensures,
      c.get-9.ensures,
      c.get-10.ensures,
    )
