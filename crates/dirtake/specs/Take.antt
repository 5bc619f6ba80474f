-- 01: a name taken away, and with its last name the inode: a step of unlink, rename and rmdir. Assumes nothing: these are definitions.
use Rattle.std.specs.Prelude.{List, ℕ}
use Rattle.store.specs.Act.{Act, ◌>>=◌}
use Rattle.volume.specs.declared.Geometry.{Geometry}
use Rattle.dirwrite.specs.Write.{free_found}
use Rattle.dirlink.specs.Link.{unlink_name}

-- the name goes, then its inode loses a link
unfoldable pub take_name : Geometry → ℕ → List ℕ → Act (Unit {0})
take_name geo d name = unlink_name geo d name >>= free_found geo
