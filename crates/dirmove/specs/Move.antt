-- 01: the work of rename, a list of big stores. Assumes nothing: these are definitions.
use Rattle.std.specs.Prelude.{Bool, List, ℕ}
use Rattle.store.specs.Act.{Act, pure, ◌>>=◌, ◌>>◌, choose}
use Rattle.volume.specs.declared.Geometry.{Geometry}
use Rattle.dirwrite.specs.Write.{bump_found}
use Rattle.dirlink.specs.Link.{link_name}
use Rattle.dirtake.specs.Take.{take_name}

-- what has the new name in directory d goes, if something has
unfoldable pub clear_way : Geometry → ℕ → List ℕ → Bool → Act (Unit {0})
clear_way geo d name clears = choose clears (take_name geo d name) (pure (tt {0}))

-- the file i gets a link more and its new name
unfoldable pub add_name : Geometry → ℕ → List ℕ → ℕ → ℕ → Act (Unit {0})
add_name geo d name i kind = bump_found geo i >> link_name geo d i kind name

-- and loses its old one, `old` in directory s
unfoldable pub drop_name : Geometry → ℕ → List ℕ → ℕ → Act ℕ
drop_name geo s old i = take_name geo s old >> pure i

unfoldable pub relink : Geometry → ℕ → List ℕ → ℕ → List ℕ → ℕ → ℕ → Act ℕ
relink geo d name s old i kind = add_name geo d name i kind >> drop_name geo s old i

unfoldable pub move_name : Geometry → ℕ → List ℕ → ℕ → List ℕ → Bool → ℕ → ℕ → Act ℕ
move_name geo d name s old clears i kind = clear_way geo d name clears >> relink geo d name s old i kind
