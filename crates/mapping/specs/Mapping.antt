-- 01, "Inodes and mapping": from a block index to the address of its block. Assumes nothing: these are definitions.
use Rattle.std.specs.Prelude.{Bool, List, ℕ, zero, suc, ◌+◌, ◌*◌, ◌/◌, ◌%◌, ◌^◌, eqb}
use Rattle.field.specs.Field.{num}
use Rattle.volume.specs.declared.Geometry.{Geometry}
use Rattle.frame.specs.Frame.{run_okb}
use Rattle.inode.specs.Size.{pick}
use Rattle.inode.specs.Shape.{address_at}
use Rattle.mapping.specs.declared.Mapped.{Mapped}
use Rattle.mapping.specs.declared.Mapped.TheVariants.{At, Hole, Bad, Past}
use Rattle.mapping.specs.declared.Place.{Place}
use Rattle.mapping.specs.Zones.{place_of}

-- an address in a list is one of 64 bits
abbrev pub entry_width : Geometry → ℕ
entry_width geo = 8

-- "With p = bsize / 8"
unfoldable pub per_list : Geometry → ℕ
per_list geo = geo.bsize / entry_width geo

-- address i of the list at address a
unfoldable pub entry_at : Geometry → List ℕ → ℕ → ℕ → ℕ
entry_at geo img a i = num geo.order (entry_width geo) (a * geo.fsize + i * entry_width geo) img

-- "A run that touches a reserved fragment or is not within one group's ndblk is 97": a list is a whole block
abbrev pub list_ok : Geometry → List ℕ → ℕ → Bool
list_ok geo img a = run_okb geo img a geo.frag

-- "From its zone's root the mapping goes down one list per level. A zero address at any level is a hole": over what is a list, and what stands in it
unfoldable pub down_by : (ℕ → Bool) → (ℕ → ℕ → ℕ) → ℕ → ℕ → ℕ → ℕ → Mapped
down_by ok entry p zero a x = pick (eqb a 0) Hole (At (record { 0 = a }))
down_by ok entry p (suc l) a x = pick (eqb a 0) Hole (pick (ok a) (down_by ok entry p l (entry a (x / p ^ l)) (x % p ^ l)) Bad)

abbrev pub down : Geometry → List ℕ → ℕ → ℕ → ℕ → Mapped
down geo img l a x = down_by (list_ok geo img) (entry_at geo img) (per_list geo) l a x

-- from the record at `at`; "22: block index past .. the triple zone"
abbrev pub mapped_from : Geometry → ℕ → List ℕ → Place → Mapped
mapped_from geo at img (Place.Under root level rest) = down geo img level (address_at geo.order at root img) rest.0
mapped_from geo at img Place.Past = Past

unfoldable pub mapped : Geometry → ℕ → List ℕ → ℕ → Mapped
mapped geo at img i = mapped_from geo at img (place_of (per_list geo) i)
