-- 01: "rmdir of a non-empty directory": the first record that keeps a directory from being removed. Assumes nothing: these are definitions.
use Rattle.std.specs.Prelude.{Bool, true, false, not, ◌&&◌, ◌||◌, List, [], ◌∷◌, ℕ, eqb, Option, Some, None, Result, Ok, Err}
use Rattle.field.specs.declared.Order.{Order}
use Rattle.volume.specs.declared.Geometry.{Geometry}
use Rattle.dirblock.specs.Record.{name_at, listed}
use Rattle.dirblock.specs.Walk.{Item}
use Rattle.dirblock.specs.Search.{search_from, same_name}
use Rattle.dirfile.specs.Seek.{Sought, here, nowhere, hurt, seek_dir}
use Rattle.dirblock.specs.declared.Spot.{Spot}
use Rattle.refusal.specs.Refusal.{damage}
use Rattle.refusal.specs.declared.Damage.{Damage}

-- "." and ".."
unfoldable pub dots : List ℕ → Bool
dots name = same_name name (46 ∷ []) || same_name name (46 ∷ 46 ∷ [])

-- a listed record that is not a directory's own "." or "..", which are of type 4
unfoldable pub stays : List ℕ → Item → Bool
stays block i = listed i.entry && not (eqb i.entry.kind 4 && dots (name_at block i.pos i.entry))

-- the first such record of one block; damage counts where the walk meets it before that
unfoldable pub other_in : Order → List ℕ → Result (Option Spot) Damage
other_in o block = search_from (stays block) o block 0 0

-- there is one, there is none, or damage stands before any
abbrev pub stayed_in : Result (Option Spot) Damage → Sought (Unit {0})
stayed_in (Ok (Some s)) = here (tt {0})
stayed_in (Ok None) = nowhere
stayed_in (Err harm) = hurt

-- in the blocks of the directory of that size whose record is at `at`, upward
unfoldable pub others_dir : Geometry → ℕ → ℕ → List ℕ → Sought (Unit {0})
others_dir geo at size img = seek_dir geo at size img (λ k b. stayed_in (other_in geo.order b))

-- ---- the code's answers

abbrev pub others_out : Result Bool Damage → Sought (Unit {0})
others_out (Ok true) = here (tt {0})
others_out (Ok false) = nowhere
others_out (Err harm) = hurt
