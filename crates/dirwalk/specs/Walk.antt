-- What the directory calls look for in a directory, block by block. Assumes nothing: these are definitions.
use Rattle.std.specs.Prelude.{true, false, List, ℕ, Option, Some, None, Result, Ok, Err}
use Rattle.volume.specs.declared.Geometry.{Geometry}
use Rattle.dirblock.specs.declared.Unlinked.{Unlinked}
use Rattle.dirblock.specs.declared.Unlinked.TheVariants as Unlinked
use Rattle.dirblock.specs.Search.{find_in, room_in}
use Rattle.dirblock.specs.Link.{unlink_in}
use Rattle.dirfile.specs.Seek.{Sought, here, nowhere, hurt, seek_dir}
use Rattle.dirwalk.specs.declared.Hit.{Hit}
use Rattle.dirblock.specs.declared.Entry.{Entry}
use Rattle.dirblock.specs.declared.Spot.{Spot}
use Rattle.refusal.specs.Refusal.{damage}
use Rattle.refusal.specs.declared.Damage.{Damage}

-- ---- dir_lookup: the inode of the first listed record of that name

abbrev pub looked_in : Result (Option Spot) Damage → Sought ℕ
looked_in (Ok (Some s)) = here s.entry.inr
looked_in (Ok None) = nowhere
looked_in (Err harm) = hurt

unfoldable pub lookup_dir : Geometry → ℕ → ℕ → List ℕ → List ℕ → Sought ℕ
lookup_dir geo at size img name = seek_dir geo at size img (λ k b. looked_in (find_in geo.order b name false))

-- ---- dir_unlink: the first record of that name, whiteouts too, its block, and whether it stands alone there

abbrev pub seen_in : ℕ → Result Unlinked Damage → Sought Hit
seen_in k (Ok (Unlinked.Done i)) = here (record { block = k; inr = i; alone = false })
seen_in k (Ok (Unlinked.Alone i)) = here (record { block = k; inr = i; alone = true })
seen_in k (Ok Unlinked.Absent) = nowhere
seen_in k (Err harm) = hurt

unfoldable pub find_dir : Geometry → ℕ → ℕ → List ℕ → List ℕ → Sought Hit
find_dir geo at size img name = seek_dir geo at size img (λ k b. seen_in k (unlink_in geo.order b name).1)

-- ---- dir_newlink: the first block with room for a name of n bytes

abbrev pub roomy_in : ℕ → Result (Option (ℕ × Entry)) Damage → Sought ℕ
roomy_in k (Ok (Some (pos, e))) = here k
roomy_in k (Ok None) = nowhere
roomy_in k (Err harm) = hurt

unfoldable pub room_dir : Geometry → ℕ → ℕ → List ℕ → ℕ → Sought ℕ
room_dir geo at size img n = seek_dir geo at size img (λ k b. roomy_in k (room_in geo.order b n))

-- ---- the code's answers

abbrev pub looked_out : Result (Option ℕ) Damage → Sought ℕ
looked_out (Ok (Some i)) = here i
looked_out (Ok None) = nowhere
looked_out (Err harm) = hurt

abbrev pub seen_out : Result (Option Hit) Damage → Sought Hit
seen_out (Ok (Some h)) = here h
seen_out (Ok None) = nowhere
seen_out (Err harm) = hurt

abbrev pub space_out : Result (Option ℕ) Damage → Sought ℕ
space_out (Ok (Some k)) = here k
space_out (Ok None) = nowhere
space_out (Err harm) = hurt
