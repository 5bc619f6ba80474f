-- Where the three searches of a directory start, and that a size which is no multiple of 512 stops them. Assumes nothing.
use mathlib.Core.Path.{◌≡◌, sym}
use mathlib.Core.Bool.{false}
use mathlib.Core.List.{List}
use Prim.Native.Nat.{ℕ, ◌-◌, ◌/◌, ◌%◌}
use Rattle.volume.specs.declared.Geometry.{Geometry}
use Rattle.dirblock.specs.Search.{find_in, room_in}
use Rattle.dirblock.specs.Link.{unlink_in}
use Rattle.dirfile.specs.Seek.{Sought, hurt, seek_from}
use Rattle.dirfile.proofs.SeekLaws.{said, seek-start, seek-odd}
use Rattle.dirwalk.specs.declared.Hit.{Hit}
use Rattle.dirwalk.specs.Walk.{looked_in, lookup_dir, seen_in, find_dir, roomy_in, room_dir}

-- what each search asks of block k
abbrev pub looks : Geometry → List ℕ → ℕ → List ℕ → Sought ℕ
looks geo name k b = looked_in (find_in geo.order b name false)

abbrev pub finds : Geometry → List ℕ → ℕ → List ℕ → Sought Hit
finds geo name k b = seen_in k (unlink_in geo.order b name).1

abbrev pub rooms : Geometry → ℕ → ℕ → List ℕ → Sought ℕ
rooms geo n k b = roomy_in k (room_in geo.order b n)

module _ (geo : Geometry) (at size : ℕ) (img : List ℕ) where
  module _ (name : List ℕ) where
    pub lookup-start : size % 512 ≡ 0 → seek_from (said geo at size img (looks geo name)) (size / 512 - 0) 0 ≡ lookup_dir geo at size img name
    unfolding lookup_dir
    lookup-start e = sym (seek-start geo at size img (looks geo name) e)

    pub lookup-odd : (size % 512 ≡ 0 → ⊥) → hurt ≡ lookup_dir geo at size img name
    unfolding lookup_dir
    lookup-odd h = sym (seek-odd geo at size img (looks geo name) h)

    pub find_start : size % 512 ≡ 0 → seek_from (said geo at size img (finds geo name)) (size / 512 - 0) 0 ≡ find_dir geo at size img name
    unfolding find_dir
    find_start e = sym (seek-start geo at size img (finds geo name) e)

    pub find-odd : (size % 512 ≡ 0 → ⊥) → hurt ≡ find_dir geo at size img name
    unfolding find_dir
    find-odd h = sym (seek-odd geo at size img (finds geo name) h)

  module _ (n : ℕ) where
    pub room_start : size % 512 ≡ 0 → seek_from (said geo at size img (rooms geo n)) (size / 512 - 0) 0 ≡ room_dir geo at size img n
    unfolding room_dir
    room_start e = sym (seek-start geo at size img (rooms geo n) e)

    pub room-odd : (size % 512 ≡ 0 → ⊥) → hurt ≡ room_dir geo at size img n
    unfolding room_dir
    room-odd h = sym (seek-odd geo at size img (rooms geo n) h)
