-- A byte that the map has as free. Assumes nothing: these are definitions.
use Rattle.std.specs.Prelude.{◌≡◌, List, ℕ, ◌<◌}
use Rattle.store.specs.Where.{Range}
use Rattle.volume.specs.declared.Geometry.{Geometry}
use Rattle.volume.specs.Volume.{byte_at}
use Rattle.sound.specs.Sound.{group_at, free_bit}

-- byte j is of a fragment whose bit is 1
pub record Free (geo : Geometry) (img : List ℕ) (j : ℕ) : Type 0 where
  pub group : ℕ
  pub one : group < geo.ncg
  pub frag : ℕ
  pub within : frag < (group_at geo group img).ndblk
  pub bit : free_bit geo group img frag ≡ 1
  pub byte : Range (byte_at geo group frag) geo.fsize j
