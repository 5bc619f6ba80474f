-- What the code that takes back a run rests on. Assumes nothing: these are definitions.
use Rattle.std.specs.Prelude.{ℕ, ◌+◌, ◌%◌, ◌<◌, ◌≤◌, List}
use Rattle.volume.specs.declared.Geometry.{Geometry}
use Rattle.sound.specs.Sound.{group_at}
use Rattle.frame.specs.Frame.{Never, Frame}

-- the n fragments from f of group g lie within the group, in one block and so in one map byte, and none is one that is never free
pub record BackRun (geo : Geometry) (img : List ℕ) (g f n : ℕ) : Type 0 where
  pub frame : Frame geo img
  pub group : g < geo.ncg
  pub some : 0 < n
  pub most : n ≤ geo.frag
  pub within : f + n ≤ (group_at geo g img).ndblk
  pub within_block : f % geo.frag + n ≤ geo.frag
  pub in_byte : f % 8 + n ≤ 8
  pub may : (k : ℕ) → k < n → Never geo g img (f + k) → ⊥
