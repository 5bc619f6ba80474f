-- Laws of how many blocks a file keeps. Assumes nothing.
use mathlib.Core.Path.{◌≡◌, refl, sym, ap, ◌∙◌}
use Prim.Native.Nat.{ℕ, ◌+◌, ◌*◌, ◌/◌, ◌≤◌, ◌<◌}
use native.Mathlib.Nat.{mul-le-mul_left, div-lt_iff_lt-mul}
use native.Mathlib.Omega.{arith}
use lib.Dec.{ltb}
use borrow.Author.Tests.{lt-ltb, le-ltb}
use Rattle.volume.specs.declared.Geometry.{Geometry}
use Rattle.sound.specs.Test.{Sized}
use Rattle.inode.specs.Size.{extent_of}
use Rattle.inode.proofs.SizeLaws.{units, size-is}
use Rattle.inode_truncate.specs.Truncate.{keep_of}

module _ (geo : Geometry) (s : ℕ) where
  pub keep-tail : 0 < (extent_of geo s).frags → keep_of geo s ≡ (extent_of geo s).blocks + 1
  unfolding keep_of
  keep-tail l = rw (lt-ltb 0 (extent_of geo s).frags l)

  pub keep-whole : (extent_of geo s).frags ≤ 0 → keep_of geo s ≡ (extent_of geo s).blocks
  unfolding keep_of
  keep-whole l = rw (le-ltb 0 (extent_of geo s).frags l) (omega arith)

pub blocks-few : (geo : Geometry) (s : ℕ) → Sized geo → s < 18446744073709551616 → (extent_of geo s).blocks < 4503599627370496
blocks-few geo s z l =
    let u = units geo z in
    let m : 4503599627370496 * 4096 ≤ 4503599627370496 * geo.bsize = mul-le-mul_left 4503599627370496 u.block in
    rw (size-is geo.bsize geo.fsize s) ((div-lt_iff_lt-mul {k = geo.bsize} {x = s} {y = 4503599627370496} (omega (arith, u.block))).1 (omega (arith, m, l)))
