-- Laws of a file's size in blocks and fragments. Assumes nothing.
use Rattle.std.specs.Prelude.{Some, None}
use mathlib.Core.Path.{◌≡◌, refl, sym, ap, ◌∙◌}
use mathlib.Core.Bool.{Bool, true, false}
use Prim.Native.Nat.{ℕ, suc, ◌+◌, ◌-◌, ◌*◌, ◌/◌, ◌%◌, ◌≤◌, ◌<◌}
use native.Mathlib.Nat.{mod-lt, mul-le-mul, div-lt_iff_lt-mul, mul_comm, le_refl, le_trans, suc-mul}
use native.Mathlib.Omega.{arith}
use lib.Dec.{ltb}
use borrow.Author.Tests.{lt-ltb, le-ltb}
use Rattle.volume.specs.declared.Geometry.{Geometry}
use Rattle.sound.specs.Test.{Sized}
use Rattle.sound.proofs.Laws.{size_between, unit_between}
use Rattle.inode.specs.declared.Extent.{Extent}
use Rattle.inode.specs.Size.{size_in, extent_of, held_at}

pub size-is : (bs fs s : ℕ) → size_in bs fs s ≡ record { blocks = s / bs; frags = (s % bs + (fs - 1)) / fs }
unfolding size_in
size-is bs fs s = refl

-- the sizes of a volume, as numbers
pub record Units (geo : Geometry) : Type 0 where
  pub block : 4096 ≤ geo.bsize
  pub block_top : geo.bsize ≤ 65536
  pub unit : 512 ≤ geo.fsize
  pub unit_top : geo.fsize ≤ 65536
  pub frags : geo.fsize * geo.frag ≡ geo.bsize

pub units : (geo : Geometry) → Sized geo → Units geo
units geo z =
    let b = size_between geo.bsize z.bsize in
    let u = unit_between geo.bsize geo.frag geo.fsize z.bsize z.frag z.fsize in
    record { block = b.0; block_top = b.1; unit = u.0; unit_top = u.1; frags = z.fsize }

-- the tail's fragments fill no more than a block
pub tail-fits : (geo : Geometry) (s : ℕ) → Sized geo → (extent_of geo s).frags * geo.fsize ≤ geo.bsize
tail-fits geo s z =
    let u = units geo z in
    let l : s % geo.bsize < geo.bsize = mod-lt s (omega (arith, u.block)) in
    let one : (geo.fsize - 1) + 1 ≡ geo.fsize = omega (arith, u.unit) in
    let below : s % geo.bsize + (geo.fsize - 1) < suc geo.frag * geo.fsize = omega (arith, l, one, suc-mul geo.frag geo.fsize, mul_comm geo.frag geo.fsize, u.frags) in
    let few : (s % geo.bsize + (geo.fsize - 1)) / geo.fsize < suc geo.frag = (div-lt_iff_lt-mul {k = geo.fsize} (omega (arith, u.unit))).1 below in
    let most : (s % geo.bsize + (geo.fsize - 1)) / geo.fsize ≤ geo.frag = omega (arith, few) in
    let whole : geo.frag * geo.fsize ≤ geo.bsize = omega (arith, mul_comm geo.frag geo.fsize, u.frags) in
    rw (size-is geo.bsize geo.fsize s) (le_trans (mul-le-mul most (le_refl geo.fsize)) whole)

module _ (geo : Geometry) (s i : ℕ) where
  pub held-block : i < (extent_of geo s).blocks → held_at geo s i ≡ Some geo.bsize
  unfolding held_at
  held-block l = simp (lt-ltb _ _ l)

  pub held-tail : (extent_of geo s).blocks ≤ i → i < (extent_of geo s).blocks + (extent_of geo s).frags → held_at geo s i ≡ Some ((extent_of geo s).frags * geo.fsize)
  unfolding held_at
  held-tail a l = simp (le-ltb _ _ a, lt-ltb _ _ l)

  pub held-past : (extent_of geo s).blocks ≤ i → (extent_of geo s).blocks + (extent_of geo s).frags ≤ i → held_at geo s i ≡ None
  unfolding held_at
  held-past a l = simp (le-ltb _ _ a, le-ltb _ _ l)
