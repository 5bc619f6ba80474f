-- Laws of growing a file. Assumes nothing.
use mathlib.Core.Path.{◌≡◌}
use mathlib.Core.Bool.{true, false, not, ◌&&◌}
use mathlib.Core.List.{List}
use Prim.Native.Nat.{ℕ, ◌+◌, ◌*◌, ◌^◌, ◌≤◌, ◌<◌}
use native.Mathlib.Nat.{mul-le-mul}
use native.Mathlib.Omega.{arith}
use lib.Dec.{ltb}
use borrow.Author.Tests.{lt-ltb, le-ltb}
use Rattle.store.specs.Act.{got}
use Rattle.volume.specs.declared.Geometry.{Geometry}
use Rattle.inode.specs.declared.Shape.{Shape}
use Rattle.inode.specs.declared.Extent.{Extent}
use Rattle.inode.specs.Size.{extent_of}
use Rattle.inode.specs.Shape.{sized, in_place}
use Rattle.mapping.specs.declared.Mapped.{Mapped}
use Rattle.mapping.specs.Mapping.{per_list, mapped}
use Rattle.mapping.proofs.ZoneLaws.{start-four}
use Rattle.inode_grow.specs.Grow.{zones_bytes, tail_then, tail_short, tail_held, grow_rule}

pub zones_bytes_lem : (geo : Geometry) (p a b d : ℕ) → p ≡ per_list geo → a ≡ p ^ 1 → b ≡ p ^ 2 → d ≡ p ^ 3 → (12 + a + b + d) * geo.bsize ≡ zones_bytes geo
unfolding zones_bytes
zones_bytes_lem geo p a b d ep ea eb ed = rw (ea, eb, ed, ep, start-four (per_list geo))

pub zones_fit : (geo : Geometry) (n : ℕ) → n ≤ 12 + 3 * 549755813888 → geo.bsize ≤ 65536 → n * geo.bsize < 18446744073709551616
zones_fit geo n l m = let q : n * geo.bsize ≤ (12 + 3 * 549755813888) * 65536 = mul-le-mul l m in omega (arith, q)

module _ (geo : Geometry) (s new : ℕ) where
  pub then-block : (extent_of geo s).blocks < (extent_of geo new).blocks → geo.frag ≡ tail_then geo s new
  unfolding tail_then
  then-block l = rw (lt-ltb (extent_of geo s).blocks (extent_of geo new).blocks l)

  pub then_tail : (extent_of geo new).blocks ≤ (extent_of geo s).blocks → (extent_of geo new).frags ≡ tail_then geo s new
  unfolding tail_then
  then_tail l = rw (le-ltb (extent_of geo s).blocks (extent_of geo new).blocks l)

  pub short-is : (e : Extent) (t : ℕ) → e ≡ extent_of geo s → t ≡ tail_then geo s new → (ltb s new && ltb 0 e.frags && ltb e.frags geo.frag && ltb e.frags t) ≡ tail_short geo s new
  unfolding tail_short
  short-is e t q r = rw (q, r)

module _ (geo : Geometry) (at : ℕ) (s : Shape) (new : ℕ) (img : List ℕ) where
  pub grow-free : (sized s && not (in_place s) && tail_short geo s.size new) ≡ false → got (tt {0}) ≡ grow_rule geo at s new img
  unfolding grow_rule
  grow-free h = rw h

  pub grow-asks : (sized s && not (in_place s) && tail_short geo s.size new) ≡ true → (e : Extent) → e ≡ extent_of geo s.size → (m : Mapped) → m ≡ mapped geo at img e.blocks → tail_held m ≡ grow_rule geo at s new img
  unfolding grow_rule
  grow-asks h e q m r = rw (h, r, q)
