-- `ino_to_fso` meets its contract. Assumes nothing.
use mathlib.Core.Path.{◌≡◌, sym}
use Prim.Native.Nat.{◌/◌}
use native.Mathlib.Omega.{arith}
use native.Mathlib.Nat.{mod-le}
use Rattle.volume.specs.Volume.{byte_at}
use Rattle.volume.proofs.Laws.{inode_at-eq}
use Rattle.volume.proofs.ino_to_fso.Goals as goal

pub frag_at-requires : goal.frag_at-requires
frag_at-requires c = let s = c.args in rw c.ino_to_cg.ensures (omega (arith, inode_at-eq s.geo s.inr.0))

pub overflow_cast-result : goal.overflow_cast-result
overflow_cast-result c = let s = c.args in omega (arith, mod-le s.inr.0 s.geo.ipg)

pub overflow_mul-result : goal.overflow_mul-result
overflow_mul-result c = let s = c.args in omega (arith, mod-le s.inr.0 s.geo.ipg)

pub overflow_add-result : goal.overflow_add-result
overflow_add-result c =
    let s = c.args in
    let e : c.frag_at.result ≡ byte_at s.geo (s.inr.0 / s.geo.ipg) s.geo.iblkno = rw c.ino_to_cg.ensures at c.frag_at.ensures in
    omega (arith, inode_at-eq s.geo s.inr.0)

pub returns : goal.returns
returns c = let s = c.args in rw (c.frag_at.ensures, c.ino_to_cg.ensures) (sym (inode_at-eq s.geo s.inr.0))
