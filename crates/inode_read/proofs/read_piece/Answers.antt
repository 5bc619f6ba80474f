-- `read_piece` meets its contract. Assumes nothing.
use mathlib.Core.Path.{ap}
use native.Mathlib.Omega.{arith}
use Prim.Native.Nat.{◌+◌}
use Rattle.inode_run.specs.Run.{readable}
use Rattle.inode_read.proofs.ReadLaws.{reach-at, piece-at, piece-hole, piece-none}
use Rattle.inode_read.proofs.read_piece.Goals as goal

pub address_at-requires : goal.address_at-requires
address_at-requires c = let s = c.args in let p = c.requires in omega (arith, reach-at s.geo s.img.now (s.from + s.n) c.in-At.is p.0, p.2)

pub overflow_add-address_at : goal.overflow_add-address_at
overflow_add-address_at c = let s = c.args in let p = c.requires in omega (arith, reach-at s.geo s.img.now (s.from + s.n) c.in-At.is p.0, p.2, c.address_at.ensures)

pub copy_bytes-requires : goal.copy_bytes-requires
copy_bytes-requires c =
    let s = c.args in
    let p = c.requires in
    (p.1, omega (arith, reach-at s.geo s.img.now (s.from + s.n) c.in-At.is p.0, c.address_at.ensures))

pub returns-in-At : goal.returns-in-At
returns-in-At c = let s = c.args in piece-at s.geo _ _ _ _ _ c.in-At.is _ c.address_at.ensures c.copy_bytes.ensures

pub returns-in-Hole : goal.returns-in-Hole
returns-in-Hole c = let s = c.args in piece-hole s.geo _ _ _ _ _ c.in-Hole.is c.zero_bytes.ensures

pub returns-in-Past : goal.returns-in-Past
returns-in-Past c = let s = c.args in (rw c.in-Past.is, piece-none s.geo s.img.now s.at s.from s.n s.buf.now s.r (ap readable c.in-Past.is))

pub returns-in-Bad : goal.returns-in-Bad
returns-in-Bad c = let s = c.args in (rw c.in-Bad.is, piece-none s.geo s.img.now s.at s.from s.n s.buf.now s.r (ap readable c.in-Bad.is))
