-- `place_in` meets its contract. Assumes nothing.
use borrow.Author.Rules.{rules}
use native.Mathlib.Omega.{arith}
use mathlib.Core.Path.{ap}
use Prim.Native.Nat.{◌+◌}
use Rattle.inode_read.proofs.ReadLaws.{reach-at}
use Rattle.dirfile.proofs.BlockLaws.{piece-at, piece-hole, piece-past, piece-bad}
use Rattle.dirfile.proofs.place_in.Goals as goal

pub address_at-requires : goal.address_at-requires
address_at-requires c = let s = c.args in let p = c.requires in omega (arith, reach-at s.geo s.img.now (s.from + 512) c.in-At.is p.0, p.1)

pub overflow_add-result : goal.overflow_add-result
overflow_add-result c = let s = c.args in let p = c.requires in omega (arith, reach-at s.geo s.img.now (s.from + 512) c.in-At.is p.0, p.1, c.address_at.ensures)

pub returns-in-At : goal.returns-in-At
returns-in-At c =
    let s = c.args in
    let p = c.requires in
    (piece-at _ _ _ c.in-At.is _ (ap (λ x. x + s.from) c.address_at.ensures), omega (arith, reach-at s.geo s.img.now (s.from + 512) c.in-At.is p.0, c.address_at.ensures))

pub returns-in-Hole : goal.returns-in-Hole
returns-in-Hole c = (piece-hole _ _ _ c.in-Hole.is, tt {0})

pub returns-in-Past : goal.returns-in-Past
returns-in-Past c = (piece-past _ _ _ c.in-Past.is, tt {0})

pub returns-in-Bad : goal.returns-in-Bad
returns-in-Bad c = (piece-bad _ _ _ c.in-Bad.is, tt {0})
