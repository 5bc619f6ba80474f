-- `body_ok` meets its contract. Assumes nothing.
use native.Mathlib.Nat.{div-le_self}
use native.Mathlib.Omega.{arith}
use lib.ListN.{length}
use Rattle.sound.specs.Clauses.{body_ok}
use Rattle.sound.proofs.body_ok.Goals as goal

pub map_ok-requires : goal.map_ok-requires
map_ok-requires c =
    omega (arith, div-le_self (length c.args.img.now) c.args.geo.fsize)

pub returns : goal.returns
unfolding body_ok
returns c = rw (c.map_ok.ensures, c.counts_ok.ensures, c.group_magic.ensures, c.magic.ensures, c.frag_at-copy.ensures, c.frag_at-at.ensures)
