-- `fetch` meets its contract. Assumes nothing.
use native.Mathlib.Omega.{arith}
use lib.ListN.{length-take}
use Rattle.dirnext.proofs.NextLaws.{fetch_told}
use Rattle.dirnext.proofs.fetch.Goals as goal

pub returns : goal.returns
returns c =
    let q = c.read_block.ensures in
    fetch_told c.args.buf.now c.read_block.new.block _ _ q.0 q.1 (omega (arith, c.read_block.auto.block, length-take 512 c.args.buf.now, c.requires.3)) c.requires.3
