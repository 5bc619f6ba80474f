-- `sole_block` meets its contract. Assumes nothing.
use borrow.Author.Rules.{rules}
use mathlib.Core.Path.{refl, ap}
use native.Mathlib.Omega.{arith}
use lib.ListN.{length}
use Rattle.field.proofs.Laws.{length-zeros}
use Rattle.dirwrite.proofs.WriteLaws.{sole-made}
use Rattle.dirwrite.proofs.sole_block.Goals as goal

pub put_rec-requires : goal.put_rec-requires
put_rec-requires c = (record { name = omega (arith, c.requires.1); inside = omega (arith, ap length c.requires.0, length-zeros 512) }, refl)

pub returns : goal.returns
returns c = sole-made _ _ _ _ _ refl c.requires.0 c.put_rec.ensures
