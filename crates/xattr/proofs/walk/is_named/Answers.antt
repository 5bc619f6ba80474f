-- `walk::is_named` meets its contract. Assumes nothing.
use borrow.Author.Rules.{rules}
use native.Mathlib.Omega.{arith}
use Rattle.field.specs.Field.{part}
use Rattle.xattr.proofs.AreaLaws.{length-gathered}
use Rattle.xattr.proofs.WindowLaws.{named_told}
use Rattle.xattr.proofs.walk.is_named.Goals as goal

pub returns : goal.returns
unfolding part
returns c = let a = c.args in let g = length-gathered _ _ c.requires.0 in named_told _ _ _ _ _ _ _ (omega (arith, g, c.requires.1)) (search rules) c.gather.ensures c.has_text.ensures
