-- `put_spaced` meets its contract. Assumes nothing.
use borrow.Author.Rules.{rules}
use native.Mathlib.Omega.{arith}
use Rattle.dirtext.proofs.TextLaws.{wrote-long, decimal_ten, spaced-short, wrote-spaced}
use Rattle.dirtext.proofs.put_spaced.Goals as goal

pub put_byte-requires : goal.put_byte-requires
put_byte-requires c = let w = wrote-long _ _ _ _ _ c.put_decimal-end.ensures in omega (arith, w.0, w.1, decimal_ten c.args.n (omega arith))

pub returns : goal.returns
returns c = let q = wrote-spaced _ _ _ _ _ _ _ c.put_decimal-end.ensures c.put_byte.ensures in (q, omega (arith, (wrote-long _ _ _ _ _ q).1, spaced-short c.args.n (omega arith)))
