-- `put_decimal` meets its contract. Assumes nothing.
use borrow.Author.Rules.{rules}
use native.Mathlib.Omega.{arith}
use Rattle.dirtext.proofs.TextLaws.{wrote-one, wrote-digits, last-place}
use Rattle.dirtext.proofs.+put_decimal.Goals as goal

pub returns-then-n-lt10 : goal.returns-then-n-lt10
returns-then-n-lt10 t c = wrote-one _ _ _ _ _ c.if-n-lt10.true c.put_byte.ensures

pub put_byte-requires-2 : goal.put_byte-requires-2
put_byte-requires-2 t c = last-place _ c.args.n _ _ _ (omega arith) (omega (arith, c.requires)) c.put_decimal-last.ensures

pub returns : goal.returns
returns t c = wrote-digits _ c.args.n _ _ _ _ _ c.if-n-lt10.false c.put_decimal-last.ensures c.put_byte-2.ensures
