-- `put_stop` meets its contract. Assumes nothing.
use borrow.Author.Rules.{rules}
use native.Mathlib.Omega.{arith}
use Rattle.dirtext.proofs.TextLaws.{wrote-more, wrote-long, decimal_ten}
use Rattle.dirtext.proofs.put_stop.Goals as goal

pub put_decimal-end-requires : goal.put_decimal-end-requires
put_decimal-end-requires c = let w = wrote-long _ _ _ _ _ c.put_text-number.ensures in omega (arith, w.0, w.1)

pub put_byte-requires : goal.put_byte-requires
put_byte-requires c = let w = wrote-long _ _ _ _ _ c.put_text-number.ensures in let v = wrote-long _ _ _ _ _ c.put_decimal-end.ensures in omega (arith, w.0, w.1, v.0, v.1, decimal_ten c.args.pos (omega arith))

pub returns : goal.returns
returns c = wrote-more _ _ _ _ _ _ _ _ c.put_text-number.ensures (wrote-more _ _ _ _ _ _ _ _ c.put_decimal-end.ensures c.put_byte.ensures)
