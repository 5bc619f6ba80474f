-- `put_line` meets its contract. Assumes nothing.
use borrow.Author.Rules.{rules}
use native.Mathlib.Omega.{arith}
use Rattle.dirtext.proofs.TextLaws.{wrote-long, wrote_line}
use Rattle.dirtext.proofs.put_line.Goals as goal

pub returns : goal.returns
returns c = (wrote_line _ c.args.pos c.args.e _ _ _ _ _ _ _ _ _ _ _ _ _ _ c.put_spaced-inr.ensures.0 c.put_spaced-reclen.ensures.0 c.put_spaced-kind.ensures.0 c.put_spaced-name.ensures.0 c.put_name-end.ensures.0 c.put_byte.ensures, let w = wrote-long _ _ _ _ _ c.put_byte.ensures in omega (arith, w.1))
