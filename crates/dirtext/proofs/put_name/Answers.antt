-- `put_name` meets its contract. Assumes nothing.
use borrow.Author.Rules.{rules}
use native.Mathlib.Omega.{arith}
use Rattle.dirtext.proofs.TextLaws.{wrote-long, name-dash, name-hex, name-short}
use Rattle.dirtext.proofs.put_name.Goals as goal

pub returns-then-e-eq0 : goal.returns-then-e-eq0
returns-then-e-eq0 c = let q = name-dash _ c.args.pos c.args.e c.requires.1 _ _ _ _ c.if-e-eq0.true c.put_byte.ensures in (q, omega (arith, (wrote-long _ _ _ _ _ q).1, name-short c.args.block.now c.args.pos c.args.e c.requires.1))

pub returns : goal.returns
returns c = let q = name-hex _ c.args.pos c.args.e c.requires.1 _ _ _ _ c.if-e-eq0.false c.put_hex.ensures in (q, omega (arith, (wrote-long _ _ _ _ _ q).1, name-short c.args.block.now c.args.pos c.args.e c.requires.1))
