-- `put_hex` meets its contract: after i turns the first i bytes are written. Assumes nothing.
use borrow.Author.Rules.{rules}
use native.Mathlib.Omega.{arith}
use mathlib.Core.Path.{◌≡◌, refl, ap, ◌∙◌}
use Prim.Native.Nat.{ℕ, ◌+◌, ◌-◌, ◌≤◌}
use lib.ListN.{length}
use Rattle.field.specs.Field.{part}
use Rattle.dirtext.specs.Text.{hex_text, wrote}
use Rattle.dirtext.proofs.TextLaws.{wrote-long, hex-start, hex-place, hex-turn}
use Rattle.dirtext.proofs.put_hex.Goals as goal

pub loop-i-init : goal.loop-i-init
loop-i-init c = (search rules, hex-start _ _ _ _)

pub put_byte-high-requires : goal.put_byte-high-requires
put_byte-high-requires c = let p = hex-place _ _ _ _ _ _ _ c.loop-i.invariant.1 (omega arith) in omega (arith, p.0, p.1)

pub put_byte-end-requires : goal.put_byte-end-requires
put_byte-end-requires c = let p = hex-place _ _ _ _ _ _ _ c.loop-i.invariant.1 (omega arith) in let w = wrote-long _ _ _ _ _ c.put_byte-high.ensures in omega (arith, p.0, p.1, w.0, w.1)

pub loop-i-preserved : goal.loop-i-preserved
loop-i-preserved c = (search rules, hex-turn _ _ _ _ _ _ _ c.loop-i.invariant.1 _ _ _ _ _ _ _ (omega arith) refl c.glyph.ensures c.glyph-in-loop-i.ensures c.put_byte-high.ensures c.put_byte-end.ensures)

pub returns : goal.returns
returns c = let a = c.args in c.loop-i.invariant.1 ∙ ap (λ (m : ℕ). wrote a.at (hex_text (part m a.from a.block.now)) a.out.now) (omega arith)
