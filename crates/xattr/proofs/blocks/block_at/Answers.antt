-- `blocks::block_at` meets its contract. Assumes nothing.
use mathlib.Core.Path.{sym, ap, ◌∙◌}
use native.Mathlib.Omega.{arith}
use Rattle.frame.specs.Frame.{run_okb}
use Rattle.xattr.proofs.AreaLaws.{block_none, block-zero, block-hit, block-miss, run_holds}
use Rattle.xattr.proofs.blocks.block_at.Goals as goal

pub returns-then-n-eq0 : goal.returns-then-n-eq0
returns-then-n-eq0 c = sym (block_none _ _ _ _ _ c.if-n-eq0.true)

pub returns-then-a-eq0 : goal.returns-then-a-eq0
returns-then-a-eq0 c = sym (block-zero _ _ _ _ _ c.if-n-eq0.false _ c.read_extb.ensures c.if-a-eq0.true)

pub address_at-requires : goal.address_at-requires
address_at-requires c = let s = c.args in let p = c.requires in let h = run_holds s.geo s.at s.img.now s.j s.n p.0 c.read_extb.result (ap (run_okb s.geo s.img.now c.read_extb.result) (sym c.frags_of.ensures) ∙ sym c.run_ok.ensures ∙ c.if-run_ok.true) in omega (arith, h, p.0.laid.high)

pub returns-then-run_ok : goal.returns-then-run_ok
returns-then-run_ok c = block-hit _ _ _ _ _ c.if-n-eq0.false _ c.read_extb.ensures c.if-a-eq0.false _ c.frags_of.ensures (sym c.run_ok.ensures ∙ c.if-run_ok.true) _ c.address_at.ensures

pub returns : goal.returns
returns c = block-miss _ _ _ _ _ c.if-n-eq0.false _ c.read_extb.ensures c.if-a-eq0.false _ c.frags_of.ensures (sym c.run_ok.ensures ∙ c.if-run_ok.false)
