-- `blocks::area_sized` meets its contract. Assumes nothing.
use borrow.Author.Rules.{rules}
use mathlib.Core.Path.{sym, ◌∙◌}
use native.Mathlib.Omega.{arith}
use Rattle.refusal.proofs.ExitLaws.{passed}
use Rattle.inode.proofs.SizeLaws.{units}
use Rattle.xattr.proofs.AreaLaws.{area-large, area-both, area-second-bad, area-first-bad}
use Rattle.xattr.proofs.blocks.area_sized.Goals as goal

pub returns-then-bs-size : goal.returns-then-bs-size
returns-then-bs-size c = sym (area-large _ _ _ _ (omega (arith, c.if-bs-size.true)))

pub block_at-requires : goal.block_at-requires
block_at-requires c = let b = units _ c.requires.0.sizes in (c.requires.0, c.requires.1, search rules, omega (arith, b.block_top, c.min-split.ensures))

pub block_at-requires-2 : goal.block_at-requires-2
block_at-requires-2 c = let b = units _ c.requires.0.sizes in (c.requires.0, c.requires.1, search rules, omega (arith, b.block_top, c.if-bs-size.false))

pub returns : goal.returns
returns c = area-both _ _ _ _ c.if-bs-size.false _ c.min-split.ensures _ _ c.in_ok-first.ensures c.in_ok-second.ensures

pub returns-in_err-second : goal.returns-in_err-second
returns-in_err-second c = passed _ _ c.from_residual-in_err-second.ensures ∙ area-second-bad _ _ _ _ c.if-bs-size.false _ c.min-split.ensures _ c.in_ok-first.ensures c.in_err-second.ensures

pub returns-in_err-first : goal.returns-in_err-first
returns-in_err-first c = passed _ _ c.from_residual.ensures ∙ area-first-bad _ _ _ _ c.if-bs-size.false _ c.min-split.ensures c.in_err-first.ensures
