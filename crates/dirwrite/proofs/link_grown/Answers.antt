-- `link_grown` meets its contract. Assumes nothing.
use borrow.Author.Rules.{rules}
use mathlib.Core.Path.{refl, ◌∙◌}
use native.Mathlib.Omega.{arith}
use Rattle.refusal.proofs.ExitLaws.{passed}
use Rattle.field.specs.Field.{zeros}
use Rattle.books.proofs.KeepLaws.{kept-left}
use Rattle.dirwrite.proofs.WriteLaws.{sole-long, grown-done, grown-stop}
use Rattle.dirwrite.proofs.WriteKeeps.{keeps-resize}
use Rattle.dirwrite.proofs.link_grown.Goals as goal

pub sole_block-requires : goal.sole_block-requires
unfolding zeros
sole_block-requires c = (refl, c.requires.4)

pub write_at-requires : goal.write_at-requires
write_at-requires c =
    let k = c.requires in
    let s = kept-left _ (keeps-resize _ _ k.2 _ _) k.0 c.resize.ensures in
    let l = sole-long _ _ _ _ c.sole_block.ensures in
    (s.frame, omega (arith, s.long, k.1), k.2, omega (arith, k.3, l))

pub returns : goal.returns
returns c = c.write_at.ensures ∙ grown-done _ _ _ _ _ _ _ c.in_ok-resize.ensures (omega arith) refl _ refl c.sole_block.ensures

pub returns-in_err-resize : goal.returns-in_err-resize
returns-in_err-resize c = rw (passed _ _ c.from_residual.ensures) (grown-stop _ _ _ _ _ _ _ c.in_err-resize.ensures (omega arith) refl)
