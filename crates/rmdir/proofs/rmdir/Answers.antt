-- `rmdir` meets its contract. Assumes nothing.
use borrow.Author.Rules.{rules}
use borrow.Author.Tests.{not-true, not-false}
use mathlib.Core.Path.{sym, ◌∙◌}
use Rattle.inode_read.proofs.JudgeLaws.{taken-frame}
use Rattle.rmdir.proofs.RmdirLaws.{rmdir-unsound, rmdir-read-only, rmdir-taken}
use Rattle.rmdir.proofs.rmdir.Goals as goal

pub returns-then-not-vol : goal.returns-then-not-vol
returns-then-not-vol c = rmdir-read-only _ _ _ _ _ (sym c.in-Ok.ensures) (not-true _ c.if-not-vol.true)

pub rmdir_in-requires : goal.rmdir_in-requires
rmdir_in-requires c = taken-frame _ _ (sym c.in-Ok.ensures)

pub returns : goal.returns
returns c = c.rmdir_in.ensures ∙ rmdir-taken _ _ _ _ _ (sym c.in-Ok.ensures) (not-false _ c.if-not-vol.false)

pub returns-in_default : goal.returns-in_default
returns-in_default c = rmdir-unsound _ _ _ _ (sym c.in_default.ensures)
