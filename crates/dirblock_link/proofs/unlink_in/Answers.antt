-- `unlink_in` meets its contract. Assumes nothing.
use borrow.Author.Rules.{rules}
use mathlib.Core.Path.{sym, ap, ◌∙◌}
use Rattle.std.specs.Prelude.{Ok}
use Rattle.refusal.proofs.ExitLaws.{passed}
use Rattle.dirblock.proofs.LinkLaws.{first-there, later-behind, unlink-first-told, unlink-later-told, unlink-absent, unlink-bad}
use Rattle.dirblock_link.proofs.unlink_in.Goals as goal

pub unlink_first-requires : goal.unlink_first-requires
unlink_first-requires c = (c.requires, first-there _ _ _ _ (sym c.in_ok-s.ensures ∙ ap Ok c.in-Some.is) c.if-s-eq0.true)

pub returns-then-s-eq0 : goal.returns-then-s-eq0
returns-then-s-eq0 c = c.unlink_first.ensures ∙ sym (unlink-first-told _ _ _ _ (sym c.in_ok-s.ensures ∙ ap Ok c.in-Some.is) c.if-s-eq0.true)

pub unlink_later-requires : goal.unlink_later-requires
unlink_later-requires c = (c.requires, later-behind _ _ _ _ (sym c.in_ok-s.ensures ∙ ap Ok c.in-Some.is) c.if-s-eq0.false)

pub returns : goal.returns
returns c = c.unlink_later.ensures ∙ sym (unlink-later-told _ _ _ _ (sym c.in_ok-s.ensures ∙ ap Ok c.in-Some.is) c.if-s-eq0.false)

pub returns-in_default : goal.returns-in_default
returns-in_default c = unlink-absent _ _ _ (sym c.in_ok-s.ensures ∙ ap Ok c.in_default.is)

pub returns-in_err-s : goal.returns-in_err-s
returns-in_err-s c = rw (passed _ _ c.from_residual.ensures) (unlink-bad _ _ _ (sym c.in_err-s.ensures))
