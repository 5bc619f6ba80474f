-- `unlinked_in` meets its contract: what is answered is told by the record found and the one behind it. Assumes nothing.
use borrow.Author.Rules.{rules}
use mathlib.Core.Path.{sym, ap, ◌∙◌}
use Rattle.std.specs.Prelude.{Ok}
use Rattle.refusal.proofs.ExitLaws.{passed}
use Rattle.dirblock.proofs.RecordLaws.{never-unused}
use Rattle.dirwalk.proofs.UnlinkLaws.{answer-next, answer-alone, answer-hurt, answer-later, answer-absent, answer-bad}
use Rattle.dirwalk.proofs.unlinked_in.Goals as goal

pub returns-in_err-s : goal.returns-in_err-s
returns-in_err-s c = passed _ _ c.from_residual.ensures ∙ answer-bad _ _ _ (sym c.in_err-s.ensures)

pub returns-in_default : goal.returns-in_default
returns-in_default c = answer-absent _ _ _ (sym c.in_ok-s.ensures ∙ ap Ok c.in_default.is)

pub returns-in-Used : goal.returns-in-Used
returns-in-Used c = answer-next _ _ _ _ (sym c.in_ok-s.ensures ∙ ap Ok c.in-Some.is) c.if-s-eq0.true _ (sym c.rec_at.ensures ∙ c.in-Used.is)

pub returns-in-Unused : goal.returns-in-Unused
returns-in-Unused c = absurd (never-unused _ _ _ _ (sym c.rec_at.ensures ∙ c.in-Unused.is))

pub returns-in-End : goal.returns-in-End
returns-in-End c = answer-alone _ _ _ _ (sym c.in_ok-s.ensures ∙ ap Ok c.in-Some.is) c.if-s-eq0.true (sym c.rec_at.ensures ∙ c.in-End.is)

pub returns-in-Bad : goal.returns-in-Bad
returns-in-Bad c = answer-hurt _ _ _ _ (sym c.in_ok-s.ensures ∙ ap Ok c.in-Some.is) c.if-s-eq0.true (sym c.rec_at.ensures ∙ c.in-Bad.is)

pub returns : goal.returns
returns c = answer-later _ _ _ _ (sym c.in_ok-s.ensures ∙ ap Ok c.in-Some.is) c.if-s-eq0.false
