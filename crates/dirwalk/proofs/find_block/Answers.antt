-- `find_block` meets its contract. Assumes nothing.
use borrow.Author.Rules.{rules}
use mathlib.Core.Path.{sym, ap, ◌∙◌}
use Rattle.std.specs.Prelude.{Ok}
use Rattle.refusal.proofs.ExitLaws.{passed}
use Rattle.dirwalk.specs.Walk.{seen_in, seen_out}
use Rattle.dirwalk.proofs.ZeroLaws.{unlink-zeros}
use Rattle.dirwalk.proofs.BlockLaws.{said_at, said-hole, said-bad}
use Rattle.dirwalk.proofs.find_block.Goals as goal

pub returns-in_err-p : goal.returns-in_err-p
returns-in_err-p c = ap seen_out (passed _ _ c.from_residual.ensures) ∙ said-bad _ _ c.block_at.ensures.0 c.in_err-p.was

pub returns-in_default : goal.returns-in_default
returns-in_default c = sym (ap (seen_in c.args.k) (unlink-zeros _ _)) ∙ said-hole _ _ c.block_at.ensures.0 (c.in_ok-p.was ∙ ap Ok c.in_default.is)

pub returns-in_default-unlinked_in : goal.returns-in_default-unlinked_in
returns-in_default-unlinked_in c = ap (seen_in c.args.k) c.in_default-unlinked_in.ensures ∙ said_at _ _ c.block_at.ensures.0 _ (c.in_ok-p.was ∙ ap Ok c.in-Some.is)

pub returns-in-Done : goal.returns-in-Done
returns-in-Done c = sym (ap (seen_in c.args.k) (sym c.in-Ok.ensures ∙ ap Ok c.in-Done.is)) ∙ said_at _ _ c.block_at.ensures.0 _ (c.in_ok-p.was ∙ ap Ok c.in-Some.is)

pub returns-in-Alone : goal.returns-in-Alone
returns-in-Alone c = sym (ap (seen_in c.args.k) (sym c.in-Ok.ensures ∙ ap Ok c.in-Alone.is)) ∙ said_at _ _ c.block_at.ensures.0 _ (c.in_ok-p.was ∙ ap Ok c.in-Some.is)

pub returns-in-Absent : goal.returns-in-Absent
returns-in-Absent c = sym (ap (seen_in c.args.k) (sym c.in-Ok.ensures ∙ ap Ok c.in-Absent.is)) ∙ said_at _ _ c.block_at.ensures.0 _ (c.in_ok-p.was ∙ ap Ok c.in-Some.is)
