-- `other_block` meets its contract. Assumes nothing.
use borrow.Author.Rules.{rules}
use mathlib.Core.Path.{◌≡◌, sym, ap, ◌∙◌}
use mathlib.Core.Bool.{Bool}
use Rattle.std.specs.Prelude.{Option, Some, None, Ok, is_some}
use Rattle.refusal.proofs.ExitLaws.{passed}
use Rattle.dirblock.specs.declared.Spot.{Spot}
use Rattle.dirwalk.proofs.BlockLaws.{said_at, said-hole, said-bad}
use Rattle.dirother.specs.Other.{stayed_in, others_out}
use Rattle.dirother.proofs.OtherLaws.{other-zeros}
use Rattle.dirother.proofs.other_block.Goals as goal

-- whether there is a record
there : (x : Option Spot) (t : Bool) → t ≡ is_some x → others_out (Ok t) ≡ stayed_in (Ok x)
there None t h = rw h
there (Some s) t h = rw h

pub returns-in_err-p : goal.returns-in_err-p
returns-in_err-p c = ap others_out (passed _ _ c.from_residual.ensures) ∙ said-bad _ _ c.block_at.ensures.0 c.in_err-p.was

pub returns-in_default : goal.returns-in_default
returns-in_default c = sym (ap stayed_in (other-zeros _)) ∙ said-hole _ _ c.block_at.ensures.0 (c.in_ok-p.was ∙ ap Ok c.in_default.is)

pub returns-in_err-other : goal.returns-in_err-other
returns-in_err-other c =
    ap others_out (passed _ _ c.from_residual-in_err-other.ensures) ∙ ap stayed_in c.in_err-other.ensures ∙ said_at _ _ c.block_at.ensures.0 _ (c.in_ok-p.was ∙ ap Ok c.in-Some.is)

pub returns : goal.returns
returns c =
    there c.in_ok-other.other c.is_some.result c.is_some.ensures ∙ ap stayed_in c.in_ok-other.ensures ∙ said_at _ _ c.block_at.ensures.0 _ (c.in_ok-p.was ∙ ap Ok c.in-Some.is)
