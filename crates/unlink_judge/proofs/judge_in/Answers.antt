-- `judge_in` meets its contract. Assumes nothing.
use borrow.Author.Rules.{rules}
use mathlib.Core.Path.{sym, ap, ◌∙◌}
use Rattle.std.specs.Prelude.{Ok}
use Rattle.dirwalk.specs.Walk.{seen_out}
use Rattle.unlink_judge.proofs.UnlinkLaws.{found_number, found-size, left-nowhere, left-hurt, left-hit}
use Rattle.unlink_judge.proofs.judge_in.Goals as goal

pub returns-in-Err : goal.returns-in-Err
returns-in-Err c = sym (left-hurt _ _ _ _ (sym c.in-Err.ensures))

pub returns-in_default : goal.returns-in_default
returns-in_default c = sym (left-nowhere _ _ _ _ (sym c.in-Ok.ensures ∙ ap (λ x. seen_out (Ok x)) c.in_default.is))

pub judge_hit-requires : goal.judge_hit-requires
judge_hit-requires c = (
  c.requires.0,
  found_number _ _ _ (sym c.found_ok.ensures ∙ c.if-not-found_ok.false),
  found-size _ _ _ _ _ _ (sym c.in-Ok.ensures ∙ ap (λ x. seen_out (Ok x)) c.in-Some.is),
)

pub returns : goal.returns
returns c =
    c.judge_hit.ensures
    ∙ sym (left-hit _ _ _ _ _ (sym c.in-Ok.ensures ∙ ap (λ x. seen_out (Ok x)) c.in-Some.is) (sym c.found_ok.ensures ∙ c.if-not-found_ok.false))
