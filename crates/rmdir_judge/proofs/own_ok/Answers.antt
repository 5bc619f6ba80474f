-- `own_ok` meets its contract. Assumes nothing.
use borrow.Author.Rules.{rules}
use mathlib.Core.Path.{sym, ◌∙◌}
use Rattle.rmdir_judge.proofs.StepLaws.{hit-number, unwrapped, own-no-up, own-no-own, own-met, own-no-dot, own-no-dots}
use Rattle.rmdir_judge.proofs.own_ok.Goals as goal

pub returns-then-not-hit_ok : goal.returns-then-not-hit_ok
returns-then-not-hit_ok c = own-no-up _ _ _ c.args.up c.args.own (sym c.hit_ok.ensures ∙ c.if-not-hit_ok.true)

pub returns-then-not-hit_ok-2 : goal.returns-then-not-hit_ok-2
returns-then-not-hit_ok-2 c = own-no-own _ _ _ c.args.up c.args.own (sym c.hit_ok.ensures ∙ c.if-not-hit_ok.false) (sym c.hit_ok-2.ensures ∙ c.if-not-hit_ok-2.true)

pub returns-in_default : goal.returns-in_default
returns-in_default c = own-no-dots _ _ _ c.args.up c.args.own (sym c.hit_ok.ensures ∙ c.if-not-hit_ok.false) (sym c.hit_ok-2.ensures ∙ c.if-not-hit_ok-2.false) (sym c.in_default.ensures)

pub returns-in_default-unwrap_or : goal.returns-in_default-unwrap_or
returns-in_default-unwrap_or c =
    own-no-dot _ _ _ c.args.up c.args.own (sym c.hit_ok.ensures ∙ c.if-not-hit_ok.false) (sym c.hit_ok-2.ensures ∙ c.if-not-hit_ok-2.false)
    (unwrapped c.args.up c.in-Some.ensures) (sym c.in_default-unwrap_or.ensures)

pub remain_all-requires : goal.remain_all-requires
remain_all-requires c =
    let p = c.requires in (
      p.0,
      record {
        gone = p.1;
        up = hit-number _ _ c.args.up (unwrapped c.args.up c.in-Some.ensures) (sym c.hit_ok.ensures ∙ c.if-not-hit_ok.false);
        own = hit-number _ _ c.args.own (unwrapped c.args.own c.in-Some-unwrap_or.ensures) (sym c.hit_ok-2.ensures ∙ c.if-not-hit_ok-2.false);
      },
    )

pub returns : goal.returns
returns c =
    own-met _ _ _ c.args.up c.args.own (sym c.hit_ok.ensures ∙ c.if-not-hit_ok.false) (sym c.hit_ok-2.ensures ∙ c.if-not-hit_ok-2.false)
    (unwrapped c.args.up c.in-Some.ensures) (unwrapped c.args.own c.in-Some-unwrap_or.ensures) _ c.remain_all.ensures
