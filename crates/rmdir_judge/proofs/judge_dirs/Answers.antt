-- `judge_dirs` meets its contract. Assumes nothing.
use borrow.Author.Rules.{rules}
use mathlib.Core.Path.{sym, ap, ◌∙◌}
use Rattle.std.specs.Prelude.{Ok}
use Rattle.refusal.proofs.ExitLaws.{passed}
use Rattle.inode_grow.specs.Grow.{growth_out}
use Rattle.dirwalk.specs.Walk.{seen_out}
use Rattle.dirwalk.proofs.HereLaws.{find-here}
use Rattle.rmdir_judge.proofs.StepLaws.{hit-number, own-numbers}
use Rattle.rmdir_judge.proofs.RmdirLaws.{dirs-no, dirs-other, dirs-hits, dirs-no-dot, dirs-bad-dot, dirs-no-dots, dirs-bad-dots, dirs-no-link, dirs-bad-link}
use Rattle.rmdir_judge.proofs.judge_dirs.Goals as goal

pub returns-then-not-own_ok : goal.returns-then-not-own_ok
returns-then-not-own_ok c =
    dirs-no _ _ _ _ _ _ c.find_dir-link.result c.find_dir-up.result c.find_dir-own.result c.find_dir-link.ensures c.find_dir-up.ensures c.find_dir-own.ensures
    (sym c.own_ok.ensures ∙ c.if-not-own_ok.true)

pub returns-in_err-v : goal.returns-in_err-v
returns-in_err-v c =
    ap growth_out (passed _ _ c.from_residual.ensures)
    ∙ dirs-bad-link _ _ _ _ _ _ c.find_dir-link.result c.find_dir-up.result c.find_dir-own.result c.find_dir-link.ensures c.find_dir-up.ensures c.find_dir-own.ensures
    (sym c.own_ok.ensures ∙ c.if-not-own_ok.false) c.in_err-v.was

pub returns-in_default : goal.returns-in_default
returns-in_default c =
    dirs-no-link _ _ _ _ _ _ c.find_dir-link.result c.find_dir-up.result c.find_dir-own.result c.find_dir-link.ensures c.find_dir-up.ensures c.find_dir-own.ensures
    (sym c.own_ok.ensures ∙ c.if-not-own_ok.false) (c.in_ok-v.was ∙ ap Ok c.in_default.is)

pub returns-then-v-i : goal.returns-then-v-i
returns-then-v-i c =
    dirs-other _ _ _ _ _ _ c.find_dir-link.result c.find_dir-up.result c.find_dir-own.result c.find_dir-link.ensures c.find_dir-up.ensures c.find_dir-own.ensures
    (sym c.own_ok.ensures ∙ c.if-not-own_ok.false) _ (c.in_ok-v.was ∙ ap Ok c.in-Some.is) c.if-v-i.true

pub returns-in_err-q : goal.returns-in_err-q
returns-in_err-q c =
    ap growth_out (passed _ _ c.from_residual-in_err-q.ensures)
    ∙ dirs-bad-dots _ _ _ _ _ _ c.find_dir-link.result c.find_dir-up.result c.find_dir-own.result c.find_dir-link.ensures c.find_dir-up.ensures c.find_dir-own.ensures
    (sym c.own_ok.ensures ∙ c.if-not-own_ok.false) _ (c.in_ok-v.was ∙ ap Ok c.in-Some.is) c.if-v-i.false c.in_err-q.was

pub returns-in_default-2 : goal.returns-in_default-2
returns-in_default-2 c =
    dirs-no-dots _ _ _ _ _ _ c.find_dir-link.result c.find_dir-up.result c.find_dir-own.result c.find_dir-link.ensures c.find_dir-up.ensures c.find_dir-own.ensures
    (sym c.own_ok.ensures ∙ c.if-not-own_ok.false) _ (c.in_ok-v.was ∙ ap Ok c.in-Some.is) c.if-v-i.false (c.in_ok-q.was ∙ ap Ok c.in_default-2.is)

pub returns-in_err-c : goal.returns-in_err-c
returns-in_err-c c =
    ap growth_out (passed _ _ c.from_residual-in_err-c.ensures)
    ∙ dirs-bad-dot _ _ _ _ _ _ c.find_dir-link.result c.find_dir-up.result c.find_dir-own.result c.find_dir-link.ensures c.find_dir-up.ensures c.find_dir-own.ensures
    (sym c.own_ok.ensures ∙ c.if-not-own_ok.false) _ (c.in_ok-v.was ∙ ap Ok c.in-Some.is) c.if-v-i.false _ (c.in_ok-q.was ∙ ap Ok c.in-Some-2.is) c.in_err-c.was

pub returns-in_default-3 : goal.returns-in_default-3
returns-in_default-3 c =
    dirs-no-dot _ _ _ _ _ _ c.find_dir-link.result c.find_dir-up.result c.find_dir-own.result c.find_dir-link.ensures c.find_dir-up.ensures c.find_dir-own.ensures
    (sym c.own_ok.ensures ∙ c.if-not-own_ok.false) _ (c.in_ok-v.was ∙ ap Ok c.in-Some.is) c.if-v-i.false _ (c.in_ok-q.was ∙ ap Ok c.in-Some-2.is) (c.in_ok-c.was ∙ ap Ok c.in_default-3.is)

pub judge_hits-requires : goal.judge_hits-requires
judge_hits-requires c =
    let p = c.requires in
    let k = own-numbers _ _ _ c.find_dir-up.result c.find_dir-own.result (sym c.own_ok.ensures ∙ c.if-not-own_ok.false) in
    let u = c.in_ok-q.was ∙ ap Ok c.in-Some-2.is in
    let o = c.in_ok-c.was ∙ ap Ok c.in-Some-3.is in (
      p.0,
      p.2,
      (find-here _ _ _ _ _ _ (sym c.find_dir-own.ensures ∙ ap seen_out o)).inside,
      record {
        gone = p.3;
        up = hit-number _ _ c.find_dir-up.result u k.0;
        own = hit-number _ _ c.find_dir-own.result o k.1;
      },
    )

pub returns : goal.returns
returns c =
    dirs-hits _ _ _ _ _ _ c.find_dir-link.result c.find_dir-up.result c.find_dir-own.result c.find_dir-link.ensures c.find_dir-up.ensures c.find_dir-own.ensures
    (sym c.own_ok.ensures ∙ c.if-not-own_ok.false) _ (c.in_ok-v.was ∙ ap Ok c.in-Some.is) c.if-v-i.false _ (c.in_ok-q.was ∙ ap Ok c.in-Some-2.is) _ (c.in_ok-c.was ∙ ap Ok c.in-Some-3.is) _ c.judge_hits.ensures
