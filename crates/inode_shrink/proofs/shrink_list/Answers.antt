-- `shrink_list` meets its contract. Assumes nothing.
use mathlib.Core.Path.{refl, sym, ◌∙◌}
use Rattle.refusal.proofs.ExitLaws.{passed}
use Rattle.books.proofs.SteadyLaws.{steady-run}
use Rattle.books.proofs.KeepLaws.{kept-left}
use Rattle.inode_shrink.proofs.ShrinkLaws.{shrink-none, shrink-bad, shrink-refused, shrink-done, keeps-rest}
use Rattle.inode_shrink.proofs.shrink_list.Goals as goal

pub returns-then-a-eq0 : goal.returns-then-a-eq0
returns-then-a-eq0 c = shrink-none _ _ _ _ _ _ _ c.if-a-eq0.true

pub returns-then-not-run_ok : goal.returns-then-not-run_ok
returns-then-not-run_ok c = shrink-bad _ _ _ _ _ _ _ c.if-a-eq0.false (sym c.run_ok.ensures ∙ c.if-not-run_ok.true)

pub free_rest-requires : goal.free_rest-requires
free_rest-requires c =
    let k = c.requires in
    (k.0, sym c.run_ok.ensures ∙ c.if-not-run_ok.false, k.1)

pub zero_rest-requires : goal.zero_rest-requires
zero_rest-requires c =
    let k = c.requires in
    let st = kept-left _ (keeps-rest _ _ _ _ _ _) k.0 c.in_ok-n.ensures in
    (st.frame, steady-run _ st _ _ ∙ sym c.run_ok.ensures ∙ c.if-not-run_ok.false, k.2)

pub returns : goal.returns
returns c =
    shrink-done _ _ _ _ _ _ _ c.if-a-eq0.false (sym c.run_ok.ensures ∙ c.if-not-run_ok.false) c.in_ok-n.ensures refl c.zero_rest.ensures

pub returns-in_err-n : goal.returns-in_err-n
returns-in_err-n c =
    rw (passed _ _ c.from_residual.ensures) (shrink-refused _ _ _ _ _ _ _ c.if-a-eq0.false (sym c.run_ok.ensures ∙ c.if-not-run_ok.false) c.in_err-n.ensures refl)
