-- `free_own` meets its contract. Assumes nothing.
use borrow.Author.Rules.{rules}
use Rattle.refusal.proofs.ExitLaws.{passed}
use Rattle.ialloc_tree.proofs.TreeLaws.{took_left, told-got, told-refused, own-freed, own-refused}
use Rattle.ialloc_tree.proofs.free_own.Goals as goal

pub returns : goal.returns
returns c =
    own-freed _ _ _ _ (took_left _ _ _ _ c.requires c.blk_take.ensures) (told-got c.blk_take.result c.in_ok-map_err.ensures.variant)

pub returns-in_err-map_err : goal.returns-in_err-map_err
returns-in_err-map_err c =
    let m = c.in_err-map_err.ensures in
    let t = told-refused c.blk_take.result c.in_err-map_err.field-0.0 m.variant m.cases (λ e p. search rules) in
    rw (passed _ _ c.from_residual.ensures, t.2)
    (own-refused _ _ _ _ (took_left _ _ _ _ c.requires c.blk_take.ensures) _ t.1)
