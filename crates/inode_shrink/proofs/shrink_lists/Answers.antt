-- `shrink_lists` meets its contract: the root is copied before anything is stored. Assumes nothing.
use mathlib.Core.Path.{sym, ◌∙◌}
use native.Mathlib.Omega.{arith}
use Rattle.inode.proofs.SizeLaws.{units}
use Rattle.mapping.proofs.MappingLaws.{per-some, per-most}
use Rattle.inode_shrink.proofs.ShrinkLaws.{lists-none, lists-not, lists-from, high-below, low-below, first-below}
use Rattle.inode_shrink.proofs.shrink_lists.Goals as goal

pub returns-then-a-eq0 : goal.returns-then-a-eq0
returns-then-a-eq0 c = lists-none _ _ _ _ _ _ _ c.if-a-eq0.true

pub returns-then-not-run_ok : goal.returns-then-not-run_ok
returns-then-not-run_ok c = lists-not _ _ _ _ _ _ _ c.if-a-eq0.false (sym c.run_ok.ensures ∙ c.if-not-run_ok.true)

pub per_list-per-requires : goal.per_list-per-requires
per_list-per-requires c = (units _ c.requires.0.sizes).block_top

pub nonzero_div-high : goal.nonzero_div-high
nonzero_div-high c = rw c.per_list-per.ensures.0 (per-some _ _ c.requires.0)

pub copy_root-requires : goal.copy_root-requires
copy_root-requires c =
    (c.requires.0, sym c.run_ok.ensures ∙ c.if-not-run_ok.false)

pub overflow_mul-high : goal.overflow_mul-high
overflow_mul-high c =
    let k = c.requires in
    omega (arith, first-below _ c.args.u _ c.per_list-per.ensures.0 (per-most _ _ k.0) k.2)

pub overflow_add-base : goal.overflow_add-base
overflow_add-base c =
    let k = c.requires in
    omega (arith, k.1, first-below _ c.args.u _ c.per_list-per.ensures.0 (per-most _ _ k.0) k.2)

pub nonzero_rem-u : goal.nonzero_rem-u
nonzero_rem-u c = rw c.per_list-per.ensures.0 (per-some _ _ c.requires.0)

pub shrink_from-requires : goal.shrink_from-requires
shrink_from-requires c =
    let k = c.requires in
    let e = c.per_list-per.ensures.0 in
    let z = per-some _ _ k.0 in
    (k.0, sym c.run_ok.ensures ∙ c.if-not-run_ok.false, omega (arith, k.1, first-below _ c.args.u _ e (per-most _ _ k.0) k.2), high-below _ _ _ e z k.2, low-below _ _ _ e z, c.copy_root.ensures)

pub returns : goal.returns
returns c =
    c.shrink_from.ensures
    ∙ lists-from _ _ _ _ _ _ _ c.if-a-eq0.false (sym c.run_ok.ensures ∙ c.if-not-run_ok.false) _ c.per_list-per.ensures.0
