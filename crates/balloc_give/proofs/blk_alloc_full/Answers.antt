-- `blk_alloc_full` meets its contract: the chosen block is given, or there is none. Assumes nothing.
use Rattle.std.specs.Prelude.{Option, ok_or}
use Rattle.std.proofs.Common.{◌≡◌, ℕ, sym, ap, ◌∙◌, arith, rules}
use Rattle.refusal.specs.declared.Refusal.TheVariants.{NoSpace}
use Rattle.refusal.proofs.ExitLaws.{passed}
use Rattle.balloc_give.proofs.GiveLaws.{chosen-is, address-fits, address-is, give-leaves, give-none}
use Rattle.balloc_give.proofs.blk_alloc_full.Goals as goal

pub store_give-requires : goal.store_give-requires
store_give-requires c =
    let i = chosen-is _ _ _ _ (sym c.blk_choose.ensures ∙ c.in_ok-g.ensures.ok_part) in
    (c.requires, i.group, i.block)

pub overflow_mul-a : goal.overflow_mul-a
overflow_mul-a c =
    let i = chosen-is _ _ _ _ (sym c.blk_choose.ensures ∙ c.in_ok-g.ensures.ok_part) in
    let q = address-fits _ _ c.requires _ _ i.group i.block in
    omega arith

pub overflow_add-a : goal.overflow_add-a
overflow_add-a c =
    let i = chosen-is _ _ _ _ (sym c.blk_choose.ensures ∙ c.in_ok-g.ensures.ok_part) in
    let q = address-fits _ _ c.requires _ _ i.group i.block in
    omega arith

pub returns : goal.returns
returns c =
    give-leaves _ _ _ _ _ (sym c.blk_choose.ensures ∙ c.in_ok-g.ensures.ok_part) _ _ _
    c.store_give.ensures
    (address-is _ _ _ _ c.product.ensures.0)
    c.min.ensures

pub returns-in_err-g : goal.returns-in_err-g
returns-in_err-g c =
    let none = c.in_err-g.ensures.ok_part in
    let w = c.in_err-g.ensures.value ∙ ap (λ (o : Option (ℕ × ℕ)). ok_or o NoSpace) none in
    let e : c.in_err-g.field-0.0 ≡ NoSpace = cc in
    rw (passed _ _ c.from_residual.ensures, e) (give-none _ _ _ (sym c.blk_choose.ensures ∙ none))
