-- `free_block` meets its contract. Assumes nothing.
use Rattle.std.specs.Prelude.{Option, ok_or}
use borrow.Author.Rules.{rules}
use borrow.Author.Tests.{not-true, not-false}
use mathlib.Core.Path.{◌≡◌, sym, ap, ◌∙◌}
use Prim.Native.Nat.{ℕ}
use Rattle.refusal.specs.declared.Refusal.TheVariants.{Damaged}
use Rattle.refusal.proofs.ExitLaws.{passed}
use Rattle.ialloc_tree.proofs.TreeLaws.{took_left, told-got, told-refused, block-unsized, block-past, block-freed, block_refused}
use Rattle.ialloc_tree.proofs.free_block.Goals as goal

pub returns-then-not-is_sized : goal.returns-then-not-is_sized
returns-then-not-is_sized c = block-unsized _ _ _ _ _ _ (sym c.is_sized.ensures ∙ c.if-not-is_sized.true)

pub returns-in_err-n : goal.returns-in_err-n
returns-in_err-n c =
    let none = c.in_err-n.ensures.ok_part in
    let w = c.in_err-n.ensures.value ∙ ap (λ (o : Option ℕ). ok_or o Damaged) none in
    let e : c.in_err-n.field-0.0 ≡ Damaged = cc in
    rw (passed _ _ c.from_residual.ensures, e)
    (block-past _ _ _ _ _ _ (sym c.is_sized.ensures ∙ c.if-not-is_sized.false) (sym c.get_block_size.ensures ∙ none))

pub returns-in_err-map_err : goal.returns-in_err-map_err
returns-in_err-map_err c =
    let m = c.in_err-map_err.ensures in
    let t = told-refused c.blk_take.result c.in_err-map_err.field-0.0 m.variant m.cases (λ e p. search rules) in
    rw (passed _ _ c.from_residual-in_err-map_err.ensures, t.2)
    (block_refused _ _ _ _ _ _ (sym c.is_sized.ensures ∙ c.if-not-is_sized.false) _ (sym c.get_block_size.ensures ∙ c.in_ok-n.ensures.ok_part)
    (took_left _ _ _ _ c.requires c.blk_take.ensures) _ t.1)

pub returns : goal.returns
returns c =
    rw c.saturating_sub.ensures
    (block-freed _ _ _ _ _ _ (sym c.is_sized.ensures ∙ c.if-not-is_sized.false) _ (sym c.get_block_size.ensures ∙ c.in_ok-n.ensures.ok_part)
    (took_left _ _ _ _ c.requires c.blk_take.ensures) (told-got c.blk_take.result c.in_ok-map_err.ensures.variant))
