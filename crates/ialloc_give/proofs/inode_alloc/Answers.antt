-- `inode_alloc` meets its contract. Assumes nothing.
use Rattle.std.specs.Prelude.{Option, ok_or}
use Rattle.std.proofs.Common.{◌≡◌, ℕ, sym, ap, ◌∙◌, rules}
use Rattle.refusal.specs.declared.Refusal.TheVariants.{NoSpace}
use Rattle.refusal.proofs.ExitLaws.{passed}
use Rattle.store.proofs.ActLaws.{leaves-refuse}
use Rattle.ialloc_give.proofs.ChooseLaws.{chosen-is}
use Rattle.ialloc_give.proofs.GiveLaws.{give-chosen}
use Rattle.ialloc_give.proofs.inode_alloc.Goals as goal

pub give_at-requires : goal.give_at-requires
give_at-requires c =
    let i = chosen-is _ _ _ _ (sym c.inode_choose.ensures ∙ c.in_ok-g.ensures.ok_part) in
    (c.requires, i.group, i.inode)

pub returns : goal.returns
returns c =
    c.give_at.ensures ∙ give-chosen _ _ _ (sym c.in_ok-g.ensures.ok_part ∙ c.inode_choose.ensures)

pub returns-in_err-g : goal.returns-in_err-g
returns-in_err-g c =
    let none = c.in_err-g.ensures.ok_part in
    let w = c.in_err-g.ensures.value ∙ ap (λ (o : Option (ℕ × ℕ)). ok_or o NoSpace) none in
    let e : c.in_err-g.field-0.0 ≡ NoSpace = cc in
    rw (passed _ _ c.from_residual.ensures, e)
    (leaves-refuse NoSpace _ ∙ give-chosen _ _ _ (sym none ∙ c.inode_choose.ensures))
