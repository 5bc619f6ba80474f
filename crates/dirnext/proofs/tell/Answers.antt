-- `tell` meets its contract. Assumes nothing.
use borrow.Author.Rules.{rules}
use mathlib.Core.Path.{◌≡◌, sym, ap, ◌∙◌}
use Rattle.inode.specs.Kind.{kind_of}
use Rattle.std.specs.Prelude.{Err}
use Rattle.std.specs.Option.{ok_or}
use Rattle.refusal.specs.declared.Refusal.TheVariants.{Damaged}
use Rattle.refusal.proofs.ExitLaws.{passed}
use Rattle.dirnext.proofs.NextLaws.{kind-number, told_is, told-nameless}
use Rattle.dirnext.proofs.tell.Goals as goal

pub returns-in_err-kind : goal.returns-in_err-kind
returns-in_err-kind c =
    let none = c.in_err-kind.ensures.ok_part in
    let e : c.in_err-kind.field-0.0 ≡ Damaged = (let w = c.in_err-kind.ensures.value ∙ ap (λ x. ok_or x Damaged) none in cc) in
    passed _ _ c.from_residual.ensures ∙ ap Err e
    ∙ told-nameless _ _ _ _ _ (sym (ap kind_of (kind-number _)) ∙ sym c.kind_of.ensures ∙ none)

pub returns : goal.returns
returns c = told_is _ _ _ _ _ _ (sym (ap kind_of (kind-number _)) ∙ sym c.kind_of.ensures ∙ c.in_ok-kind.ensures.ok_part)
