-- `hit_at` meets its contract. Assumes nothing.
use mathlib.Core.Path.{◌≡◌, sym, ap, ◌∙◌}
use Prim.Native.Nat.{ℕ}
use Rattle.std.specs.Prelude.{Option, Ok, Err, ok_or}
use Rattle.refusal.specs.declared.Refusal.TheVariants.{NoAttribute}
use Rattle.attrrec.specs.declared.Entry.{Entry}
use Rattle.refusal.proofs.ExitLaws.{passed}
use Rattle.xattr.proofs.AreaLaws.{area-inside}
use Rattle.xattr.proofs.CallLaws.{hit-lies, hit-found}
use Rattle.xattr.proofs.hit_at.Goals as goal

pub find_in-requires : goal.find_in-requires
find_in-requires c = (area-inside _ _ _ c.requires.0 _ (sym c.in_ok-a.ensures)).0

pub returns : goal.returns
returns c = hit-found _ _ _ _ _ c.in_ok-a.ensures _ (ap Ok (sym c.in_ok-b.ensures.ok_part) ∙ c.in-Ok.ensures)

pub returns-in_err-b : goal.returns-in_err-b
returns-in_err-b c =
    let none = c.in_err-b.ensures.ok_part in
    let w = c.in_err-b.ensures.value ∙ ap (λ (k : Option (ℕ × Entry)). ok_or k NoAttribute) none in
    let e : c.in_err-b.field-0.0 ≡ NoAttribute = cc in
    passed _ _ c.from_residual-in_err-b.ensures ∙ ap Err e ∙ hit-found _ _ _ _ _ c.in_ok-a.ensures _ (ap Ok (sym none) ∙ c.in-Ok.ensures)

pub returns-in_default : goal.returns-in_default
returns-in_default c = hit-found _ _ _ _ _ c.in_ok-a.ensures _ c.in_default.ensures

pub returns-in_err-a : goal.returns-in_err-a
returns-in_err-a c = passed _ _ c.from_residual.ensures ∙ hit-lies _ _ _ _ _ c.in_err-a.ensures
