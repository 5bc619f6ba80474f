-- `list::write_texts` meets its contract: the texts of the attributes passed are written. Assumes nothing.
use borrow.Author.Rules.{rules}
use mathlib.Core.Path.{◌≡◌, refl, sym, ap, ◌∙◌}
use Rattle.std.specs.Prelude.{Option, Some, None, Result, Ok, Err}
use Rattle.std.specs.Result.{result_unwrap_or}
use Rattle.refusal.specs.declared.Damage.{Damage}
use Rattle.refusal.specs.Refusal.{damage}
use Rattle.attrrec.specs.declared.Entry.{Entry}
use Prim.Native.Nat.{ℕ}
use native.Mathlib.Omega.{arith}
use Rattle.attrrec.proofs.WalkLaws.{sized}
use Rattle.xattr.proofs.AreaLaws.{length-gathered}
use Rattle.xattr.proofs.ListLaws.{write_start, write-fits, write-next, write-end, write-bad}
use Rattle.xattr.proofs.list.write_texts.Goals as goal

-- an attribute that is seen was read, and where none is seen and no damage is met, none was read
there : (r : Result (Option Entry) Damage) (e : Entry) → Some e ≡ result_unwrap_or r None → r ≡ Ok (Some e)
there (Ok x) e h = ap Ok (sym h)
there (Err harm) e h = absurd (let z : ◌≡◌ {A = ℕ} 0 1 = cc in let y : ⊥ = omega arith in y)

past : (r : Result (Option Entry) Damage) → (r ≡ Err damage → ⊥) → None ≡ result_unwrap_or r None → r ≡ Ok None
past (Ok x) never h = ap Ok (sym h)
past (Err harm) never h = absurd (never refl)

pub loop-e-init : goal.loop-e-init
loop-e-init c = (search rules, refl, write_start _ _ _ c.requires.1)

pub attr_in-requires : goal.attr_in-requires
attr_in-requires c = c.requires.0

pub write_text-n-requires : goal.write_text-n-requires
write_text-n-requires c = let s = sized _ _ _ _ (sym c.attr_in.ensures ∙ there _ _ c.in-Some.ensures) in let g = length-gathered _ _ c.requires.0 in let w = (write-fits _ _ _ _ _ _ c.loop-e.invariant.2 _ (sym c.attr_in.ensures ∙ there _ _ c.in-Some.ensures)) in (c.requires.0, omega (arith, s.name, g), s.short, omega (arith, w.within, c.requires.2, c.loop-e.invariant.1))

pub overflow_add-n : goal.overflow_add-n
overflow_add-n c = let w = (write-fits _ _ _ _ _ _ c.loop-e.invariant.2 _ (sym c.attr_in.ensures ∙ there _ _ c.in-Some.ensures)).within in let r = c.write_text-n.ensures.1 in let q = c.requires.2 in search rules

pub overflow_add-b : goal.overflow_add-b
overflow_add-b c = let s = sized _ _ _ _ (sym c.attr_in.ensures ∙ there _ _ c.in-Some.ensures) in let g = length-gathered _ _ c.requires.0 in omega (arith, s.inside, g, c.requires.0.small)

pub loop-e-smaller : goal.loop-e-smaller
loop-e-smaller c = let s = sized _ _ _ _ (sym c.attr_in.ensures ∙ there _ _ c.in-Some.ensures) in let g = length-gathered _ _ c.requires.0 in omega (arith, s.inside, s.long, g)

pub loop-e-preserved : goal.loop-e-preserved
loop-e-preserved c = let s = sized _ _ _ _ (sym c.attr_in.ensures ∙ there _ _ c.in-Some.ensures) in let g = length-gathered _ _ c.requires.0 in (omega (arith, s.inside, g), search rules, write-next _ _ _ _ _ _ c.loop-e.invariant.2 _ (sym c.attr_in.ensures ∙ there _ _ c.in-Some.ensures) _ _ c.write_text-n.ensures)

pub returns : goal.returns
returns c =
    let w = c.loop-e.invariant.2 in
    write-end _ _ _ _ _ _ w (sym c.attr_in.ensures ∙ past _ (λ h. write-bad _ _ _ _ _ _ w (sym c.attr_in.ensures ∙ h)) (sym c.in_default.is ∙ c.unwrap_or.ensures))
