-- `link_tail` meets its contract. Assumes nothing.
use borrow.Author.Rules.{rules}
use mathlib.Core.Path.{sym, ap, ◌∙◌}
use native.Mathlib.Omega.{arith}
use Rattle.std.specs.Prelude.{Ok}
use Rattle.dirwalk.specs.Walk.{space_out}
use Rattle.dirjudge.specs.Judge.{link_end}
use Rattle.dirjudge.proofs.JudgeLaws.{end_fits}
use Rattle.dirjudge.proofs.link_tail.Goals as goal

pub overflow_add-shape : goal.overflow_add-shape
overflow_add-shape c =
    let none = rw c.in-Ok-None.is at c.in-Ok-None.field-0-is in
    let full = c.in-Ok-None.is ∙ ap Ok none in
    let f = end_fits c.args.geo c.args.s.shape.size _ c.requires.0 (sym (ap (λ r. link_end c.args.geo c.args.s.shape.size (space_out r)) full) ∙ c.requires.2) in
    omega (arith, f)
