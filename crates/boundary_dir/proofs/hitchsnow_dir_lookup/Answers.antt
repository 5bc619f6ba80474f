-- `hitchsnow_dir_lookup` meets its contract: the words of each answer. Assumes nothing.
use borrow.Author.Rules.{rules}
use mathlib.Core.Path.{sym, ap, ◌∙◌}
use Prim.Native.Nat.{ℕ}
use Rattle.boundary_dir.specs.Words.{lookup_words}
use Rattle.boundary_dir.proofs.hitchsnow_dir_lookup.Goals as goal

pub returns-in-Ok : goal.returns-in-Ok
returns-in-Ok c = ap lookup_words (sym c.in-Ok.is ∙ c.dir_lookup.ensures)

pub returns-in-Err : goal.returns-in-Err
returns-in-Err c = ap (λ (n : ℕ). (n, 0)) c.number.ensures ∙ ap lookup_words (sym c.in-Err.is ∙ c.dir_lookup.ensures)
