-- `hitchsnow_inode_resolve_block` meets its contract: the words of each answer. Assumes nothing.
use borrow.Author.Rules.{rules}
use mathlib.Core.Path.{◌≡◌, sym, ap, ◌∙◌}
use Rattle.std.specs.Prelude.{Ok, Some}
use Prim.Native.Nat.{ℕ}
use Rattle.boundary_inode.specs.Words.{resolved_words}
use Rattle.boundary_inode.proofs.hitchsnow_inode_resolve_block.Goals as goal

pub returns-in-Ok-Some : goal.returns-in-Ok-Some
returns-in-Ok-Some c = let e : c.inode_resolve_block.result ≡ Ok (Some c.in-Ok-Some.a) = search rules in ap resolved_words (sym e ∙ c.inode_resolve_block.ensures)

pub returns-in-Ok-None : goal.returns-in-Ok-None
returns-in-Ok-None c = ap resolved_words (sym (c.in-Ok-None.is ∙ ap Ok c.in-Ok-None.field-0-is) ∙ c.inode_resolve_block.ensures)

pub returns-in-Err : goal.returns-in-Err
returns-in-Err c = ap (λ (n : ℕ). (n, 0)) c.number.ensures ∙ ap resolved_words (sym c.in-Err.is ∙ c.inode_resolve_block.ensures)
