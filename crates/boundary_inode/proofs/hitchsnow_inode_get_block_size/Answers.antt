-- `hitchsnow_inode_get_block_size` meets its contract: the words of each answer. Assumes nothing.
use borrow.Author.Rules.{rules}
use mathlib.Core.Path.{sym, ap, ◌∙◌}
use Prim.Native.Nat.{ℕ}
use Rattle.boundary_inode.specs.Words.{size_words}
use Rattle.boundary_inode.proofs.hitchsnow_inode_get_block_size.Goals as goal

pub returns-in-Ok : goal.returns-in-Ok
returns-in-Ok c = ap size_words (sym c.in-Ok.is ∙ c.inode_get_block_size.ensures)

pub returns-in-Err : goal.returns-in-Err
returns-in-Err c = ap (λ (n : ℕ). (n, 0)) c.number.ensures ∙ ap size_words (sym c.in-Err.is ∙ c.inode_get_block_size.ensures)
