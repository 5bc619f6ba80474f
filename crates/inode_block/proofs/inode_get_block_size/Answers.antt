-- `inode_get_block_size` meets its contract. Assumes nothing.
use mathlib.Core.Path.{sym, ap, ◌∙◌}
use Rattle.refusal.proofs.ExitLaws.{passed}
use Rattle.inode_read.specs.Calls.{size_answer}
use Rattle.inode_read.proofs.JudgeLaws.{known-got, known-refused, place-stands}
use Rattle.inode_read.proofs.CallLaws.{block-size-found}
use Rattle.inode_block.proofs.inode_get_block_size.Goals as goal

pub size_of_block-requires : goal.size_of_block-requires
size_of_block-requires c = (place-stands _ _ _ (known-got _ _ _ c.in_ok-geo.ensures)).frame.sizes

pub returns : goal.returns
returns c = c.size_of_block.ensures ∙ sym (ap size_answer (block-size-found _ _ _ (known-got _ _ _ c.in_ok-geo.ensures) _))

pub returns-in_err-geo : goal.returns-in_err-geo
returns-in_err-geo c = passed _ _ c.from_residual.ensures ∙ sym (ap size_answer (block-size-found _ _ _ (known-refused _ _ c.in_err-geo.ensures) _))
