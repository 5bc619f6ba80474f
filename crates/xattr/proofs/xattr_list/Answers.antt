-- `xattr_list` meets its contract. Assumes nothing.
use mathlib.Core.Path.{◌∙◌}
use Rattle.refusal.proofs.ExitLaws.{passed}
use Rattle.inode_read.proofs.JudgeLaws.{known-got, place-stands}
use Rattle.xattr.proofs.ListLaws.{list_known_lem}
use Rattle.xattr.proofs.xattr_list.Goals as goal

pub list_at-requires : goal.list_at-requires
list_at-requires c = let p = place-stands _ _ _ (known-got _ _ _ c.in_ok-geo.ensures) in (p.frame, p.named.place.inside)

pub returns : goal.returns
returns c = c.list_at.ensures ∙ list_known_lem _ _ _ c.in_ok-geo.ensures _

pub returns-in_err-geo : goal.returns-in_err-geo
returns-in_err-geo c = let p = passed _ _ c.from_residual.ensures in rw p (list_known_lem _ _ _ c.in_err-geo.ensures _)
