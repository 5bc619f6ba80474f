-- `xattr_list_len` meets its contract. Assumes nothing.
use mathlib.Core.Path.{◌∙◌}
use Rattle.refusal.proofs.ExitLaws.{passed}
use Rattle.inode_read.proofs.JudgeLaws.{known-got, place-stands}
use Rattle.xattr.proofs.CallLaws.{list-len-known}
use Rattle.xattr.proofs.xattr_list_len.Goals as goal

pub read_extsize-requires : goal.read_extsize-requires
read_extsize-requires c = (place-stands _ _ _ (known-got _ _ _ c.in_ok-geo.ensures)).named.place.inside

pub returns : goal.returns
returns c = rw c.read_extsize.ensures (list-len-known _ _ _ c.in_ok-geo.ensures)

pub returns-in_err-geo : goal.returns-in_err-geo
returns-in_err-geo c = passed _ _ c.from_residual.ensures ∙ list-len-known _ _ _ c.in_err-geo.ensures
