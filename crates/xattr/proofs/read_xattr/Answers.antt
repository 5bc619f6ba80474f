-- `read_xattr` meets its contract. Assumes nothing.
use mathlib.Core.Path.{◌∙◌}
use Rattle.refusal.proofs.ExitLaws.{passed}
use Rattle.inode_read.proofs.JudgeLaws.{known-got, place-stands}
use Rattle.xattr.proofs.CallLaws.{hit-known}
use Rattle.xattr.proofs.read_xattr.Goals as goal

pub hit_at-requires : goal.hit_at-requires
hit_at-requires c = let p = place-stands _ _ _ (known-got _ _ _ c.in_ok-geo.ensures) in (p.frame, p.named.place.inside)

pub returns : goal.returns
returns c = c.hit_at.ensures ∙ hit-known _ _ _ c.in_ok-geo.ensures _

pub returns-in_err-geo : goal.returns-in_err-geo
returns-in_err-geo c = passed _ _ c.from_residual.ensures ∙ hit-known _ _ _ c.in_err-geo.ensures _
