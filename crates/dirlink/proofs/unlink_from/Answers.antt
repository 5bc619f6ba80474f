-- `unlink_from` meets its contract. Assumes nothing.
use borrow.Author.Rules.{rules}
use mathlib.Core.Path.{refl, ap, ◌∙◌}
use Rattle.std.specs.Prelude.{Ok}
use Rattle.refusal.proofs.ExitLaws.{passed}
use Rattle.dirwalk.specs.Walk.{seen_out}
use Rattle.dirlink.proofs.LinkLaws.{hit-inside, unlink-here, unlink-absent, unlink-hurt}
use Rattle.dirlink.proofs.unlink_from.Goals as goal

pub unlink_hit-requires : goal.unlink_hit-requires
unlink_hit-requires c = let p = c.requires in (p.0, p.1, p.2, hit-inside _ _ _ _ _ c.in_ok-h.ensures (ap (λ o. seen_out (Ok o)) c.in-Some.is))

pub returns : goal.returns
returns c = c.unlink_hit.ensures ∙ unlink-here _ _ _ _ _ c.in_ok-h.ensures (ap (λ o. seen_out (Ok o)) c.in-Some.is)

pub returns-in_default : goal.returns-in_default
returns-in_default c = unlink-absent _ _ _ _ _ c.in_ok-h.ensures (ap (λ o. seen_out (Ok o)) c.in_default.is)

pub returns-in_err-h : goal.returns-in_err-h
returns-in_err-h c = rw (passed _ _ c.from_residual.ensures) (unlink-hurt _ _ _ _ _ c.in_err-h.ensures refl)
