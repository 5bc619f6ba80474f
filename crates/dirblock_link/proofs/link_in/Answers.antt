-- `link_in` meets its contract. Assumes nothing.
use borrow.Author.Rules.{rules}
use mathlib.Core.Path.{sym, ap, ◌∙◌}
use Rattle.std.specs.Prelude.{Ok}
use Rattle.refusal.proofs.ExitLaws.{passed}
use Rattle.dirblock.proofs.FoundLaws.{room-found}
use Rattle.dirblock.proofs.LinkLaws.{link-room, link-full, link-bad}
use Rattle.dirblock_link.proofs.link_in.Goals as goal

pub link_at-requires : goal.link_at-requires
link_at-requires c = let f = room-found _ _ _ _ _ (sym c.in_ok-pos.ensures ∙ ap Ok c.in-Some.is) in (f.there, f.wide, c.requires)

pub returns : goal.returns
returns c = link-room _ _ _ _ _ _ _ _ (sym c.in_ok-pos.ensures ∙ ap Ok c.in-Some.is) c.link_at.ensures

pub returns-in_default : goal.returns-in_default
returns-in_default c = link-full _ _ _ _ _ (sym c.in_ok-pos.ensures ∙ ap Ok c.in_default.is)

pub returns-in_err-pos : goal.returns-in_err-pos
returns-in_err-pos c = rw (passed _ _ c.from_residual.ensures) (link-bad _ _ _ _ _ (sym c.in_err-pos.ensures))
