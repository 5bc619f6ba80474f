-- `make_node` meets its contract. Assumes nothing.
use borrow.Author.Rules.{rules}
use mathlib.Core.Path.{refl}
use Rattle.refusal.proofs.ExitLaws.{passed}
use Rattle.books.proofs.KeepLaws.{kept-left}
use Rattle.ialloc_give.proofs.GiveLaws.{keeps-give}
use Rattle.dirmake.proofs.MakeLaws.{number-told, node-none, node_made, node-stop}
use Rattle.dirmake.proofs.make_node.Goals as goal

pub attr_now-a-requires : goal.attr_now-a-requires
attr_now-a-requires c = ((kept-left _ (keeps-give _ _) c.requires.0 c.in_ok-inr.ensures).frame, number-told _ _ _ c.in_ok-inr.ensures refl)

pub link_name-requires : goal.link_name-requires
link_name-requires c = let p = c.requires in ((kept-left _ (keeps-give _ _) p.0 c.in_ok-inr.ensures).frame, p.1)

pub returns : goal.returns
returns c = node_made _ _ _ _ _ _ c.in_ok-inr.ensures refl c.type_number.ensures c.in_ok-link_name.ensures c.attr_now-a.ensures refl

pub returns-in_err-inr : goal.returns-in_err-inr
returns-in_err-inr c = rw (passed _ _ c.from_residual.ensures) (node-none _ _ _ _ _ _ c.in_err-inr.ensures refl)

pub returns-in_err-link_name : goal.returns-in_err-link_name
returns-in_err-link_name c = rw (passed _ _ c.from_residual-in_err-link_name.ensures) (node-stop _ _ _ _ _ _ c.in_ok-inr.ensures refl c.type_number.ensures c.in_err-link_name.ensures refl)
