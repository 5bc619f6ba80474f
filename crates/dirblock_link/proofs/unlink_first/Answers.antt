-- `unlink_first` meets its contract. Assumes nothing.
use borrow.Author.Rules.{rules}
use mathlib.Core.Path.{refl, sym, ◌∙◌}
use Rattle.dirblock.proofs.RecordLaws.{never-unused}
use Rattle.dirblock.proofs.LinkLaws.{first-sum, first_fits, first-told, first_alone, first-bad}
use Rattle.dirblock_link.proofs.unlink_first.Goals as goal

pub lengthen-requires : goal.lengthen-requires
lengthen-requires c = first-sum _ _ c.args.e c.in-Used.next (sym c.rec_at-rec.ensures ∙ c.in-Used.is) c.requires.0

pub put_first-requires : goal.put_first-requires
put_first-requires c = first_fits _ _ c.args.e c.in-Used.next (sym c.rec_at-rec.ensures ∙ c.in-Used.is) _ _ refl c.lengthen.ensures

pub lengthen-requires-in-Unused : goal.lengthen-requires-in-Unused
lengthen-requires-in-Unused c = absurd (never-unused _ _ _ _ (sym c.rec_at-rec.ensures ∙ c.in-Unused.is))

pub put_first-requires-in-Unused : goal.put_first-requires-in-Unused
put_first-requires-in-Unused c = absurd (never-unused _ _ _ _ (sym c.rec_at-rec.ensures ∙ c.in-Unused.is))

pub returns-in-Used : goal.returns-in-Used
returns-in-Used c = first-told _ _ _ _ (sym c.rec_at-rec.ensures ∙ c.in-Used.is) _ _ c.lengthen.ensures c.put_first.ensures

pub returns-in-Unused : goal.returns-in-Unused
returns-in-Unused c = absurd (never-unused _ _ _ _ (sym c.rec_at-rec.ensures ∙ c.in-Unused.is))

pub returns-in-End : goal.returns-in-End
returns-in-End c = first_alone _ _ _ (sym c.rec_at-rec.ensures ∙ c.in-End.is)

pub returns-in-Bad : goal.returns-in-Bad
returns-in-Bad c = first-bad _ _ _ (sym c.rec_at-rec.ensures ∙ c.in-Bad.is)
