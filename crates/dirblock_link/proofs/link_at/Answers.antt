-- `link_at` meets its contract. Assumes nothing.
use borrow.Author.Rules.{rules}
use mathlib.Core.Path.{refl}
use native.Mathlib.Omega.{arith}
use Rattle.dirblock.proofs.RecordLaws.{held}
use Rattle.dirblock.proofs.LinkLaws.{shrunk-fits, shrunk-long, split-inside, new-fits, link-told}
use Rattle.dirblock_link.proofs.link_at.Goals as goal

pub slack_of-requires : goal.slack_of-requires
slack_of-requires c = (held _ _ _ _ c.requires.0).least

pub put_again-requires : goal.put_again-requires
put_again-requires c = shrunk-fits _ _ _ _ c.requires.0 _ c.shrink-old.ensures

pub overflow_add-pos : goal.overflow_add-pos
overflow_add-pos c = let l = shrunk-long _ _ c.shrink-old.ensures in let s = split-inside _ _ _ _ c.requires.0 in search rules

pub put_rec-requires : goal.put_rec-requires
put_rec-requires c = (new-fits _ _ _ _ c.requires.0 _ _ _ _ _ c.args.name.now (omega arith) (shrunk-long _ _ c.shrink-old.ensures) c.slack_of.ensures c.requires.1, refl)

pub returns : goal.returns
returns c = link-told _ _ _ _ _ _ _ _ _ _ _ c.shrink-old.ensures c.slack_of.ensures c.put_again.ensures c.put_rec.ensures
