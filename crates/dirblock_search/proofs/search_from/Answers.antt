-- `search_from` meets its contract: no record passed is wanted. Assumes nothing.
use borrow.Author.Rules.{rules}
use mathlib.Core.Path.{refl, sym, ◌∙◌}
use Rattle.dirblock.proofs.RecordLaws.{never-unused}
use Rattle.dirblock.proofs.WalkLaws.{sized}
use Rattle.dirblock.proofs.SearchLaws.{search-hit, search-pass, search-end, search-bad}
use Rattle.dirblock_search.proofs.search_from.Goals as goal

pub loop-entry-init : goal.loop-entry-init
loop-entry-init g c = λ p t. refl

pub wanted-requires : goal.wanted-requires
wanted-requires g c = c.requires _ _ (sym c.in-Used.ensures)

pub returns-then-wanted : goal.returns-then-wanted
returns-then-wanted g c =
    λ p t. sym (search-hit p _ _ _ _ _ (sym c.in-Used.ensures) (sym (t _ _ _ (sym c.in-Used.ensures) c.wanted.ensures) ∙ c.if-wanted.true)) ∙ c.loop-entry.invariant p t

pub overflow_add-pos : goal.overflow_add-pos
overflow_add-pos g c = let s = sized _ _ _ _ (sym c.in-Used.ensures) in search rules

pub loop-entry-smaller-in-Used : goal.loop-entry-smaller-in-Used
loop-entry-smaller-in-Used g c = let s = sized _ _ _ _ (sym c.in-Used.ensures) in search rules

pub loop-entry-preserved-in-Used : goal.loop-entry-preserved-in-Used
loop-entry-preserved-in-Used g c =
    λ p t. sym (search-pass p _ _ _ _ _ (sym c.in-Used.ensures) (sym (t _ _ _ (sym c.in-Used.ensures) c.wanted.ensures) ∙ c.if-wanted.false)) ∙ c.loop-entry.invariant p t

pub overflow_add-pos-in-Unused : goal.overflow_add-pos-in-Unused
overflow_add-pos-in-Unused g c = absurd (never-unused _ _ _ _ (sym c.in-Unused.ensures))

pub loop-entry-smaller : goal.loop-entry-smaller
loop-entry-smaller g c = absurd (never-unused _ _ _ _ (sym c.in-Unused.ensures))

pub loop-entry-preserved : goal.loop-entry-preserved
loop-entry-preserved g c = absurd (never-unused _ _ _ _ (sym c.in-Unused.ensures))

pub returns-in-End : goal.returns-in-End
returns-in-End g c = λ p t. sym (search-end p _ _ _ _ (sym c.in-End.ensures)) ∙ c.loop-entry.invariant p t

pub returns-in-Bad : goal.returns-in-Bad
returns-in-Bad g c = λ p t. sym (search-bad p _ _ _ _ (sym c.in-Bad.ensures)) ∙ c.loop-entry.invariant p t
