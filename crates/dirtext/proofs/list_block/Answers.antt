-- `list_block` meets its contract: what is written and what is left to write is the whole listing. Assumes nothing.
use borrow.Author.Rules.{rules}
use mathlib.Core.Path.{◌≡◌, refl, sym, ◌∙◌}
use Prim.Native.Nat.{◌*◌, ◌-◌, ◌≤◌}
use native.Mathlib.Omega.{arith}
use lib.ListN.{length}
use Rattle.dirblock.specs.Walk.{walk_from}
use Rattle.dirblock.proofs.RecordLaws.{never-unused}
use Rattle.dirblock.proofs.WalkLaws.{sized}
use Rattle.dirtext.specs.Text.{walk_text, wrote}
use Rattle.dirtext.proofs.TextLaws.{line-room, line-next, listed-line, listed-end, listed-bad}
use Rattle.dirtext.proofs.list_block.Goals as goal

pub loop-e-init : goal.loop-e-init
loop-e-init c = (search rules, search rules, search rules, refl)

pub put_line-at-requires : goal.put_line-at-requires
put_line-at-requires c = line-room _ _ _ _ _ _ (sym c.rec_at-rec.ensures ∙ c.in-Used.is) c.requires.0 c.loop-e.invariant.2 (omega arith)

pub overflow_add-pos : goal.overflow_add-pos
overflow_add-pos c = let s = sized _ _ _ _ (sym c.rec_at-rec.ensures ∙ c.in-Used.is) in search rules

pub loop-e-smaller-in-Used : goal.loop-e-smaller-in-Used
loop-e-smaller-in-Used c = let s = sized _ _ _ _ (sym c.rec_at-rec.ensures ∙ c.in-Used.is) in search rules

pub loop-e-preserved-in-Used : goal.loop-e-preserved-in-Used
loop-e-preserved-in-Used c = let s = sized _ _ _ _ (sym c.rec_at-rec.ensures ∙ c.in-Used.is) in (search rules, search rules, line-next _ _ _ _ _ _ (sym c.rec_at-rec.ensures ∙ c.in-Used.is) c.loop-e.invariant.2 c.put_line-at.ensures.1, listed-line _ _ _ _ _ _ _ _ (sym c.rec_at-rec.ensures ∙ c.in-Used.is) c.put_line-at.ensures.0 ∙ c.loop-e.invariant.3)

pub overflow_add-pos-in-Unused : goal.overflow_add-pos-in-Unused
overflow_add-pos-in-Unused c = absurd (never-unused _ _ _ _ (sym c.rec_at-rec.ensures ∙ c.in-Unused.is))

pub loop-e-smaller : goal.loop-e-smaller
loop-e-smaller c = absurd (never-unused _ _ _ _ (sym c.rec_at-rec.ensures ∙ c.in-Unused.is))

pub loop-e-preserved : goal.loop-e-preserved
loop-e-preserved c = absurd (never-unused _ _ _ _ (sym c.rec_at-rec.ensures ∙ c.in-Unused.is))

pub returns-in-End : goal.returns-in-End
returns-in-End c = listed-end _ _ _ _ _ _ _ (sym c.rec_at-rec.ensures ∙ c.in-End.is) c.put_stop.ensures ∙ c.loop-e.invariant.3

pub returns-in-Bad : goal.returns-in-Bad
returns-in-Bad c = listed-bad _ _ _ _ _ _ _ (sym c.rec_at-rec.ensures ∙ c.in-Bad.is) c.put_stop-in-Bad.ensures ∙ c.loop-e.invariant.3
