-- `list_at` meets its contract. Assumes nothing.
use mathlib.Core.Path.{sym, ◌∙◌}
use native.Mathlib.Omega.{arith}
use Rattle.refusal.proofs.ExitLaws.{passed}
use Rattle.xattr.proofs.AreaLaws.{area-inside}
use Rattle.xattr.proofs.ListLaws.{list-short, measured-texts, list_wrote, list-damaged, lies_told}
use Rattle.xattr.proofs.list_at.Goals as goal

pub measure-requires : goal.measure-requires
measure-requires c = (area-inside _ _ _ c.requires.0 _ (sym c.in_ok-a.ensures)).0

pub returns-then-out-n : goal.returns-then-out-n
returns-then-out-n c = list-short _ _ _ _ c.in_ok-n.ensures c.if-out-n.true ∙ lies_told _ _ _ _ _ c.in_ok-a.ensures

pub write_texts-requires : goal.write_texts-requires
write_texts-requires c = let m = measured-texts _ _ c.args.out.now _ c.in_ok-n.ensures in ((area-inside _ _ _ c.requires.0 _ (sym c.in_ok-a.ensures)).0, m.0, omega (arith, m.1, c.if-out-n.false))

pub returns : goal.returns
returns c = list_wrote _ _ _ _ c.in_ok-n.ensures c.if-out-n.false _ c.write_texts.ensures ∙ lies_told _ _ _ _ _ c.in_ok-a.ensures

pub returns-in_err-a : goal.returns-in_err-a
returns-in_err-a c = let p = passed _ _ c.from_residual.ensures in rw p (lies_told _ _ _ _ _ c.in_err-a.ensures)

pub returns-in_err-n : goal.returns-in_err-n
returns-in_err-n c = let p = passed _ _ c.from_residual-in_err-n.ensures in rw p (list-damaged _ _ _ _ c.in_err-n.ensures ∙ lies_told _ _ _ _ _ c.in_ok-a.ensures)
