-- `counts_out` meets its contract. Assumes nothing.
use borrow.Author.Rules.{rules}
use mathlib.Core.Path.{◌≡◌}
use Rattle.std.specs.Prelude.{Ok, Some}
use Rattle.refusal.proofs.ExitLaws.{passed}
use Rattle.rename_judge.proofs.RenameLaws.{both_is, both_no, looked-number}
use Rattle.rename_judge.proofs.counts.counts_out.Goals as goal

pub returns-in_err-way_falls : goal.returns-in_err-way_falls
returns-in_err-way_falls c = both_no _ _ _ _ (passed _ _ c.from_residual.ensures) c.in_err-way_falls.ensures

pub returns-in_default : goal.returns-in_default
returns-in_default c = both_is _ _ _ c.in_ok-way_falls.ensures (search rules)

pub returns-in_default-2 : goal.returns-in_default-2
returns-in_default-2 c = both_is _ _ _ c.in_ok-way_falls.ensures (rw c.in_default.is)

pub moved_counts-requires : goal.moved_counts-requires
moved_counts-requires c = let p = c.requires in (p.0, looked-number _ _ _ c.in-Ok-Some.i (search rules) p.1, p.2)

pub returns : goal.returns
returns c = both_is _ _ _ c.in_ok-way_falls.ensures (let e : c.args.m.moved ≡ Ok (Some c.in-Ok-Some.i) = search rules in rw e c.moved_counts.ensures)
