-- `lookup_in` meets its contract. Assumes nothing.
use borrow.Author.Rules.{rules}
use borrow.Author.Tests.{not-true, not-false}
use mathlib.Core.Path.{sym, ap, ◌∙◌}
use Rattle.std.specs.Prelude.{Ok, Err}
use Rattle.refusal.specs.Refusal.{damage}
use Rattle.refusal.proofs.ExitLaws.{passed}
use Rattle.inode_run.proofs.FindLaws.{found-got}
use Rattle.inode_read.proofs.JudgeLaws.{found_no}
use Rattle.dirfile.specs.Seek.{sought_out}
use Rattle.dirfile.proofs.BlockLaws.{dir-named}
use Rattle.dirwalk.specs.Walk.{looked_out}
use Rattle.dirlookup.specs.Lookup.{lookup_of}
use Rattle.dirlookup.proofs.LookupLaws.{lookup-bad-name, lookup-long-name, lookup-no-dir, lookup-dir}
use Rattle.dirlookup.proofs.lookup_in.Goals as goal

pub returns-then-not-is_taken : goal.returns-then-not-is_taken
returns-then-not-is_taken c = sym (ap lookup_of (lookup-bad-name _ _ _ _ (sym c.is_taken.ensures ∙ c.if-not-is_taken.true)))

pub returns-then-not-is_short : goal.returns-then-not-is_short
returns-then-not-is_short c = sym (ap lookup_of (lookup-long-name _ _ _ _ (sym c.is_taken.ensures ∙ c.if-not-is_taken.false) (sym c.is_short.ensures ∙ c.if-not-is_short.true)))

pub lookup_dir-requires : goal.lookup_dir-requires
lookup_dir-requires c = let fr = c.requires in (fr, (dir-named _ _ fr _ _ (found-got _ _ c.in_ok-s.ensures)).place.inside)

pub returns-in-Some : goal.returns-in-Some
returns-in-Some c =
    sym (ap lookup_of (lookup-dir _ _ _ _ (sym c.is_taken.ensures ∙ c.if-not-is_taken.false) (sym c.is_short.ensures ∙ c.if-not-is_short.false)
    _ (found-got _ _ c.in_ok-s.ensures) (Ok c.in-Ok.found) c.in-Ok.ensures ∙ ap (λ x. sought_out (looked_out (Ok x))) c.in-Some.is))

pub returns-in-None : goal.returns-in-None
returns-in-None c =
    sym (ap lookup_of (lookup-dir _ _ _ _ (sym c.is_taken.ensures ∙ c.if-not-is_taken.false) (sym c.is_short.ensures ∙ c.if-not-is_short.false)
    _ (found-got _ _ c.in_ok-s.ensures) (Ok c.in-Ok.found) c.in-Ok.ensures ∙ ap (λ x. sought_out (looked_out (Ok x))) c.in-None.is))

pub returns-in_err-s : goal.returns-in_err-s
returns-in_err-s c =
    passed _ _ c.from_residual.ensures
    ∙ sym (ap lookup_of (lookup-no-dir _ _ _ _ (sym c.is_taken.ensures ∙ c.if-not-is_taken.false) (sym c.is_short.ensures ∙ c.if-not-is_short.false)
    _ (found_no _ _ c.in_err-s.ensures)))

pub returns-in_default : goal.returns-in_default
returns-in_default c =
    sym (ap lookup_of (lookup-dir _ _ _ _ (sym c.is_taken.ensures ∙ c.if-not-is_taken.false) (sym c.is_short.ensures ∙ c.if-not-is_short.false)
    _ (found-got _ _ c.in_ok-s.ensures) (Err damage) c.in_default.ensures))
