-- `find_inode` meets its contract. Assumes nothing.
use mathlib.Core.Path.{sym, ap, ◌∙◌}
use Rattle.inode_run.specs.Find.{found_of}
use Rattle.inode_run.proofs.FindLaws.{spot-is, number-is, find-number, find-untyped, find-got}
use Rattle.inode_run.proofs.find_inode.Goals as goal

pub returns-then-not-number_ok : goal.returns-then-not-number_ok
returns-then-not-number_ok c = sym (ap found_of (find-number _ _ _ (sym c.number_ok.ensures ∙ c.if-not-number_ok.true)))

pub inode_spot-at-requires : goal.inode_spot-at-requires
inode_spot-at-requires c = (c.requires, (number-is _ _ (sym c.number_ok.ensures ∙ c.if-not-number_ok.false)).1)

pub returns-then-type_of-eq0 : goal.returns-then-type_of-eq0
returns-then-type_of-eq0 c =
    sym (ap found_of (find-untyped _ _ _ (sym c.number_ok.ensures ∙ c.if-not-number_ok.false) _
    (spot-is _ _ _ _ _ c.inode_spot-at.ensures.is c.read_shape-s.ensures) (sym c.type_of.ensures ∙ c.if-type_of-eq0.true)))

pub returns : goal.returns
returns c =
    sym (ap found_of (find-got _ _ _ (sym c.number_ok.ensures ∙ c.if-not-number_ok.false) _
    (spot-is _ _ _ _ _ c.inode_spot-at.ensures.is c.read_shape-s.ensures) (λ t. c.if-type_of-eq0.false (c.type_of.ensures ∙ t))))
