-- `judge_own` meets its contract. Assumes nothing.
use borrow.Author.Rules.{rules}
use mathlib.Core.Path.{sym, ◌∙◌}
use Rattle.rename_judge.proofs.RenameLaws.{own-moved, test-dirs, test-files, test-inodes, test-kinds, test-passed, two-is}
use Rattle.rename_judge.proofs.judge_own.Goals as goal

pub returns-then-not-own_ok : goal.returns-then-not-own_ok
returns-then-not-own_ok c = test-inodes _ _ _ _ _ (sym c.own_ok.ensures ∙ c.if-not-own_ok.true)

pub returns-then-not-is_dir : goal.returns-then-not-is_dir
returns-then-not-is_dir c = test-dirs _ _ _ _ _ (sym c.own_ok.ensures ∙ c.if-not-own_ok.false) (two-is _ _ _ _ c.is_dir.ensures c.is_dir-2.ensures _ (c.if-not-is_dir.true))

pub is_file-requires : goal.is_file-requires
is_file-requires c = (c.requires, own-moved _ _ _ _ _ (sym c.own_ok.ensures ∙ c.if-not-own_ok.false))

pub returns-then-not-is_file : goal.returns-then-not-is_file
returns-then-not-is_file c = test-files _ _ _ _ _ (sym c.own_ok.ensures ∙ c.if-not-own_ok.false) (two-is _ _ _ _ c.is_dir.ensures c.is_dir-2.ensures _ (c.if-not-is_dir.false)) (sym c.is_file.ensures ∙ c.if-not-is_file.true)

pub has_kind-requires : goal.has_kind-requires
has_kind-requires c = (c.requires, own-moved _ _ _ _ _ (sym c.own_ok.ensures ∙ c.if-not-own_ok.false))

pub returns-then-not-has_kind : goal.returns-then-not-has_kind
returns-then-not-has_kind c = test-kinds _ _ _ _ _ (sym c.own_ok.ensures ∙ c.if-not-own_ok.false) (two-is _ _ _ _ c.is_dir.ensures c.is_dir-2.ensures _ (c.if-not-is_dir.false)) (sym c.is_file.ensures ∙ c.if-not-is_file.false) (sym c.has_kind.ensures ∙ c.if-not-has_kind.true)

pub returns : goal.returns
returns c = test-passed _ _ _ _ _ (sym c.own_ok.ensures ∙ c.if-not-own_ok.false) (two-is _ _ _ _ c.is_dir.ensures c.is_dir-2.ensures _ (c.if-not-is_dir.false)) (sym c.is_file.ensures ∙ c.if-not-is_file.false) (sym c.has_kind.ensures ∙ c.if-not-has_kind.false) _ c.there.ensures
