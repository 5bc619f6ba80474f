-- `judge_moving` meets its contract. Assumes nothing.
use borrow.Author.Rules.{rules}
use mathlib.Core.Path.{sym, ◌∙◌}
use Rattle.dirwalk.specs.Walk.{looked_out, seen_out}
use Rattle.rename_judge.proofs.RenameLaws.{others-source, others-way, own-moved, target_ok, test-dirs, test-files, test-inodes, test-kinds, test-passed, two_both, two-is}
use Rattle.rename_judge.proofs.judge_moving.Goals as goal

pub others_ok-requires : goal.others_ok-requires
others_ok-requires c = (c.requires.0, c.requires.4)

pub returns-then-not-own_ok-others_ok : goal.returns-then-not-own_ok-others_ok
returns-then-not-own_ok-others_ok c = test-inodes _ _ _ _ _ (two-is _ _ _ _ c.own_ok.ensures c.others_ok.ensures _ (c.if-not-own_ok-others_ok.true))

pub is_file-requires : goal.is_file-requires
is_file-requires c = (c.requires.0, own-moved _ _ _ _ _ (two_both _ _ _ _ c.own_ok.ensures c.others_ok.ensures (c.if-not-own_ok-others_ok.false)).0)

pub is_file-requires-2 : goal.is_file-requires-2
is_file-requires-2 c = (c.requires.0, others-way _ _ _ _ _ (two_both _ _ _ _ c.own_ok.ensures c.others_ok.ensures (c.if-not-own_ok-others_ok.false)).1)

pub returns-then-not-dirs : goal.returns-then-not-dirs
returns-then-not-dirs c = test-dirs _ _ _ _ _ (two-is _ _ _ _ c.own_ok.ensures c.others_ok.ensures _ (c.if-not-own_ok-others_ok.false)) (two-is _ _ _ _ c.is_dir.ensures c.is_dir-2.ensures _ (c.if-not-dirs.true))

pub returns-then-not-files : goal.returns-then-not-files
returns-then-not-files c = test-files _ _ _ _ _ (two-is _ _ _ _ c.own_ok.ensures c.others_ok.ensures _ (c.if-not-own_ok-others_ok.false)) (two-is _ _ _ _ c.is_dir.ensures c.is_dir-2.ensures _ (c.if-not-dirs.false)) (two-is _ _ _ _ c.is_file.ensures c.is_file-2.ensures _ (c.if-not-files.true))

pub has_kind-requires : goal.has_kind-requires
has_kind-requires c = (c.requires.0, own-moved _ _ _ _ _ (two_both _ _ _ _ c.own_ok.ensures c.others_ok.ensures (c.if-not-own_ok-others_ok.false)).0)

pub returns-then-not-has_kind : goal.returns-then-not-has_kind
returns-then-not-has_kind c = test-kinds _ _ _ _ _ (two-is _ _ _ _ c.own_ok.ensures c.others_ok.ensures _ (c.if-not-own_ok-others_ok.false)) (two-is _ _ _ _ c.is_dir.ensures c.is_dir-2.ensures _ (c.if-not-dirs.false)) (two-is _ _ _ _ c.is_file.ensures c.is_file-2.ensures _ (c.if-not-files.false)) (sym c.has_kind.ensures ∙ c.if-not-has_kind.true)

pub judge_late-requires : goal.judge_late-requires
judge_late-requires c = (c.requires.0, c.requires.1, c.requires.2, c.requires.3, own-moved _ _ _ _ _ (two_both _ _ _ _ c.own_ok.ensures c.others_ok.ensures (c.if-not-own_ok-others_ok.false)).0, others-source _ _ _ _ _ (two_both _ _ _ _ c.own_ok.ensures c.others_ok.ensures (c.if-not-own_ok-others_ok.false)).1, target_ok c.args.geo c.args.img.now (seen_out c.args.m.target) (looked_out c.args.m.way) c.requires.4 (others-way _ _ _ _ _ (two_both _ _ _ _ c.own_ok.ensures c.others_ok.ensures (c.if-not-own_ok-others_ok.false)).1))

pub returns : goal.returns
returns c = test-passed _ _ _ _ _ (two-is _ _ _ _ c.own_ok.ensures c.others_ok.ensures _ (c.if-not-own_ok-others_ok.false)) (two-is _ _ _ _ c.is_dir.ensures c.is_dir-2.ensures _ (c.if-not-dirs.false)) (two-is _ _ _ _ c.is_file.ensures c.is_file-2.ensures _ (c.if-not-files.false)) (sym c.has_kind.ensures ∙ c.if-not-has_kind.false) _ c.judge_late.ensures
