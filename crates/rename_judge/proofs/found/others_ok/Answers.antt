-- `others_ok` meets its contract. Assumes nothing.
use borrow.Author.Rules.{rules}
use Rattle.dirwalk.specs.Walk.{looked_out, seen_out}
use Rattle.rename_judge.proofs.RenameLaws.{others-fail, others-pass, target_ok, two_both}
use Rattle.rename_judge.proofs.found.others_ok.Goals as goal

pub not_freed-requires : goal.not_freed-requires
not_freed-requires c = (c.requires.0, target_ok c.args.geo c.args.img.now (seen_out c.args.m.target) (looked_out c.args.m.way) c.requires.1 (two_both _ _ _ _ c.hit_ok.ensures c.where_ok.ensures c.if-hit_ok-where_ok.true).1)

pub returns-then-hit_ok-where_ok : goal.returns-then-hit_ok-where_ok
returns-then-hit_ok-where_ok c = others-pass _ _ _ _ _ _ _ c.hit_ok.ensures c.where_ok.ensures c.if-hit_ok-where_ok.true _ c.not_freed.ensures

pub returns : goal.returns
returns c = others-fail _ _ _ _ _ _ _ c.hit_ok.ensures c.where_ok.ensures c.if-hit_ok-where_ok.false
