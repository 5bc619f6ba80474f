-- `mknod_in` meets its contract. Assumes nothing.
use borrow.Author.Rules.{rules}
use mathlib.Core.Path.{refl, sym, ◌∙◌}
use Rattle.refusal.proofs.ExitLaws.{passed}
use Rattle.mknod.proofs.MakeLaws.{name-few, mknod-free, mknod-refused}
use Rattle.mknod.proofs.mknod_in.Goals as goal

pub make_node-requires : goal.make_node-requires
make_node-requires c = (c.requires, name-few _ _ _ _ _ c.requires c.in_ok-judge_make.ensures refl)

pub returns : goal.returns
returns c = c.make_node.ensures ∙ mknod-free _ _ _ _ _ _ _ _ _ (sym c.in_ok-judge_make.ensures) c.new_inode-new.ensures

pub returns-in_err-judge_make : goal.returns-in_err-judge_make
returns-in_err-judge_make c = rw (passed _ _ c.from_residual.ensures) (mknod-refused _ _ _ _ _ _ _ _ _ (sym c.in_err-judge_make.ensures))
