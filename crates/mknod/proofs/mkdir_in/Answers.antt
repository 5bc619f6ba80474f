-- `mkdir_in` meets its contract. Assumes nothing.
use borrow.Author.Rules.{rules}
use mathlib.Core.Path.{refl, sym, ◌∙◌}
use Rattle.refusal.proofs.ExitLaws.{passed}
use Rattle.mknod.proofs.MakeLaws.{name-few, mkdir-free, mkdir-refused}
use Rattle.mknod.proofs.mkdir_in.Goals as goal

pub make_dir-requires : goal.make_dir-requires
make_dir-requires c = (c.requires, name-few _ _ _ _ _ c.requires c.in_ok-judge_make.ensures refl)

pub returns : goal.returns
returns c = c.make_dir.ensures ∙ mkdir-free _ _ _ _ _ _ _ _ (sym c.in_ok-judge_make.ensures) c.new_inode-new.ensures

pub returns-in_err-judge_make : goal.returns-in_err-judge_make
returns-in_err-judge_make c = rw (passed _ _ c.from_residual.ensures) (mkdir-refused _ _ _ _ _ _ _ _ (sym c.in_err-judge_make.ensures))
