-- `xattr_len` meets its contract. Assumes nothing.
use Rattle.std.specs.Prelude.{Ok}
use mathlib.Core.Path.{ap, ◌∙◌}
use Rattle.refusal.proofs.ExitLaws.{passed}
use Rattle.xattr.proofs.CallLaws.{found, len-hit}
use Rattle.xattr.proofs.xattr_len.Goals as goal

pub value_len-requires : goal.value_len-requires
value_len-requires c = (found _ _ _ _ _ _ c.in_ok-b.ensures).pad

pub returns : goal.returns
returns c = ap Ok c.value_len.ensures.0 ∙ len-hit _ _ _ _ c.in_ok-b.ensures

pub returns-in_err-b : goal.returns-in_err-b
returns-in_err-b c = passed _ _ c.from_residual.ensures ∙ len-hit _ _ _ _ c.in_err-b.ensures
