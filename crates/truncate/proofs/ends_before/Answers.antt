-- `ends_before` meets its contract. Assumes nothing.
use native.Mathlib.Omega.{arith}
use Rattle.inode.proofs.SizeLaws.{units}
use Rattle.truncate.proofs.CallLaws.{third_is}
use Rattle.truncate.proofs.ends_before.Goals as goal

pub span_of-requires : goal.span_of-requires
span_of-requires c = ((units _ c.requires).block_top, omega arith)

pub span_of-requires-2 : goal.span_of-requires-2
span_of-requires-2 c = ((units _ c.requires).block_top, omega arith)

pub returns : goal.returns
returns c = third_is _ _ _ _ _ c.span_of.ensures.0 c.span_of-2.ensures.0 c.keep_of.ensures
