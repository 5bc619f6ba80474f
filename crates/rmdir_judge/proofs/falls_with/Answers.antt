-- `falls_with` meets its contract. Assumes nothing.
use native.Mathlib.Omega.{arith}
use Rattle.rmdir_judge.proofs.StepLaws.{falls-same, falls-other}
use Rattle.rmdir_judge.proofs.falls_with.Goals as goal

pub returns-then-x-y : goal.returns-then-x-y
returns-then-x-y c = (falls-same _ _ c.if-x-y.true, omega arith)

pub returns : goal.returns
returns c = (falls-other _ _ c.if-x-y.false, omega arith)
