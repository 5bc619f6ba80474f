-- `namespace_known` meets its contract. Assumes nothing.
use Rattle.attrrec.proofs.TextLaws.{known-test}
use Rattle.attrrec.proofs.namespace_known.Goals as goal

pub returns : goal.returns
returns c = known-test _
