-- a byte is read. Assumes nothing.
use Rattle.field.proofs.Laws.{num-byte}
use Rattle.field.proofs.U8Number.get.Goals as goal

pub returns : goal.returns
returns c = rw num-byte
