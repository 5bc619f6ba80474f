-- a byte is written. Assumes nothing.
use Rattle.field.proofs.Laws.{put_num-byte}
use Rattle.field.proofs.U8Number.put.Goals as goal

pub returns : goal.returns
returns c = rw (put_num-byte _ _ _ _ c.ranges.self.fits)
