-- `setfrag` meets its contract: one byte is stored. Assumes nothing.
use mathlib.Core.Path.{sym}
use Rattle.bits.specs.Upto.{as_bit}
use Rattle.bits.proofs.BitsLaws.{put_bits_at-set}
use Rattle.bits.proofs.setfrag.Goals as goal

pub returns : goal.returns
returns c = let a = c.args in rw c.frag_byte-b.ensures (sym (put_bits_at-set (as_bit a.free) a.img.now a.at a.f 1))
