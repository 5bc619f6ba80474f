-- `field::copy_bytes` meets its contract: after i turns the first i bytes of the run are written. Assumes nothing.
use borrow.Author.Rules.{rules}
use native.Mathlib.Numerals.{add-one}
use native.Mathlib.Omega.{arith}
use lib.Seq.{take_all}
use Rattle.field.specs.Field.{part}
use Rattle.field.proofs.Laws.{put-none, length-part, put-part-more}
use Rattle.field.proofs.copy_bytes.Goals as goal

pub loop-i-init : goal.loop-i-init
loop-i-init c = (search rules, rw put-none)

pub loop-i-preserved : goal.loop-i-preserved
loop-i-preserved c =
    let s = c.args in
    (search rules, rw (add-one, put-part-more s.at s.n s.from s.src.now s.dst.now c.loop-i.i (omega arith) (omega arith)) (cc))

pub returns : goal.returns
returns c =
    let s = c.args in
    let l = length-part s.n s.from s.src.now (omega arith) in
    cc (take_all c.loop-i.i (part s.n s.from s.src.now) (omega arith))
