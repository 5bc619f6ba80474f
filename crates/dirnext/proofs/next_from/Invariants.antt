-- `next_from` meets its contract: no record of the blocks passed is listed. Assumes nothing.
use borrow.Author.Rules.{rules}
use mathlib.Core.Path.{◌≡◌}
use Prim.Native.Nat.{◌-◌, ◌/◌}
use lib.ListN.{length}
use Rattle.dirnext.specs.Next.{next_among, next_from}
use Rattle.dirnext.proofs.next_from.Given as goal

abbrev pub invariant-loop-k : goal.invariant-loop-k
invariant-loop-k l = (length l.buf ≡ length l.initial.buf) × (next_among l.geo l.at l.size l.img (l.size / 512 - l.k) l.k l.pos l.buf ≡ next_from l.geo l.at l.size l.img l.cur l.initial.buf)
