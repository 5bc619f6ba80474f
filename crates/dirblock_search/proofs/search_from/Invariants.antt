-- `search_from` meets its contract: no record passed is wanted. Assumes nothing.
use mathlib.Core.Path.{◌≡◌}
use mathlib.Core.Bool.{Bool}
use Prim.Native.Nat.{◌-◌}
use lib.ListN.{length}
use Rattle.dirblock.specs.Walk.{Item}
use Rattle.dirblock.specs.Search.{search_from}
use Rattle.dirblock_search.specs.Wanted.{Tells}
use Rattle.dirblock_search.proofs.search_from.Given as goal

abbrev pub invariant-loop-entry : goal.invariant-loop-entry
invariant-loop-entry g l =
    (p : Item → Bool) → Tells l.o l.block (goal.W-post g l.wanted) p → search_from p l.o l.block l.prev l.pos ≡ search_from p l.o l.block l.fn.from l.fn.from

abbrev pub decreases-loop-entry : goal.decreases-loop-entry
decreases-loop-entry g l = length l.block - l.pos
