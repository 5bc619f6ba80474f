-- `place_ok` meets its contract. Assumes nothing.
use borrow.Author.Rules.{rules}
use native.Mathlib.Omega.{arith}
use mathlib.Core.Path.{sym}
use Rattle.frame.proofs.Places.{place-stop, place-go}
use Rattle.frame.proofs.place_ok.Goals as goal

pub returns-then-end-f : goal.returns-then-end-f
returns-then-end-f c = sym (place-stop _ _ _ _ _ (omega arith))

pub returns-then-end-f-2 : goal.returns-then-end-f-2
returns-then-end-f-2 c = sym (place-stop _ _ _ _ _ (omega arith))

pub returns : goal.returns
returns c = rw c.reserved_from-first.ensures (sym (place-go _ _ _ _ _ (omega arith)))
