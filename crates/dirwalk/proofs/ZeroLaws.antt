-- A block of zeros, as a hole is read: it holds no record. Assumes nothing.
use Rattle.std.specs.Prelude.{None, Result, Ok}
use mathlib.Core.Path.{◌≡◌, refl, sym, ap, ◌∙◌}
use mathlib.Core.Bool.{Bool, true}
use mathlib.Core.List.{List}
use Prim.Native.Nat.{ℕ}
use native.Mathlib.Omega.{arith}
use Rattle.field.specs.declared.Order.{Order}
use Rattle.field.specs.declared.Order.TheVariants.{Little, Big}
use Rattle.field.specs.Field.{part, zeros, value, turn, num}
use Rattle.field.proofs.Laws.{length-zeros}
use Rattle.dirblock.specs.declared.Rec.TheVariants.{End}
use Rattle.dirblock.specs.declared.Unlinked.{Unlinked}
use Rattle.dirblock.specs.declared.Unlinked.TheVariants as Unlinked
use Rattle.dirblock.specs.Record.{entry_at, rec_at}
use Rattle.dirblock.specs.Search.{named, find_in, room_in}
use Rattle.dirblock.specs.Link.{unlink_in}
use Rattle.dirblock.proofs.RecordLaws.{judged-none, rec_judged}
use Rattle.dirblock.proofs.SearchLaws.{search-end, find_start, room_start, room-end}
use Rattle.dirblock.proofs.LinkLaws.{unlink-absent}
use Rattle.refusal.specs.declared.Damage.{Damage}

-- "length 0, end"
no_length : (o : Order) → (entry_at o 0 (zeros 512)).reclen ≡ 0
unfolding entry_at num part zeros turn value
no_length Little = refl
no_length Big = refl

pub zeros-end : (o : Order) → rec_at o (zeros 512) 0 ≡ End
zeros-end o =
    rec_judged o (zeros 512) 0 512 (entry_at o 0 (zeros 512)) (omega (arith, length-zeros 512)) refl
    ∙ judged-none 512 (entry_at o 0 (zeros 512)) (omega arith) (no_length o)

pub find-zeros : (o : Order) (name : List ℕ) (whiteouts : Bool) → find_in o (zeros 512) name whiteouts ≡ Ok None
find-zeros o name whiteouts =
    sym (find_start o (zeros 512) name whiteouts) ∙ search-end (named (zeros 512) name whiteouts) o (zeros 512) 0 0 (zeros-end o)

pub unlink-zeros : (o : Order) (name : List ℕ) → (unlink_in o (zeros 512) name).1 ≡ Ok Unlinked.Absent
unlink-zeros o name = ap (λ (x : List ℕ × Result Unlinked Damage). x.1) (sym (unlink-absent o (zeros 512) name (find-zeros o name true)))

pub room-zeros : (o : Order) (n : ℕ) → room_in o (zeros 512) n ≡ Ok None
room-zeros o n = sym (room_start o (zeros 512) n) ∙ room-end n o (zeros 512) 0 (zeros-end o)
