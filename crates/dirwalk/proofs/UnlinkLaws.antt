-- What unlinking a name from a block answers, told by the record that the search found. Assumes nothing.
use Rattle.std.specs.Prelude.{Some, None, Result, Ok, Err}
use mathlib.Core.Path.{◌≡◌, refl, sym, ap, ◌∙◌}
use mathlib.Core.Bool.{true}
use mathlib.Core.List.{List}
use Prim.Native.Nat.{ℕ}
use Rattle.field.specs.declared.Order.{Order}
use Rattle.dirblock.specs.declared.Entry.{Entry}
use Rattle.dirblock.specs.declared.Rec.TheVariants.{Used, End, Bad}
use Rattle.dirblock.specs.declared.Spot.{Spot}
use Rattle.dirblock.specs.declared.Unlinked.{Unlinked}
use Rattle.dirblock.specs.declared.Unlinked.TheVariants as Unlinked
use Rattle.dirblock.specs.Record.{rec_at}
use Rattle.dirblock.specs.Search.{find_in}
use Rattle.dirblock.specs.Link.{unlink_in}
use Rattle.dirblock.proofs.LinkLaws.{later_told, first-told, first_alone, first-bad, unlink-first-told, unlink-later-told, unlink-absent, unlink-bad}
use Rattle.refusal.specs.Refusal.{damage}
use Rattle.refusal.specs.declared.Damage.{Damage}

-- the answer, without the block that is left
abbrev answer : List ℕ × Result Unlinked Damage → Result Unlinked Damage
answer x = x.1

module _ (o : Order) (block name : List ℕ) where
  module _ (s : Spot) (h : find_in o block name true ≡ Ok (Some s)) where
    module _ (z : s.pos ≡ 0) where
      pub answer-next : (next : Entry) → rec_at o block s.entry.reclen ≡ Used next → Ok (Unlinked.Done s.entry.inr) ≡ (unlink_in o block name).1
      answer-next next q = ap answer (first-told o block s.entry next q _ _ refl refl ∙ sym (unlink-first-told o block name s h z))

      pub answer-alone : rec_at o block s.entry.reclen ≡ End → Ok (Unlinked.Alone s.entry.inr) ≡ (unlink_in o block name).1
      answer-alone q = ap answer (first_alone o block s.entry q ∙ sym (unlink-first-told o block name s h z))

      pub answer-hurt : rec_at o block s.entry.reclen ≡ Bad → Err damage ≡ (unlink_in o block name).1
      answer-hurt q = ap answer (first-bad o block s.entry q ∙ sym (unlink-first-told o block name s h z))

    pub answer-later : (s.pos ≡ 0 → ⊥) → Ok (Unlinked.Done s.entry.inr) ≡ (unlink_in o block name).1
    answer-later z = ap answer (later_told o block s.prev s.entry _ _ _ refl refl refl ∙ sym (unlink-later-told o block name s h z))

  pub answer-absent : find_in o block name true ≡ Ok None → Ok Unlinked.Absent ≡ (unlink_in o block name).1
  answer-absent h = ap answer (unlink-absent o block name h)

  pub answer-bad : find_in o block name true ≡ Err damage → Err damage ≡ (unlink_in o block name).1
  answer-bad h = ap answer (unlink-bad o block name h)
