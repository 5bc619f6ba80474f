-- What a search asks of the test that it is lent, and what the test then tells. Assumes nothing: these are definitions.
use Rattle.std.specs.Prelude.{◌≡◌, Bool, List, ℕ}
use Rattle.field.specs.declared.Order.{Order}
use Rattle.dirblock.specs.declared.Entry.{Entry}
use Rattle.dirblock.specs.declared.Rec.TheVariants.{Used}
use Rattle.dirblock.specs.Record.{rec_at}
use Rattle.dirblock.specs.Walk.{Item}

-- the test may be asked of each record of the block
abbrev pub MayAsk : Order → List ℕ → (ℕ → Entry → Type 0) → Type 0
MayAsk o block pre = (pos : ℕ) (e : Entry) → rec_at o block pos ≡ Used e → pre pos e

-- its answers are p's
abbrev pub Tells : Order → List ℕ → (ℕ → Entry → Bool → Type 0) → (Item → Bool) → Type 0
Tells o block post p = (pos : ℕ) (e : Entry) (r : Bool) → rec_at o block pos ≡ Used e → post pos e r → r ≡ p (record { pos = pos; entry = e })
