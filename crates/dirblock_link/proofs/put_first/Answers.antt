-- `put_first` meets its contract. Assumes nothing.
use borrow.Author.Rules.{rules}
use mathlib.Core.Path.{ap, ◌∙◌}
use mathlib.Core.List.{List}
use Prim.Native.Nat.{ℕ}
use native.Mathlib.Omega.{arith}
use Rattle.field.specs.Field.{part}
use Rattle.dirblock.specs.Record.{name_at}
use Rattle.dirblock.specs.Write.{put_rec}
use Rattle.dirblock.proofs.LinkLaws.{copied_name}
use Rattle.dirblock_link.proofs.put_first.Goals as goal

pub returns : goal.returns
unfolding part name_at
returns c =
    let a = c.args in
    c.put_rec.ensures
    ∙ ap (λ (l : List ℕ). put_rec a.o 0 a.e l a.block.now) (copied_name a.e.namelen a.from a.block.now _ _ (omega arith) (omega arith) c.copy_bytes.ensures)
