-- `codec::all_direct` meets its contract. Assumes nothing.
use mathlib.Core.List.{[], ◌∷◌}
use native.Mathlib.Omega.{arith}
use Rattle.inode_record.specs.Record.{listed}
use Rattle.inode_record.proofs.codec.all_direct.Goals as goal

pub read_address-requires-11 : goal.read_address-requires-11
read_address-requires-11 c = (c.requires, omega arith)

pub read_address-requires-12 : goal.read_address-requires-12
read_address-requires-12 c = (c.requires, omega arith)

pub returns : goal.returns
unfolding listed
returns c = λ i. c.read_address.ensures i ∷ c.read_address-2.ensures i ∷ c.read_address-3.ensures i ∷ c.read_address-4.ensures i ∷ c.read_address-5.ensures i ∷ c.read_address-6.ensures i ∷ c.read_address-7.ensures i ∷ c.read_address-8.ensures i ∷ c.read_address-9.ensures i ∷ c.read_address-10.ensures i ∷ c.read_address-11.ensures i ∷ c.read_address-12.ensures i ∷ []
