-- A search through the blocks of a directory, upward. Assumes nothing: these are definitions.
use Rattle.std.specs.Prelude.{Bool, true, false, List, ℕ, zero, suc, ◌+◌, ◌/◌, ◌%◌, eqb}
use Rattle.refusal.specs.declared.Refusal.{Refusal}
use Rattle.refusal.specs.declared.Refusal.TheVariants.{Damaged, NoEntry}
use Rattle.store.specs.Act.{Out, got, refused}
use Rattle.volume.specs.declared.Geometry.{Geometry}
use Rattle.dirfile.specs.Block.{dir_block}

-- what a search answers: what was sought, that it is not there, or that damage was met before it
pub data Sought (A : Type 0) : Type 0 where
  here : A → Sought A
  nowhere : Sought A
  hurt : Sought A

-- one block's answer, and where it has none, the others'
abbrev pub or_else : {A : Type 0} → Sought A → Sought A → Sought A
or_else (here a) next = here a
or_else nowhere next = next
or_else hurt next = hurt

-- the first of n blocks from k on that has an answer; damage counts where the walk meets it
unfoldable pub seek_from : {A : Type 0} → (ℕ → Sought A) → ℕ → ℕ → Sought A
seek_from f zero k = nowhere
seek_from f (suc n) k = or_else (f k) (seek_from f n (k + 1))

-- what a block says, once it is read
abbrev pub in_block : {A : Type 0} → Out (List ℕ) → (List ℕ → Sought A) → Sought A
in_block (got b) f = f b
in_block (refused e) f = hurt

abbrev pub whole_only : {A : Type 0} → Bool → Sought A → Sought A
whole_only true s = s
whole_only false s = hurt

-- f k of the bytes of block k, of the directory of that size whose record is at `at`; "a size that is no multiple is 97", before any block is read
unfoldable pub seek_dir : {A : Type 0} → Geometry → ℕ → ℕ → List ℕ → (ℕ → List ℕ → Sought A) → Sought A
seek_dir geo at size img f = whole_only (eqb (size % 512) 0) (seek_from (λ k. in_block (dir_block geo at size img k) (f k)) (size / 512) 0)

-- "2: name not in directory"
abbrev pub sought_out : {A : Type 0} → Sought A → Out A
sought_out (here a) = got a
sought_out nowhere = refused NoEntry
sought_out hurt = refused Damaged
