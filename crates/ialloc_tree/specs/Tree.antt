-- 01, "Inodes and mapping": freeing what an address leads to. Assumes nothing: these are definitions.
use Rattle.std.specs.Prelude.{Bool, true, false, List, ℕ, zero, suc, ◌+◌, ◌-◌, ◌/◌, eqb, Option, Some, None, Result, Ok, Err}
use Rattle.refusal.specs.declared.Refusal.{Refusal}
use Rattle.refusal.specs.declared.Refusal.TheVariants.{Damaged}
use Rattle.store.specs.Act.{Out, got, refused, Act, pure, refuse, ◌>>=◌, choose, each}
use Rattle.volume.specs.declared.Geometry.{Geometry}
use Rattle.inode.specs.declared.Shape.{Shape}
use Rattle.inode.specs.Size.{held_at}
use Rattle.inode.specs.Shape.{sized}
use Rattle.mapping.specs.Mapping.{per_list, entry_at, list_ok}
use Rattle.inode_run.specs.Judge.{ask}
use Rattle.balloc_take.specs.Take.{take_back}
use Rattle.books.specs.Work.{or_damaged, given}

-- ---- a walk down the lists, over what is done at a block and with a list once its addresses are done; h is carried along

-- a list, or 97
unfoldable pub on_list : {A : Type 0} → Geometry → ℕ → Act A → Act A
on_list geo a m = λ img. choose (list_ok geo img a) m (refuse Damaged) img

-- f of the address at place i of the list at a
unfoldable pub at_entry : {S : Type 0} → (ℕ → ℕ → S → Act S) → Geometry → ℕ → ℕ → S → Act S
at_entry f geo a i h = λ img. f (entry_at geo img a i) i h img

-- "a list is freed by freeing each address one level down, then the list's own block"
unfoldable pub walk : {S : Type 0} → (ℕ → ℕ → S → Act S) → (ℕ → S → Act S) → Geometry → ℕ → ℕ → ℕ → S → Act S
walk leaf own geo zero a place h = choose (eqb a 0) (pure h) (leaf a place h)
walk leaf own geo (suc l) a place h = choose (eqb a 0) (pure h) (on_list geo a (each (at_entry (walk leaf own geo l) geo a) (per_list geo) 0 h >>= own a))

-- ---- freeing

abbrev pub held_out : Option ℕ → Out ℕ
held_out (Some n) = got n
held_out None = refused Damaged

-- how many bytes the block at an index gives back: of a file past its end, or of a kind that has no size, that is damage
unfoldable pub returned_for : Geometry → Shape → ℕ → Out ℕ
returned_for geo s i = ask (sized s) Damaged (held_out (held_at geo s.size i))

-- inode_free_block; "block counts .. one that would fall below 0 becomes 0, no damage"
unfoldable pub free_block : Geometry → Shape → ℕ → ℕ → ℕ → Act ℕ
free_block geo s a i held = given (returned_for geo s i) (λ n. or_damaged (take_back geo a n) >>= (λ _. pure (held - n / 512)))

-- the list's own block; the blocks held are not counted down for it, as the Rust
unfoldable pub free_own : Geometry → ℕ → ℕ → Act ℕ
free_own geo a held = or_damaged (take_back geo a geo.bsize) >>= (λ _. pure held)

-- what an address leads to, so many lists down; in a list freed whole a block's index is "the place in that list, as the Rust"
abbrev pub free_tree : Geometry → Shape → ℕ → ℕ → ℕ → ℕ → Act ℕ
free_tree geo s level a place held = walk (free_block geo s) (free_own geo) geo level a place held

-- the addresses of the list at a, so many lists above their blocks, and its own block
abbrev pub free_list : Geometry → Shape → ℕ → ℕ → ℕ → Act ℕ
free_list geo s level a held = each (at_entry (free_tree geo s level) geo a) (per_list geo) 0 held >>= free_own geo a

-- the code's answer: the blocks that are then held
abbrev pub freed_out : Result ℕ Refusal → Out ℕ
freed_out (Ok n) = got n
freed_out (Err e) = refused e
