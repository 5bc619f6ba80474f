-- 01, "Inodes and mapping": a block's address set in its inode, or in the list that holds it, with the lists given out on the way. Assumes nothing: these are definitions.
use Rattle.std.specs.Prelude.{List, [], ◌∷◌, ℕ, zero, suc, ◌+◌, ◌*◌, ◌/◌, ◌%◌, ◌^◌, ◌≤◌, ◌<◌, eqb, Result, Ok, Err}
use Rattle.field.specs.Field.{part}
use Rattle.refusal.specs.declared.Refusal.TheVariants.{Damaged}
use Rattle.store.specs.Store.{Write, Store, number}
use Rattle.store.specs.Act.{Out, got, refused, Act, pure, refuse, store, ◌>>=◌, ◌>>◌, choose}
use Rattle.volume.specs.declared.Geometry.{Geometry}
use Rattle.volume.specs.Volume.{byte_at}
use Rattle.inode.specs.Shape.{address_at}
use Rattle.inode.specs.Places.{address_write, blocks_write}
use Rattle.mapping.specs.declared.Place.{Place}
use Rattle.mapping.specs.declared.Place.TheVariants as Place
use Rattle.mapping.specs.Zones.{place_of}
use Rattle.mapping.specs.Mapping.{entry_width, per_list, entry_at}
use Rattle.balloc_give.specs.Give.{give_zeroed}
use Rattle.ialloc_tree.specs.Tree.{on_list}
use Rattle.refusal.specs.declared.Refusal.{Refusal}

-- an inode's record at `at` lies in a group's table
pub record InTable (geo : Geometry) (at : ℕ) : Type 0 where
  pub group : ℕ
  pub one : group < geo.ncg
  pub first : byte_at geo group geo.iblkno ≤ at
  pub last : at + 256 ≤ byte_at geo group geo.dblkno

-- ---- the stores

-- address i of the list at a
unfoldable pub entry_write : Geometry → ℕ → ℕ → ℕ → Write
entry_write geo a i v = number geo.order (entry_width geo) (a * geo.fsize + i * entry_width geo) v

-- the list at a, whole: the bytes that were read of it, with address i changed
unfoldable pub list_store : Geometry → List ℕ → ℕ → ℕ → ℕ → Store
list_store geo bytes a i v = record { at = a * geo.fsize; bytes = bytes } ∷ entry_write geo a i v ∷ []

-- of the record at `at`: one of the 15 addresses, and how much the data hold
unfoldable pub record_store : Geometry → ℕ → ℕ → ℕ → ℕ → Store
record_store geo at root a held = address_write geo.order at root a ∷ blocks_write geo.order at held ∷ []

-- ---- the way down

-- the list that address i of the list at a leads to; where none is, one is given out, and then the list at a is stored as it was read before, as the Rust
unfoldable pub next_list : Geometry → ℕ → ℕ → Act ℕ
next_list geo a i = λ img.
    choose (eqb (entry_at geo img a i) 0)
    (give_zeroed geo >>= (λ e. store (list_store geo (part geo.bsize (a * geo.fsize) img) a i e) >> pure e))
    (pure (entry_at geo img a i))
    img

-- the address x under the list at r, which is so many lists above the one that holds it
unfoldable pub set_in : Geometry → ℕ → ℕ → ℕ → ℕ → Act (Unit {0})
set_in geo zero r x a = on_list geo r (store (entry_write geo r x a ∷ []))
set_in geo (suc l) r x a = on_list geo r (next_list geo r (x / per_list geo ^ suc l) >>= (λ e. set_in geo l e (x % per_list geo ^ suc l) a))

-- a root that is not yet there is given out first, and stored last
unfoldable pub set_root : Geometry → ℕ → ℕ → ℕ → ℕ → ℕ → ℕ → Act (Unit {0})
set_root geo at root l x a held = give_zeroed geo >>= (λ r. set_in geo l r x a >> store (record_store geo at root r held))

-- under one of the record's addresses
unfoldable pub set_under : Geometry → ℕ → ℕ → ℕ → ℕ → ℕ → ℕ → Act (Unit {0})
set_under geo at root zero x a held = store (record_store geo at root a held)
set_under geo at root (suc l) x a held = λ img.
    choose (eqb (address_at geo.order at root img) 0)
    (set_root geo at root l x a held)
    (set_in geo l (address_at geo.order at root img) x a)
    img

abbrev pub set_at : Geometry → ℕ → ℕ → ℕ → Place → Act (Unit {0})
set_at geo at a held (Place.Under root level rest) = set_under geo at root level rest.0 a held
set_at geo at a held Place.Past = refuse Damaged

-- inode_set_block: the address of the block at index i becomes a, of the inode whose record is at `at`; `held` is stored where the record is
unfoldable pub set_block : Geometry → ℕ → ℕ → ℕ → ℕ → Act (Unit {0})
set_block geo at i a held = set_at geo at a held (place_of (per_list geo) i)

-- the code's answer
abbrev pub written_out : Result (Unit {0}) Refusal → Out (Unit {0})
written_out (Ok u) = got (tt {0})
written_out (Err e) = refused e
