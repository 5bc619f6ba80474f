-- What rmdir's test promises: it reads the blocks of the directory and nothing else, it asks what a walk shows, and a new directory passes it. Assumes nothing.
use Rattle.std.specs.Prelude.{Some, Ok}
use mathlib.Core.Path.{◌≡◌, refl, sym, ap₂, ◌∙◌}
use mathlib.Core.Bool.{Bool, true, false, not, ◌&&◌}
use mathlib.Core.List.{List, [], ◌∷◌}
use Prim.Native.Nat.{ℕ, ◌^◌, ◌%◌, ◌<◌}
use lib.Dec.{eqb}
use Rattle.field.specs.declared.Order.{Order}
use Rattle.volume.specs.declared.Geometry.{Geometry}
use Rattle.dirblock.specs.Record.{listed}
use Rattle.dirblock.specs.Walk.{Item, Stop, ended, damaged, walk_from}
use Rattle.dirblock.specs.Search.{pick_find, search_among, search_from, same_name}
use Rattle.dirblock.specs.Write.{newdir_block}
use Rattle.dirblock.specs.Shown as Walk
use Rattle.dirblock.specs.Shown.{Shown, shown_all, shows, Health, whole, health_of, health}
use Rattle.dirblock.proofs.WalkTheorems.{newdir-shows, newdir-whole}
use Rattle.dirfile.specs.Seek.{Sought, here, nowhere, hurt}
use Rattle.dirwalk.proofs.Theorems.{SameBlocks, seek-blocks}
use Rattle.dirother.specs.Other.{dots, stays, other_in, stayed_in, others_dir}
use Rattle.dirother.proofs.OtherLaws.{others, others-odd}

-- "a size that is no multiple is 97", before any block is read
pub odd_size : (geo : Geometry) (at size : ℕ) (img : List ℕ) → (size % 512 ≡ 0 → ⊥) → others_dir geo at size img ≡ hurt
odd_size geo at size img h = sym (others-odd geo at size img h)

-- two directories of one size whose blocks are the same are judged the same
pub others-blocks : (geo : Geometry) (size at at' : ℕ) (img img' : List ℕ) → SameBlocks geo size at at' img img' → others_dir geo at size img ≡ others_dir geo at' size img'
unfolding others_dir
others-blocks geo size at at' img img' same = seek-blocks geo size at at' img img' same (others geo)

-- ---- in the words of what a walk shows

-- a record shown that keeps its directory: no whiteout, and no directory named "." or ".."
unfoldable pub keeps : Shown → Bool
keeps x = not (eqb x.kind 14) && not (eqb x.kind 4 && dots x.name)

abbrev pub pick_kept : Bool → Sought (Unit {0}) → Sought (Unit {0}) → Sought (Unit {0})
pick_kept true a b = a
pick_kept false a b = b

-- whether one of these does; where the walk met damage behind them, that counts
unfoldable pub kept_among : List Shown → Health → Sought (Unit {0})
kept_among [] whole = nowhere
kept_among [] Walk.hurt = hurt
kept_among (x ∷ xs) h = pick_kept (keeps x) (here (tt {0})) (kept_among xs h)

kept-shown : (block : List ℕ) (prev : ℕ) (is : List Item) (s : Stop) → stayed_in (search_among (stays block) prev is s) ≡ kept_among (shown_all block is) (health_of s)
unfolding search_among kept_among shown_all stays keeps listed
kept-shown block prev [] (ended at) = refl
kept-shown block prev [] (damaged at) = refl
kept-shown block prev (i ∷ is) s = go (stays block i) (kept-shown block i.pos is s)
  where
    go : (t : Bool) → stayed_in (search_among (stays block) i.pos is s) ≡ kept_among (shown_all block is) (health_of s)
        → stayed_in (pick_find t (Ok (Some (record { pos = i.pos; prev = prev; entry = i.entry }))) (search_among (stays block) i.pos is s)) ≡ pick_kept t (here (tt {0})) (kept_among (shown_all block is) (health_of s))
    go true f = refl
    go false f = f

-- the search of a block asks each record that its walk shows, in order
pub other-shown : (o : Order) (block : List ℕ) → stayed_in (other_in o block) ≡ kept_among (shows o block) (health o block)
unfolding other_in search_from shows health
other-shown o block = kept-shown block 0 (walk_from o block 0).records (walk_from o block 0).stopped

-- a directory as mkdir makes it holds nothing else
pub newdir_empty : (o : Order) (ino parent : ℕ) → (ino ≡ 0 → ⊥) → (parent ≡ 0 → ⊥) → ino < 256 ^ 4 → parent < 256 ^ 4 → stayed_in (other_in o (newdir_block o ino parent)) ≡ nowhere
unfolding kept_among keeps dots same_name
newdir_empty o ino parent a b c d = other-shown o (newdir_block o ino parent) ∙ ap₂ kept_among (newdir-shows o ino parent a b c d) (newdir-whole o ino parent a b c d)
