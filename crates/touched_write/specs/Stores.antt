-- Which bytes a write to a file may change, said store by store: on a damaged volume lists and data may overlap. Assumes nothing: these are definitions.
use Rattle.std.specs.Prelude.{◌≡◌, true, List, [], ◌∷◌, ℕ, ◌*◌, ◌<◌}
use Rattle.store.specs.Store.{Store, apply}
use Rattle.store.specs.Where.{Range, StoreIn}
use Rattle.store.specs.Act.{Act, cut_act}
use Rattle.volume.specs.declared.Geometry.{Geometry}
use Rattle.volume.specs.declared.FragNum.{FragNum}
use Rattle.inode.specs.Shape.{address_at}
use Rattle.mapping.specs.Mapping.{per_list, entry_at, list_ok}
use Rattle.inode_run.specs.declared.Run.TheVariants as Run
use Rattle.inode_run.specs.Run.{run_at}
use Rattle.books.specs.Books.{Book}
use Rattle.touched_write.specs.Free.{Free}

-- stores made one after another from img on: each writes only bytes that Q names of the image that it meets
pub data Goes (Q : List ℕ → ℕ → Type 0) : List ℕ → List Store → Type 0 where
  done : {img : List ℕ} → Goes Q img []
  next : {img : List ℕ} {s : Store} {ss : List Store} → StoreIn (Q img) s → Goes Q (apply s img) ss → Goes Q img (s ∷ ss)

-- an image that the call goes through
pub record Passes {A : Type 0} (m : Act A) (start img : List ℕ) : Type 0 where
  pub stores : ℕ
  pub is : img ≡ cut_act stores m start

-- a is where a list lies that the inode's record at `at` leads to, as one of the images said while it was current; or a block that was free at the start
pub data Led (geo : Geometry) (start : List ℕ) (Seen : List ℕ → Type 0) (at : ℕ) : ℕ → Type 0 where
  root : {a : ℕ} (x : List ℕ) → Seen x → (k : ℕ) → k < 15 → a ≡ address_at geo.order at k x → Led geo start Seen at a
  under : {a : ℕ} (x : List ℕ) → Seen x → (b i : ℕ) → Led geo start Seen at b → i < per_list geo → a ≡ entry_at geo x b i → Led geo start Seen at a
  fresh : {a : ℕ} → ((j : ℕ) → Range (a * geo.fsize) geo.bsize j → Free geo start j) → Led geo start Seen at a

-- byte j is of the maps and counts, of the inode's record, of a block that was free at the start, of a data block that the image just before names, or of one of the file's lists
pub data WriteByte (geo : Geometry) (start : List ℕ) (Seen : List ℕ → Type 0) (at size : ℕ) (img : List ℕ) (j : ℕ) : Type 0 where
  of_books : Book geo start j → WriteByte geo start Seen at size img j
  of_record : Range at 256 j → WriteByte geo start Seen at size img j
  of_free : Free geo start j → WriteByte geo start Seen at size img j
  of_data : (i : ℕ) (a : FragNum) (n : ℕ) → run_at geo at size img i ≡ Run.At a n → Range (a.0 * geo.fsize) n j → WriteByte geo start Seen at size img j
  of_list : (a : ℕ) → Led geo start Seen at a → list_ok geo start a ≡ true → Range (a * geo.fsize) geo.bsize j → WriteByte geo start Seen at size img j
