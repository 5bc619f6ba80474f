-- data.rs `Inode`, dinode.h `ufs2_dinode`: the record of an inode, read whole and stored whole. Assumes nothing: these are definitions.
use Rattle.std.specs.Prelude.{◌≡◌, List, [], ◌∷◌, ◌++◌, ℕ, zero, suc, ◌+◌, ◌*◌, ◌^◌, ◌<◌, length, get_or}
use Rattle.field.specs.Field.{num}
use Rattle.field.specs.declared.Order.{Order}
use Rattle.store.specs.Store.{Store, number}
use Rattle.store.specs.Where.{All}
use Rattle.inode.specs.declared.Times.{Times}
use Rattle.inode.specs.declared.Inode.{Inode}
use Rattle.inode.specs.Shape.{address_at}
use Rattle.inode.specs.Places.{extb_at}

-- f k, f (k + 1), .., n of them
unfoldable pub listed : {A : Type 0} → (ℕ → A) → ℕ → ℕ → List A
listed f k zero = []
listed f k (suc n) = f k ∷ listed f (suc k) n

-- ---- reading

-- data.rs: "Reserved; currently unused", the j-th of the two words
unfoldable pub spare_at : Order → ℕ → ℕ → List ℕ → ℕ
spare_at o at j img = num o 4 (at + 248 + j * 4) img

-- the record's four times; mtimensec stands before atimensec
unfoldable pub times_of : Order → ℕ → List ℕ → Times
times_of o at img =
    record {
      atime = num o 8 (at + 32) img;
      mtime = num o 8 (at + 40) img;
      ctime = num o 8 (at + 48) img;
      birthtime = num o 8 (at + 56) img;
      mtimensec = num o 4 (at + 64) img;
      atimensec = num o 4 (at + 68) img;
      ctimensec = num o 4 (at + 72) img;
      birthnsec = num o 4 (at + 76) img;
    }

-- 01, "Inodes and mapping": "Fields as in data.rs; addresses fill 112 to 231, 12 direct and 3 indirect"
unfoldable pub inode_of : Order → ℕ → List ℕ → Inode
inode_of o at img =
    record {
      mode = num o 2 (at + 0) img;
      nlink = num o 2 (at + 2) img;
      uid = num o 4 (at + 4) img;
      gid = num o 4 (at + 8) img;
      blksize = num o 4 (at + 12) img;
      size = num o 8 (at + 16) img;
      blocks = num o 8 (at + 24) img;
      times = times_of o at img;
      generation = num o 4 (at + 80) img;
      kernflags = num o 4 (at + 84) img;
      flags = num o 4 (at + 88) img;
      extsize = num o 4 (at + 92) img;
      extb = listed (λ j. extb_at o at j img) 0 2;
      direct = listed (λ k. address_at o at k img) 0 12;
      indirect = listed (λ k. address_at o at k img) 12 3;
      modrev = num o 8 (at + 232) img;
      ignored = num o 4 (at + 240) img;
      ckhash = num o 4 (at + 244) img;
      spare = listed (λ j. spare_at o at j img) 0 2;
    }

-- ---- storing

-- a number of a record: where it stands, its bytes, and what it is
pub record Slot : Type 0 where
  pub place : ℕ
  pub width : ℕ
  pub value : ℕ

abbrev pub holds : ℕ → ℕ → ℕ → Slot
holds p w v = record { place = p; width = w; value = v }

abbrev pub owner_slots : Inode → List Slot
owner_slots v = holds 0 2 v.mode ∷ holds 2 2 v.nlink ∷ holds 4 4 v.uid ∷ holds 8 4 v.gid ∷ holds 12 4 v.blksize ∷ []

abbrev pub size_slots : Inode → List Slot
size_slots v = holds 16 8 v.size ∷ holds 24 8 v.blocks ∷ []

abbrev pub second_slots : Times → List Slot
second_slots t = holds 32 8 t.atime ∷ holds 40 8 t.mtime ∷ holds 48 8 t.ctime ∷ holds 56 8 t.birthtime ∷ []

abbrev pub nanosecond_slots : Times → List Slot
nanosecond_slots t = holds 64 4 t.mtimensec ∷ holds 68 4 t.atimensec ∷ holds 72 4 t.ctimensec ∷ holds 76 4 t.birthnsec ∷ []

abbrev pub time_slots : Times → List Slot
time_slots t = second_slots t ++ nanosecond_slots t

abbrev pub flag_slots : Inode → List Slot
flag_slots v = holds 80 4 v.generation ∷ holds 84 4 v.kernflags ∷ holds 88 4 v.flags ∷ holds 92 4 v.extsize ∷ []

abbrev pub extb_slots : Inode → List Slot
extb_slots v = holds 96 8 (get_or v.extb 0 0) ∷ holds 104 8 (get_or v.extb 1 0) ∷ []

-- n numbers of one width, one after another from place p on
abbrev pub row : ℕ → ℕ → ℕ → List ℕ → List Slot
row p w n vs = listed (λ k. holds (p + k * w) w (get_or vs k 0)) 0 n

abbrev pub direct_slots : List ℕ → List Slot
direct_slots vs = row 112 8 12 vs

abbrev pub indirect_slots : Inode → List Slot
indirect_slots v = holds 208 8 (get_or v.indirect 0 0) ∷ holds 216 8 (get_or v.indirect 1 0) ∷ holds 224 8 (get_or v.indirect 2 0) ∷ []

abbrev pub address_slots : Inode → List Slot
address_slots v = extb_slots v ++ direct_slots v.direct ++ indirect_slots v

abbrev pub last_slots : Inode → List Slot
last_slots v = holds 232 8 v.modrev ∷ holds 240 4 v.ignored ∷ holds 244 4 v.ckhash ∷ holds 248 4 (get_or v.spare 0 0) ∷ holds 252 4 (get_or v.spare 1 0) ∷ []

-- all numbers of the record, in the order of their places
unfoldable pub slots : Inode → List Slot
slots v = owner_slots v ++ size_slots v ++ time_slots v.times ++ flag_slots v ++ address_slots v ++ last_slots v

-- the numbers of a record at `at`, written together
unfoldable pub written : Order → ℕ → List Slot → Store
written o at [] = []
written o at (s ∷ ss) = number o s.width (at + s.place) s.value ∷ written o at ss

-- the record whole as one store, as a new inode gets it: 01, "a new inode holds type and permission bits, owners, .. and zeros"
unfoldable pub inode_store : Order → ℕ → Inode → Store
inode_store o at v = written o at (slots v)

-- a number that its bytes can say
abbrev pub Fit : Slot → Type 0
Fit s = s.value < 256 ^ s.width

-- a record as its 256 bytes can say it
pub record Fits (v : Inode) : Type 0 where
  pub numbers : All Fit (slots v)
  pub extb : length v.extb ≡ 2
  pub direct : length v.direct ≡ 12
  pub indirect : length v.indirect ≡ 3
  pub spare : length v.spare ≡ 2
