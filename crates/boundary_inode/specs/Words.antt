-- What crosses to C of the calls that read inodes: 0 for an answer and otherwise the refusal's number, beside it what is answered. Assumes nothing: these are definitions.
use Rattle.std.specs.Prelude.{List, [], ◌∷◌, ℕ, replicate, Option, Some, None, Result, Ok, Err}
use Rattle.refusal.specs.Refusal.{number_of}
use Rattle.inode.specs.declared.InodeAttr.{InodeAttr}
use Rattle.inode.specs.Kind.{type_number}
use Rattle.refusal.specs.declared.Refusal.{Refusal}
use Rattle.volume.specs.declared.FragNum.{FragNum}

-- the attributes one after the other; the kind is its number in the mode, and each time's nanoseconds follow its seconds
abbrev pub attr_list : InodeAttr → List ℕ
attr_list a =
    a.inr.0
    ∷ type_number a.kind
    ∷ a.perm
    ∷ a.size
    ∷ a.blocks
    ∷ a.times.atime
    ∷ a.times.atimensec
    ∷ a.times.mtime
    ∷ a.times.mtimensec
    ∷ a.times.ctime
    ∷ a.times.ctimensec
    ∷ a.times.birthtime
    ∷ a.times.birthnsec
    ∷ a.nlink
    ∷ a.uid
    ∷ a.gid
    ∷ a.generation
    ∷ a.blksize
    ∷ a.flags
    ∷ a.kernflags
    ∷ a.extsize
    ∷ []

-- zeros beside a refusal
abbrev pub attr_words : Result InodeAttr Refusal → ℕ × List ℕ
attr_words (Ok a) = (0, attr_list a)
attr_words (Err e) = (number_of e, replicate 21 0)

-- the number, and how many bytes the block holds
abbrev pub size_words : Result ℕ Refusal → ℕ × ℕ
size_words (Ok n) = (0, n)
size_words (Err e) = (number_of e, 0)

-- the number, and the address; 0 is a hole, as in the lists
abbrev pub resolved_words : Result (Option FragNum) Refusal → ℕ × ℕ
resolved_words (Ok (Some a)) = (0, a.0)
resolved_words (Ok None) = (0, 0)
resolved_words (Err e) = (number_of e, 0)

-- the number, and how many bytes were read
abbrev pub read_words : Result ℕ Refusal → ℕ × ℕ
read_words (Ok n) = (0, n)
read_words (Err e) = (number_of e, 0)
