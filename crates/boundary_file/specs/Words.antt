-- What crosses to C of the calls that change inodes and read attributes: 0 for an answer and otherwise the refusal's number, beside it what is answered. Assumes nothing: these are definitions.
use Rattle.std.specs.Prelude.{List, ℕ, ◌%◌, get_or, replicate, Result, Ok, Err}
use Rattle.refusal.specs.Refusal.{number_of}
use Rattle.store.specs.Act.{Out, got, refused}
use Rattle.inode.specs.declared.InodeAttr.{InodeAttr}
use Rattle.inode.specs.declared.Times.{Times}
use Rattle.inode.specs.declared.InodeType.TheVariants.{RegularFile}
use Rattle.boundary_inode.specs.Words.{attr_list}
use Rattle.refusal.specs.declared.Refusal.{Refusal}

-- the times as they cross: each before its nanoseconds, of which 32 bits are taken
abbrev pub times_of : List ℕ → Times
times_of t =
    record {
      atime = get_or t 0 0;
      mtime = get_or t 2 0;
      ctime = get_or t 4 0;
      birthtime = get_or t 6 0;
      mtimensec = get_or t 3 0 % 4294967296;
      atimensec = get_or t 1 0 % 4294967296;
      ctimensec = get_or t 5 0 % 4294967296;
      birthnsec = get_or t 7 0 % 4294967296;
    }

-- what is wanted of an inode; the fields that the call does not look at are zeros
abbrev pub wanted : ℕ → ℕ → ℕ → ℕ → List ℕ → InodeAttr
wanted perm uid gid flags t =
    record {
      inr = record { 0 = 0 };
      perm = perm;
      kind = RegularFile;
      size = 0;
      blocks = 0;
      times = times_of t;
      nlink = 0;
      uid = uid;
      gid = gid;
      generation = 0;
      blksize = 0;
      flags = flags;
      kernflags = 0;
      extsize = 0;
    }

-- the number, and the attributes; zeros beside a refusal
abbrev pub changed_words : Out InodeAttr → ℕ × List ℕ
changed_words (got a) = (0, attr_list a)
changed_words (refused e) = (number_of e, replicate 21 0)

abbrev pub done_word : Out (Unit {0}) → ℕ
done_word (got d) = 0
done_word (refused e) = number_of e

-- the number, and how many bytes were written
abbrev pub wrote_words : Result ℕ Refusal → ℕ × ℕ
wrote_words (Ok n) = (0, n)
wrote_words (Err e) = (number_of e, 0)

-- the number, and how many bytes
abbrev pub length_words : Result ℕ Refusal → ℕ × ℕ
length_words (Ok n) = (0, n)
length_words (Err e) = (number_of e, 0)

-- the number, and where the value begins and ends in the buffer
abbrev pub value_words : Result (ℕ × ℕ) Refusal → ℕ × (ℕ × ℕ)
value_words (Ok (b, e)) = (0, (b, e))
value_words (Err e) = (number_of e, (0, 0))
