-- What crosses to C of the calls on directories: 0 for an answer and otherwise the refusal's number, beside it what is answered. Assumes nothing: these are definitions.
use Rattle.std.specs.Prelude.{List, [], ◌∷◌, ℕ, replicate, Option, Some, None, Result, Ok, Err}
use Rattle.refusal.specs.Refusal.{number_of}
use Rattle.inode.specs.Kind.{type_number}
use Rattle.dirnext.specs.declared.DirEntry.{DirEntry}
use Rattle.refusal.specs.declared.Refusal.{Refusal}

-- the number, and the inode's
abbrev pub lookup_words : Result ℕ Refusal → ℕ × ℕ
lookup_words (Ok i) = (0, i)
lookup_words (Err e) = (number_of e, 0)

-- inode, kind, where the name lies in the buffer and its length, and the cursor behind the record
abbrev pub entry_list : DirEntry → List ℕ
entry_list e = e.inr ∷ type_number e.kind ∷ e.from ∷ e.len ∷ e.next ∷ []

-- zeros at the end, where no kind is 0, and beside a refusal
abbrev pub next_words : Result (Option DirEntry) Refusal → ℕ × List ℕ
next_words (Ok (Some e)) = (0, entry_list e)
next_words (Ok None) = (0, replicate 5 0)
next_words (Err e) = (number_of e, replicate 5 0)
