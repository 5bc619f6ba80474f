-- 01: what `dirlist` prints, as bytes. Assumes nothing: these are definitions.
use Rattle.std.specs.Prelude.{Bool, true, false, cond, List, [], ◌∷◌, ◌++◌, ℕ, zero, suc, ◌+◌, ◌/◌, ◌%◌, length, eqb, ltb}
use Rattle.field.specs.declared.Order.{Order}
use Rattle.field.specs.Field.{put}
use Rattle.dirblock.specs.declared.Entry.{Entry}
use Rattle.dirblock.specs.Record.{name_at}
use Rattle.dirblock.specs.Walk.{Item, Stop, ended, damaged, Walk, walk_from}

abbrev pub pick_text : Bool → List ℕ → List ℕ → List ℕ
pick_text true a b = a
pick_text false a b = b

-- a number in decimal, by at most k more digits than one
unfoldable pub decimal_for : ℕ → ℕ → List ℕ
decimal_for zero n = (48 + n % 10) ∷ []
decimal_for (suc k) n = pick_text (ltb n 10) ((48 + n) ∷ []) (decimal_for k (n / 10) ++ ((48 + n % 10) ∷ []))

-- n digits are more than enough for n (`TextLaws.enough`)
unfoldable pub decimal_text : ℕ → List ℕ
decimal_text n = decimal_for n n

-- "in hex": a digit below 16
unfoldable pub glyph_of : ℕ → ℕ
glyph_of d = cond (ltb d 10) (48 + d) (87 + d)

unfoldable pub hex_text : List ℕ → List ℕ
hex_text [] = []
hex_text (b ∷ bs) = glyph_of (b / 16) ∷ glyph_of (b % 16) ∷ hex_text bs

-- "name in hex (`-` if empty)"
unfoldable pub name_text : List ℕ → List ℕ
name_text [] = 45 ∷ []
name_text (b ∷ bs) = hex_text (b ∷ bs)

-- a number and a space
unfoldable pub spaced : ℕ → List ℕ
spaced n = decimal_text n ++ (32 ∷ [])

-- "per record: offset, inode, length, type, name"
unfoldable pub line_text : List ℕ → ℕ → Entry → List ℕ
line_text block pos e =
    spaced pos ++ (spaced e.inr ++ (spaced e.reclen ++ (spaced e.kind ++ (name_text (name_at block pos e) ++ (10 ∷ [])))))

unfoldable pub lines_text : List ℕ → List Item → List ℕ
lines_text block [] = []
lines_text block (i ∷ is) = line_text block i.pos i.entry ++ lines_text block is

-- "end " and "refused 97 "
abbrev pub end_word : List ℕ
end_word = 101 ∷ 110 ∷ 100 ∷ 32 ∷ []

abbrev pub damage_word : List ℕ
damage_word = 114 ∷ 101 ∷ 102 ∷ 117 ∷ 115 ∷ 101 ∷ 100 ∷ 32 ∷ 57 ∷ 55 ∷ 32 ∷ []

-- "last, `end` or `refused 97`, and the offset where it stopped"
unfoldable pub stop_text : Stop → List ℕ
stop_text (ended pos) = end_word ++ (decimal_text pos ++ (10 ∷ []))
stop_text (damaged pos) = damage_word ++ (decimal_text pos ++ (10 ∷ []))

unfoldable pub walk_text : List ℕ → Walk → List ℕ
walk_text block w = lines_text block w.records ++ stop_text w.stopped

-- "Other input sizes: `refused 22`"
abbrev pub size_word : List ℕ
size_word = 114 ∷ 101 ∷ 102 ∷ 117 ∷ 115 ∷ 101 ∷ 100 ∷ 32 ∷ 50 ∷ 50 ∷ 10 ∷ []

unfoldable pub dirlist_text : Order → List ℕ → List ℕ
dirlist_text o input = pick_text (eqb (length input) 512) (walk_text input (walk_from o input 0)) size_word

-- a text written into a buffer from `at`: the buffer left, and the place behind the text
unfoldable pub wrote : ℕ → List ℕ → List ℕ → List ℕ × ℕ
wrote at text out = (put at text out, at + length text)
