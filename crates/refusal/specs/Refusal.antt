-- 01, "Numbers given back (FreeBSD errno.h)". Assumes nothing: these are definitions.
use Rattle.std.specs.Prelude.{Bool, true, false, List, [], ◌∷◌, ℕ, eqb}
use Rattle.refusal.specs.declared.Damage.{Damage}
use Rattle.refusal.specs.declared.Refusal.{Refusal}
use Rattle.refusal.specs.declared.Refusal.TheVariants.{NoEntry, TextInInode, LinkedInode, Exists, NotDirectory, IsDirectory, Invalid, TooBig, NoSpace, ReadOnly, TooManyLinks, BufferTooSmall, NotSupported, NameTooLong, NotEmpty, NoAttribute, Damaged}

-- 01's column "No."
unfoldable pub number_of : Refusal → ℕ
number_of NoEntry = 2
number_of TextInInode = 5
number_of LinkedInode = 14
number_of Exists = 17
number_of NotDirectory = 20
number_of IsDirectory = 21
number_of Invalid = 22
number_of TooBig = 27
number_of NoSpace = 28
number_of ReadOnly = 30
number_of TooManyLinks = 31
number_of BufferTooSmall = 34
number_of NotSupported = 45
number_of NameTooLong = 63
number_of NotEmpty = 66
number_of NoAttribute = 87
number_of Damaged = 97

-- a row of 01's table
pub record Row : Type 0 where
  pub given : Refusal
  pub number : ℕ

abbrev row : Refusal → ℕ → Row
row r n = record { given = r; number = n }

-- 01's table, row by row
unfoldable pub table : List Row
table =
    row NoEntry 2
    ∷ row TextInInode 5
    ∷ row LinkedInode 14
    ∷ row Exists 17
    ∷ row NotDirectory 20
    ∷ row IsDirectory 21
    ∷ row Invalid 22
    ∷ row TooBig 27
    ∷ row NoSpace 28
    ∷ row ReadOnly 30
    ∷ row TooManyLinks 31
    ∷ row BufferTooSmall 34
    ∷ row NotSupported 45
    ∷ row NameTooLong 63
    ∷ row NotEmpty 66
    ∷ row NoAttribute 87
    ∷ row Damaged 97
    ∷ []

abbrev pub pick : Bool → Refusal → Refusal → Refusal
pick true r s = r
pick false r s = s

-- the refusal of the row that has the number; past the table's end, damage
unfoldable pub refusal_in : List Row → ℕ → Refusal
refusal_in [] n = Damaged
refusal_in (w ∷ ws) n = pick (eqb w.number n) w.given (refusal_in ws n)

unfoldable pub refusal_of : ℕ → Refusal
refusal_of n = refusal_in table n

-- what work that only damage can stop is refused with
abbrev pub damage : Damage
damage = record {}
