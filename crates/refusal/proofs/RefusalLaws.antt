-- 01's table gives each refusal its number, and a number says which refusal it is. Assumes nothing.
use mathlib.Core.Path.{◌≡◌, refl, sym, ap, ◌∙◌}
use mathlib.Core.List.{map}
use Rattle.refusal.specs.declared.Refusal.{Refusal}
use Rattle.refusal.specs.declared.Refusal.TheVariants.{NoEntry, TextInInode, LinkedInode, Exists, NotDirectory, IsDirectory, Invalid, TooBig, NoSpace, ReadOnly, TooManyLinks, BufferTooSmall, NotSupported, NameTooLong, NotEmpty, NoAttribute, Damaged}
use Rattle.refusal.specs.Refusal.{Row, number_of, table, refusal_in, refusal_of}

-- each row has its refusal's number
pub table-numbers : map (λ (w : Row). number_of w.given) table ≡ map (λ (w : Row). w.number) table
unfolding number_of table
table-numbers = refl

-- each refusal stands in the table
pub refusal_number : (r : Refusal) → refusal_of (number_of r) ≡ r
unfolding number_of table refusal_in refusal_of
refusal_number NoEntry = refl
refusal_number TextInInode = refl
refusal_number LinkedInode = refl
refusal_number Exists = refl
refusal_number NotDirectory = refl
refusal_number IsDirectory = refl
refusal_number Invalid = refl
refusal_number TooBig = refl
refusal_number NoSpace = refl
refusal_number ReadOnly = refl
refusal_number TooManyLinks = refl
refusal_number BufferTooSmall = refl
refusal_number NotSupported = refl
refusal_number NameTooLong = refl
refusal_number NotEmpty = refl
refusal_number NoAttribute = refl
refusal_number Damaged = refl

-- two refusals with one number are one
pub number-same : (r s : Refusal) → number_of r ≡ number_of s → r ≡ s
number-same r s e = sym (refusal_number r) ∙ ap refusal_of e ∙ refusal_number s
