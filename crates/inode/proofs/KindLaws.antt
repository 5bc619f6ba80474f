-- The kinds and their numbers: each number names its kind, and they are those of dinode.h. Assumes nothing.
use Rattle.std.specs.Prelude.{Option, Some, None}
use mathlib.Core.Path.{◌≡◌, refl, sym, ap, ◌∙◌}
use mathlib.Core.Logic.{◌⊎◌, inl, inr, ⊎_elim}
use Prim.Native.Nat.{ℕ, ◌+◌, ◌*◌, ◌%◌, ◌<◌}
use native.Mathlib.Omega.{arith}
use native.Mathlib.Decide.{ℕ_discrete}
use borrow.Author.Tests.{ne_eqb}
use Rattle.headers.specs.Dinode.{IFMT, IFIFO, IFCHR, IFDIR, IFBLK, IFREG, IFLNK, IFSOCK}
use Rattle.inode.specs.declared.InodeType.{InodeType}
use Rattle.inode.specs.declared.InodeType.TheVariants.{NamedPipe, CharDevice, Directory, BlockDevice, RegularFile, Symlink, Socket}
use Rattle.inode.specs.Shape.{type_of}
use Rattle.inode.specs.Kind.{type_number, kind_of}

-- a kind's number names it
pub kind-of-number : (k : InodeType) → kind_of (type_number k) ≡ Some k
unfolding type_number kind_of
kind-of-number NamedPipe = refl
kind-of-number CharDevice = refl
kind-of-number Directory = refl
kind-of-number BlockDevice = refl
kind-of-number RegularFile = refl
kind-of-number Symlink = refl
kind-of-number Socket = refl

-- as an arm of a match has it
pub kind-named : (k : InodeType) {n t : ℕ} → n ≡ type_number k → n ≡ t → Some k ≡ kind_of t
kind-named k e f = sym (kind-of-number k) ∙ ap kind_of (sym e ∙ f)

-- the other numbers name no kind
pub kind_nameless : (t : ℕ) → (t ≡ 1 → ⊥) → (t ≡ 2 → ⊥) → (t ≡ 4 → ⊥) → (t ≡ 6 → ⊥) → (t ≡ 8 → ⊥) → (t ≡ 10 → ⊥) → (t ≡ 12 → ⊥) → kind_of t ≡ None
unfolding kind_of
kind_nameless t a b c d e f g = simp (ne_eqb t 1 a, ne_eqb t 2 b, ne_eqb t 4 c, ne_eqb t 6 d, ne_eqb t 8 e, ne_eqb t 10 f, ne_eqb t 12 g)

-- the last arm, as a match leaves it
pub kind-rest : {n t : ℕ}
    → ((((((Unit {0} × (n ≡ 1 → ⊥)) × (n ≡ 2 → ⊥)) × (n ≡ 4 → ⊥)) × (n ≡ 6 → ⊥)) × (n ≡ 8 → ⊥)) × (n ≡ 10 → ⊥)) × (n ≡ 12 → ⊥)
    → n ≡ t → None ≡ kind_of t
kind-rest {n} r e = sym (kind_nameless n r.0.0.0.0.0.0.1 r.0.0.0.0.0.1 r.0.0.0.0.1 r.0.0.0.1 r.0.0.1 r.0.1 r.1) ∙ ap kind_of e

-- ---- and back: a kind that a number names has that number

abbrev number_in : Option InodeType → ℕ
number_in (Some k) = type_number k
number_in None = 0

number-positive : (k : InodeType) → 0 < type_number k
unfolding type_number
number-positive NamedPipe = omega arith
number-positive CharDevice = omega arith
number-positive Directory = omega arith
number-positive BlockDevice = omega arith
number-positive RegularFile = omega arith
number-positive Symlink = omega arith
number-positive Socket = omega arith

module _ (t : ℕ) where
  named : (k : InodeType) → t ≡ type_number k → number_in (kind_of t) ≡ t
  named k e = ap number_in (sym (kind-named k e refl)) ∙ sym e

  named-or-not : Dec (t ≡ 1) → Dec (t ≡ 2) → Dec (t ≡ 4) → Dec (t ≡ 6) → Dec (t ≡ 8) → Dec (t ≡ 10) → Dec (t ≡ 12) → (number_in (kind_of t) ≡ t) ⊎ (kind_of t ≡ None)
  unfolding type_number
  named-or-not (yes a) b c d e f g = inl (named NamedPipe a)
  named-or-not (no a) (yes b) c d e f g = inl (named CharDevice b)
  named-or-not (no a) (no b) (yes c) d e f g = inl (named Directory c)
  named-or-not (no a) (no b) (no c) (yes d) e f g = inl (named BlockDevice d)
  named-or-not (no a) (no b) (no c) (no d) (yes e) f g = inl (named RegularFile e)
  named-or-not (no a) (no b) (no c) (no d) (no e) (yes f) g = inl (named Symlink f)
  named-or-not (no a) (no b) (no c) (no d) (no e) (no f) (yes g) = inl (named Socket g)
  named-or-not (no a) (no b) (no c) (no d) (no e) (no f) (no g) = inr (kind_nameless t a b c d e f g)

  pub number-of-kind : (k : InodeType) → kind_of t ≡ Some k → type_number k ≡ t
  number-of-kind k e =
      ⊎_elim (λ n. sym (ap number_in e) ∙ n) (λ n. absurd (none (ap number_in (sym n ∙ e))))
      (named-or-not (ℕ_discrete t 1) (ℕ_discrete t 2) (ℕ_discrete t 4) (ℕ_discrete t 6) (ℕ_discrete t 8) (ℕ_discrete t 10) (ℕ_discrete t 12))
    where
      none : 0 ≡ type_number k → ⊥
      none z = omega (arith, z, number-positive k)

-- ---- dinode.h

-- a kind's bits of the mode
abbrev pub ifmt : InodeType → ℕ
ifmt NamedPipe = IFIFO
ifmt CharDevice = IFCHR
ifmt Directory = IFDIR
ifmt BlockDevice = IFBLK
ifmt RegularFile = IFREG
ifmt Symlink = IFLNK
ifmt Socket = IFSOCK

-- IFTODT(mode) is (mode & IFMT) >> 12
pub kind_header : (k : InodeType) → type_number k * 4096 ≡ ifmt k
unfolding type_number
kind_header NamedPipe = refl
kind_header CharDevice = refl
kind_header Directory = refl
kind_header BlockDevice = refl
kind_header RegularFile = refl
kind_header Symlink = refl
kind_header Socket = refl

-- IFMT is the four bits above the permissions' twelve: a mode of 16 bits has no other
pub mask_header : IFMT ≡ 15 * 4096
mask_header = refl

-- a mode made of a kind's bits and permissions is of that kind
pub type_of-mode : (k : InodeType) (perm : ℕ) → perm < 4096 → type_of (ifmt k + perm) ≡ type_number k
unfolding type_of
type_of-mode k perm h = omega (arith, kind_header k)

-- and has those permissions
pub perm_of-mode : (k : InodeType) (perm : ℕ) → perm < 4096 → (ifmt k + perm) % 4096 ≡ perm
perm_of-mode k perm h = omega (arith, kind_header k)
