-- How C lays a struct out (LP64): each member at the next multiple of its alignment, the struct's size a multiple of its largest alignment. Assumes nothing.
use Rattle.std.specs.Prelude.{ℕ, ◌+◌, ◌-◌, ◌*◌, ◌/◌, max, Bool, true, false}
use Prim.Native.String.{String}
use Rattle.std.proofs.Math.Option.{Option, none, some}
use lib.Text.{eqt}

-- C's types, an integer by its number of bytes; a struct is the list of its members, each a name and a type
infixr 20 ◌∶◌⨾◌
mutual
  pub data CType : Type 0 where
    int : ℕ → CType
    uint : ℕ → CType
    pointer : CType
    array : CType → ℕ → CType
    struct : Members → CType

  pub data Members : Type 0 where
    end : Members
    ◌∶◌⨾◌ : String → CType → Members → Members

-- C's member designator, as offsetof takes it: name, name.other, name[i]
infixl 60 ◌‣◌ ◌!◌
pub data Designator : Type 0 where
  member : String → Designator
  ◌‣◌ : Designator → String → Designator
  ◌!◌ : Designator → ℕ → Designator

-- param.h: roundup2(x, y), the next multiple of y, here by division
unfoldable pub roundup2 : ℕ → ℕ → ℕ
roundup2 x y = (x + (y - 1)) / y * y

-- C: an integer is aligned to its size, an array as its elements are, a struct as its member of the largest alignment
unfoldable mutual
  pub alignof : CType → ℕ
  alignof (int n) = n
  alignof (uint n) = n
  alignof pointer = 8
  alignof (array t n) = alignof t
  alignof (struct ms) = largest ms

  pub largest : Members → ℕ
  largest end = 1
  largest (s ∶ t ⨾ ms) = max (alignof t) (largest ms)

-- C: a member starts at the next multiple of its alignment
unfoldable pub startof : CType → ℕ → ℕ
unfolding roundup2 alignof
startof t at = roundup2 at (alignof t)

-- C: the members follow one another, and the size of a struct is a multiple of its alignment
unfoldable mutual
  unfolding roundup2 alignof startof

  pub sizeof : CType → ℕ
  sizeof (int n) = n
  sizeof (uint n) = n
  sizeof pointer = 8
  sizeof (array t n) = n * sizeof t
  sizeof (struct ms) = roundup2 (endof ms 0) (largest ms)

  pub endof : Members → ℕ → ℕ
  endof end at = at
  endof (s ∶ t ⨾ ms) at = endof ms (startof t at + sizeof t)

-- where a member stands and of what type it is; a name that is not there is absent, and has no place
pub data Located : Type 0 where
  absent : Located
  located : ℕ → CType → Located

-- offsetof(struct, name), counted from where the members begin
unfoldable pub offsetof : Members → String → ℕ → Located
unfolding startof sizeof
offsetof end name at = absent
offsetof (s ∶ t ⨾ ms) name at =
    elim (eqt s name) [
      | true ↦ located (startof t at) t
      | false ↦ offsetof ms name (startof t at + sizeof t)
    ]

-- a place inside another is further on by the other's
unfoldable pub further : ℕ → Located → Located
further at absent = absent
further at (located o t) = located (at + o) t

-- C: only a struct has members
unfoldable pub member_of : Located → String → Located
unfolding offsetof further
member_of absent name = absent
member_of (located at (int n)) name = absent
member_of (located at (uint n)) name = absent
member_of (located at pointer) name = absent
member_of (located at (array t n)) name = absent
member_of (located at (struct ms)) name = further at (offsetof ms name 0)

-- C: a[i] stands i times the size of an element behind a[0]
unfoldable pub element_of : Located → ℕ → Located
unfolding sizeof
element_of absent i = absent
element_of (located at (int n)) i = absent
element_of (located at (uint n)) i = absent
element_of (located at pointer) i = absent
element_of (located at (array t n)) i = located (at + i * sizeof t) t
element_of (located at (struct ms)) i = absent

-- a designator read from the left
unfoldable pub locate : CType → Designator → Located
unfolding member_of element_of
locate t (member name) = member_of (located 0 t) name
locate t (p ‣ name) = member_of (locate t p) name
locate t (p ! i) = element_of (locate t p) i

-- C: a signed integer, or an array of them
unfoldable pub is_signed : CType → Bool
is_signed (int n) = true
is_signed (uint n) = false
is_signed pointer = false
is_signed (array t n) = is_signed t
is_signed (struct ms) = false

-- a member's place, its bytes, and whether it is a signed number
pub record Placed : Type 0 where
  pub at : ℕ
  pub width : ℕ
  pub signed : Bool

-- the same of any place
unfoldable pub placing : Located → Option Placed
unfolding sizeof is_signed
placing absent = none
placing (located at t) = some (record { at = at; width = sizeof t; signed = is_signed t })

-- what the layout of a struct says of one of its members
unfoldable pub placed : CType → Designator → Option Placed
unfolding locate placing
placed t p = placing (locate t p)

-- the integer types by their C names
abbrev pub int8 : CType
int8 = int 1

abbrev pub int16 : CType
int16 = int 2

abbrev pub int32 : CType
int32 = int 4

abbrev pub int64 : CType
int64 = int 8

-- char, whose sign C leaves to the machine: only the bytes of names are of this type, and their sign is never read
abbrev pub char : CType
char = uint 1

abbrev pub uint8 : CType
uint8 = uint 1

abbrev pub uint16 : CType
uint16 = uint 2

abbrev pub uint32 : CType
uint32 = uint 4

abbrev pub uint64 : CType
uint64 = uint 8
