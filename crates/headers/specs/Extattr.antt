-- extattr.h: the header of an extended attribute, and where its parts stand. Assumes nothing.
use Rattle.std.specs.Prelude.{ℕ, ◌+◌, ◌-◌}
use Rattle.headers.specs.Layout.{CType, struct, array, end, ◌∶◌⨾◌, char, uint8, uint32, roundup2, sizeof}

-- struct extattr; ea_name is as long as ea_namelength says
unfoldable pub extattr : CType
extattr =
    struct (
    "ea_length" ∶ uint32 ⨾
    "ea_namespace" ∶ uint8 ⨾
    "ea_contentpadlen" ∶ uint8 ⨾
    "ea_namelength" ∶ uint8 ⨾
    "ea_name" ∶ array char 1 ⨾
    end)

-- extattr.h: EXTATTR_BASE_LENGTH(eap) = roundup2(sizeof(struct extattr) - 1 + eap->ea_namelength, 8)
unfoldable pub EXTATTR_BASE_LENGTH : ℕ → ℕ
unfolding roundup2 sizeof extattr
EXTATTR_BASE_LENGTH namelength = roundup2 (sizeof extattr - 1 + namelength) 8

-- extattr.h: EXTATTR_CONTENT(eap) = eap + EXTATTR_BASE_LENGTH(eap)
unfoldable pub EXTATTR_CONTENT : ℕ → ℕ → ℕ
unfolding EXTATTR_BASE_LENGTH
EXTATTR_CONTENT eap namelength = eap + EXTATTR_BASE_LENGTH namelength

-- extattr.h: EXTATTR_CONTENT_SIZE(eap) = eap->ea_length - EXTATTR_BASE_LENGTH(eap) - eap->ea_contentpadlen
unfoldable pub EXTATTR_CONTENT_SIZE : ℕ → ℕ → ℕ → ℕ
unfolding EXTATTR_BASE_LENGTH
EXTATTR_CONTENT_SIZE length namelength contentpadlen = length - EXTATTR_BASE_LENGTH namelength - contentpadlen

-- extattr.h: EXTATTR_NEXT(eap) = eap + eap->ea_length
unfoldable pub EXTATTR_NEXT : ℕ → ℕ → ℕ
EXTATTR_NEXT eap length = eap + length

-- 01: "name, aligned to 8 in the area, value, pad": the pad after a value of n bytes, and the length of the whole
unfoldable pub content_pad : ℕ → ℕ
unfolding roundup2
content_pad n = roundup2 n 8 - n

unfoldable pub extattr_length : ℕ → ℕ → ℕ
unfolding EXTATTR_BASE_LENGTH content_pad
extattr_length namelength n = EXTATTR_BASE_LENGTH namelength + n + content_pad n
