-- The record is `struct ufs2_dinode` of FreeBSD's dinode.h: the numbers that are read alone stand where the struct has them. Assumes nothing.
use mathlib.Core.Path.{◌≡◌, refl, ap}
use mathlib.Core.List.{List}
use Prim.Native.Nat.{ℕ, ◌+◌}
use native.Mathlib.Omega.{arith}
use Rattle.field.specs.Field.{num}
use Rattle.field.specs.declared.Order.{Order}
use Rattle.headers.specs.Layout.{Designator, member, ◌!◌}
use Rattle.headers.specs.Dinode.{ufs2_dinode}
use Rattle.headers.specs.Read.{field_at}
use Rattle.inode.specs.Shape.{shape_of, address_at}
use Rattle.inode.specs.Places.{extb_at}

-- the number of a member of the record at `at`
abbrev pub dinode : Order → ℕ → List ℕ → Designator → ℕ
dinode o at img d = field_at o ufs2_dinode d at img

module _ (o : Order) (at : ℕ) (img : List ℕ) where
  -- the first twelve addresses are di_db, the three that follow di_ib
  pub address-direct-header : (k : ℕ) → address_at o at k img ≡ dinode o at img (member "di_db" ! k)
  unfolding address_at field_at
  address-direct-header k = ap (λ (x : ℕ). num o 8 x img) (omega arith)

  pub address-indirect-header : (j : ℕ) → address_at o at (12 + j) img ≡ dinode o at img (member "di_ib" ! j)
  unfolding address_at field_at
  address-indirect-header j = ap (λ (x : ℕ). num o 8 x img) (omega arith)

  pub extb-header : (j : ℕ) → extb_at o at j img ≡ dinode o at img (member "di_extb" ! j)
  unfolding extb_at field_at
  extb-header j = ap (λ (x : ℕ). num o 8 x img) (omega arith)

  pub shape-header : shape_of o at img ≡ record { mode = dinode o at img (member "di_mode"); size = dinode o at img (member "di_size"); blocks = dinode o at img (member "di_blocks") }
  unfolding shape_of field_at
  shape-header = refl
