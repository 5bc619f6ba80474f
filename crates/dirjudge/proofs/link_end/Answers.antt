-- `link_end` meets its contract. Assumes nothing.
use borrow.Author.Rules.{rules}
use mathlib.Core.Path.{◌≡◌, refl, ap, ◌∙◌}
use mathlib.Core.Bool.{false}
use Prim.Native.Nat.{ℕ}
use native.Mathlib.Omega.{arith}
use Rattle.std.specs.Prelude.{Option, Some, None, Ok, is_some}
use Rattle.inode.proofs.SizeLaws.{units}
use Rattle.dirjudge.proofs.JudgeLaws.{zones-low, end-near}
use Rattle.dirjudge.proofs.link_end.Goals as goal

none_of : (x : Option ℕ) → false ≡ is_some x → x ≡ None
none_of None h = refl
none_of (Some k) h = absurd (let z : ◌≡◌ {A = ℕ} 0 1 = cc in let y : ⊥ = omega arith in y)

pub zones_bytes-requires : goal.zones_bytes-requires
zones_bytes-requires c = (units _ c.requires).block_top

pub overflow_sub-zones_bytes : goal.overflow_sub-zones_bytes
overflow_sub-zones_bytes c = omega (arith, c.zones_bytes.ensures, zones-low c.args.geo c.requires)

pub returns : goal.returns
returns c =
    rw (c.in_ok-room.was ∙ ap Ok (none_of c.in_ok-room.field-0 c.if-is_some.ensures))
    (end-near c.args.geo c.args.size c.requires (omega (arith, c.zones_bytes.ensures, c.if-zones_bytes-size.false)))
