-- A list holds as many addresses as fs.h's NINDIR says, each of ufs2_daddr_t's width. Assumes nothing.
use mathlib.Core.Path.{◌≡◌, refl, sym, ap, ◌∙◌}
use Prim.Native.Nat.{ℕ, ◌/◌}
use Rattle.headers.specs.Layout.{sizeof}
use Rattle.headers.specs.Fs.{ufs2_daddr}
use Rattle.headers.specs.Macros.{Sizes, NINDIR}
use Rattle.headers.proofs.MacroLaws.{NINDIR-is}
use Rattle.volume.specs.declared.Geometry.{Geometry}
use Rattle.mapping.specs.Mapping.{entry_width, per_list}

pub entry-width : (geo : Geometry) → entry_width geo ≡ sizeof ufs2_daddr
unfolding sizeof
entry-width geo = refl

pub per_list_header : (geo : Geometry) (fs : Sizes) → fs.bsize ≡ geo.bsize → per_list geo ≡ NINDIR fs
unfolding per_list
per_list_header geo fs e = ap (λ (b : ℕ). b / 8) (sym e) ∙ sym (NINDIR-is fs)
