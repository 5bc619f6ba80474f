-- `group_ok` meets its contract. Assumes nothing.
use mathlib.Core.Path.{sym}
use native.Mathlib.Omega.{arith}
use Rattle.sound.proofs.Laws.{group-inside, placed}
use Rattle.bits.proofs.UptoLaws.{not-true as never_true}
use Rattle.sound.proofs.group_ok.Goals as goal

pub returns-then-frags-product : goal.returns-then-frags-product
returns-then-frags-product c = sym (never_true _ (λ h. let a = c.args in omega (arith, group-inside a.img.now a.geo a.g h)))

pub record_ok-requires : goal.record_ok-requires
record_ok-requires c = (c.requires, placed _ _ _ c.requires (omega arith))
