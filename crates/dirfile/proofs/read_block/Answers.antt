-- `read_block` meets its contract. Assumes nothing.
use borrow.Author.Rules.{rules}
use native.Mathlib.Omega.{arith}
use mathlib.Core.Path.{◌≡◌, refl, ap, ◌∙◌}
use Prim.Native.Nat.{ℕ}
use Rattle.std.specs.Prelude.{Ok, is_ok}
use Rattle.refusal.proofs.ExitLaws.{passed}
use Rattle.dirfile.specs.Block.{read_into}
use Rattle.dirfile.proofs.BlockLaws.{in_image, copied, zeroed}
use Rattle.dirfile.proofs.read_block.Goals as goal

pub returns-in-Some : goal.returns-in-Some
returns-in-Some c =
    let k = c.in_ok-p.ensures in
    let e = ap Ok c.in-Some.is in
    (k.0 ∙ copied _ _ e _ c.requires.3 (in_image _ _ e k.1) _ c.copy_bytes.ensures, λ e. absurd (let z : ◌≡◌ {A = ℕ} 0 1 = cc in let y : ⊥ = omega arith in y))

pub returns-in-None : goal.returns-in-None
returns-in-None c =
    (c.in_ok-p.ensures.0 ∙ zeroed _ (ap Ok c.in-None.is) _ c.requires.3 _ c.zero_bytes.ensures, λ e. absurd (let z : ◌≡◌ {A = ℕ} 0 1 = cc in let y : ⊥ = omega arith in y))

pub returns-in_err-p : goal.returns-in_err-p
returns-in_err-p c =
    rw (passed _ _ c.from_residual.ensures) (c.in_err-p.ensures.0, λ e. refl)
