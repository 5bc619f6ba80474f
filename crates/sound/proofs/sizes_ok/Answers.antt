-- `sizes_ok` meets its contract. Assumes nothing.
use borrow.Author.Tests.{eq-eqb, ne_eqb}
use mathlib.Core.Path.{◌≡◌, refl, sym}
use mathlib.Core.Bool.{Bool, true, false}
use Prim.Native.Nat.{ℕ}
use lib.Dec.{eqb}
use Rattle.std.specs.Prelude.{◌↔◌, IsTrue}
use Rattle.sound.specs.Clauses.{sizes_ok}
use Rattle.sound.proofs.sizes_ok.Goals as goal

-- the test whether a remainder is 0
divided : (b : Bool) (x : ℕ) → IsTrue b ↔ (x ≡ 0) → b ≡ eqb x 0
divided true x h = sym (eq-eqb x 0 (h.0 refl))
divided false x h = sym (ne_eqb x 0 (λ e. let y : false ≡ true = h.1 e in cc))

pub returns : goal.returns
unfolding sizes_ok
returns c = rw (c.is_block_size.ensures, c.is_frag.ensures, c.product.ensures.0, divided _ _ c.is_multiple_of.ensures, divided _ _ c.is_multiple_of-2.ensures, c.product-2.ensures.0)
