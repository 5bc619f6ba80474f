-- What block k of a directory says, told by the place that `block_at` answers. Assumes nothing.
use Rattle.std.specs.Prelude.{Option, Some, None, Result, Ok, Err}
use mathlib.Core.Path.{◌≡◌, sym, ap, ◌∙◌}
use mathlib.Core.List.{List}
use Prim.Native.Nat.{ℕ, ◌+◌, ◌-◌}
use native.Mathlib.Omega.{arith}
use lib.ListN.{take, drop}
use Rattle.field.specs.Field.{part, zeros}
use Rattle.store.specs.Act.{Out}
use Rattle.dirfile.specs.Block.{bytes_at}
use Rattle.dirfile.specs.Seek.{Sought, hurt, in_block}
use Rattle.refusal.specs.Refusal.{damage}
use Rattle.refusal.specs.declared.Damage.{Damage}

module _ {A : Type 0} (f : List ℕ → Sought A) (img : List ℕ) {d : Out (List ℕ)} {b : (Result (Option ℕ) Damage)} (e : d ≡ bytes_at img b) where
  -- the bytes lent to a search of one block are that block
  pub said_at : (p : ℕ) → b ≡ Ok (Some p) → f (take (p + 512 - p) (drop p img)) ≡ in_block d f
  unfolding part
  said_at p q =
      let whole : p + 512 - p ≡ 512 = omega arith in
      ap (λ (n : ℕ). f (take n (drop p img))) whole ∙ sym (ap (λ (x : Out (List ℕ)). in_block x f) (e ∙ ap (bytes_at img) q))

  pub said-hole : b ≡ Ok None → f (zeros 512) ≡ in_block d f
  said-hole q = sym (ap (λ (x : Out (List ℕ)). in_block x f) (e ∙ ap (bytes_at img) q))

  pub said-bad : b ≡ Err damage → hurt ≡ in_block d f
  said-bad q = sym (ap (λ (x : Out (List ℕ)). in_block x f) (e ∙ ap (bytes_at img) q))
