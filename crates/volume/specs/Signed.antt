-- A signed number of n bytes, kept as its residue modulo 256 ^ n. Assumes nothing: these are definitions.
use Rattle.std.specs.Prelude.{Bool, true, false, ℕ, ◌+◌, ◌-◌, ◌^◌, ltb, ℤ, pos, negsuc}

abbrev pick_int : Bool → ℤ → ℤ → ℤ
pick_int true a b = a
pick_int false a b = b

-- two's complement: from half of 256 ^ n on, 256 ^ n less
unfoldable pub signed : ℕ → ℕ → ℤ
signed n x = pick_int (ltb (x + x) (256 ^ n)) (pos x) (negsuc (256 ^ n - 1 - x))

-- and back
unfoldable pub residue : ℕ → ℤ → ℕ
residue n (pos k) = k
residue n (negsuc k) = 256 ^ n - 1 - k
