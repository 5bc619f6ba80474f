-- The laws of `specs/Signed.antt`: the residue kept is that of the number that is read, and the other way about. Assumes nothing.
use mathlib.Core.Path.{◌≡◌}
use Prim.Native.Nat.{ℕ, ◌+◌, ◌-◌, ◌^◌, ◌≤◌, ◌<◌}
use native.Mathlib.Omega.{arith}
use native.Mathlib.Decide.{dec_lt}
use borrow.Author.Tests.{le-ltb, lt-ltb}
use lib.IntN.{pos, negsuc}
use Rattle.volume.specs.Signed.{signed, residue}

-- below half it is the number itself
pub signed-pos : (n x : ℕ) → x + x < 256 ^ n → signed n x ≡ pos x
unfolding signed
signed-pos n x h = rw (lt-ltb (x + x) (256 ^ n) h)

-- from half on it is 256 ^ n less
pub signed_neg : (n x : ℕ) → 256 ^ n ≤ x + x → signed n x ≡ negsuc (256 ^ n - 1 - x)
unfolding signed
signed_neg n x h = rw (le-ltb (x + x) (256 ^ n) h)

pub residue-signed : (n x : ℕ) → x < 256 ^ n → residue n (signed n x) ≡ x
unfolding residue
residue-signed n x b = go (dec_lt (x + x) (256 ^ n))
  where
    go : Dec (x + x < 256 ^ n) → residue n (signed n x) ≡ x
    go (yes h) = rw (signed-pos n x h)
    go (no h) = let l : 256 ^ n ≤ x + x = omega arith in rw (signed_neg n x l) (omega arith)
