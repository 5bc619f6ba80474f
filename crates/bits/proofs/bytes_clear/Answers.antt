-- `bytes_clear` meets its contract: the bits are 0 just where each byte is. Assumes nothing.
use Rattle.std.proofs.Common.{rules, arith, ◌≡◌, refl, sym, ◌∙◌, Bool, true, false, ◌+◌, ◌*◌, ◌<◌, ◌↔◌, ℕ, zero, suc, List, length, take, drop, get_or, add-one, get_or-take, get_or-drop, length-take, length-drop, EachIndex, IsTrue}
use Rattle.bits.specs.Bits.{bits_are}
use Rattle.bits.proofs.UptoLaws.{not-true, true-not-false}
use Rattle.bits.proofs.BitsLaws.{bits_none, bytes-more, bytes-fail}
use Rattle.bits.proofs.bytes_clear.Goals as goal

no-other : (x : ℕ) → ((x ≡ 0 → ⊥) → ⊥) → x ≡ 0
no-other zero h = refl
no-other (suc x) h = absurd (h (λ e. let y : ⊥ = omega arith in y))

module _ (img : List ℕ) (at i : ℕ) (small : (k : ℕ) → get_or img k 0 < 256) where
  bytes-clear : (n : ℕ) → ((k : ℕ) → k < n → get_or img (at + i + k) 0 ≡ 0) → bits_are 0 img at (8 * i) (8 * n) ≡ true
  bytes-clear zero h = bits_none 0 img at (8 * i)
  bytes-clear (suc n) h =
      rw add-one at (bytes-more 0 img at i n (omega arith) (small (at + i + n)) (bytes-clear n (λ k l. h k (omega arith))) (h n (omega arith)))

  clear-byte : (n k : ℕ) → bits_are 0 img at (8 * i) (8 * n) ≡ true → k < n → get_or img (at + i + k) 0 ≡ 0
  clear-byte n k a l = no-other _ (λ h. true-not-false a (bytes-fail 0 img at i k (omega arith) (small (at + i + k)) n l h))

  module _ (n : ℕ) (xs : List ℕ) (long : length xs ≡ n) (same : (k : ℕ) → k < n → get_or xs k 0 ≡ get_or img (at + i + k) 0) where
    bytes-told : (b : Bool) → (IsTrue b ↔ EachIndex xs (λ k. get_or xs k 0 ≡ 0)) → b ≡ bits_are 0 img at (8 * i) (8 * n)
    bytes-told true t = sym (bytes-clear n (λ k m. sym (same k m) ∙ t.0 refl k (omega arith)))
    bytes-told false t = sym (not-true _ (λ a. true-not-false (t.1 (λ k m. same k (omega arith) ∙ clear-byte n k a (omega arith))) refl))

pub returns : goal.returns
returns c =
    let a = c.args in
    let bytes = take a.n (drop (a.at + a.i) a.img.now) in
    let long : length bytes ≡ a.n = simp (length-take, length-drop) (omega arith) in
    let same : (k : ℕ) → k < a.n → get_or bytes k 0 ≡ get_or a.img.now (a.at + a.i + k) 0 = λ k m. rw (get_or-take, get_or-drop) in
    let told : IsTrue c.all.result ↔ EachIndex bytes (λ k. get_or bytes k 0 ≡ 0) = search rules in
    bytes-told _ _ _ (λ k. (c.type_inv.img k).fits) _ _ long same _ told
