-- What crosses to C: a call's answer as numbers, 0 for an answer and otherwise the refusal's number. Assumes nothing: these are definitions.
use Rattle.std.specs.Prelude.{List, ℕ, Result, Ok, Err}
use Rattle.refusal.specs.Refusal.{number_of}
use Rattle.refusal.specs.declared.Refusal.{Refusal}
use Rattle.volume.specs.declared.FragNum.{FragNum}
use Rattle.volume.specs.declared.Volume.{Volume}

abbrev pub opened_word : Result Volume Refusal → ℕ
opened_word (Ok v) = 0
opened_word (Err e) = number_of e

-- the number, the address, the size and the number of stores made
abbrev pub given_words : Result (FragNum × ℕ × ℕ × Volume) Refusal → ℕ × (ℕ × (ℕ × ℕ))
given_words (Ok (a, size, n, v)) = (0, (a.0, (size, n)))
given_words (Err e) = (number_of e, (0, (0, 0)))

-- the number, and the number of stores made
abbrev pub freed_words : Result (ℕ × Volume) Refusal → ℕ × ℕ
freed_words (Ok (n, v)) = (0, n)
freed_words (Err e) = (number_of e, 0)

-- the number, nbfree and nffree
abbrev pub recounted_words : Result (ℕ × ℕ × Volume) Refusal → ℕ × (ℕ × ℕ)
recounted_words (Ok (b, f, v)) = (0, (b, f))
recounted_words (Err e) = (number_of e, (0, 0))

-- the image that is left, beside the words
abbrev pub beside : {A B : Type 0} → (A → B) → List ℕ × A → List ℕ × B
beside f p = (p.0, f p.1)
