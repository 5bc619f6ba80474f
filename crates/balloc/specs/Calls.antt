-- 01, "Giving out and taking back blocks": the public calls, with the order of refusals before the work. Assumes nothing: these are definitions.
use Rattle.std.specs.Prelude.{Bool, true, false, List, ℕ, min, Result, Ok, Err}
use Rattle.refusal.specs.declared.Refusal.{Refusal}
use Rattle.refusal.specs.declared.Refusal.TheVariants.{Damaged, ReadOnly, Invalid}
use Rattle.store.specs.Act.{Out, got, refused, Act, refuse, choose, leaves, made, cut_act}
use Rattle.volume.specs.declared.Geometry.{Geometry}
use Rattle.volume.specs.declared.Volume.{Volume}
use Rattle.volume.specs.declared.FragNum.{FragNum}
use Rattle.volume.specs.Volume.{geometry_of}
use Rattle.sound.specs.Test.{taken_of}
use Rattle.balloc_give.specs.Give.{give_block}
use Rattle.balloc_take.specs.Take.{good_size, take_back}
use Rattle.balloc_count.specs.declared.Fresh.{Fresh}
use Rattle.balloc_count.specs.Recount.{recount_all}
use Rattle.refusal.specs.Refusal.{damage}
use Rattle.refusal.specs.declared.Damage.{Damage}

-- "Order: 97 for an unsound volume, 30, .."
abbrev pub entering : {A : Type 0} → Volume → (Geometry → Act A) → Result Geometry Damage → Act A
entering vol f (Err harm) = refuse Damaged
entering vol f (Ok geo) = choose vol.writable (f geo) (refuse ReadOnly)

unfoldable pub writing : {A : Type 0} → Volume → (Geometry → Act A) → Act A
writing vol f img = entering vol f (taken_of img) img

-- "`blk_alloc` takes a positive multiple of fsize up to bsize (else 22)"
unfoldable pub blk_alloc : Volume → ℕ → Act ℕ
blk_alloc vol size = writing vol (λ geo. choose (good_size geo size) (give_block geo) (refuse Invalid))

unfoldable pub blk_free : Volume → ℕ → ℕ → Act (Unit {0})
blk_free vol a size = writing vol (λ geo. take_back geo a size)

unfoldable pub recount : Volume → Act Fresh
recount vol = writing vol recount_all

-- ---- the answers

-- "yet returns a whole block and bsize", and the number of stores made
abbrev pub given_of : Volume → ℕ → Out ℕ → ℕ → Result (FragNum × ℕ × ℕ × Volume) Refusal
given_of vol bsize (got a) n = Ok (record { 0 = a }, bsize, n, vol)
given_of vol bsize (refused e) n = Err e

abbrev pub freed_of : Volume → Out (Unit {0}) → ℕ → Result (ℕ × Volume) Refusal
freed_of vol (got x) n = Ok (n, vol)
freed_of vol (refused e) n = Err e

abbrev pub recounted_of : Volume → Out Fresh → ℕ → Result (ℕ × ℕ × Volume) Refusal
recounted_of vol (got t) n = Ok (t.nbfree, t.nffree, vol)
recounted_of vol (refused e) n = Err e

-- ---- what the calls leave

-- "each of these calls made to stop after a given number of stores, answering the number made"
abbrev pub cut_answer : {A B : Type 0} → (Out A → ℕ → B) → ℕ → Act A → List ℕ → List ℕ × B
cut_answer f k m img = (cut_act k m img, f (m img).out (min k (made m img)))

-- "the plain call is this one, with a number above all its stores"
abbrev pub plain_answer : {A B : Type 0} → (Out A → ℕ → B) → Act A → List ℕ → List ℕ × B
plain_answer f m img = ((leaves m img).0, f (m img).out (made m img))

unfoldable pub alloc_cut : Volume → ℕ → ℕ → List ℕ → List ℕ × Result (FragNum × ℕ × ℕ × Volume) Refusal
alloc_cut vol size k img = cut_answer (given_of vol (geometry_of img).bsize) k (blk_alloc vol size) img

unfoldable pub free_cut : Volume → ℕ → ℕ → ℕ → List ℕ → List ℕ × Result (ℕ × Volume) Refusal
free_cut vol a size k img = cut_answer (freed_of vol) k (blk_free vol a size) img

unfoldable pub alloc_plain : Volume → ℕ → List ℕ → List ℕ × Result (FragNum × ℕ × ℕ × Volume) Refusal
alloc_plain vol size img = plain_answer (given_of vol (geometry_of img).bsize) (blk_alloc vol size) img

unfoldable pub free_plain : Volume → ℕ → ℕ → List ℕ → List ℕ × Result (ℕ × Volume) Refusal
free_plain vol a size img = plain_answer (freed_of vol) (blk_free vol a size) img

unfoldable pub recount_plain : Volume → List ℕ → List ℕ × Result (ℕ × ℕ × Volume) Refusal
recount_plain vol img = plain_answer (recounted_of vol) (recount vol) img
