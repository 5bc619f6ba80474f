-- Laws of the call that writes: what is judged, and each answer. Assumes nothing.
use Rattle.std.specs.Prelude.{Result, Ok, Err}
use mathlib.Core.Path.{◌≡◌, refl, sym, ap, ◌∙◌}
use mathlib.Core.Bool.{Bool, true, false, not, ◌&&◌}
use mathlib.Core.List.{List}
use Prim.Native.Nat.{ℕ, ◌+◌, ◌-◌, ◌*◌, ◌^◌, ◌≤◌, ◌<◌, max}
use native.Mathlib.Omega.{arith}
use native.Mathlib.Nat.{mul-le-mul}
use lib.ListN.{length}
use lib.Dec.{ltb, leb}
use borrow.Author.Tests.{le-leb, lt-leb, leb-true, leb-false}
use Rattle.refusal.specs.declared.Refusal.{Refusal}
use Rattle.refusal.specs.declared.Refusal.TheVariants.{Damaged, ReadOnly, TextInInode, TooBig}
use Rattle.store.specs.Act.{Out, got, refused, pure, ◌>>=◌, Left, leaves}
use Rattle.store.proofs.ActLaws.{step-good, step-bad, leaves-pure, leaves-refuse, choose-yes, choose_no}
use Rattle.volume.specs.declared.Geometry.{Geometry}
use Rattle.volume.specs.declared.Volume.{Volume}
use Rattle.sound.specs.Test.{taken_of}
use Rattle.frame.specs.Frame.{InodeIs}
use Rattle.inode.specs.Size.{pick}
use Rattle.inode.specs.Shape.{sized, in_place}
use Rattle.mapping.specs.Mapping.{per_list}
use Rattle.mapping.proofs.ZoneLaws.{start-four, pow_one, pow_two, pow_three, square_le, cube_le}
use Rattle.inode_run.specs.declared.Spot.{Spot}
use Rattle.inode_run.specs.Judge.{ask}
use Rattle.inode_run.specs.Find.{find_inode}
use Rattle.balloc.specs.Calls.{writing}
use Rattle.inode_grow.specs.Grow.{grow_rule}
use Rattle.inode_setblock.specs.Set.{InTable}
use Rattle.inode_write.specs.Write.{write_at}
use Rattle.inode_write.specs.Calls.{limit_of, write_judged, write_found, inode_write, wrote_out, wrote_of, wrote_answer}
use Rattle.refusal.specs.Refusal.{damage}

-- ---- the end of a write

module _ (geo : Geometry) (blocks : ℕ) (e : blocks ≡ 12 + per_list geo ^ 1 + per_list geo ^ 2 + per_list geo ^ 3) where
  pub limit_is : blocks * geo.bsize ≡ limit_of geo
  unfolding limit_of
  limit_is = ap (λ (x : ℕ). x * geo.bsize) (e ∙ sym (start-four (per_list geo)))

  pub limit-fits : blocks ≤ 1649267441676 → geo.bsize ≤ 65536 → blocks * geo.bsize ≤ 108086391057678336
  limit-fits l b = mul-le-mul l b

pub limit_small : (geo : Geometry) → per_list geo ≤ 8192 → geo.bsize ≤ 65536 → limit_of geo ≤ 108086391057678336
limit_small geo l b =
    let p = per_list geo in
    let few : 12 + p ^ 1 + p ^ 2 + p ^ 3 ≤ 1649267441676 = omega (arith, l, sym (pow_one p), sym (pow_two p), sym (pow_three p), square_le p l, cube_le p l) in
    rw (← limit_is geo (12 + p ^ 1 + p ^ 2 + p ^ 3) refl) (limit-fits geo (12 + p ^ 1 + p ^ 2 + p ^ 3) refl few b)

module _ (geo : Geometry) (off n limit : ℕ) (e : limit ≡ limit_of geo) where
  pub past-limit : limit < n → false ≡ leb (off + n) (limit_of geo)
  past-limit l = sym (rw (← e) (lt-leb (off + n) limit (omega arith)))

  pub at-limit : n ≤ limit → leb off (limit - n) ≡ leb (off + n) (limit_of geo)
  at-limit l = rw (← e) (by (leb off (limit - n)) refl)
    where
      by : (b : Bool) → leb off (limit - n) ≡ b → leb off (limit - n) ≡ leb (off + n) limit
      by true q = let m = leb-true off (limit - n) q in q ∙ sym (le-leb (off + n) limit (omega arith))
      by false q = let m = leb-false off (limit - n) q in q ∙ sym (lt-leb (off + n) limit (omega arith))

-- ---- what is judged

module _ (geo : Geometry) (s : Spot) (off n : ℕ) (img : List ℕ) where
  pub judged-in-place : (b : Bool) → b ≡ in_place s.shape → (ltb 0 n && b) ≡ true → refused TextInInode ≡ write_judged geo s off n img
  unfolding write_judged
  judged-in-place b e h = let f = rw e at h in rw f refl

  module _ (b : Bool) (e : b ≡ in_place s.shape) (h : (ltb 0 n && b) ≡ false) (c : Bool) (q : c ≡ sized s.shape) where
    pub judged-unsized : (ltb 0 n && not c) ≡ true → refused Damaged ≡ write_judged geo s off n img
    unfolding write_judged
    judged-unsized k = let f = rw e at h in let g = rw q at k in rw (f, g) refl

    module _ (k : (ltb 0 n && not c) ≡ false) (d : Bool) (l : d ≡ leb (off + n) (limit_of geo)) where
      pub judged-big : d ≡ false → refused TooBig ≡ write_judged geo s off n img
      unfolding write_judged
      judged-big m = let f = rw e at h in let g = rw q at k in rw (f, g, ← l, m) refl

      pub judged-grow : d ≡ true → (new : ℕ) → new ≡ max s.shape.size (off + n) → grow_rule geo s.at s.shape new img ≡ write_judged geo s off n img
      unfolding write_judged
      judged-grow m new w = let f = rw e at h in let g = rw q at k in rw (f, g, ← l, m, w) refl

-- ---- the work that was judged

module _ (geo : Geometry) (s : Spot) (off : ℕ) (buf img : List ℕ) {o : Out (Unit {0})} (j : o ≡ write_judged geo s off (length buf) img) where
  pub found-judged : {f : Refusal} → o ≡ refused f → ◌≡◌ {A = Left ℕ} (img, refused f) (leaves (write_found geo s off buf) img)
  unfolding write_found leaves
  found-judged {f} e = let g = sym j ∙ e in rw g (leaves-refuse f img)

  module _ (e : o ≡ got (tt {0})) {x : List ℕ} {w : Out (Unit {0})} (r : (x, w) ≡ leaves (write_at geo s.at s.shape.size off buf) img) where
    on-judged : leaves (write_at geo s.at s.shape.size off buf >>= (λ _. pure (length buf))) img ≡ leaves (write_found geo s off buf) img
    unfolding write_found leaves
    on-judged = let g = sym j ∙ e in rw g refl

    pub found-done : w ≡ got (tt {0}) → ◌≡◌ {A = Left ℕ} (x, got (length buf)) (leaves (write_found geo s off buf) img)
    found-done q = leaves-pure (length buf) x ∙ step-good (write_at geo s.at s.shape.size off buf) (λ _. pure (length buf)) img r q ∙ on-judged

    pub found-stop : {f : Refusal} → w ≡ refused f → ◌≡◌ {A = Left ℕ} (x, refused f) (leaves (write_found geo s off buf) img)
    found-stop q = step-bad (write_at geo s.at s.shape.size off buf) (λ _. pure (length buf)) img r q ∙ on-judged

-- what is judged good ends within the limit
pub judged-fits : (geo : Geometry) (s : Spot) (off n : ℕ) (img : List ℕ) → write_judged geo s off n img ≡ got (tt {0}) → off + n ≤ limit_of geo
unfolding write_judged
judged-fits geo s off n img e = by (ltb 0 n && in_place s.shape) (ltb 0 n && not (sized s.shape)) (leb (off + n) (limit_of geo)) refl e
  where
    by : (a b c : Bool) → leb (off + n) (limit_of geo) ≡ c → pick a (refused TextInInode) (pick b (refused Damaged) (ask c TooBig (grow_rule geo s.at s.shape (max s.shape.size (off + n)) img))) ≡ got (tt {0}) → off + n ≤ limit_of geo
    by true b c q e = absurd (let z : ◌≡◌ {A = ℕ} 0 1 = cc in let y : ⊥ = omega arith in y)
    by false true c q e = absurd (let z : ◌≡◌ {A = ℕ} 0 1 = cc in let y : ⊥ = omega arith in y)
    by false false false q e = absurd (let z : ◌≡◌ {A = ℕ} 0 1 = cc in let y : ⊥ = omega arith in y)
    by false false true q e = leb-true _ _ q

-- ---- the public call

answered : (r : Result ℕ Refusal) → wrote_of (wrote_out r) ≡ r
answered (Ok n) = refl
answered (Err e) = refl

pub answer_is : {x : List ℕ} {r : (Result ℕ Refusal)} {l : Left ℕ} → (x, wrote_out r) ≡ l → (x, r) ≡ wrote_answer l
answer_is {x} {r} q = ap (λ (y : Result ℕ Refusal). (x, y)) (sym (answered r)) ∙ ap wrote_answer q

module _ (vol : Volume) (i off : ℕ) (buf img : List ℕ) where
  pub call-unsound : taken_of img ≡ Err damage → ◌≡◌ {A = Left ℕ} (img, refused Damaged) (leaves (inode_write vol i off buf) img)
  unfolding inode_write writing leaves
  call-unsound t = rw t (leaves-refuse Damaged img)

  module _ (geo : Geometry) (t : taken_of img ≡ Ok geo) where
    pub call-read-only : vol.writable ≡ false → ◌≡◌ {A = Left ℕ} (img, refused ReadOnly) (leaves (inode_write vol i off buf) img)
    unfolding inode_write writing leaves
    call-read-only w = rw t (leaves-refuse ReadOnly img ∙ choose_no _ _ img w)

    module _ (w : vol.writable ≡ true) where
      pub call-no : {f : Refusal} → find_inode geo img i ≡ refused f → ◌≡◌ {A = Left ℕ} (img, refused f) (leaves (inode_write vol i off buf) img)
      unfolding inode_write writing leaves
      call-no {f} e = rw t (rw e (leaves-refuse f img) ∙ choose-yes _ _ img w)

      pub call-found : {s : Spot} → find_inode geo img i ≡ got s → leaves (write_found geo s off buf) img ≡ leaves (inode_write vol i off buf) img
      unfolding inode_write writing leaves
      call-found e = rw t (rw e refl ∙ choose-yes _ _ img w)

pub in_table : (geo : Geometry) (img : List ℕ) (i at : ℕ) → InodeIs geo img i at → InTable geo at
in_table geo img i at p = record { group = _; one = p.group; first = p.first; last = p.last }
