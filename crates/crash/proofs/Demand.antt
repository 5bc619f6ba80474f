-- Demand 3: a run cut after any store, and one recount. From the shape of each call's stores, by induction over the run. Assumes nothing.
use Rattle.std.specs.Prelude.{Ok}
use mathlib.Core.Path.{◌≡◌, refl, sym, ap, subst, ◌∙◌}
use mathlib.Core.Bool.{Bool, true, false}
use mathlib.Core.List.{List, [], ◌∷◌, ◌++◌, append_assoc}
use mathlib.Core.Logic.{◌⊎◌, inl, inr, ⊎_elim}
use Prim.Native.Nat.{ℕ, zero, suc, ◌+◌, ◌-◌, ◌*◌, ◌/◌, ◌%◌, ◌^◌, ◌≤◌, ◌<◌}
use native.Mathlib.Omega.{arith}
use native.Mathlib.Decide.{dec_lt}
use lib.ListN.{length, get_or, length-append}
use Rattle.store.specs.Store.{Store, apply_all, cut}
use Rattle.store.specs.Where.{Range, KeptBut}
use Rattle.store.specs.Act.{leaves}
use Rattle.store.proofs.StoreLaws.{apply_all-none, apply_all_append}
use Rattle.store.proofs.CutLaws.{cut-none, cut-all, cut-first, cut_append}
use Rattle.volume.specs.declared.Geometry.{Geometry}
use Rattle.volume.specs.declared.Group.{Group}
use Rattle.volume.specs.declared.Volume.{Volume}
use Rattle.volume.specs.Volume.{geometry_of, cg_at}
use Rattle.bits.specs.Bits.{bit_at}
use Rattle.sound.specs.Clauses.{soundb}
use Rattle.sound.specs.Sound.{group_at, free_at, free_bit}
use Rattle.sound.specs.Test.{taken_of}
use Rattle.sound.proofs.Laws.{taken-yes}
use Rattle.frame.specs.Frame.{Frame}
use Rattle.frame.proofs.SoundKept.{Marked, Bounded, sound_again}
use Rattle.balloc_count.specs.Recount.{TrueCounts, CountByte, recount_all, recount_stores}
use Rattle.balloc_count.proofs.CountsLaws.{group-kept, map-kept}
use Rattle.balloc_count.proofs.RecountLaws.{leaves-recount, recount-kept, recount-true}
use Rattle.balloc.specs.Calls.{recount}
use Rattle.balloc.proofs.CallLaws.{when-taken, recount-is}
use Rattle.crash.specs.Crash.{Call, give, take, call_stores, run_stores, finished, cut_run, recounted, MapByte, MagicApart, CutCall, not_made, made, first_few, Unfinished, Recovered}
use Rattle.crash.proofs.Shape.{Held, Between}

-- ---- a volume on its way: z, from the start

pub record Going (geo : Geometry) (start z : List ℕ) : Type 0 where
  pub long : length z ≡ length start
  pub held : Held geo z
  pub marked : Marked geo z
  pub counts : TrueCounts geo z
  pub groups : (g : ℕ) → g < geo.ncg → group_at geo g z ≡ group_at geo g start
  pub apart : MagicApart geo z
  pub other : (j : ℕ) → (MapByte geo start j → ⊥) → (CountByte geo j → ⊥) → get_or z j 0 ≡ get_or start j 0

pub going_sound : (geo : Geometry) (x : List ℕ) → Held geo x → Marked geo x → soundb x ≡ true
going_sound geo x h m = sound_again geo x h.frame m h.bounded

pub going_taken : (geo : Geometry) (x : List ℕ) → Held geo x → Marked geo x → taken_of x ≡ Ok geo
going_taken geo x h m = taken-yes x (going_sound geo x h m) ∙ ap Ok (sym h.frame.same)

-- where a group's map begins depends on its record alone
free-place : (geo : Geometry) (g : ℕ) (xs ys : List ℕ) → group_at geo g ys ≡ group_at geo g xs → free_at geo g ys ≡ free_at geo g xs
free-place geo g xs ys e = ap (λ (r : Group). cg_at geo g + r.freeoff) e

-- ---- what a recount makes of an image on the way from z

pub recovered : (vol : Volume) (geo : Geometry) (start z like x : List ℕ) → vol.writable ≡ true → Going geo start z → Between geo z like x
    → ((g : ℕ) → g < geo.ncg → group_at geo g like ≡ group_at geo g z) → Recovered geo start like (recounted vol x)
recovered vol geo start z like x w s b gl =
    let fx = b.held.frame in
    let k = recount-kept geo x in
    let t = recount-true geo x fx in
    let e : recounted vol x ≡ apply_all (recount_stores geo x) x = recount-is vol x geo (going_taken geo x b.held b.marked) w in
    rw e (record {
      long = k.long ∙ b.long ∙ s.long;
      map = λ g l f lf.
          let gx = b.groups g l in
          let gs = s.groups g l in
          let gy = group-kept geo x (apply_all (recount_stores geo x) x) fx k g l in
          ap (λ (p : ℕ). bit_at (apply_all (recount_stores geo x) x) p f) (free-place geo g x _ gy)
          ∙ map-kept geo x (apply_all (recount_stores geo x) x) fx k g l f (rw (gx, gs) (omega arith))
          ∙ ap (λ (p : ℕ). bit_at x p f) (free-place geo g z x gx)
          ∙ b.map g l f (rw gs lf)
          ∙ ap (λ (p : ℕ). bit_at like p f) (sym (free-place geo g z like (gl g l)));
      counts = λ g l. (t.nbfree g l, t.nffree g l);
      totals = (t.total_nbfree, t.total_nffree);
      other = λ j n c. k.byte j c
          ∙ b.other j (λ h l r. n (h, l, subst (λ (q : Group). Range (cg_at geo h + q.freeoff) ((q.ndblk + 7) / 8) j) (s.groups h l) r)) c
          ∙ s.other j n c;
    })

-- ---- one call: what it leaves, and what a cut of it leaves

pub record CallCut (vol : Volume) (geo : Geometry) (start z : List ℕ) (c : Call) : Type 0 where
  pub after : Going geo start (apply_all (call_stores vol c z) z)
  pub within : (k : ℕ) (cs : List Call) → (like : List ℕ) × CutCall vol geo z (c ∷ cs) like × Between geo z like (cut k (call_stores vol c z) z) × ((g : ℕ) → g < geo.ncg → group_at geo g like ≡ group_at geo g z)

-- ---- the run

pub record Cut (vol : Volume) (geo : Geometry) (start z : List ℕ) (cs : List Call) (k : ℕ) : Type 0 where
  pub done : List Call
  pub rest : List Call
  pub all : cs ≡ done ++ rest
  pub in_time : length (run_stores vol done z) ≤ k
  pub not_yet : Unfinished vol (finished vol done z) (k - length (run_stores vol done z)) rest
  pub like : List ℕ
  pub cut_call : CutCall vol geo (finished vol done z) rest like
  pub sound : soundb (cut_run vol cs k z) ≡ true
  pub left : Recovered geo start like (recounted vol (cut_run vol cs k z))

-- nothing stored: the map is as it was
pub between_start : (geo : Geometry) (start z : List ℕ) → Going geo start z → Between geo z z z
between_start geo start z s = record { long = refl; held = s.held; marked = s.marked; groups = λ h l. refl; map = λ h l f b. refl; other = λ j n c. refl }

pub run-none : (vol : Volume) (z : List ℕ) → finished vol [] z ≡ z
unfolding finished run_stores
run-none vol z = apply_all-none z

pub run-more : (vol : Volume) (c : Call) (cs : List Call) (z : List ℕ) → finished vol (c ∷ cs) z ≡ finished vol cs (apply_all (call_stores vol c z) z)
unfolding finished run_stores
run-more vol c cs z = apply_all_append (call_stores vol c z) (run_stores vol cs (apply_all (call_stores vol c z) z)) z

run-length-none : (vol : Volume) (z : List ℕ) → length (run_stores vol [] z) ≡ 0
unfolding run_stores
run-length-none vol z = refl

run-length : (vol : Volume) (c : Call) (cs : List Call) (z : List ℕ)
    → length (run_stores vol (c ∷ cs) z) ≡ length (call_stores vol c z) + length (run_stores vol cs (apply_all (call_stores vol c z) z))
unfolding run_stores
run-length vol c cs z = length-append (call_stores vol c z) (run_stores vol cs (apply_all (call_stores vol c z) z))

pub finished-one : (vol : Volume) (c : Call) (z : List ℕ) → finished vol (c ∷ []) z ≡ apply_all (call_stores vol c z) z
finished-one vol c z = run-more vol c [] z ∙ run-none vol (apply_all (call_stores vol c z) z)

cut-empty : (vol : Volume) (k : ℕ) (z : List ℕ) → cut_run vol [] k z ≡ z
unfolding cut_run run_stores
cut-empty vol k z = cut-none k z

cut_in_first : (vol : Volume) (c : Call) (cs : List Call) (k : ℕ) (z : List ℕ) → k ≤ length (call_stores vol c z) → cut_run vol (c ∷ cs) k z ≡ cut k (call_stores vol c z) z
unfolding cut_run run_stores
cut_in_first vol c cs k z l = cut-first k (call_stores vol c z) (run_stores vol cs (apply_all (call_stores vol c z) z)) z l

cut-past-first : (vol : Volume) (c : Call) (cs : List Call) (k : ℕ) (z : List ℕ) → length (call_stores vol c z) ≤ k
    → cut_run vol (c ∷ cs) k z ≡ cut_run vol cs (k - length (call_stores vol c z)) (apply_all (call_stores vol c z) z)
unfolding cut_run run_stores
cut-past-first vol c cs k z l =
    cut_append k (call_stores vol c z) (run_stores vol cs (apply_all (call_stores vol c z) z)) z
    ∙ ap (cut (k - length (call_stores vol c z)) (run_stores vol cs (apply_all (call_stores vol c z) z))) (cut-all k (call_stores vol c z) z l)

module _ (vol : Volume) (geo : Geometry) (start : List ℕ) (w : vol.writable ≡ true) (call-cut : (z : List ℕ) → Going geo start z → (c : Call) → CallCut vol geo start z c) where
  pub run-cut : (cs : List Call) (k : ℕ) (z : List ℕ) → Going geo start z → Cut vol geo start z cs k
  run-cut [] k z s =
      record {
        done = [];
        rest = [];
        all = refl;
        in_time = omega (arith, run-length-none vol z);
        not_yet = tt {0};
        like = z;
        cut_call = subst (λ (x : List ℕ). CutCall vol geo x [] z) (sym (run-none vol z)) (not_made []);
        sound = rw (cut-empty vol k z) (going_sound geo z s.held s.marked);
        left = rw (cut-empty vol k z) (recovered vol geo start z z z w s (between_start geo start z s) (λ g l. refl));
      }
  run-cut (c ∷ cs) k z s = go (dec_lt k (length (call_stores vol c z))) (run-cut cs (k - length (call_stores vol c z)) (apply_all (call_stores vol c z) z) (call-cut z s c).after)
    where
      go : Dec (k < length (call_stores vol c z)) → Cut vol geo start (apply_all (call_stores vol c z) z) cs (k - length (call_stores vol c z)) → Cut vol geo start z (c ∷ cs) k
      go (no l) r =
          let n = run-length vol c r.done z in
          let t = r.in_time in
          let later : k - length (call_stores vol c z) - length (run_stores vol r.done (apply_all (call_stores vol c z) z)) ≡ k - length (run_stores vol (c ∷ r.done) z) = omega arith in
          let e = cut-past-first vol c cs k z (omega arith) in
          record {
            done = c ∷ r.done;
            rest = r.rest;
            all = ap (λ (x : List Call). c ∷ x) r.all;
            in_time = omega arith;
            not_yet = subst (λ (x : List ℕ). Unfinished vol x (k - length (run_stores vol (c ∷ r.done) z)) r.rest) (sym (run-more vol c r.done z))
                (subst (λ (x : ℕ). Unfinished vol (finished vol r.done (apply_all (call_stores vol c z) z)) x r.rest) later r.not_yet);
            like = r.like;
            cut_call = subst (λ (x : List ℕ). CutCall vol geo x r.rest r.like) (sym (run-more vol c r.done z)) r.cut_call;
            sound = rw e r.sound;
            left = rw e r.left;
          }
      go (yes l) r =
          let i = (call-cut z s c).within k cs in
          let e = cut_in_first vol c cs k z (omega arith) in
          record {
            done = [];
            rest = c ∷ cs;
            all = refl;
            in_time = omega (arith, run-length-none vol z);
            not_yet = rw (run-none vol z, run-length-none vol z) (omega arith);
            like = i.0;
            cut_call = subst (λ (x : List ℕ). CutCall vol geo x (c ∷ cs) i.0) (sym (run-none vol z)) i.1;
            sound = rw e (going_sound geo _ i.2.held i.2.marked);
            left = rw e (recovered vol geo start z i.0 (cut k (call_stores vol c z) z) w s i.2 i.3);
          }
