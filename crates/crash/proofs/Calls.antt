-- Each block call, cut anywhere, from its shape: nothing stored, or map bytes and then small counts. Assumes nothing.
use mathlib.Core.Path.{◌≡◌, refl, sym, ap, subst, ◌∙◌}
use mathlib.Core.Bool.{Bool, true, false}
use mathlib.Core.List.{List, [], ◌∷◌, ◌++◌}
use mathlib.Core.Logic.{◌⊎◌, inl, inr, ⊎_elim}
use Prim.Native.Nat.{ℕ, zero, suc, ◌+◌, ◌-◌, ◌*◌, ◌/◌, ◌%◌, ◌^◌, ◌≤◌, ◌<◌, min}
use native.Mathlib.Omega.{arith}
use native.Mathlib.Decide.{dec_lt}
use lib.ListN.{length, get_or, length-append}
use Rattle.store.specs.Store.{Store, apply, apply_all, cut}
use Rattle.store.specs.Where.{Range}
use Rattle.store.proofs.StoreLaws.{apply_all-none}
use Rattle.store.proofs.CutLaws.{cut-none, cut-all}
use Rattle.volume.specs.declared.Geometry.{Geometry}
use Rattle.volume.specs.declared.Group.{Group}
use Rattle.volume.specs.declared.Volume.{Volume}
use Rattle.volume.specs.Volume.{byte_at, cg_at}
use Rattle.bits.specs.Bits.{bit_at}
use Rattle.sound.specs.Sound.{group_at, free_at}
use Rattle.frame.specs.Frame.{Frame, Outside}
use Rattle.balloc_count.specs.Recount.{TrueCounts, CountByte}
use Rattle.crash.specs.Crash.{Call, give, take, call_stores, run_stores, finished, MapByte, MagicApart, CutCall, not_made, made, first_few}
use Rattle.crash.proofs.Shape.{Held, Shaped, Between, shaped-cut, shaped-groups}
use Rattle.crash.proofs.Demand.{Going, CallCut, between_start, finished-one}

module _ (vol : Volume) (geo : Geometry) (start z : List ℕ) (s : Going geo start z) (c : Call) where
  -- a call that stores nothing
  pub nothing_stored : call_stores vol c z ≡ [] → CallCut vol geo start z c
  nothing_stored e =
      record {
        after = rw (e, apply_all-none z) s;
        within = λ k cs. (z, not_made (c ∷ cs), rw (e, cut-none k z) (between_start geo start z s), λ g l. refl);
      }

  -- a call whose stores have the shape
  module _ (maps counts : List Store) (e : call_stores vol c z ≡ maps ++ counts) (sh : Shaped geo z maps counts) (t : TrueCounts geo (apply_all (maps ++ counts) z))
      (few : (k : ℕ) (cs : List Call) → k < length maps → CutCall vol geo z (c ∷ cs) (cut k maps z)) where
    at : (k : ℕ) → Between geo z (cut k maps z) (cut k (maps ++ counts) z)
    at k = shaped-cut geo z s.held.frame s.held.bounded s.marked s.apart maps counts sh k

    -- the whole call is its last cut
    whole : Between geo z (apply_all maps z) (apply_all (maps ++ counts) z)
    whole =
        let n = length (maps ++ counts) in
        let l = length-append maps counts in
        rw (cut-all n maps z (omega arith), cut-all n (maps ++ counts) z (omega arith)) at (at n)

    shaped-after : Going geo start (apply_all (maps ++ counts) z)
    shaped-after =
        record {
          long = whole.long ∙ s.long;
          held = whole.held;
          marked = whole.marked;
          counts = t;
          groups = λ g l. whole.groups g l ∙ s.groups g l;
          apart = λ g l. subst (λ (r : Group). Outside (cg_at geo g + r.freeoff) ((r.ndblk + 7) / 8) (byte_at geo g geo.sblkno + 1372) 4) (sym (whole.groups g l)) (s.apart g l);
          other = λ j n b.
              whole.other j (λ h l r. n (h, l, subst (λ (q : Group). Range (cg_at geo h + q.freeoff) ((q.ndblk + 7) / 8) j) (s.groups h l) r)) b ∙ s.other j n b;
        }

    -- past the maps the cut has the map of the whole call
    past-maps : (k : ℕ) → length maps ≤ k → Between geo z (apply_all (maps ++ counts) z) (cut k (maps ++ counts) z)
    past-maps k l =
        let b = at k in
        record {
          long = b.long;
          held = b.held;
          marked = b.marked;
          groups = b.groups;
          map = λ h lh f lf. b.map h lh f lf ∙ ap (λ (x : List ℕ). bit_at x (free_at geo h z) f) (cut-all k maps z l) ∙ sym (whole.map h lh f lf);
          other = b.other;
        }

    pub shape-stored : CallCut vol geo start z c
    shape-stored =
        record {
          after = rw e shaped-after;
          within = λ k cs. go k cs (dec_lt k (length maps));
        }
      where
        go : (k : ℕ) (cs : List Call) → Dec (k < length maps)
            → (like : List ℕ) × CutCall vol geo z (c ∷ cs) like × Between geo z like (cut k (call_stores vol c z) z) × ((g : ℕ) → g < geo.ncg → group_at geo g like ≡ group_at geo g z)
        go k cs (yes l) = (cut k maps z, few k cs l, rw e (at k), λ g lg. shaped-groups geo z s.held.frame s.held.bounded s.marked s.apart maps counts sh k g lg)
        go k cs (no l) =
            (finished vol (c ∷ []) z, made c cs, rw (finished-one vol c z, e) (past-maps k (omega arith)), λ g lg. rw (finished-one vol c z, e) (whole.groups g lg))
