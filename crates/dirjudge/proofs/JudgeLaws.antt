-- Laws of what is judged before a link or an unlink: its tests, and what passing them says. Assumes nothing.
use mathlib.Core.Path.{◌≡◌, refl, sym, ◌∙◌}
use mathlib.Core.Bool.{Bool, true, false, not, ◌&&◌, ◌||◌}
use mathlib.Core.List.{List}
use Prim.Native.Nat.{ℕ, ◌+◌, ◌-◌, ◌*◌, ◌^◌, ◌≤◌, ◌<◌}
use native.Mathlib.Nat.{mul-le-mul}
use native.Mathlib.Omega.{arith}
use lib.Dec.{ltb, leb}
use borrow.Author.Tests.{le-leb, lt-leb, ltb-true, ltb-false, leb-true}
use Rattle.refusal.specs.declared.Refusal.{Refusal}
use Rattle.refusal.specs.declared.Refusal.TheVariants.{TooBig, NotSupported}
use Rattle.store.specs.Act.{got, refused}
use Rattle.volume.specs.declared.Geometry.{Geometry}
use Rattle.sound.specs.Test.{Sized}
use Rattle.frame.specs.Frame.{Frame}
use Rattle.inode.proofs.SizeLaws.{units}
use Rattle.mapping.specs.Zones.{zone_start}
use Rattle.mapping.specs.Mapping.{per_list}
use Rattle.mapping.proofs.ZoneLaws.{pow_one, pow_two, pow_three, square_le, cube_le}
use Rattle.mapping.proofs.MappingLaws.{per-most}
use Rattle.inode_run.specs.Judge.{ask}
use Rattle.inode_grow.specs.Grow.{zones_bytes}
use Rattle.inode_grow.proofs.GrowLaws.{zones_bytes_lem, zones_fit}
use Rattle.inode_truncate.specs.Truncate.{keep_of}
use Rattle.dirfile.specs.Seek.{nowhere}
use Rattle.dirwalk.specs.declared.Hit.{Hit}
use Rattle.dirjudge.specs.Judge.{link_end, drop_end, drop_tail}

-- ---- the bytes that the zones span: more than a block of a directory, and far fewer than a number of 64 bits counts

module _ (geo : Geometry) where
  spanned : (12 + per_list geo ^ 1 + per_list geo ^ 2 + per_list geo ^ 3) * geo.bsize ≡ zones_bytes geo
  spanned = zones_bytes_lem geo (per_list geo) (per_list geo ^ 1) (per_list geo ^ 2) (per_list geo ^ 3) refl refl refl refl

  pub zones-low : Sized geo → 512 ≤ zones_bytes geo
  zones-low z =
      let n : 12 ≤ 12 + per_list geo ^ 1 + per_list geo ^ 2 + per_list geo ^ 3 = omega arith in
      let q : 12 * 4096 ≤ (12 + per_list geo ^ 1 + per_list geo ^ 2 + per_list geo ^ 3) * geo.bsize = mul-le-mul n (units geo z).block in
      omega (arith, q, spanned)

  pub zones-high : (img : List ℕ) → Frame geo img → zones_bytes geo < 18446744073709551616
  zones-high img fr =
      let m = per-most geo img fr in
      let n : 12 + per_list geo ^ 1 + per_list geo ^ 2 + per_list geo ^ 3 ≤ 12 + 3 * 549755813888 =
      omega (arith, m, pow_one (per_list geo), pow_two (per_list geo), pow_three (per_list geo), square_le (per_list geo) m, cube_le (per_list geo) m) in
      omega (arith, spanned, zones_fit geo (12 + per_list geo ^ 1 + per_list geo ^ 2 + per_list geo ^ 3) n (units geo fr.sizes).block_top)

-- ---- tests as the code makes them

within : (a b : ℕ) → leb a b ≡ not (ltb b a)
within a b = by (ltb b a) refl where
  by : (t : Bool) → ltb b a ≡ t → leb a b ≡ not (ltb b a)
  by true e = rw e (lt-leb a b (ltb-true b a e))
  by false e = rw e (le-leb a b (ltb-false b a e))

not_both : (a b : Bool) → (not a || not b) ≡ not (a && b)
not_both true true = refl
not_both true false = refl
not_both false true = refl
not_both false false = refl

not_without : (a b : Bool) → (not a || b) ≡ not (a && not b)
not_without true true = refl
not_without true false = refl
not_without false true = refl
not_without false false = refl

passed : (t : Bool) (e : Refusal) → ask t e (got (tt {0})) ≡ got (tt {0}) → t ≡ true
passed true e h = refl
passed false e h = absurd (let z : ◌≡◌ {A = ℕ} 0 1 = cc in let y : ⊥ = omega arith in y)

-- ---- a link

module _ (geo : Geometry) (size : ℕ) where
  pub end-near : Sized geo → size ≤ zones_bytes geo - 512 → got (tt {0}) ≡ link_end geo size nowhere
  end-near z l = rw (le-leb (size + 512) (zones_bytes geo) (omega (arith, l, zones-low geo z)))

  -- where nothing has room and the end is not refused, the directory grown ends in the zones
  pub end-within : link_end geo size nowhere ≡ got (tt {0}) → size + 512 ≤ zones_bytes geo
  end-within e = leb-true (size + 512) (zones_bytes geo) (passed (leb (size + 512) (zones_bytes geo)) TooBig e)

  -- so its size is a number of 64 bits
  pub end_fits : (img : List ℕ) → Frame geo img → link_end geo size nowhere ≡ got (tt {0}) → size + 512 < 18446744073709551616
  end_fits img fr e = omega (arith, end-within e, zones-high geo img fr)

-- ---- an unlink

module _ (geo : Geometry) (size : ℕ) (h : Hit) where
  pub end-is : (z : ℕ) → z ≡ zones_bytes geo → (t : Bool) → (h.alone && ltb z (size - 512)) ≡ t → ask (not t) TooBig (got (tt {0})) ≡ drop_end geo size h
  unfolding drop_end
  end-is z q t e = rw (within (size - 512) (zones_bytes geo), not_both h.alone (ltb (zones_bytes geo) (size - 512)), ← q, e)

  pub tail-is : (b : Bool) → b ≡ ltb (keep_of geo (size - 512)) (zone_start (per_list geo) 3) → (t : Bool) → (h.alone && not b) ≡ t → ask (not t) NotSupported (got (tt {0})) ≡ drop_tail geo size h
  unfolding drop_tail
  tail-is b q t e = rw (← q, not_without h.alone b, e)

  -- one that does not stand alone leaves its block, so nothing is judged
  module _ (shared : h.alone ≡ false) where
    pub shared-end : drop_end geo size h ≡ got (tt {0})
    unfolding drop_end
    shared-end = rw shared

    pub shared-tail : drop_tail geo size h ≡ got (tt {0})
    unfolding drop_tail
    shared-tail = rw shared

  module _ (alone : h.alone ≡ true) where
    pub alone-end : drop_end geo size h ≡ ask (leb (size - 512) (zones_bytes geo)) TooBig (got (tt {0}))
    unfolding drop_end
    alone-end = rw alone

    pub alone-tail : drop_tail geo size h ≡ ask (ltb (keep_of geo (size - 512)) (zone_start (per_list geo) 3)) NotSupported (got (tt {0}))
    unfolding drop_tail
    alone-tail = rw alone

    -- where neither is refused, the directory left ends in the zones, and before the triple one
    pub drop-within : drop_end geo size h ≡ got (tt {0}) → size - 512 ≤ zones_bytes geo
    drop-within e = leb-true (size - 512) (zones_bytes geo) (passed (leb (size - 512) (zones_bytes geo)) TooBig (sym alone-end ∙ e))

    pub drop-before : drop_tail geo size h ≡ got (tt {0}) → keep_of geo (size - 512) < zone_start (per_list geo) 3
    drop-before e = ltb-true (keep_of geo (size - 512)) (zone_start (per_list geo) 3) (passed (ltb (keep_of geo (size - 512)) (zone_start (per_list geo) 3)) NotSupported (sym alone-tail ∙ e))
