-- What is relied on of these tests: they are the ones that inode_truncate makes of the directory a block longer or shorter. Assumes nothing.
use mathlib.Core.Path.{◌≡◌, refl, ◌∙◌}
use mathlib.Core.Bool.{Bool, true, false, ◌&&◌}
use mathlib.Core.List.{List}
use Prim.Native.Nat.{ℕ, ◌+◌, ◌-◌, ◌≤◌}
use native.Mathlib.Omega.{arith}
use lib.Dec.{ltb, leb}
use borrow.Author.Tests.{le-ltb, leb-true, leb-false}
use Rattle.refusal.specs.declared.Refusal.TheVariants.{TooBig}
use Rattle.volume.specs.declared.Geometry.{Geometry}
use Rattle.inode.specs.declared.Shape.{Shape}
use Rattle.inode.specs.Shape.{in_place}
use Rattle.mapping.specs.Zones.{zone_start}
use Rattle.mapping.specs.Mapping.{per_list}
use Rattle.inode_run.specs.declared.Spot.{Spot}
use Rattle.stages.specs.Stages.{both_out}
use Rattle.stages.proofs.StagesLaws.{both_first, both_then}
use Rattle.inode_grow.specs.Grow.{zones_bytes}
use Rattle.inode_truncate.specs.Truncate.{keep_of}
use Rattle.truncate.specs.Call.{truncate_judged}
use Rattle.truncate.proofs.CallLaws.{judge-far, judge-shrinks, judge-triple, judge-grows}
use Rattle.dirfile.specs.Seek.{nowhere}
use Rattle.dirwalk.specs.declared.Hit.{Hit}
use Rattle.dirjudge.specs.Judge.{link_end, link_tail, drop_end, drop_tail}
use Rattle.dirjudge.proofs.JudgeLaws.{alone-end, alone-tail}

and-false : (a b : Bool) → b ≡ false → (a && b) ≡ false
and-false true b e = e
and-false false b e = refl

-- of a link that finds no room: what judges it is what judges the directory grown by a block
pub link-judged : (geo : Geometry) (s : Spot) (img : List ℕ)
    → both_out (link_end geo s.shape.size nowhere) (link_tail geo s img nowhere) ≡ truncate_judged geo s.at s.shape (s.shape.size + 512) img
link-judged geo s img = by (leb (s.shape.size + 512) (zones_bytes geo)) refl where
  grows : (in_place s.shape && ltb (s.shape.size + 512) s.shape.size) ≡ false
  grows = and-false (in_place s.shape) _ (le-ltb (s.shape.size + 512) s.shape.size (omega arith))

  by : (t : Bool) → leb (s.shape.size + 512) (zones_bytes geo) ≡ t
      → both_out (link_end geo s.shape.size nowhere) (link_tail geo s img nowhere) ≡ truncate_judged geo s.at s.shape (s.shape.size + 512) img
  by true e = both_then (link_end geo s.shape.size nowhere) (link_tail geo s img nowhere) (rw e) ∙ judge-grows geo s.at s.shape (s.shape.size + 512) img grows (leb-true _ _ e) (omega arith)
  by false e = both_first (link_end geo s.shape.size nowhere) (link_tail geo s img nowhere) TooBig (rw e) ∙ judge-far geo s.at s.shape (s.shape.size + 512) img grows (leb-false _ _ e)

-- of an unlink whose record stands alone: what judges it is what judges the directory shrunk by a block, wherever its record is and whatever the image has become
pub drop-judged : (geo : Geometry) (at : ℕ) (s : Shape) (img : List ℕ) (h : Hit) → h.alone ≡ true → in_place s ≡ false → 512 ≤ s.size
    → both_out (drop_end geo s.size h) (drop_tail geo s.size h) ≡ truncate_judged geo at s (s.size - 512) img
drop-judged geo at s img h alone placed some = by (leb (s.size - 512) (zones_bytes geo)) refl (ltb (keep_of geo (s.size - 512)) (zone_start (per_list geo) 3)) refl where
  apart : (in_place s && ltb (s.size - 512) s.size) ≡ false
  apart = rw placed

  by : (t : Bool) → leb (s.size - 512) (zones_bytes geo) ≡ t → (u : Bool) → ltb (keep_of geo (s.size - 512)) (zone_start (per_list geo) 3) ≡ u
      → both_out (drop_end geo s.size h) (drop_tail geo s.size h) ≡ truncate_judged geo at s (s.size - 512) img
  by false e u f = both_first (drop_end geo s.size h) (drop_tail geo s.size h) TooBig (alone-end geo s.size h alone ∙ rw e) ∙ judge-far geo at s (s.size - 512) img apart (leb-false _ _ e)
  by true e true f =
      both_then (drop_end geo s.size h) (drop_tail geo s.size h) (alone-end geo s.size h alone ∙ rw e) ∙ alone-tail geo s.size h alone ∙ rw f
      (judge-shrinks geo at s (s.size - 512) img apart (leb-true _ _ e) (omega arith) f)
  by true e false f =
      both_then (drop_end geo s.size h) (drop_tail geo s.size h) (alone-end geo s.size h alone ∙ rw e) ∙ alone-tail geo s.size h alone ∙ rw f
      (judge-triple geo at s (s.size - 512) img apart (leb-true _ _ e) (omega arith) f)
