-- A finished block call: a run of map bits made, then counts written as the fresh counts move. True counts are true after it. Assumes nothing.
use mathlib.Core.Path.{◌≡◌, refl, sym, ap, ◌∙◌}
use mathlib.Core.Bool.{Bool, true, false}
use mathlib.Core.List.{List, [], ◌∷◌}
use mathlib.Core.Logic.{inl, inr}
use Prim.Native.Nat.{ℕ, zero, suc, ◌+◌, ◌*◌, ◌^◌, ◌≤◌, ◌<◌}
use native.Mathlib.Decide.{ℕ_discrete}
use native.Mathlib.Omega.{arith}
use lib.Dec.{eqb}
use borrow.Author.Tests.{eq-eqb, eqb-true}
use Rattle.store.specs.Store.{apply}
use Rattle.store.specs.Where.{none, more, KeptBut}
use Rattle.store.proofs.OnlyLaws.{kept-but-refl, kept-but_trans, kept-but-store}
use Rattle.volume.specs.declared.Geometry.{Geometry}
use Rattle.volume.specs.declared.Count.{Count}
use Rattle.volume.specs.declared.Count.TheVariants.{Nbfree, Nifree, Nffree}
use Rattle.volume.specs.Volume.{cg_at, count_place, count_at, total_at}
use Rattle.volume.proofs.Laws.{count-place, total-place, kept-put_count, kept-put_total, count-put_count, count-put_count-other, total-put_total, total-put_total-other, kept-count, kept-total}
use Rattle.bits.proofs.UptoLaws.{true-not-false}
use Rattle.frame.specs.Frame.{Frame}
use Rattle.frame.specs.Writes.{count_write, total_write, up, down}
use Rattle.frame.proofs.Places.{spots}
use Rattle.frame.proofs.Stores.{record_apart}
use Rattle.frame.proofs.WriteLaws.{apply-count, apply-total, up-fits, down-fits}
use Rattle.balloc_take.specs.Take.{pick}
use Rattle.balloc_count.specs.Recount.{total_free, TrueCounts, Recounted, CountByte}
use Rattle.balloc_count.proofs.FreshLaws.{blocks-small, loose-small, total-blocks-small, total-loose-small}
use Rattle.balloc_count.proofs.CountsLaws.{blocks-kept, loose-kept, total-blocks-kept, total-loose-kept, total-free-kept}
use Rattle.balloc_count.proofs.RecountLaws.{count-write-in, total-write-in}
use Rattle.crash.proofs.RunLaws.{Moved, with_bits, RunMade, made-frame, made-count, made-total, blocks-moved, loose-moved, total-blocks-moved, total-loose-moved, total-free-moved}

-- ---- what is written of the counts

-- the counts by number, so that two can be compared
abbrev pub rank : Count → ℕ
rank Nbfree = 0
rank Nifree = 1
rank Nffree = 2

abbrev ranked : ℕ → Count
ranked zero = Nbfree
ranked (suc zero) = Nifree
ranked (suc (suc k)) = Nffree

rank_is : (c : Count) → ranked (rank c) ≡ c
rank_is Nbfree = refl
rank_is Nifree = refl
rank_is Nffree = refl

-- the numbers of f, with that of c made v
abbrev pub made : Count → ℕ → (Count → ℕ) → Count → ℕ
made c v f d = pick (eqb (rank c) (rank d)) v (f d)

-- what is then read, of those that fit
made-read : (top v : ℕ) (f before after : Count → ℕ) (c : Count) → (v < top → after c ≡ v) → ((d : Count) → (c ≡ d → ⊥) → after d ≡ before d)
    → ((d : Count) → f d < top → before d ≡ f d) → (d : Count) → made c v f d < top → after d ≡ made c v f d
made-read top v f before after c own other was d = go (eqb (rank c) (rank d)) refl
  where
    go : (s : Bool) → eqb (rank c) (rank d) ≡ s → pick s v (f d) < top → after d ≡ pick s v (f d)
    go true e b = let q : c ≡ d = sym (rank_is c) ∙ ap ranked (eqb-true (rank c) (rank d) e) ∙ rank_is d in ap after (sym q) ∙ own b
    go false e b = other d (λ q. true-not-false (eq-eqb (rank c) (rank d) (ap rank q)) e) ∙ was d b

-- z is m but for count bytes: group g's counts and the totals are these, as far as they fit, and the counts of other groups are those of img
pub record Written (geo : Geometry) (img m z : List ℕ) (g : ℕ) (count total : Count → ℕ) : Type 0 where
  pub kept : KeptBut (CountByte geo) m z
  pub here : (c : Count) → count c < 256 ^ 4 → count_at geo.order c (cg_at geo g) z ≡ count c
  pub elsewhere : (h : ℕ) → h < geo.ncg → (h ≡ g → ⊥) → (c : Count) → count_at geo.order c (cg_at geo h) z ≡ count_at geo.order c (cg_at geo h) img
  pub totals : (c : Count) → total c < 256 ^ 8 → total_at geo.order c z ≡ total c

module _ {geo : Geometry} {img m z : List ℕ} {g : ℕ} {count total : Count → ℕ} (fr : Frame geo m) (l : g < geo.ncg) (w : Written geo img m z g count total) (c : Count) (rc : Recounted c) (v : ℕ) where
  -- a count of the group written besides
  pub written_count : Written geo img m (apply (count_write geo g c v ∷ []) z) g (made c v count) total
  written_count =
      let o = geo.order in
      let e = apply-count geo z g c v in
      let k = kept-put_count o c (cg_at geo g) v z in
      let s = spots geo m fr g l in
      let n = w.kept.long in
      let p = count-place c in
      record {
        kept = kept-but_trans w.kept (kept-but-store (more (count-write-in geo g c v l rc) none) z);
        here = rw e
            (made-read (256 ^ 4) v count (λ (d : Count). count_at o d (cg_at geo g) z) (λ (d : Count). count_at o d (cg_at geo g) _) c
            (λ b. count-put_count o c (cg_at geo g) v z b (omega arith)) (λ d ne. count-put_count-other o c (cg_at geo g) v z d ne) w.here);
        elsewhere = λ h lh ne d. let t = spots geo m fr h lh in let q = count-place d in
            ap (count_at o d (cg_at geo h)) e
            ∙ kept-count k o d (cg_at geo h) (record_apart geo m fr g (count_place c) 4 h (count_place d) 4 l lh (omega arith) (omega arith) (λ x. absurd (ne (sym x))))
            ∙ w.elsewhere h lh ne d;
        totals = λ d b. let q = total-place d in ap (total_at o d) e ∙ kept-total k o d (inl (omega arith)) ∙ w.totals d b;
      }

  -- a total written besides
  pub written-total : Written geo img m (apply (total_write geo c v ∷ []) z) g count (made c v total)
  written-total =
      let o = geo.order in
      let e = apply-total geo z c v in
      let k = kept-put_total o c v z in
      let n = w.kept.long in
      let p = total-place c in
      let b = fr.laid.low in
      let past : (h : ℕ) → h < geo.ncg → (d : Count) → count_at o d (cg_at geo h) (apply (total_write geo c v ∷ []) z) ≡ count_at o d (cg_at geo h) z =
      λ h lh d. let s = spots geo m fr h lh in ap (count_at o d (cg_at geo h)) e ∙ kept-count k o d (cg_at geo h) (inr (omega arith)) in
      record {
        kept = kept-but_trans w.kept (kept-but-store (more (total-write-in geo c v rc) none) z);
        here = λ d b. past g l d ∙ w.here d b;
        elsewhere = λ h lh ne d. past h lh d ∙ w.elsewhere h lh ne d;
        totals = rw e
            (made-read (256 ^ 8) v total (λ (d : Count). total_at o d z) (λ (d : Count). total_at o d _) c
            (λ b. total-put_total o c v z b (omega arith)) (λ d ne. total-put_total-other o c v z d ne) w.totals);
      }

-- before the counts are written
module _ {geo : Geometry} {img : List ℕ} {g f n u v was is : ℕ} (r : RunMade geo img g f n u v was is) where
  pub map-written : Written geo img (with_bits v geo g f n img) (with_bits v geo g f n img) g (λ (c : Count). count_at geo.order c (cg_at geo g) img) (λ (c : Count). total_at geo.order c img)
  map-written = record {
    kept = kept-but-refl (CountByte geo) (with_bits v geo g f n img);
    here = λ c b. made-count r g c r.run.group;
    elsewhere = λ h l ne c. made-count r h c l;
    totals = λ c b. made-total r c;
  }

-- ---- a finished call

-- what is written of count c, for a number x of w bytes `by w x`: where nothing wraps it falls by p and rises by q, which is little
pub record Shifted (geo : Geometry) (img : List ℕ) (g : ℕ) (count total : Count → ℕ) (c : Count) (p q : ℕ) : Type 0 where
  pub by : ℕ → ℕ → ℕ
  pub group_is : count c ≡ by 4 (count_at geo.order c (cg_at geo g) img)
  pub of_total : total c ≡ by 8 (total_at geo.order c img)
  pub moves : (w x : ℕ) → p ≤ x + q → x + q < 256 ^ w → by w x + p ≡ x + q
  pub small : q ≤ 16

-- the run's bits made from u to v, and then the counts written as the fresh counts move
pub record Finished (geo : Geometry) (img z : List ℕ) (g f n u v was is : ℕ) : Type 0 where
  pub run : RunMade geo img g f n u v was is
  pub count : Count → ℕ
  pub total : Count → ℕ
  pub written : Written geo img (with_bits v geo g f n img) z g count total
  pub blocks : Shifted geo img g count total Nbfree was is
  pub loose : Shifted geo img g count total Nffree (geo.frag * is + u * n) (geo.frag * was + v * n)

module _ {geo : Geometry} {img z : List ℕ} {g f n u v was is : ℕ} (d : Finished geo img z g f n u v was is) where
  pub finished-free : total_free geo z + u * n ≡ total_free geo img + v * n
  finished-free = rw (total-free-kept geo _ z (made-frame d.run) d.written.kept) (total-free-moved d.run)

  -- one count, of every group and in the total
  module _ (c : Count) {p q : ℕ} (s : Shifted geo img g d.count d.total c p q) where
    count-true : {before after : ℕ → ℕ} → Moved geo.ncg before after g p q
        → ((h : ℕ) → h < geo.ncg → count_at geo.order c (cg_at geo h) img ≡ before h) → ((h : ℕ) → h < geo.ncg → before h ≤ 2097152)
        → (h : ℕ) → h < geo.ncg → count_at geo.order c (cg_at geo h) z ≡ after h
    count-true {before} {after} m t b h l = go (ℕ_discrete h g)
      where
        go : Dec (h ≡ g) → count_at geo.order c (cg_at geo h) z ≡ after h
        go (no e) = d.written.elsewhere h l e c ∙ t h l ∙ sym (m.elsewhere h l e)
        go (yes e) =
            let lg = d.run.run.group in
            let k = b g lg in
            let y = t g lg in
            let a = s.moves 4 (count_at geo.order c (cg_at geo g) img) (omega arith) (omega arith) in
            let x : d.count c ≡ after g = omega arith in
            rw e (d.written.here c (omega arith) ∙ x)

    total-true : {before after : ℕ} → after + p ≡ before + q → total_at geo.order c img ≡ before → before ≤ 2097152 → total_at geo.order c z ≡ after
    total-true {before} {after} m t b =
        let a = s.moves 8 (total_at geo.order c img) (omega arith) (omega arith) in
        let x : d.total c ≡ after = omega arith in
        d.written.totals c (omega arith) ∙ x

  pub finished-true : TrueCounts geo img → TrueCounts geo z
  finished-true t =
      let r = d.run in
      let fr = r.run.frame in
      let m = with_bits v geo g f n img in
      let fm = made-frame r in
      let k = d.written.kept in
      record {
        nbfree = λ h l. count-true Nbfree d.blocks (blocks-moved r) t.nbfree (blocks-small geo img fr) h l ∙ sym (blocks-kept geo m z fm k h l);
        nffree = λ h l. count-true Nffree d.loose (loose-moved r) t.nffree (loose-small geo img fr) h l ∙ sym (loose-kept geo m z fm k h l);
        total_nbfree = total-true Nbfree d.blocks (total-blocks-moved r) t.total_nbfree (total-blocks-small geo img fr) ∙ sym (total-blocks-kept geo m z fm k);
        total_nffree = total-true Nffree d.loose (total-loose-moved r) t.total_nffree (total-loose-small geo img fr) ∙ sym (total-loose-kept geo m z fm k);
      }

-- ---- the ways in which a count is written: not at all, up by a, down by b, and first the one and then the other

module _ {geo : Geometry} {img : List ℕ} {g : ℕ} {count total : Count → ℕ} (c : Count) {p q : ℕ} where
  pub untouched : count c ≡ count_at geo.order c (cg_at geo g) img → total c ≡ total_at geo.order c img → p ≡ q → q ≤ 16 → Shifted geo img g count total c p q
  untouched eg et e l = record { by = λ w x. x; group_is = eg; of_total = et; moves = λ w x _ _. omega arith; small = l }

  pub risen : (a : ℕ) → count c ≡ up 4 (count_at geo.order c (cg_at geo g) img) a → total c ≡ up 8 (total_at geo.order c img) a → p ≡ 0 → q ≡ a → q ≤ 16 → Shifted geo img g count total c p q
  risen a eg et ep eq l = record { by = λ w x. up w x a; group_is = eg; of_total = et; moves = λ w x _ f. omega (arith, up-fits w x a (omega arith)); small = l }

  pub fallen : (b : ℕ) → count c ≡ down 4 (count_at geo.order c (cg_at geo g) img) b → total c ≡ down 8 (total_at geo.order c img) b → p ≡ b → q ≡ 0 → Shifted geo img g count total c p q
  fallen b eg et ep eq = record { by = λ w x. down w x b; group_is = eg; of_total = et; moves = λ w x l f. omega (arith, down-fits w x b (omega arith) (omega arith)); small = omega arith }

  pub risen-fallen : (a b : ℕ) → count c ≡ down 4 (up 4 (count_at geo.order c (cg_at geo g) img) a) b → total c ≡ down 8 (up 8 (total_at geo.order c img) a) b → p ≡ b → q ≡ a → q ≤ 16
      → Shifted geo img g count total c p q
  risen-fallen a b eg et ep eq l = record {
    by = λ w x. down w (up w x a) b;
    group_is = eg;
    of_total = et;
    moves = λ w x m f. let e = up-fits w x a (omega arith) in omega (arith, down-fits w (up w x a) b (omega arith) (omega arith));
    small = l;
  }

-- the call, from the image y that its stores leave
pub ended : {geo : Geometry} {img y z : List ℕ} {g f n u v was is : ℕ} {count total : Count → ℕ} → z ≡ y → (r : RunMade geo img g f n u v was is) → Written geo img (with_bits v geo g f n img) y g count total
    → Shifted geo img g count total Nbfree was is → Shifted geo img g count total Nffree (geo.frag * is + u * n) (geo.frag * was + v * n) → Finished geo img z g f n u v was is
ended {count = count} {total = total} e r w b l = record { run = r; count = count; total = total; written = rw e w; blocks = b; loose = l }
