-- Laws of `specs/Rename.antt`, in the form in which the code meets them. Assumes nothing.
use Rattle.std.specs.Prelude.{Option, Some, Result, Ok, Err}
use mathlib.Core.Path.{◌≡◌, refl, sym, ap, subst, ◌∙◌}
use mathlib.Core.Bool.{Bool, true, false, not, ◌&&◌, ◌||◌}
use mathlib.Core.List.{List}
use Prim.Native.Nat.{ℕ, ◌-◌, ◌*◌, ◌/◌, ◌%◌, ◌≤◌, ◌<◌}
use native.Mathlib.Omega.{arith}
use lib.ListN.{length}
use lib.Dec.{eqb}
use borrow.Author.Tests.{eq-eqb, ne_eqb}
use Rattle.bits.proofs.UptoLaws.{both}
use Rattle.field.specs.Field.{part}
use Rattle.refusal.specs.declared.Refusal.{Refusal}
use Rattle.refusal.specs.declared.Refusal.TheVariants.{Invalid, Damaged, NotDirectory, IsDirectory, TooManyLinks}
use Rattle.store.specs.Act.{Out, got, refused}
use Rattle.volume.specs.declared.Geometry.{Geometry}
use Rattle.volume.specs.Volume.{inode_at}
use Rattle.inode.specs.Shape.{is_dir}
use Rattle.inode.specs.Places.{nlink_at}
use Rattle.inode_run.specs.declared.Spot.{Spot}
use Rattle.inode_run.specs.Judge.{ask}
use Rattle.inode_run.specs.Find.{typed}
use Rattle.inode_grow.specs.Grow.{growth_out}
use Rattle.stages.specs.Stages.{both_out}
use Rattle.stages.proofs.StagesLaws.{both_first, both_then, both_passed}
use Rattle.dirblock.specs.Search.{same_name, room_in}
use Rattle.dirblock.proofs.SearchLaws.{same-name, other-name}
use Rattle.dirblock.proofs.WriteLaws.{part-whole}
use Rattle.dirfile.specs.Block.{dir_block}
use Rattle.dirfile.specs.Seek.{Sought, here, nowhere, hurt, seek_from, in_block}
use Rattle.dirwalk.specs.declared.Hit.{Hit}
use Rattle.dirwalk.specs.Walk.{lookup_dir, find_dir, roomy_in, looked_out, seen_out}
use Rattle.dirwalk.proofs.HereLaws.{find-here}
use Rattle.dirjudge.specs.Judge.{link_end}
use Rattle.unlink_judge.specs.Unlink.{hit_where, in_dir_only, found_ok}
use Rattle.unlink_judge.proofs.UnlinkLaws.{found_number}
use Rattle.rename_judge.specs.declared.Verdict.{Verdict}
use Rattle.rename_judge.specs.Rename.{Asked, same, inode_in, record_in, inode_of_hit, Facts, facts_in, links_of, hit_ok, freed_first, not_freed, own_ok, others_ok, is_of, rises_out, rooms_but, room_but, room_then, size_then, ends_out, tails_out, room_out, tests, Holds, InWay, move_of, moving_out}
use Rattle.refusal.specs.declared.Damage.{Damage}

-- ---- names

module _ (a b : List ℕ) where
  pub same-told : (r : Bool) → length a ≡ length b → (r ≡ true → part (length b) 0 a ≡ b) → (r ≡ false → part (length b) 0 a ≡ b → ⊥) → r ≡ same_name a b
  same-told true l y n = sym (same-name a b (sym (part-whole (length b) a l) ∙ y refl))
  same-told false l y n = sym (other-name a b (λ q. n refl (part-whole (length b) a l ∙ q)))

  pub same-long : (length a ≡ length b → ⊥) → false ≡ same_name a b
  same-long d = sym (other-name a b (λ q. d (ap length q)))

pub same-is : (a : Asked) (b : Bool) → b ≡ same_name a.new a.old → (t : Bool) → (eqb a.to a.from && b) ≡ t → same a ≡ t
unfolding same
same-is a b q t e = rw (← q) e

-- ---- one step after another

pub both_is : (x y z : Out (Unit {0})) → got (tt {0}) ≡ x → z ≡ y → z ≡ both_out x y
both_is x y z p q = q ∙ sym (both_then x y (sym p))

pub both_no : (x y : Out (Unit {0})) (r : Result (Unit {0}) Refusal) (e : Refusal) → r ≡ Err e → refused e ≡ x → growth_out r ≡ both_out x y
both_no x y r e q p = ap growth_out q ∙ sym (both_first x y e (sym p))

-- ---- what was found

module _ (geo : Geometry) (img : List ℕ) where
  pub looked-number : (l : Result (Option ℕ) Damage) (i : ℕ) → l ≡ Ok (Some i) → hit_where (looked_out l) (found_ok geo img) ≡ true → i < geo.ncg * geo.ipg
  looked-number l i e h = found_number geo img i (sym (ap (λ (x : Result (Option ℕ) Damage). hit_where (looked_out x) (found_ok geo img)) e) ∙ h)

  pub seen-number : (s : Result (Option Hit) Damage) (w : Hit) → s ≡ Ok (Some w) → hit_where (seen_out s) (hit_ok geo img) ≡ true → w.inr < geo.ncg * geo.ipg
  seen-number s w e h = found_number geo img w.inr (sym (ap (λ (x : Result (Option Hit) Damage). hit_where (seen_out x) (hit_ok geo img)) e) ∙ h)

  pub links-is : (i at n : ℕ) → at ≡ inode_at geo i → n ≡ nlink_at geo.order at img → n ≡ links_of geo img i
  links-is i at n e q = q ∙ ap (λ (x : ℕ). nlink_at geo.order x img) e

  module _ (s : Spot) (name : List ℕ) (d : Bool) (e : d ≡ is_dir s.shape) where
    pub looked-in : d ≡ true → (x : Sought ℕ) → x ≡ lookup_dir geo s.at s.shape.size img name → x ≡ inode_in geo img s name
    looked-in t x q = rw (← e, t) q

    pub looked-out : d ≡ false → nowhere ≡ inode_in geo img s name
    looked-out t = rw (← e, t)

    pub found_in : d ≡ true → (x : Sought Hit) → x ≡ find_dir geo s.at s.shape.size img name → x ≡ record_in geo img s name
    found_in t x q = rw (← e, t) q

    pub found-out : d ≡ false → nowhere ≡ record_in geo img s name
    found-out t = rw (← e, t)

  -- a directory in which a record is found holds a block
  pub record-holds : (s : Spot) (name : List ℕ) → Holds s.shape.size (record_in geo img s name)
  record-holds s name = by (is_dir s.shape) (find_dir geo s.at s.shape.size img name) refl
    where
      by : (d : Bool) (x : Sought Hit) → find_dir geo s.at s.shape.size img name ≡ x → Holds s.shape.size (in_dir_only d x)
      by true (here h) e = let w = find-here geo s.at s.shape.size img name h e in omega (arith, w.inside)
      by true nowhere e = tt {0}
      by true hurt e = tt {0}
      by false x e = tt {0}

  module _ (to from : Spot) (new old : List ℕ) where
    pub facts-replacing : (r : Bool) → r ≡ true → (mv : Sought ℕ) (src tgt : Sought Hit) (way : Sought ℕ)
        → mv ≡ inode_in geo img from old → src ≡ record_in geo img from old → tgt ≡ record_in geo img to new → way ≡ inode_of_hit tgt
        → record { moved = mv; source = src; target = tgt; way = way } ≡ facts_in geo img to from new old r
    unfolding facts_in
    facts-replacing r t mv src tgt way a b c d = rw (d, a, b, c, t)

    pub facts-keeping : (r : Bool) → r ≡ false → (mv : Sought ℕ) (src : Sought Hit) (way : Sought ℕ)
        → mv ≡ inode_in geo img from old → src ≡ record_in geo img from old → way ≡ inode_in geo img to new
        → record { moved = mv; source = src; target = nowhere; way = way } ≡ facts_in geo img to from new old r
    unfolding facts_in
    facts-keeping r t mv src way a b d = rw (d, a, b, t)

    facts-target : (r : Bool) → Holds to.shape.size (facts_in geo img to from new old r).target
    unfolding facts_in
    facts-target true = record-holds to new
    facts-target false = tt {0}

    facts-source : (r : Bool) → Holds from.shape.size (facts_in geo img to from new old r).source
    unfolding facts_in
    facts-source r = record-holds from old

    facts-way : (r : Bool) → InWay (facts_in geo img to from new old r).target (facts_in geo img to from new old r).way
    unfolding facts_in
    facts-way true = by (record_in geo img to new)
      where
        by : (x : Sought Hit) → InWay x (inode_of_hit x)
        by (here h) = refl
        by nowhere = tt {0}
        by hurt = tt {0}
    facts-way false = tt {0}

    module _ (r : Bool) (f : Facts) (e : f ≡ facts_in geo img to from new old r) where
      pub target-holds : Holds to.shape.size f.target
      target-holds = subst (λ (x : Facts). Holds to.shape.size x.target) (sym e) (facts-target r)

      pub source-holds : Holds from.shape.size f.source
      source-holds = subst (λ (x : Facts). Holds from.shape.size x.source) (sym e) (facts-source r)

      pub way-is : InWay f.target f.way
      way-is = subst (λ (x : Facts). InWay x.target x.way) (sym e) (facts-way r)

-- ---- 22

module _ (geo : Geometry) (img : List ℕ) where
  -- what goes first is what stands in the way, and so is judged with it
  pub target_ok : (target : Sought Hit) (way : Sought ℕ) → InWay target way → hit_where way (found_ok geo img) ≡ true → hit_where target (hit_ok geo img) ≡ true
  target_ok (here h) way e q = sym (ap (λ (x : Sought ℕ). hit_where x (found_ok geo img)) e) ∙ q
  target_ok nowhere way e q = refl
  target_ok hurt way e q = refl

  pub own-moved : (to from : Spot) (moved : Sought ℕ) → own_ok geo img to from moved ≡ true → hit_where moved (found_ok geo img) ≡ true
  unfolding own_ok
  own-moved to from moved h = (both (typed from.shape && typed to.shape) (hit_where moved (found_ok geo img)) h).1

  module _ (to from : ℕ) (f : Facts) where
    pub others-source : others_ok geo img to from f ≡ true → hit_where f.source (hit_ok geo img) ≡ true
    unfolding others_ok
    others-source h = (both (hit_where f.source (hit_ok geo img)) (hit_where f.way (found_ok geo img)) (both (hit_where f.source (hit_ok geo img) && hit_where f.way (found_ok geo img)) (not_freed geo img to from f) h).0).0

    pub others-way : others_ok geo img to from f ≡ true → hit_where f.way (found_ok geo img) ≡ true
    unfolding others_ok
    others-way h = (both (hit_where f.source (hit_ok geo img)) (hit_where f.way (found_ok geo img)) (both (hit_where f.source (hit_ok geo img) && hit_where f.way (found_ok geo img)) (not_freed geo img to from f) h).0).1

    module _ (a b : Bool) (p : a ≡ hit_where f.source (hit_ok geo img)) (q : b ≡ hit_where f.way (found_ok geo img)) where
      pub others-pass : (a && b) ≡ true → (r : Bool) → r ≡ not_freed geo img to from f → r ≡ others_ok geo img to from f
      unfolding others_ok
      others-pass t r e = rw (← p, ← q, t) e

      pub others-fail : (a && b) ≡ false → false ≡ others_ok geo img to from f
      unfolding others_ok
      others-fail t = rw (← p, ← q, t)

-- ---- kinds

pub move-at : (geo : Geometry) (img : List ℕ) (r y x : Bool) → y ≡ x → (l : Sought ℕ) (v : Result Verdict Refusal) → v ≡ move_of geo img (r && y) l → v ≡ move_of geo img (r && x) l
move-at geo img r y x e l v q = subst (λ (b : Bool). v ≡ move_of geo img (r && b) l) e q

-- ---- counts

pub freed_is : (geo : Geometry) (img : List ℕ) (to from t i w n : ℕ) → n ≡ links_of geo img t → (eqb n 1 && (eqb t i || eqb t to || eqb t from || eqb t w)) ≡ freed_first geo img to from t i w
unfolding freed_first
freed_is geo img to from t i w n p = rw p

-- the moved inode's count may rise
pub rise_is : (geo : Geometry) (img : List ℕ) (target : Sought Hit) (i n : ℕ) → n ≡ links_of geo img i → (b : Bool) → b ≡ is_of i target → (t : Bool) → (not (eqb n 65535) || b) ≡ t
    → ask t TooManyLinks (got (tt {0})) ≡ rises_out geo img target i
rise_is geo img target i n p b q t e = rw (← p, ← q, e)

-- ---- room

module _ (geo : Geometry) (at size : ℕ) (img : List ℕ) (n j : ℕ) where
  pub but-it : (k : ℕ) → k ≡ j → nowhere ≡ rooms_but geo at size img n j k
  but-it k e = rw (eq-eqb k j e)

  pub but-other : (k : ℕ) → (k ≡ j → ⊥) → (x : Sought ℕ) → x ≡ in_block (dir_block geo at size img k) (λ b. roomy_in k (room_in geo.order b n)) → x ≡ rooms_but geo at size img n j k
  but-other k d x q = rw (ne_eqb k j d) q

  pub but-start : size % 512 ≡ 0 → seek_from (rooms_but geo at size img n j) (size / 512 - 0) 0 ≡ room_but geo at size img n j
  unfolding room_but
  but-start e = rw (eq-eqb (size % 512) 0 e) (ap (λ (m : ℕ). seek_from (rooms_but geo at size img n j) m 0) (omega arith))

  pub but-odd : (size % 512 ≡ 0 → ⊥) → hurt ≡ room_but geo at size img n j
  unfolding room_but
  but-odd d = rw (ne_eqb (size % 512) 0 d)

-- ---- sizes

pub holds-block : (size : ℕ) (s : Result (Option Hit) Damage) (h : Hit) → s ≡ Ok (Some h) → Holds size (seen_out s) → 512 ≤ size
holds-block size s h e p = subst (λ (x : Result (Option Hit) Damage). Holds size (seen_out x)) e p

pub end-at : (geo : Geometry) (room : Sought ℕ) (x : Out (Unit {0})) (z w : ℕ) → z ≡ w → x ≡ link_end geo z room → x ≡ link_end geo w room
end-at geo room x z w e q = subst (λ (k : ℕ). x ≡ link_end geo k room) e q

-- ---- 27, then 45, in the room that was found

pub room-is : (geo : Geometry) (img : List ℕ) (to : Spot) (old n : ℕ) (source target : Sought Hit) (room : Sought ℕ) → room ≡ room_then geo to img n target → (z : Out (Unit {0}))
    → z ≡ both_out (ends_out geo to.shape.size old source target room) (tails_out geo img to old source target room) → z ≡ room_out geo img to old n source target
room-is geo img to old n source target room e z q =
    subst (λ (x : Sought ℕ). z ≡ both_out (ends_out geo to.shape.size old source target x) (tails_out geo img to old source target x)) e q

pub ends-link : (geo : Geometry) (size old : ℕ) (source target : Sought Hit) (room : Sought ℕ) → got (tt {0}) ≡ ends_out geo size old source target room
    → link_end geo (size_then size target) room ≡ got (tt {0})
ends-link geo size old source target room p = (both_passed _ _ (both_passed _ _ (sym p)).0).1

-- ---- 22, 20, 21 and a kind that has no name, one after another

module _ (i d f k : Bool) (o : Out (Unit {0})) where
  pub test-inodes : i ≡ false → refused Invalid ≡ tests i d f k o
  unfolding tests
  test-inodes a = rw a

  pub test-dirs : i ≡ true → d ≡ false → refused NotDirectory ≡ tests i d f k o
  unfolding tests
  test-dirs a b = rw (a, b)

  pub test-files : i ≡ true → d ≡ true → f ≡ false → refused IsDirectory ≡ tests i d f k o
  unfolding tests
  test-files a b c = rw (a, b, c)

  pub test-kinds : i ≡ true → d ≡ true → f ≡ true → k ≡ false → refused Damaged ≡ tests i d f k o
  unfolding tests
  test-kinds a b c e = rw (a, b, c, e)

  pub test-passed : i ≡ true → d ≡ true → f ≡ true → k ≡ true → (x : Out (Unit {0})) → x ≡ o → x ≡ tests i d f k o
  unfolding tests
  test-passed a b c e x q = rw (a, b, c, e) q

pub tests-inodes : (i d f k : Bool) (o : Out (Unit {0})) → tests i d f k o ≡ got (tt {0}) → i ≡ true
unfolding tests
tests-inodes true d f k o h = refl
tests-inodes false d f k o h = absurd (let z : ◌≡◌ {A = ℕ} 0 1 = cc in let y : ⊥ = omega arith in y)

-- what is judged free has a moved file that is one of the volume's
pub moving-own : (geo : Geometry) (img : List ℕ) (dd sd : ℕ) (to from : Spot) (n : ℕ) (replace : Bool) (f : Facts)
    → got (tt {0}) ≡ moving_out geo img dd sd to from n replace f → hit_where f.moved (found_ok geo img) ≡ true
moving-own geo img dd sd to from n replace f p =
    own-moved geo img to from f.moved (both (own_ok geo img to from f.moved) (others_ok geo img dd sd f) (tests-inodes _ _ _ _ _ (sym p))).0

-- a test of two parts, as the code makes it
pub two_both : (a b x y : Bool) → a ≡ x → b ≡ y → (a && b) ≡ true → (x ≡ true) × (y ≡ true)
two_both a b x y p q e = both x y (rw (← p, ← q) e)

pub two-is : (a b x y : Bool) → a ≡ x → b ≡ y → (t : Bool) → (a && b) ≡ t → (x && y) ≡ t
two-is a b x y p q t e = rw (← p, ← q) e
