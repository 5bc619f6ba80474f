-- What giving out an inode answers, and where it stores. Assumes nothing.
use Rattle.std.proofs.Common.{◌≡◌, ℕ, ◌+◌, ◌<◌, Bool, true, false, eqb, ltb, ◌⊎◌, List, [], ◌∷◌, refl, ap, ◌∙◌, inl, inr, arith, ltb-true, eqb-true}
use Rattle.refusal.specs.declared.Refusal.{Refusal}
use Rattle.refusal.specs.declared.Refusal.TheVariants.{LinkedInode, Damaged}
use Rattle.store.specs.Store.{Store, apply, apply_all}
use Rattle.store.specs.Where.{none, more, Only, Range}
use Rattle.store.specs.Act.{Out, got, refused, pure, refuse, reads, store, seq, ◌>>=◌}
use Rattle.store.proofs.StoreLaws.{apply_all-one}
use Rattle.store.proofs.ActLaws.{out-good, out-bad}
use Rattle.store.proofs.OnlyLaws.{only_store, only_one, only-bind, only-read, only-pure, only-refuse, only-more}
use Rattle.volume.specs.declared.Geometry.{Geometry}
use Rattle.volume.specs.declared.Count.TheVariants.{Nifree}
use Rattle.volume.specs.Volume.{cg_at, count_at, total_at, inode_at}
use Rattle.volume.proofs.Laws.{count-place, total-place}
use Rattle.inode.specs.declared.Inode.{Inode}
use Rattle.inode.specs.Places.{nlink_at, nlink_write, generation_at}
use Rattle.inode_record.specs.Record.{inode_store}
use Rattle.inode.proofs.PlaceLaws.{nlink-inside}
use Rattle.inode_record.proofs.RecordLaws.{inode-inside}
use Rattle.inode_run.specs.Judge.{ask}
use Rattle.frame.specs.Frame.{Frame}
use Rattle.frame.proofs.WriteLaws.{count_in, total_in}
use Rattle.books.specs.Work.{given}
use Rattle.books.specs.Books.{Book, of_counts, of_totals}
use Rattle.ialloc_give.specs.Marks.{used_write, mark_used, count_inode}
use Rattle.ialloc_give.specs.Choose.{inode_number}
use Rattle.ialloc_give.specs.Give.{with_link, setup_test, set_up, give_at, bump}
use Rattle.ialloc_give.proofs.MarkLaws.{used-book}

-- ---- the answers of the parts

pub mark_out : (v : ℕ) (geo : Geometry) (g k : ℕ) (img : List ℕ) → (mark_used v geo g k img).out ≡ got (tt {0})
unfolding mark_used store
mark_out v geo g k img = refl

pub mark_image : (v : ℕ) (geo : Geometry) (g k : ℕ) (img : List ℕ) → apply_all (mark_used v geo g k img).stores img ≡ apply (used_write v geo g k img ∷ []) img
unfolding mark_used store
mark_image v geo g k img = apply_all-one (used_write v geo g k img ∷ []) img

pub count-out : (freed : Bool) (geo : Geometry) (g : ℕ) (img : List ℕ) → (count_inode freed geo g img).out ≡ got (tt {0})
unfolding count_inode ◌>>=◌ seq reads store
count-out freed geo g img = refl

abbrev pub stored_for : Out ℕ → Out (Unit {0})
stored_for (got n) = got (tt {0})
stored_for (refused e) = refused e

given-out : (t : Out ℕ) (f : ℕ → Store) (img : List ℕ) → (given t (λ n. store (f n)) img).out ≡ stored_for t
unfolding store refuse
given-out (got n) f img = refl
given-out (refused e) f img = refl

pub setup_out : (geo : Geometry) (new : Inode) (i : ℕ) (img : List ℕ) → (set_up geo new i img).out ≡ stored_for (setup_test geo i img)
unfolding set_up
setup_out geo new i img = given-out (setup_test geo i img) (λ n. inode_store geo.order (inode_at geo i) (with_link n new)) img

pure-is : (a : ℕ) (img : List ℕ) → (pure a img).out ≡ got a
unfolding pure
pure-is a img = refl

-- what the test before the record says
pub record Ready (geo : Geometry) (i : ℕ) (img : List ℕ) (n : ℕ) : Type 0 where
  pub unlinked : nlink_at geo.order (inode_at geo i) img ≡ 0
  pub room : generation_at geo.order (inode_at geo i) img < 4294967295
  pub next : n ≡ generation_at geo.order (inode_at geo i) img + 1

ready : (a b v : ℕ) (l u : Bool) → eqb a 0 ≡ l → ltb b 4294967295 ≡ u → {n : ℕ} → ask l LinkedInode (ask u Damaged (got v)) ≡ got n → (a ≡ 0) × (b < 4294967295) × (n ≡ v)
ready a b v true true p q e = (eqb-true a 0 p, ltb-true b 4294967295 q, (cc))
ready a b v true false p q e = absurd (let z : ◌≡◌ {A = ℕ} 0 1 = cc in let y : ⊥ = omega arith in y)
ready a b v false u p q e = absurd (let z : ◌≡◌ {A = ℕ} 0 1 = cc in let y : ⊥ = omega arith in y)

pub setup_ready : (geo : Geometry) (i : ℕ) (img : List ℕ) (n : ℕ) → setup_test geo i img ≡ got n → Ready geo i img n
unfolding setup_test
setup_ready geo i img n e =
    let r = ready (nlink_at geo.order (inode_at geo i) img) (generation_at geo.order (inode_at geo i) img) _ _ _ refl refl e in
    record { unlinked = r.0; room = r.1; next = r.2 }

refusals : (l u : Bool) (v : ℕ) {e : Refusal} → ask l LinkedInode (ask u Damaged (got v)) ≡ refused e → (e ≡ LinkedInode) ⊎ (e ≡ Damaged)
refusals true true v e = absurd (let z : ◌≡◌ {A = ℕ} 0 1 = cc in let y : ⊥ = omega arith in y)
refusals true false v e = inr (cc)
refusals false u v e = inl (cc)

pub setup_refusals : (geo : Geometry) (i : ℕ) (img : List ℕ) {e : Refusal} → setup_test geo i img ≡ refused e → (e ≡ LinkedInode) ⊎ (e ≡ Damaged)
unfolding setup_test
setup_refusals geo i img e =
    refusals (eqb (nlink_at geo.order (inode_at geo i) img) 0) (ltb (generation_at geo.order (inode_at geo i) img) 4294967295) (generation_at geo.order (inode_at geo i) img + 1) e

-- ---- the answer of giving out inode k of group g

abbrev pub number_for : ℕ → Out ℕ → Out ℕ
number_for i (got n) = got i
number_for i (refused e) = refused e

module _ (geo : Geometry) (new : Inode) (g k : ℕ) (img : List ℕ) where
  -- after the bit's store
  abbrev pub marked : List ℕ
  marked = apply (used_write 1 geo g k img ∷ []) img

  then-out : (t : Out ℕ) → setup_test geo (inode_number geo g k) marked ≡ t
      → ((set_up geo new (inode_number geo g k) >>= (λ _. count_inode false geo g >>= (λ _. pure (inode_number geo g k)))) marked).out ≡ number_for (inode_number geo g k) t
  then-out (got n) q =
      out-good (set_up geo new (inode_number geo g k)) _ marked (setup_out geo new (inode_number geo g k) marked ∙ ap stored_for q)
      ∙ out-good (count_inode false geo g) _ _ (count-out false geo g _)
      ∙ pure-is (inode_number geo g k) _
  then-out (refused e) q = out-bad (set_up geo new (inode_number geo g k)) _ marked (setup_out geo new (inode_number geo g k) marked ∙ ap stored_for q)

  pub give-out : (give_at geo new g k img).out ≡ number_for (inode_number geo g k) (setup_test geo (inode_number geo g k) marked)
  unfolding give_at
  give-out =
      out-good (mark_used 1 geo g k) _ img (mark_out 1 geo g k img)
      ∙ rw (mark_image 1 geo g k img) (then-out (setup_test geo (inode_number geo g k) marked) refl)

-- ---- where they store: the books, and the record of that inode

module _ (geo : Geometry) (at : ℕ) (book : List ℕ) where
  abbrev pub Touched : ℕ → Type 0
  Touched j = Book geo book j ⊎ Range at 256 j

pub setup_only : (geo : Geometry) (new : Inode) (i : ℕ) (img : List ℕ) → Only (Range (inode_at geo i) 256) (set_up geo new i img).stores
unfolding set_up
setup_only geo new i img = go (setup_test geo i img)
  where
    go : (t : Out ℕ) → Only (Range (inode_at geo i) 256) (given t (λ n. store (inode_store geo.order (inode_at geo i) (with_link n new))) img).stores
    go (got n) = only_store (inode-inside geo.order (inode_at geo i) (with_link n new)) img
    go (refused e) = only-refuse (Unit {0}) e img

pub bump-only : (geo : Geometry) (i : ℕ) (img : List ℕ) → Only (Range (inode_at geo i) 256) (bump geo i img).stores
unfolding bump
bump-only geo i img = go (ask (ltb (nlink_at geo.order (inode_at geo i) img) 65535) Damaged (got (nlink_at geo.order (inode_at geo i) img)))
  where
    go : (t : Out ℕ) → Only (Range (inode_at geo i) 256) (given t (λ n. store (nlink_write geo.order (inode_at geo i) (n + 1) ∷ [])) img).stores
    go (got n) = only_store (more (nlink-inside geo.order (inode_at geo i) (n + 1)) none) img
    go (refused e) = only-refuse (Unit {0}) e img

pub count-only : (freed : Bool) (geo : Geometry) (g : ℕ) → g < geo.ncg → (book img : List ℕ) → Only (Book geo book) (count_inode freed geo g img).stores
unfolding count_inode
count-only freed geo g l book img =
    only-read (count_at geo.order Nifree (cg_at geo g)) _ img
    (only-bind _ _ img (only_one _ (count_in geo g Nifree _ (λ j r. let q = count-place Nifree in of_counts g l (omega arith, omega arith))) img)
    (λ _ _. only-read (total_at geo.order Nifree) _ _ (only_one _ (total_in geo Nifree _ (λ j r. let q = total-place Nifree in of_totals (omega arith, omega arith))) _)))

pub mark_only : (v : ℕ) (geo : Geometry) (g k : ℕ) (img : List ℕ) → Frame geo img → g < geo.ncg → k < geo.ipg → Only (Book geo img) (mark_used v geo g k img).stores
unfolding mark_used
mark_only v geo g k img fr lg lk = only_one (used_write v geo g k img) (used-book geo img fr v g k lg lk) img

pub give-only : (geo : Geometry) (new : Inode) (g k : ℕ) (img : List ℕ) → Frame geo img → g < geo.ncg → k < geo.ipg
    → Only (Touched geo (inode_at geo (inode_number geo g k)) img) (give_at geo new g k img).stores
unfolding give_at
give-only geo new g k img fr lg lk =
    only-bind (mark_used 1 geo g k) _ img (only-more (λ j b. inl b) (mark_only 1 geo g k img fr lg lk))
    (λ _ _. only-bind (set_up geo new (inode_number geo g k)) _ _ (only-more (λ j r. inr r) (setup_only geo new (inode_number geo g k) _))
    (λ _ _. only-bind (count_inode false geo g) _ _ (only-more (λ j b. inl b) (count-only false geo g lg img _)) (λ _ _. only-pure (inode_number geo g k) _)))
