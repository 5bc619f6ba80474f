-- Laws of a name linked into a directory and of one unlinked from it: what each call leaves, case by case. Assumes nothing.
use Rattle.std.specs.Prelude.{Option, Some, None, Result, Ok, Err}
use mathlib.Core.Path.{◌≡◌, refl, sym, ◌∙◌}
use mathlib.Core.Bool.{Bool, true, false, ◌&&◌, and-false}
use mathlib.Core.List.{List}
use Prim.Native.Nat.{ℕ, ◌+◌, ◌-◌, ◌*◌, ◌/◌, ◌%◌, ◌^◌, ◌≤◌, ◌<◌}
use native.Mathlib.Omega.{arith}
use lib.Dec.{eqb, ltb}
use lib.ListN.{length}
use borrow.Author.Tests.{le-ltb, eqb-true, eqb-false}
use Rattle.refusal.specs.declared.Refusal.{Refusal}
use Rattle.refusal.specs.declared.Refusal.TheVariants.{Damaged}
use Rattle.store.specs.Act.{Out, got, refused, Act, pure, Left, leaves}
use Rattle.store.proofs.ActLaws.{step-good, step-bad, leaves-pure, leaves-refuse, choose-yes, choose_no}
use Rattle.volume.specs.declared.Geometry.{Geometry}
use Rattle.frame.specs.Frame.{Frame}
use Rattle.inode.specs.Shape.{in_place}
use Rattle.inode.proofs.SizeLaws.{units}
use Rattle.mapping.specs.Mapping.{per_list}
use Rattle.mapping.proofs.MappingLaws.{per-most}
use Rattle.inode_run.specs.declared.Spot.{Spot}
use Rattle.inode_grow.specs.Grow.{zones_bytes}
use Rattle.inode_grow.proofs.GrowLaws.{zones_bytes_lem}
use Rattle.inode_write.proofs.CallLaws.{limit_is, limit_small}
use Rattle.truncate.specs.Call.{judged_work}
use Rattle.truncate.proofs.CallLaws.{judge-far, found_no}
use Rattle.books.specs.Work.{damaged_out, given}
use Rattle.books.proofs.KeepLaws.{work_left}
use Rattle.dirblock.specs.declared.Unlinked.{Unlinked}
use Rattle.dirblock.specs.declared.Unlinked.TheVariants as Unlinked
use Rattle.dirblock.specs.Search.{room_in}
use Rattle.dirblock.specs.Link.{unlink_in}
use Rattle.dirfile.specs.Block.{dir_of, dir_block}
use Rattle.dirfile.specs.Seek.{Sought, here, nowhere, hurt, seek_from, in_block}
use Rattle.dirfile.proofs.SeekLaws.{said, FoundIn, seek_found}
use Rattle.dirwalk.specs.declared.Hit.{Hit}
use Rattle.dirwalk.specs.Walk.{seen_in, find_dir, roomy_in, room_dir}
use Rattle.dirwalk.proofs.WalkLaws.{finds, rooms, find_start, find-odd, room_start, room-odd}
use Rattle.dirwrite.specs.Write.{link_block, unlink_block, link_grown, drop_block}
use Rattle.dirwrite.proofs.WriteLaws.{grown-stop}
use Rattle.dirlink.specs.Link.{link_by, link_into, link_name, take_hit, unlink_hit, unlink_by, unlink_from, unlink_name}
use Rattle.dirblock.specs.declared.Entry.{Entry}
use Rattle.refusal.specs.declared.Damage.{Damage}

-- ---- what a search of a directory answers lies inside it

no_answer : {A : Type 0} {P : Type 0} {a : A} → ◌≡◌ {A = Sought A} nowhere (here a) → P
no_answer e = absurd (let z : ◌≡◌ {A = ℕ} 0 1 = cc in let y : ⊥ = omega arith in y)

no_damage : {A : Type 0} {P : Type 0} {a : A} → ◌≡◌ {A = Sought A} hurt (here a) → P
no_damage e = absurd (let z : ◌≡◌ {A = ℕ} 0 1 = cc in let y : ⊥ = omega arith in y)

module _ (geo : Geometry) (at size : ℕ) (img : List ℕ) where
  -- in one of its blocks
  found_in : {A : Type 0} (f : ℕ → List ℕ → Sought A) {x : Sought A} → (size % 512 ≡ 0 → seek_from (said geo at size img f) (size / 512 - 0) 0 ≡ x) → ((size % 512 ≡ 0 → ⊥) → hurt ≡ x)
      → (a : A) → x ≡ here a → FoundIn (said geo at size img f) (size / 512 - 0) 0 a
  found_in f start odd a e = go (eqb (size % 512) 0) refl
    where
      go : (b : Bool) → eqb (size % 512) 0 ≡ b → FoundIn (said geo at size img f) (size / 512 - 0) 0 a
      go true h = seek_found (said geo at size img f) (size / 512 - 0) 0 a (start (eqb-true (size % 512) 0 h) ∙ e)
      go false h = no_damage (odd (eqb-false (size % 512) 0 h) ∙ e)

  room-block : (b k : ℕ) (r : Result (Option (ℕ × Entry)) Damage) → roomy_in b r ≡ here k → b ≡ k
  room-block b k (Ok (Some (pos, e))) h = cc
  room-block b k (Ok None) h = no_answer h
  room-block b k (Err harm) h = no_damage h

  hit-block : (b : ℕ) (h : Hit) (u : Result Unlinked Damage) → seen_in b u ≡ here h → b ≡ h.block
  hit-block b h (Ok (Unlinked.Done i)) e = cc
  hit-block b h (Ok (Unlinked.Alone i)) e = cc
  hit-block b h (Ok Unlinked.Absent) e = no_answer e
  hit-block b h (Err harm) e = no_damage e

  -- the block with room
  pub room-inside : (n : ℕ) {x : Sought ℕ} → x ≡ room_dir geo at size img n → {k : ℕ} → x ≡ here k → k * 512 + 512 ≤ size
  room-inside n q {k} e =
      let f = found_in (rooms geo n) (room_start geo at size img n) (room-odd geo at size img n) k (sym q ∙ e) in
      let same : f.block ≡ k = by f.block (dir_block geo at size img f.block) f.is in
      omega (arith, f.inside, same)
    where
      by : (b : ℕ) (d : Out (List ℕ)) → in_block d (rooms geo n b) ≡ here k → b ≡ k
      by b (got x) h = room-block b k (room_in geo.order x n) h
      by b (refused x) h = no_damage h

  -- the block of the record that is to go
  pub hit-inside : (name : List ℕ) {x : Sought Hit} → x ≡ find_dir geo at size img name → {h : Hit} → x ≡ here h → h.block * 512 + 512 ≤ size
  hit-inside name q {h} e =
      let f = found_in (finds geo name) (find_start geo at size img name) (find-odd geo at size img name) h (sym q ∙ e) in
      let same : f.block ≡ h.block = by f.block (dir_block geo at size img f.block) f.is in
      omega (arith, f.inside, same)
    where
      by : (b : ℕ) (d : Out (List ℕ)) → in_block d (finds geo name b) ≡ here h → b ≡ h.block
      by b (got x) g = hit-block b h (unlink_in geo.order x name).1 g
      by b (refused x) g = no_damage g

-- ---- a directory that grows

-- the zones end far below what 64 bits count
pub grown_fits : (geo : Geometry) (img : List ℕ) → Frame geo img → (size z : ℕ) → z ≡ zones_bytes geo → size ≤ z → size + 1024 ≤ 18446744073709551616
grown_fits geo img fr size z e l =
    let p = per_list geo in
    let same = sym (zones_bytes_lem geo p (p ^ 1) (p ^ 2) (p ^ 3) refl refl refl refl) ∙ limit_is geo (12 + p ^ 1 + p ^ 2 + p ^ 3) refl in
    let low = limit_small geo (per-most geo img fr) (units geo fr.sizes).block_top in
    omega (arith, l, e ∙ same, low)

module _ (geo : Geometry) (s : Spot) (inr kind : ℕ) (name img : List ℕ) where
  -- a size past the zones grows no more: 27 there is 97 here
  grown-far : zones_bytes geo < s.shape.size → ◌≡◌ {A = Left (Unit {0})} (img, refused Damaged) (leaves (link_grown geo s inr kind name) img)
  grown-far l =
      let new = s.shape.size + 512 in
      let grows : (in_place s.shape && ltb new s.shape.size) ≡ false = rw (le-ltb new s.shape.size (omega arith)) (and-false (in_place s.shape)) in
      let stop = found_no geo s.at s.shape new img (sym (judge-far geo s.at s.shape new img grows (omega arith))) in
      grown-stop geo s inr kind name img new (work_left (judged_work geo s.at s.shape new) img stop) refl refl

  -- ---- into the directory that is found

  module _ {x : Sought ℕ} (q : x ≡ room_dir geo s.at s.shape.size img (length name)) where
    link-by : {y : Sought ℕ} → x ≡ y → leaves (link_by geo s inr kind name y) img ≡ leaves (link_into geo s inr kind name) img
    unfolding link_into leaves
    link-by e = rw (sym e ∙ q) refl

    pub link-room : {k : ℕ} → x ≡ here k → leaves (link_block geo s.at s.shape.size k inr kind name) img ≡ leaves (link_into geo s inr kind name) img
    link-room e = link-by e

    pub link-full : x ≡ nowhere → leaves (link_grown geo s inr kind name) img ≡ leaves (link_into geo s inr kind name) img
    link-full e = link-by e

    pub link-far : x ≡ nowhere → zones_bytes geo < s.shape.size → ◌≡◌ {A = Left (Unit {0})} (img, refused Damaged) (leaves (link_into geo s inr kind name) img)
    link-far e l = grown-far l ∙ link-full e

    pub link-hurt : x ≡ hurt → ◌≡◌ {A = Left (Unit {0})} (img, refused Damaged) (leaves (link_into geo s inr kind name) img)
    link-hurt e = leaves-refuse Damaged img ∙ link-by e

-- ---- the record that goes

module _ (geo : Geometry) (d : ℕ) (s : Spot) (name : List ℕ) (h : Hit) (img : List ℕ) where
  pub take-alone : h.alone ≡ true → leaves (drop_block geo d s.at s.shape.size h.block) img ≡ leaves (take_hit geo d s name h) img
  unfolding take_hit
  take-alone e = choose-yes (drop_block geo d s.at s.shape.size h.block) (unlink_block geo s.at s.shape.size h.block name) img e

  pub take-among : h.alone ≡ false → leaves (unlink_block geo s.at s.shape.size h.block name) img ≡ leaves (take_hit geo d s name h) img
  unfolding take_hit
  take-among e = choose_no (drop_block geo d s.at s.shape.size h.block) (unlink_block geo s.at s.shape.size h.block name) img e

  module _ {x : List ℕ} {o : Out (Unit {0})} (r : (x, o) ≡ leaves (take_hit geo d s name h) img) where
    pub hit-gone : o ≡ got (tt {0}) → ◌≡◌ {A = Left ℕ} (x, got h.inr) (leaves (unlink_hit geo d s name h) img)
    unfolding unlink_hit
    hit-gone e = leaves-pure h.inr x ∙ step-good (take_hit geo d s name h) (λ _. pure h.inr) img r e

    pub hit-stop : {f : Refusal} → o ≡ refused f → ◌≡◌ {A = Left ℕ} (x, refused f) (leaves (unlink_hit geo d s name h) img)
    unfolding unlink_hit
    hit-stop e = step-bad (take_hit geo d s name h) (λ _. pure h.inr) img r e

module _ (geo : Geometry) (d : ℕ) (s : Spot) (name img : List ℕ) {x : Sought Hit} (q : x ≡ find_dir geo s.at s.shape.size img name) where
  unlink-by : {y : Sought Hit} → x ≡ y → leaves (unlink_by geo d s name y) img ≡ leaves (unlink_from geo d s name) img
  unfolding unlink_from leaves
  unlink-by e = rw (sym e ∙ q) refl

  pub unlink-here : {h : Hit} → x ≡ here h → leaves (unlink_hit geo d s name h) img ≡ leaves (unlink_from geo d s name) img
  unlink-here e = unlink-by e

  pub unlink-absent : x ≡ nowhere → ◌≡◌ {A = Left ℕ} (img, refused Damaged) (leaves (unlink_from geo d s name) img)
  unlink-absent e = leaves-refuse Damaged img ∙ unlink-by e

  pub unlink-hurt : x ≡ hurt → ◌≡◌ {A = Left ℕ} (img, refused Damaged) (leaves (unlink_from geo d s name) img)
  unlink-hurt e = leaves-refuse Damaged img ∙ unlink-by e

-- ---- the directory that a number names, and what is no directory

module _ {B : Type 0} (geo : Geometry) (d : ℕ) (f : Spot → Act B) (img : List ℕ) where
  dir-good : {s : Spot} → dir_of geo img d ≡ got s → leaves (f s) img ≡ leaves (λ x. given (damaged_out (dir_of geo x d)) f x) img
  unfolding leaves
  dir-good e = rw e refl

  dir-bad : {r : Refusal} → dir_of geo img d ≡ refused r → ◌≡◌ {A = Left B} (img, refused Damaged) (leaves (λ x. given (damaged_out (dir_of geo x d)) f x) img)
  unfolding leaves
  dir-bad e = rw e (leaves-refuse Damaged img)

module _ (geo : Geometry) (d : ℕ) (img : List ℕ) where
  module _ (inr kind : ℕ) (name : List ℕ) where
    pub link-named : {s : Spot} → dir_of geo img d ≡ got s → leaves (link_into geo s inr kind name) img ≡ leaves (link_name geo d inr kind name) img
    unfolding link_name
    link-named e = dir-good geo d (λ s. link_into geo s inr kind name) img e

    pub link_lost : {r : Refusal} → dir_of geo img d ≡ refused r → ◌≡◌ {A = Left (Unit {0})} (img, refused Damaged) (leaves (link_name geo d inr kind name) img)
    unfolding link_name
    link_lost e = dir-bad geo d (λ s. link_into geo s inr kind name) img e

  module _ (name : List ℕ) where
    pub unlink-named : {s : Spot} → dir_of geo img d ≡ got s → leaves (unlink_from geo d s name) img ≡ leaves (unlink_name geo d name) img
    unfolding unlink_name
    unlink-named e = dir-good geo d (λ s. unlink_from geo d s name) img e

    pub unlink-lost : {r : Refusal} → dir_of geo img d ≡ refused r → ◌≡◌ {A = Left ℕ} (img, refused Damaged) (leaves (unlink_name geo d name) img)
    unfolding unlink_name
    unlink-lost e = dir-bad geo d (λ s. unlink_from geo d s name) img e
