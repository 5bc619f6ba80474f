-- What a search that answers a place says of it: the block is one of the directory's, and it was read. A caller goes on from there. Assumes nothing.
use Rattle.std.specs.Prelude.{Option, Some, None, Result, Ok, Err}
use mathlib.Core.Path.{◌≡◌, refl, sym, ap, subst, ◌∙◌}
use mathlib.Core.Bool.{Bool, true, false}
use mathlib.Core.List.{List}
use Prim.Native.Nat.{ℕ, zero, suc, ◌+◌, ◌-◌, ◌*◌, ◌/◌, ◌%◌, ◌≤◌, ◌<◌}
use native.Mathlib.Omega.{arith}
use lib.Dec.{eqb}
use borrow.Author.Tests.{eqb-true, eqb-false}
use Rattle.store.specs.Act.{Out, got, refused}
use Rattle.volume.specs.declared.Geometry.{Geometry}
use Rattle.dirblock.specs.declared.Entry.{Entry}
use Rattle.dirblock.specs.declared.Unlinked.{Unlinked}
use Rattle.dirblock.specs.declared.Unlinked.TheVariants as Unlinked
use Rattle.dirblock.specs.Search.{room_in}
use Rattle.dirblock.specs.Link.{unlink_in}
use Rattle.dirfile.specs.Block.{dir_block}
use Rattle.dirfile.specs.Seek.{Sought, here, nowhere, hurt, seek_from, in_block, seek_dir}
use Rattle.dirfile.proofs.SeekLaws.{said, seek-end, seek-here, seek-hurt, seek-next, seek-start, seek-odd}
use Rattle.dirwalk.specs.declared.Hit.{Hit}
use Rattle.dirwalk.specs.Walk.{seen_in, find_dir, roomy_in, room_dir}
use Rattle.dirwalk.proofs.WalkLaws.{finds, rooms}
use Rattle.refusal.specs.Refusal.{damage}
use Rattle.refusal.specs.declared.Damage.{Damage}

module _ (geo : Geometry) (at size : ℕ) (img : List ℕ) where
  -- block k, whole and read, answers a
  pub record Answers {A : Type 0} (f : ℕ → List ℕ → Sought A) (a : A) : Type 0 where
    pub k : ℕ
    pub bytes : List ℕ
    pub inside : k * 512 + 512 ≤ size
    pub read : dir_block geo at size img k ≡ got bytes
    pub says : f k bytes ≡ here a

  module _ {A : Type 0} (f : ℕ → List ℕ → Sought A) (a : A) where
    answers-from : (m k : ℕ) → size / 512 - k ≡ m → seek_from (said geo at size img f) (size / 512 - k) k ≡ here a → Answers f a
    answers-from zero k e q =
        absurd (let r : nowhere ≡ here a = sym (seek-end (said geo at size img f) (size / 512) k (omega arith)) ∙ q in let z : ◌≡◌ {A = ℕ} 0 1 = cc in let y : ⊥ = omega arith in y)
    answers-from (suc m) k e q = go (dir_block geo at size img k) refl (answers-from m (k + 1) (omega arith))
      where
        l : k < size / 512
        l = omega arith

        told : (bytes : List ℕ) → dir_block geo at size img k ≡ got bytes → (x : Sought A) → f k bytes ≡ x
            → (seek_from (said geo at size img f) (size / 512 - (k + 1)) (k + 1) ≡ here a → Answers f a) → Answers f a
        told bytes h (here b) x rest =
            let r : here b ≡ here a = sym (seek-here (said geo at size img f) (size / 512) k l b (ap (λ (d : Out (List ℕ)). in_block d (f k)) h ∙ x)) ∙ q in
            record { k = k; bytes = bytes; inside = omega (arith, l); read = h; says = x ∙ r }
        told bytes h nowhere x rest = rest (sym (seek-next (said geo at size img f) (size / 512) k l (ap (λ (d : Out (List ℕ)). in_block d (f k)) h ∙ x)) ∙ q)
        told bytes h hurt x rest =
            absurd (let r : hurt ≡ here a = sym (seek-hurt (said geo at size img f) (size / 512) k l (ap (λ (d : Out (List ℕ)). in_block d (f k)) h ∙ x)) ∙ q in let z : ◌≡◌ {A = ℕ} 0 1 = cc in let y : ⊥ = omega arith in y)

        go : (d : Out (List ℕ)) → dir_block geo at size img k ≡ d → (seek_from (said geo at size img f) (size / 512 - (k + 1)) (k + 1) ≡ here a → Answers f a) → Answers f a
        go (got bytes) h rest = told bytes h (f k bytes) refl rest
        go (refused r) h rest =
            absurd (let x : hurt ≡ here a = sym (seek-hurt (said geo at size img f) (size / 512) k l (ap (λ (d : Out (List ℕ)). in_block d (f k)) h)) ∙ q in let z : ◌≡◌ {A = ℕ} 0 1 = cc in let y : ⊥ = omega arith in y)

    pub answers : seek_dir geo at size img f ≡ here a → Answers f a
    answers q = go (eqb (size % 512) 0) refl
      where
        go : (t : Bool) → eqb (size % 512) 0 ≡ t → Answers f a
        go true e = answers-from (size / 512 - 0) 0 refl (sym (seek-start geo at size img f (eqb-true (size % 512) 0 e)) ∙ q)
        go false e =
            absurd (let r : hurt ≡ here a = sym (seek-odd geo at size img f (eqb-false (size % 512) 0 e)) ∙ q in let z : ◌≡◌ {A = ℕ} 0 1 = cc in let y : ⊥ = omega arith in y)

  -- ---- a record to be unlinked, in the block that is named

  pub record HitAt (name : List ℕ) (h : Hit) : Type 0 where
    pub bytes : List ℕ
    pub inside : h.block * 512 + 512 ≤ size
    pub read : dir_block geo at size img h.block ≡ got bytes
    pub says : seen_in h.block (unlink_in geo.order bytes name).1 ≡ here h

  same_block : (k : ℕ) (u : Result Unlinked Damage) (h : Hit) → seen_in k u ≡ here h → k ≡ h.block
  same_block k (Ok (Unlinked.Done i)) h q = let r : record { block = k; inr = i; alone = false } ≡ h = cc in ap (λ (x : Hit). x.block) r
  same_block k (Ok (Unlinked.Alone i)) h q = let r : record { block = k; inr = i; alone = true } ≡ h = cc in ap (λ (x : Hit). x.block) r
  same_block k (Ok Unlinked.Absent) h q = absurd (let z : ◌≡◌ {A = ℕ} 0 1 = cc in let y : ⊥ = omega arith in y)
  same_block k (Err harm) h q = absurd (let z : ◌≡◌ {A = ℕ} 0 1 = cc in let y : ⊥ = omega arith in y)

  pub find-here : (name : List ℕ) (h : Hit) → find_dir geo at size img name ≡ here h → HitAt name h
  unfolding find_dir
  find-here name h q =
      let w = answers (finds geo name) h q in
      let e = same_block w.k (unlink_in geo.order w.bytes name).1 h w.says in
      record {
        bytes = w.bytes;
        inside = subst (λ (j : ℕ). j * 512 + 512 ≤ size) e w.inside;
        read = subst (λ (j : ℕ). dir_block geo at size img j ≡ got w.bytes) e w.read;
        says = subst (λ (j : ℕ). seen_in j (unlink_in geo.order w.bytes name).1 ≡ here h) e w.says;
      }

  -- ---- a block with room

  pub record RoomIn (n k : ℕ) : Type 0 where
    pub bytes : List ℕ
    pub inside : k * 512 + 512 ≤ size
    pub read : dir_block geo at size img k ≡ got bytes
    pub pos : ℕ
    pub entry : Entry
    pub room : room_in geo.order bytes n ≡ Ok (Some (pos, entry))

  pub room-here : (n k : ℕ) → room_dir geo at size img n ≡ here k → RoomIn n k
  unfolding room_dir
  room-here n k q = go (room_in geo.order w.bytes n) refl w.says
    where
      w : Answers (rooms geo n) k
      w = answers (rooms geo n) k q

      go : (r : Result (Option (ℕ × Entry)) Damage) → room_in geo.order w.bytes n ≡ r → roomy_in w.k r ≡ here k → RoomIn n k
      go (Ok (Some (pos, e))) h x =
          let j : w.k ≡ k = cc in
          record { bytes = w.bytes; inside = subst (λ (i : ℕ). i * 512 + 512 ≤ size) j w.inside; read = subst (λ (i : ℕ). dir_block geo at size img i ≡ got w.bytes) j w.read; pos = pos; entry = e; room = h }
      go (Ok None) h x = absurd (let z : ◌≡◌ {A = ℕ} 0 1 = cc in let y : ⊥ = omega arith in y)
      go (Err harm) h x = absurd (let z : ◌≡◌ {A = ℕ} 0 1 = cc in let y : ⊥ = omega arith in y)
