-- What the three searches of a directory promise together: they read its blocks and nothing else, refuse an odd size, and unlinking misses no name that a lookup finds. Assumes nothing.
use Rattle.std.specs.Prelude.{Option, Some, None, Result, Ok, Err}
use mathlib.Core.Path.{◌≡◌, refl, sym, ap, ap₂, subst, ◌∙◌}
use mathlib.Core.Bool.{Bool, true, false}
use mathlib.Core.List.{List}
use mathlib.Core.Logic.{◌⊎◌, inl, inr}
use Prim.Native.Nat.{ℕ, zero, suc, ◌+◌, ◌-◌, ◌/◌, ◌%◌, ◌<◌}
use native.Mathlib.Nat.{zero-add}
use native.Mathlib.Omega.{arith}
use lib.Dec.{eqb}
use borrow.Author.Tests.{eqb-true, eqb-false}
use Rattle.store.specs.Act.{Out, got, refused}
use Rattle.volume.specs.declared.Geometry.{Geometry}
use Rattle.dirblock.specs.declared.Entry.{Entry}
use Rattle.dirblock.specs.declared.Rec.TheVariants.{Used, Bad}
use Rattle.dirblock.specs.declared.Spot.{Spot}
use Rattle.dirblock.specs.Record.{rec_at, listed}
use Rattle.dirblock.specs.Search.{find_in}
use Rattle.dirblock.specs.Link.{unlink_in}
use Rattle.dirblock.proofs.LinkLaws.{first-there}
use Rattle.dirfile.specs.Block.{dir_block}
use Rattle.dirfile.specs.Seek.{Sought, here, nowhere, hurt, or_else, seek_from, in_block, seek_dir}
use Rattle.dirfile.proofs.SeekLaws.{said, seek-end, seek-step, seek-here, seek-hurt, seek-next, seek-start, seek-odd}
use Rattle.dirwalk.specs.declared.Hit.{Hit}
use Rattle.dirwalk.specs.Walk.{looked_in, lookup_dir, seen_in, find_dir, room_dir}
use Rattle.dirwalk.proofs.UnlinkLaws.{answer-absent}
use Rattle.dirwalk.proofs.WalkLaws.{looks, finds, rooms, lookup-start, lookup-odd, find_start, find-odd, room-odd}
use Rattle.dirwalk.proofs.NamedLaws.{Earlier, find-compared, Hits, Told, unlink-told}
use Rattle.refusal.specs.Refusal.{damage}
use Rattle.refusal.specs.declared.Damage.{Damage}

-- ---- "a size that is no multiple is 97", before any block is read

pub record AllHurt (geo : Geometry) (at size : ℕ) (img name : List ℕ) (n : ℕ) : Type 0 where
  pub lookup : lookup_dir geo at size img name ≡ hurt
  pub find : find_dir geo at size img name ≡ hurt
  pub room : room_dir geo at size img n ≡ hurt

pub odd_size : (geo : Geometry) (at size : ℕ) (img name : List ℕ) (n : ℕ) → (size % 512 ≡ 0 → ⊥) → AllHurt geo at size img name n
odd_size geo at size img name n h =
    record { lookup = sym (lookup-odd geo at size img name h); find = sym (find-odd geo at size img name h); room = sym (room-odd geo at size img n h) }

-- ---- the searches read the bytes of the blocks, and nothing else

module _ {A : Type 0} (f g : ℕ → Sought A) (n : ℕ) (same : (k : ℕ) → k < n → f k ≡ g k) where
  seek-same : (m k : ℕ) → n - k ≡ m → seek_from f (n - k) k ≡ seek_from g (n - k) k
  seek-same zero k e = seek-end f n k (omega arith) ∙ sym (seek-end g n k (omega arith))
  seek-same (suc m) k e =
      seek-step f n k (omega arith) ∙ ap₂ or_else (same k (omega arith)) (seek-same m (k + 1) (omega arith)) ∙ sym (seek-step g n k (omega arith))

-- two directories of one size, each with its record and its image
module _ (geo : Geometry) (size at at' : ℕ) (img img' : List ℕ) where
  abbrev pub SameBlocks : Type 0
  SameBlocks = (k : ℕ) → k < size / 512 → dir_block geo at size img k ≡ dir_block geo at' size img' k

  module _ (same : SameBlocks) where
    pub seek-blocks : {A : Type 0} (f : ℕ → List ℕ → Sought A) → seek_dir geo at size img f ≡ seek_dir geo at' size img' f
    seek-blocks {A} f = go (eqb (size % 512) 0) refl
      where
        go : (t : Bool) → eqb (size % 512) 0 ≡ t → seek_dir geo at size img f ≡ seek_dir geo at' size img' f
        go true e =
            let z = eqb-true (size % 512) 0 e in
            seek-start geo at size img f z
            ∙ seek-same (said geo at size img f) (said geo at' size img' f) (size / 512) (λ k l. ap (λ (d : Out (List ℕ)). in_block d (f k)) (same k l)) (size / 512 - 0) 0 refl
            ∙ sym (seek-start geo at' size img' f z)
        go false e = let z = eqb-false (size % 512) 0 e in seek-odd geo at size img f z ∙ sym (seek-odd geo at' size img' f z)

    pub lookup-blocks : (name : List ℕ) → lookup_dir geo at size img name ≡ lookup_dir geo at' size img' name
    unfolding lookup_dir
    lookup-blocks name = seek-blocks (looks geo name)

    pub find-blocks : (name : List ℕ) → find_dir geo at size img name ≡ find_dir geo at' size img' name
    unfolding find_dir
    find-blocks name = seek-blocks (finds geo name)

    pub room-blocks : (n : ℕ) → room_dir geo at size img n ≡ room_dir geo at' size img' n
    unfolding room_dir
    room-blocks n = seek-blocks (rooms geo n)

-- ---- a name that a lookup finds

module _ (geo : Geometry) (at size : ℕ) (img name : List ℕ) where
  -- a block of the directory, read
  pub record Block (k : ℕ) (bytes : List ℕ) : Type 0 where
    pub inside : k < size / 512
    pub read : dir_block geo at size img k ≡ got bytes

  -- unlinking finds a whiteout of that name, which a lookup passes
  pub record Whiteout (x : Sought Hit) : Type 0 where
    pub k : ℕ
    pub bytes : List ℕ
    pub block : Block k bytes
    pub spot : Spot
    pub found : find_in geo.order bytes name true ≡ Ok (Some spot)
    pub white : listed spot.entry ≡ false
    pub hits : Hits spot.entry.inr x

  -- inode i is the first record of its block, and damage stands where unlinking looks for the next
  pub record NextHurt (i : ℕ) : Type 0 where
    pub k : ℕ
    pub bytes : List ℕ
    pub block : Block k bytes
    pub entry : Entry
    pub first : rec_at geo.order bytes 0 ≡ Used entry
    pub inode : entry.inr ≡ i
    pub behind : rec_at geo.order bytes entry.reclen ≡ Bad

  -- the three answers that unlinking has for a name whose lookup answers inode i
  abbrev pub Found : ℕ → Sought Hit → Type 0
  Found i x = Hits i x ⊎ Whiteout x ⊎ ((x ≡ hurt) × NextHurt i)

  abbrev looked : ℕ → Sought ℕ
  looked = said geo at size img (looks geo name)

  abbrev sought : ℕ → Sought Hit
  sought = said geo at size img (finds geo name)

  -- one block, read, of which the lookup finds i here or behind it
  module _ (i k : ℕ) (bytes : List ℕ) (b : Block k bytes) where
    lift-hits : (j : ℕ) → Hits j (seen_in k (unlink_in geo.order bytes name).1) → Hits j (seek_from sought (size / 512 - k) k)
    lift-hits j h =
        record {
          hit = h.hit;
          seen = seek-here sought (size / 512) k b.inside h.hit (ap (λ (d : Out (List ℕ)). in_block d (finds geo name k)) b.read ∙ h.seen);
          inode = h.inode;
        }

    lift-hurt : seen_in k (unlink_in geo.order bytes name).1 ≡ hurt → seek_from sought (size / 512 - k) k ≡ hurt
    lift-hurt e = seek-hurt sought (size / 512) k b.inside (ap (λ (d : Out (List ℕ)). in_block d (finds geo name k)) b.read ∙ e)

    -- where the search with whiteouts stops at one: the lookup went on, so no damage stands behind it
    at-whiteout : Earlier geo.order bytes name (find_in geo.order bytes name false) (find_in geo.order bytes name true)
        → (find_in geo.order bytes name false ≡ Err damage → ⊥) → Found i (seek_from sought (size / 512 - k) k)
    at-whiteout w fine = go (unlink-told geo.order bytes name k w.spot w.found)
      where
        go : Told geo.order bytes name k w.spot w.found → Found i (seek_from sought (size / 512 - k) k)
        go (inl h) = inr (inl (record { k = k; bytes = bytes; block = b; spot = w.spot; found = w.found; white = w.white; hits = lift-hits w.spot.entry.inr h }))
        go (inr (e, z, q)) = absurd (fine (w.next (rw (z, zero-add w.spot.entry.reclen) q)))

    at-found : (s : Spot) → find_in geo.order bytes name true ≡ Ok (Some s) → s.entry.inr ≡ i → Found i (seek_from sought (size / 512 - k) k)
    at-found s h q = go (unlink-told geo.order bytes name k s h)
      where
        go : Told geo.order bytes name k s h → Found i (seek_from sought (size / 512 - k) k)
        go (inl x) = inl (subst (λ (j : ℕ). Hits j (seek_from sought (size / 512 - k) k)) q (lift-hits s.entry.inr x))
        go (inr (e, z, r)) = inr (inr (lift-hurt e, record { k = k; bytes = bytes; block = b; entry = s.entry; first = first-there geo.order bytes name s h z; inode = q; behind = r }))

    turn : seek_from looked (size / 512 - k) k ≡ here i
        → (seek_from looked (size / 512 - (k + 1)) (k + 1) ≡ here i → Found i (seek_from sought (size / 512 - (k + 1)) (k + 1)))
        → Found i (seek_from sought (size / 512 - k) k)
    turn q rest = go (find_in geo.order bytes name false) refl (find-compared geo.order bytes name)
      where
        says : (x : Result (Option Spot) Damage) → find_in geo.order bytes name false ≡ x → looked k ≡ looked_in x
        says x h = ap (λ (d : Out (List ℕ)). in_block d (looks geo name k)) b.read ∙ ap looked_in h

        go : (x : Result (Option Spot) Damage) → find_in geo.order bytes name false ≡ x
            → (find_in geo.order bytes name false ≡ find_in geo.order bytes name true) ⊎ Earlier geo.order bytes name (find_in geo.order bytes name false) (find_in geo.order bytes name true)
            → Found i (seek_from sought (size / 512 - k) k)
        go (Ok (Some s)) h (inl same) =
            let r : here s.entry.inr ≡ here i = sym (seek-here looked (size / 512) k b.inside s.entry.inr (says (Ok (Some s)) h)) ∙ q in
            let e : s.entry.inr ≡ i = cc in
            at-found s (sym same ∙ h) e
        go (Ok (Some s)) h (inr w) = at-whiteout w (λ d. let r : ◌≡◌ {A = Result (Option Spot) Damage} (Ok (Some s)) (Err damage) = sym h ∙ d in let z : ◌≡◌ {A = ℕ} 0 1 = cc in let y : ⊥ = omega arith in y)
        go (Ok None) h (inl same) =
            subst (Found i)
            (sym (seek-next sought (size / 512) k b.inside (ap (λ (d : Out (List ℕ)). in_block d (finds geo name k)) b.read ∙ ap (seen_in k) (sym (answer-absent geo.order bytes name (sym same ∙ h))))))
            (rest (sym (seek-next looked (size / 512) k b.inside (says (Ok None) h)) ∙ q))
        go (Ok None) h (inr w) = at-whiteout w (λ d. let r : ◌≡◌ {A = Result (Option Spot) Damage} (Ok None) (Err damage) = sym h ∙ d in let z : ◌≡◌ {A = ℕ} 0 1 = cc in let y : ⊥ = omega arith in y)
        go (Err harm) h x = absurd (let r : hurt ≡ here i = sym (seek-hurt looked (size / 512) k b.inside (says (Err damage) h)) ∙ q in let z : ◌≡◌ {A = ℕ} 0 1 = cc in let y : ⊥ = omega arith in y)

  found_from : (i m k : ℕ) → size / 512 - k ≡ m → seek_from looked (size / 512 - k) k ≡ here i → Found i (seek_from sought (size / 512 - k) k)
  found_from i zero k e q =
      absurd (let r : nowhere ≡ here i = sym (seek-end looked (size / 512) k (omega arith)) ∙ q in let z : ◌≡◌ {A = ℕ} 0 1 = cc in let y : ⊥ = omega arith in y)
  found_from i (suc m) k e q = go (dir_block geo at size img k) refl (found_from i m (k + 1) (omega arith))
    where
      l : k < size / 512
      l = omega arith

      go : (d : Out (List ℕ)) → dir_block geo at size img k ≡ d
          → (seek_from looked (size / 512 - (k + 1)) (k + 1) ≡ here i → Found i (seek_from sought (size / 512 - (k + 1)) (k + 1)))
          → Found i (seek_from sought (size / 512 - k) k)
      go (got bytes) h rest = turn i k bytes (record { inside = l; read = h }) q rest
      go (refused r) h rest =
          absurd (let x : hurt ≡ here i = sym (seek-hurt looked (size / 512) k l (ap (λ (d : Out (List ℕ)). in_block d (looks geo name k)) h)) ∙ q in let z : ◌≡◌ {A = ℕ} 0 1 = cc in let y : ⊥ = omega arith in y)

  -- unlinking finds that inode, or a whiteout of that name first, or it is damaged just behind the record: it never answers that the name is not there
  pub lookup-found : (i : ℕ) → lookup_dir geo at size img name ≡ here i → Found i (find_dir geo at size img name)
  lookup-found i q = go (eqb (size % 512) 0) refl
    where
      go : (t : Bool) → eqb (size % 512) 0 ≡ t → Found i (find_dir geo at size img name)
      go true e =
          let z = eqb-true (size % 512) 0 e in
          subst (Found i) (find_start geo at size img name z) (found_from i (size / 512 - 0) 0 refl (lookup-start geo at size img name z ∙ q))
      go false e =
          absurd (let r : hurt ≡ here i = lookup-odd geo at size img name (eqb-false (size % 512) 0 e) ∙ q in let z : ◌≡◌ {A = ℕ} 0 1 = cc in let y : ⊥ = omega arith in y)

  pub found-somewhere : (i : ℕ) → lookup_dir geo at size img name ≡ here i → find_dir geo at size img name ≡ nowhere → ⊥
  found-somewhere i q n = go (lookup-found i q)
    where
      go : Found i (find_dir geo at size img name) → ⊥
      go (inl h) = let r : nowhere ≡ here h.hit = sym n ∙ h.seen in let z : ◌≡◌ {A = ℕ} 0 1 = cc in omega arith
      go (inr (inl w)) = let r : nowhere ≡ here w.hits.hit = sym n ∙ w.hits.seen in let z : ◌≡◌ {A = ℕ} 0 1 = cc in omega arith
      go (inr (inr (e, d))) = let r : ◌≡◌ {A = Sought Hit} nowhere hurt = sym n ∙ e in let z : ◌≡◌ {A = ℕ} 0 1 = cc in omega arith
