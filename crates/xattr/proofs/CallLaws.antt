-- The laws of `specs/Calls.antt`: each call, once it is known whether the inode, its area and the attribute are found. Assumes nothing.
use Rattle.std.specs.Prelude.{Option, Some, None, Result, Ok, Err}
use mathlib.Core.Path.{◌≡◌, refl, ap}
use mathlib.Core.List.{List}
use Prim.Native.Nat.{ℕ, ◌+◌, ◌≤◌, ◌<◌}
use native.Mathlib.Omega.{arith}
use borrow.Author.Tests.{lt-ltb, le-ltb}
use lib.ListN.{length}
use Rattle.field.specs.Field.{part, put}
use Rattle.refusal.specs.declared.Refusal.TheVariants.{BufferTooSmall}
use Rattle.store.specs.Act.{Out, got, refused}
use Rattle.volume.specs.declared.Geometry.{Geometry}
use Rattle.frame.specs.Frame.{Frame}
use Rattle.inode_read.specs.Calls.{Place, place_in, known_of}
use Rattle.inode_read.proofs.JudgeLaws.{place-stands}
use Rattle.dirblock.proofs.WriteLaws.{part-whole}
use Rattle.attrrec.specs.declared.Entry.{Entry}
use Rattle.attrrec.specs.Record.{gap, value_len}
use Rattle.attrrec.specs.Search.{find_in}
use Rattle.attrrec.proofs.RecordLaws.{held}
use Rattle.attrrec.proofs.SearchLaws.{find-taken}
use Rattle.xattr.specs.declared.Area.{Area}
use Rattle.xattr.specs.Area.{area_of, gathered, Inside}
use Rattle.xattr.specs.Calls.{hit_of, hit_in, hit_at, hit_known, read_xattr, extsize_known, xattr_list_len, length_of, xattr_len, value_of, xattr_read}
use Rattle.xattr.proofs.AreaLaws.{area-inside, length-gathered}
use Rattle.inode_run.specs.declared.Spot.{Spot}
use Rattle.refusal.specs.declared.Damage.{Damage}
use Rattle.refusal.specs.declared.Refusal.{Refusal}

-- ---- what was found is handed on

module _ (img : List ℕ) (i : ℕ) (k : Result (Geometry × Spot) Refusal) (e : k ≡ known_of (place_in img i)) where
  pub list-len-known : extsize_known img k ≡ xattr_list_len img i
  unfolding xattr_list_len
  list-len-known = rw e

  pub hit-known : (name : List ℕ) → hit_known img name k ≡ read_xattr img i name
  unfolding read_xattr
  hit-known name = rw e

module _ (geo : Geometry) (at : ℕ) (img name : List ℕ) where
  pub hit-lies : (l : Result Area Damage) → l ≡ area_of geo at img → hit_in geo img name l ≡ hit_at geo at img name
  unfolding hit_at
  hit-lies l e = rw e

  pub hit-found : (a : Area) → Ok a ≡ area_of geo at img → (f : Result (Option (ℕ × Entry)) Damage) → f ≡ find_in geo.order (gathered a img) name → hit_of a f ≡ hit_at geo at img name
  hit-found a e f q = rw q (hit-lies (Ok a) e)

module _ (img : List ℕ) (i : ℕ) (name : List ℕ) (h : Result (Area × ℕ × Entry) Refusal) (e : h ≡ read_xattr img i name) where
  pub len-hit : length_of h ≡ xattr_len img i name
  unfolding xattr_len
  len-hit = rw e

  pub read-hit : (buf : List ℕ) → value_of img buf h ≡ xattr_read img i name buf
  unfolding xattr_read
  read-hit buf = rw e

-- ---- what an attribute that was found has

pub record Found (img : List ℕ) (a : Area) (b : ℕ) (e : Entry) : Type 0 where
  pub inside : Inside a img
  pub pad : gap b e.namelen + e.pad ≤ e.len
  pub ends : b + e.len ≤ a.size

module _ (img name : List ℕ) (a : Area) (b : ℕ) (e : Entry) where
  found_in : (geo : Geometry) → Frame geo img → (at : ℕ) (l : Result Area Damage) → area_of geo at img ≡ l → Ok (a, b, e) ≡ hit_in geo img name l → Found img a b e
  found_in geo fr at (Ok x) q h = go (find_in geo.order (gathered x img) name) refl h
    where
      go : (f : Result (Option (ℕ × Entry)) Damage) → find_in geo.order (gathered x img) name ≡ f → Ok (a, b, e) ≡ hit_of x f → Found img a b e
      go (Ok (Some (c, d))) r h =
          let w : ◌≡◌ {A = Area × ℕ × Entry} (x, c, d) (a, b, e) = cc in
          let s : x ≡ a = ap (λ (z : Area × ℕ × Entry). z.0) w in
          let t : c ≡ b = ap (λ (z : Area × ℕ × Entry). z.1) w in
          let u : d ≡ e = ap (λ (z : Area × ℕ × Entry). z.2) w in
          let i = (area-inside geo at img fr x q).0 in
          let k = held geo.order (gathered x img) c d (find-taken geo.order (gathered x img) name c d r) in
          let l = length-gathered x img i in
          rw (← s, ← t, ← u) (record { inside = i; pad = k.pad; ends = omega (arith, k.inside) })
      go (Ok None) r h = absurd (let z : ◌≡◌ {A = ℕ} 0 1 = cc in let y : ⊥ = omega arith in y)
      go (Err harm) r h = absurd (let z : ◌≡◌ {A = ℕ} 0 1 = cc in let y : ⊥ = omega arith in y)
  found_in geo fr at (Err harm) q h = absurd (let z : ◌≡◌ {A = ℕ} 0 1 = cc in let y : ⊥ = omega arith in y)

  found_at : (geo : Geometry) → Frame geo img → (at : ℕ) → Ok (a, b, e) ≡ hit_at geo at img name → Found img a b e
  unfolding hit_at
  found_at geo fr at h = found_in geo fr at (area_of geo at img) refl h

  pub found : (i : ℕ) → Ok (a, b, e) ≡ read_xattr img i name → Found img a b e
  unfolding read_xattr
  found i h = go (place_in img i) refl h
    where
      go : (o : Out Place) → place_in img i ≡ o → Ok (a, b, e) ≡ hit_known img name (known_of o) → Found img a b e
      go (got p) q h = found_at p.geo (place-stands img i p q).frame p.spot.at h
      go (refused r) q h = absurd (let z : ◌≡◌ {A = ℕ} 0 1 = cc in let y : ⊥ = omega arith in y)

-- ---- the buffer

module _ (img buf : List ℕ) (a : Area) (b : ℕ) (e : Entry) where
  pub read_short : length buf < a.size → (buf, Err BufferTooSmall) ≡ value_of img buf (Ok (a, b, e))
  read_short h = rw (lt-ltb (length buf) a.size h)

  pub read_whole : a.size ≤ length buf → Inside a img → (now : List ℕ) → now ≡ put 0 (part a.size 0 (gathered a img)) buf
      → (from to : ℕ) → from ≡ b + gap b e.namelen → to ≡ from + value_len b e → (now, Ok (from, to)) ≡ value_of img buf (Ok (a, b, e))
  read_whole h i now q from to f t =
      rw (le-ltb (length buf) a.size h, q, part-whole a.size (gathered a img) (length-gathered a img i), t, f)
