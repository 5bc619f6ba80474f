-- Shrinking changes maps, counts and the file's lists alone. Assumes nothing.
use mathlib.Core.Path.{◌≡◌, refl, sym, ap, ◌∙◌}
use mathlib.Core.Bool.{true}
use mathlib.Core.List.{List, [], ◌∷◌}
use Prim.Native.Nat.{ℕ, ◌+◌, ◌-◌, ◌*◌, ◌^◌, ◌/◌, ◌%◌, ◌≤◌, ◌<◌}
use native.Mathlib.Omega.{arith}
use lib.Dec.{eqb, ltb}
use lib.ListN.{length, length-append}
use borrow.Author.Tests.{ltb-true, ltb-false}
use Rattle.field.specs.Field.{part, zeros}
use Rattle.field.proofs.Laws.{length-zeros, length-part}
use Rattle.store.specs.Where.{none, more, Range, WriteIn}
use Rattle.store.specs.Act.{Act, pure, ◌>>=◌, Always}
use Rattle.store.proofs.AlwaysLaws.{always-all, always-bind, always-pure, always-choose, always-store-bind, always_more}
use Rattle.volume.specs.declared.Geometry.{Geometry}
use Rattle.frame.specs.Frame.{Frame, InodeIs}
use Rattle.inode.specs.declared.Shape.{Shape}
use Rattle.inode.specs.Shape.{address_at}
use Rattle.mapping.specs.Zones.{zone_start}
use Rattle.mapping.specs.Mapping.{per_list, entry_at, list_ok}
use Rattle.mapping.proofs.ZoneLaws.{start-one, start-two}
use Rattle.books.specs.Books.{Book}
use Rattle.books.proofs.SteadyLaws.{steady-run}
use Rattle.ialloc_tree.specs.Tree.{free_tree}
use Rattle.ialloc_tree.proofs.TreeLaws.{always-list}
use Rattle.ialloc_give.proofs.MarkLaws.{always_at}
use Rattle.inode_shrink.specs.Shrink.{free_rest, rest_write, shrink_list, free_lists, root_write, shrink_from, shrink_lists}
use Rattle.inode_shrink.proofs.ShrinkLaws.{list_bytes, high-below, low-below}
use Rattle.inode_truncate.specs.Truncate.{at_address, shrink_direct, shrink_low, shrink_mid, shrink}
use Rattle.inode_truncate.proofs.ZoneLaws.{first-room, third_starts}
use Rattle.touched.specs.Touched.{ListOf, first, second, under, ShrinkByte, of_books, of_list, Alike}
use Rattle.touched.proofs.HoldLaws.{Holds, holds-bind, holds-each, holds-entry, holds-tree}
use Rattle.touched.proofs.PlaceLaws.{alike_more, alike_take, alike_list, address_stays, entry-stays}

-- ---- the stores into a list

rest_in : (geo : Geometry) (a u : ℕ) → per_list geo * 8 ≡ geo.bsize → u ≤ per_list geo → WriteIn (Range (a * geo.fsize) geo.bsize) (rest_write geo a u)
unfolding rest_write
rest_in geo a u b l = λ j lo hi. (omega (arith, lo), omega (arith, rw (length-zeros ((per_list geo - u) * 8)) at hi, b, l))

root_in : (geo : Geometry) (before : List ℕ) (a u : ℕ) → per_list geo * 8 ≡ geo.bsize → a * geo.fsize + geo.bsize ≤ length before → u ≤ per_list geo → WriteIn (Range (a * geo.fsize) geo.bsize) (root_write geo before a u)
unfolding root_write
root_in geo before a u b w l =
    let p = length-part (u * 8) (a * geo.fsize) before (omega (arith, b, w, l)) in
    let z = length-zeros ((per_list geo - u) * 8) in
    let k = length-append (part (u * 8) (a * geo.fsize) before) (zeros ((per_list geo - u) * 8)) in
    λ j lo hi. (lo, omega (arith, hi, b, l, p, z, k))

module _ (geo : Geometry) (start : List ℕ) (fr : Frame geo start) (inode at : ℕ) (is : InodeIs geo start inode at) (s : Shape) where
  -- maps and counts alone; and the file's lists too
  abbrev Booked : List ℕ → Type 0
  Booked = Alike geo (Book geo start) start

  abbrev pub Shrunk : List ℕ → Type 0
  Shrunk = Alike geo (ShrinkByte geo start at) start

  wider : {x : List ℕ} → Booked x → Shrunk x
  wider = alike_more geo (λ j b. of_books b)

  booked-tree : (l a place held : ℕ) → Holds Booked (free_tree geo s l a place held)
  booked-tree = holds-tree Booked geo (alike_take geo (Book geo start) start (λ j b. b)) s

  shrunk-tree : (l a place held : ℕ) → Holds Shrunk (free_tree geo s l a place held)
  shrunk-tree = holds-tree Shrunk geo (alike_take geo (ShrinkByte geo start at) start (λ j b. of_books b)) s

  -- ---- a list of which the first addresses stay

  shrunk-rest : (a base u held : ℕ) → Holds Shrunk (free_rest geo s a base u held)
  unfolding free_rest
  shrunk-rest a base u held =
      holds-each Shrunk _ (holds-entry Shrunk geo (alike_take geo (ShrinkByte geo start at) start (λ j b. of_books b)) (λ e i h. free_tree geo s 0 e (base + i) h) (λ e i h. shrunk-tree 0 e (base + i) h) a) (per_list geo - u) u held

  shrunk-list : (a : ℕ) → ListOf geo start at a → (base u held : ℕ) → u ≤ per_list geo → Holds Shrunk (shrink_list geo s a base u held)
  unfolding shrink_list
  shrunk-list a of base u held l img p =
      always-choose (eqb a 0) (λ e. always-pure held p)
      (λ e. always-list geo a p (λ ok.
      let ours = sym (steady-run geo p.steady a geo.frag) ∙ ok in
      let b = list_bytes geo start fr a ours in
      always-bind (shrunk-rest a base u held img p)
      (λ h q. let t = always-all (shrunk-rest a base u held img p) in
      always-store-bind (rest_write geo a u ∷ []) (λ _. pure h) t (always-pure h (alike_list geo (ShrinkByte geo start at) start a ours (λ j r. of_list a of ours r) (rest_write geo a u ∷ []) (more (rest_in geo a u b.0 l) none) t)))))

  -- ---- the second zone's root and its lists

  shrunk-lists : (f : ℕ → ℕ) (u held : ℕ) → Holds Shrunk (free_lists geo s f u held)
  unfolding free_lists
  shrunk-lists f u held = holds-each Shrunk _ (λ i h. shrunk-tree 1 (f i) i h) (per_list geo - u) u held

  module _ (a : ℕ) (root : a ≡ address_at geo.order at 13 start) (ok : list_ok geo start a ≡ true) (before : List ℕ) (kept : Booked before) where
    shrunk-from : (base high low held : ℕ) → high < per_list geo → low ≤ per_list geo → Holds Shrunk (shrink_from geo s a base high low held before)
    unfolding shrink_from
    shrunk-from base high low held h l =
        let b = list_bytes geo start fr a ok in
        let w = kept.steady.long in
        let child = entry-stays geo start fr kept.but a ok high h ∙ ap (λ (x : ℕ). entry_at geo start x high) root in
        holds-bind Shrunk (shrunk-list (entry_at geo before a high) (under high h child) base low held l)
        (λ m. holds-bind Shrunk (shrunk-lists (entry_at geo before a) (high + 1) m)
        (λ n img p. always-store-bind (root_write geo before a (high + 1) ∷ []) (λ _. pure n) p
        (always-pure n (alike_list geo (ShrinkByte geo start at) start a ok (λ j r. of_list a (second root) ok r) (root_write geo before a (high + 1) ∷ []) (more (root_in geo before a (high + 1) b.0 (omega (arith, b.1, w)) (omega arith)) none) p))))

  shrunk-second : (a : ℕ) → a ≡ address_at geo.order at 13 start → (base u held : ℕ) → 0 < per_list geo → u < per_list geo * per_list geo → (img : List ℕ) → Booked img → Always Shrunk (shrink_lists geo s a base u held) img
  unfolding shrink_lists
  shrunk-second a root base u held z l img p =
      always-choose (eqb a 0) (λ e. always-pure held (wider p))
      (λ e. always-list geo a (wider p) (λ ok.
      always_at (λ x. shrink_from geo s a (base + u / per_list geo * per_list geo) (u / per_list geo) (u % per_list geo) held x) img
      (shrunk-from a root (sym (steady-run geo p.steady a geo.frag) ∙ ok) img p (base + u / per_list geo * per_list geo) (u / per_list geo) (u % per_list geo) held
      (high-below geo u (per_list geo) refl z l) (low-below geo u (per_list geo) refl z) img (wider p))))

  -- ---- the zones, the last first

  -- the record is read as it was
  at_address_lem : {A : Type 0} {P : List ℕ → Type 0} (k : ℕ) → k < 15 → (f : ℕ → Act A) (img : List ℕ) → Booked img → ((a : ℕ) → a ≡ address_at geo.order at k start → Always P (f a) img) → Always P (at_address geo at k f) img
  unfolding at_address
  at_address_lem k l f img p q = always_at (λ x. f (address_at geo.order at k x)) img (q (address_at geo.order at k img) (address_stays geo start fr p.but inode at is k l))

  -- a zone goes whole, and then what lies below
  then-below : {A B : Type 0} {m : Act A} {f : A → Act B} {img : List ℕ} → Always Booked m img → ((a : A) (x : List ℕ) → Booked x → Always Shrunk (f a) x) → Always Shrunk (m >>= f) img
  then-below p q = always-bind (always_more (λ x b. wider b) p) (λ a e. q a _ (always-all p))

  one-direct : (i h : ℕ) → Holds Booked (at_address geo at i (λ a. free_tree geo s 0 a i h))
  unfolding at_address
  one-direct i h img p = always_at (λ x. free_tree geo s 0 (address_at geo.order at i x) i h) img (booked-tree 0 (address_at geo.order at i img) i h img p)

  shrunk-direct : (keep held : ℕ) → Holds Booked (shrink_direct geo at s keep held)
  unfolding shrink_direct
  shrunk-direct keep held = holds-each Booked _ one-direct (12 - keep) keep held

  shrunk-low : (keep held : ℕ) → keep < zone_start (per_list geo) 2 → (img : List ℕ) → Booked img → Always Shrunk (shrink_low geo at s keep held) img
  unfolding shrink_low
  shrunk-low keep held l img p =
      always-choose (ltb keep (zone_start (per_list geo) 1))
      (λ e. then-below (at_address_lem 12 (omega arith) (λ a. free_tree geo s 1 a 0 held) img p (λ a q. booked-tree 1 a 0 held img p)) (λ h x b. always_more (λ y c. wider c) (shrunk-direct keep h x b)))
      (λ e. at_address_lem 12 (omega arith) (λ a. shrink_list geo s a (zone_start (per_list geo) 1) (keep - zone_start (per_list geo) 1) held) img p
      (λ a q. shrunk-list a (first q) (zone_start (per_list geo) 1) (keep - zone_start (per_list geo) 1) held (rw (start-one (per_list geo)) (first-room geo keep l)) img (wider p)))

  shrunk-mid : (keep held : ℕ) → 0 < per_list geo → keep < zone_start (per_list geo) 3 → (img : List ℕ) → Booked img → Always Shrunk (shrink_mid geo at s keep held) img
  unfolding shrink_mid
  shrunk-mid keep held z l img p =
      always-choose (ltb keep (zone_start (per_list geo) 2))
      (λ e. then-below (at_address_lem 13 (omega arith) (λ a. free_tree geo s 2 a 0 held) img p (λ a q. booked-tree 2 a 0 held img p)) (λ h x b. shrunk-low keep h (ltb-true _ _ e) x b))
      (λ e. at_address_lem 13 (omega arith) (λ a. shrink_lists geo s a (zone_start (per_list geo) 2) (keep - zone_start (per_list geo) 2) held) img p
      (λ a q. shrunk-second a q (zone_start (per_list geo) 2) (keep - zone_start (per_list geo) 2) held z (room (ltb-false _ _ e)) img p))
    where
      room : zone_start (per_list geo) 2 ≤ keep → keep - zone_start (per_list geo) 2 < per_list geo * per_list geo
      room r = rw (start-two (per_list geo)) (third_starts geo keep (per_list geo ^ 1) refl l (rw (start-two (per_list geo)) at r))

  pub shrunk-all : (keep : ℕ) → 0 < per_list geo → keep < zone_start (per_list geo) 3 → (img : List ℕ) → Booked img → Always Shrunk (shrink geo at s keep) img
  unfolding shrink
  shrunk-all keep z l img p =
      then-below (at_address_lem 14 (omega arith) (λ a. free_tree geo s 3 a 0 s.blocks) img p (λ a q. booked-tree 3 a 0 s.blocks img p)) (λ h x b. shrunk-mid keep h z l x b)
