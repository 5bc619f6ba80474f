-- Laws of rmdir's tests one by one: the inodes of "." and "..", the counts, and the three records that go. Assumes nothing.
use Rattle.std.specs.Prelude.{Option, Some, None, Result, Ok, Err}
use Rattle.std.specs.Result.{result_unwrap_or}
use mathlib.Core.Path.{◌≡◌, refl, sym, ap, ◌∙◌}
use mathlib.Core.Bool.{Bool, true, false, not, ◌&&◌}
use mathlib.Core.List.{List}
use Prim.Native.Nat.{ℕ, ◌+◌, ◌-◌, ◌*◌, ◌≤◌, ◌<◌}
use native.Mathlib.Nat.{div-lt_iff_lt-mul}
use native.Mathlib.Omega.{arith}
use lib.Dec.{eqb, ltb, leb}
use borrow.Author.Tests.{eq-eqb, ne_eqb, le-ltb, lt-ltb, le-leb, lt-leb, leb-false, ltb-true, ltb-false, not-true}
use Rattle.bits.proofs.UptoLaws as Upto
use Rattle.field.specs.declared.Order.{Order}
use Rattle.refusal.specs.declared.Refusal.{Refusal}
use Rattle.store.specs.Act.{Out, got, refused}
use Rattle.volume.specs.declared.Geometry.{Geometry}
use Rattle.volume.specs.Volume.{inode_at}
use Rattle.sound.specs.Test.{Sized}
use Rattle.inode.specs.Size.{extent_of}
use Rattle.inode.specs.Places.{nlink_at}
use Rattle.inode.proofs.SizeLaws.{units, size-is}
use Rattle.mapping.specs.Zones.{zone_start}
use Rattle.mapping.specs.Mapping.{per_list}
use Rattle.mapping.proofs.ZoneLaws.{start-three}
use Rattle.inode_run.specs.declared.Spot.{Spot}
use Rattle.inode_run.specs.Judge.{and_then}
use Rattle.inode_grow.specs.Grow.{zones_bytes}
use Rattle.inode_truncate.specs.Truncate.{keep_of}
use Rattle.inode_truncate.proofs.KeepLaws.{keep-tail, keep-whole}
use Rattle.dirblock.specs.declared.Unlinked.{Unlinked}
use Rattle.dirblock.specs.Link.{unlink_in}
use Rattle.dirfile.specs.Block.{dir_block, read_into}
use Rattle.dirwalk.specs.declared.Hit.{Hit}
use Rattle.dirwalk.specs.Walk.{seen_out}
use Rattle.dirother.specs.Other.{others_dir}
use Rattle.dirjudge.specs.Judge.{drop_end, drop_tail}
use Rattle.dirjudge.proofs.JudgeLaws.{end-is, tail-is}
use Rattle.unlink_judge.specs.Unlink.{hit_where, found_ok, fall_out}
use Rattle.unlink_judge.proofs.UnlinkLaws.{found_number}
use Rattle.rmdir_judge.specs.Rmdir.{dot, dotdot, falls, remains, remain_all, own_ok, empty_out, counts_out, is_alone, alone_in, own_after, size_after, drops_out, hits_out}
use Rattle.refusal.specs.Refusal.{damage}
use Rattle.refusal.specs.declared.Damage.{Damage}

second-none : (a b : Bool) → b ≡ false → (a && b) ≡ false
second-none true b h = h
second-none false b h = refl

-- ---- what is still there after the call's own falls

pub falls-same : (x y : ℕ) → x ≡ y → 1 ≡ falls x y
falls-same x y e = rw (eq-eqb x y e)

pub falls-other : (x y : ℕ) → (x ≡ y → ⊥) → 0 ≡ falls x y
falls-other x y h = rw (ne_eqb x y h)

module _ (geo : Geometry) (img : List ℕ) where
  pub remains-is : (x n at links : ℕ) → at ≡ inode_at geo x → links ≡ nlink_at geo.order at img → not (ltb 0 links && leb links n) ≡ remains geo img x n
  unfolding remains
  remains-is x n at links p q = rw (q, p)

  module _ (x n : ℕ) where
    -- a count that the falls before did not use up
    pub remains-held : n < nlink_at geo.order (inode_at geo x) img → remains geo img x n ≡ true
    unfolding remains
    remains-held l = rw (lt-leb (nlink_at geo.order (inode_at geo x) img) n l) (ap not (second-none (ltb 0 (nlink_at geo.order (inode_at geo x) img)) false refl))

    -- one that they did
    pub remains-spent : 0 < nlink_at geo.order (inode_at geo x) img → nlink_at geo.order (inode_at geo x) img ≤ n → remains geo img x n ≡ false
    unfolding remains
    remains-spent l m = rw (lt-ltb 0 (nlink_at geo.order (inode_at geo x) img) l, le-leb (nlink_at geo.order (inode_at geo x) img) n m)

    -- where an inode is still there, a count that is not 0 as stored is not 0 as the step meets it
    pub remains-left : remains geo img x n ≡ true → 0 < nlink_at geo.order (inode_at geo x) img → n < nlink_at geo.order (inode_at geo x) img
    unfolding remains
    remains-left h l = leb-false (nlink_at geo.order (inode_at geo x) img) n (rw (lt-ltb 0 (nlink_at geo.order (inode_at geo x) img) l) at (not-true (ltb 0 (nlink_at geo.order (inode_at geo x) img) && leb (nlink_at geo.order (inode_at geo x) img) n) h))

  pub remain-is : (i q c n m k : ℕ) → n ≡ falls i q → m ≡ falls i c → k ≡ falls c q → (a b d : Bool) → a ≡ remains geo img i n → b ≡ remains geo img c k → d ≡ remains geo img i (n + m)
      → (a && b && d) ≡ remain_all geo img i q c
  unfolding remain_all
  remain-is i q c n m k en em ek a b d ea eb ed = rw (ea, eb, ed, en, em, ek)

-- ---- the inodes of the records found

module _ (p : Hit → Bool) (x : Result (Option Hit) Damage) where
  pub hit-at : {h : Hit} → x ≡ Ok (Some h) → p h ≡ hit_where (seen_out x) p
  hit-at e = rw e

  -- damage is not judged here either
  pub hit-none : result_unwrap_or x None ≡ None → true ≡ hit_where (seen_out x) p
  hit-none e = go x e
    where
      go : (x : Result (Option Hit) Damage) → result_unwrap_or x None ≡ None → true ≡ hit_where (seen_out x) p
      go (Ok (Some h)) e = absurd (let z : ◌≡◌ {A = ℕ} 0 1 = cc in let y : ⊥ = omega arith in y)
      go (Ok None) e = refl
      go (Err harm) e = refl

pub unwrapped : (x : Result (Option Hit) Damage) {h : Hit} → Some h ≡ result_unwrap_or x None → x ≡ Ok (Some h)
unwrapped (Ok o) e = ap Ok (sym e)
unwrapped (Err harm) e = absurd (let z : ◌≡◌ {A = ℕ} 0 1 = cc in let y : ⊥ = omega arith in y)

first_no : (a b : Bool) → a ≡ false → false ≡ (a && b)
first_no a b h = rw h

second_no : (a b d : Bool) → a ≡ true → b ≡ false → false ≡ (a && (b && d))
second_no a b d h k = rw (h, k)

third_is : (a b d t : Bool) → a ≡ true → b ≡ true → t ≡ d → t ≡ (a && (b && d))
third_is a b d t h k e = rw (h, k) e

module _ (geo : Geometry) (img : List ℕ) where
  abbrev pub its_ok : Hit → Bool
  its_ok h = found_ok geo img h.inr

  pub hit-number : (x : Result (Option Hit) Damage) {h : Hit} → x ≡ Ok (Some h) → hit_where (seen_out x) its_ok ≡ true → h.inr < geo.ncg * geo.ipg
  hit-number x {h} e t = found_number geo img h.inr (hit-at its_ok x e ∙ t)

  module _ (i : ℕ) (up own : Result (Option Hit) Damage) where
    abbrev pub met_by : Hit → Hit → Bool
    met_by q c = remain_all geo img i q.inr c.inr

    pub own-no-up : hit_where (seen_out up) its_ok ≡ false → false ≡ own_ok geo img i (seen_out up) (seen_out own)
    unfolding own_ok
    own-no-up h = first_no _ _ h

    module _ (u : hit_where (seen_out up) its_ok ≡ true) where
      pub own-no-own : hit_where (seen_out own) its_ok ≡ false → false ≡ own_ok geo img i (seen_out up) (seen_out own)
      unfolding own_ok
      own-no-own h = second_no _ _ _ u h

      module _ (o : hit_where (seen_out own) its_ok ≡ true) where
        own-third : (t : Bool) → t ≡ hit_where (seen_out up) (λ q. hit_where (seen_out own) (met_by q)) → t ≡ own_ok geo img i (seen_out up) (seen_out own)
        unfolding own_ok
        own-third t e = third_is _ _ _ t u o e

        pub own-met : {q c : Hit} → up ≡ Ok (Some q) → own ≡ Ok (Some c) → (t : Bool) → t ≡ remain_all geo img i q.inr c.inr → t ≡ own_ok geo img i (seen_out up) (seen_out own)
        own-met {q} {c} eq ec t e = own-third t (e ∙ hit-at (met_by q) own ec ∙ hit-at (λ q. hit_where (seen_out own) (met_by q)) up eq)

        pub own-no-dot : {q : Hit} → up ≡ Ok (Some q) → result_unwrap_or own None ≡ None → true ≡ own_ok geo img i (seen_out up) (seen_out own)
        own-no-dot {q} eq ec = own-third true (hit-none (met_by q) own ec ∙ hit-at (λ q. hit_where (seen_out own) (met_by q)) up eq)

        pub own-no-dots : result_unwrap_or up None ≡ None → true ≡ own_ok geo img i (seen_out up) (seen_out own)
        own-no-dots eq = own-third true (hit-none (λ q. hit_where (seen_out own) (met_by q)) up eq)

    -- where the test passes, both are of the volume
    pub own-numbers : own_ok geo img i (seen_out up) (seen_out own) ≡ true → (hit_where (seen_out up) its_ok ≡ true) × (hit_where (seen_out own) its_ok ≡ true)
    unfolding own_ok
    own-numbers h = let q = Upto.both _ _ h in (q.0, (Upto.both _ _ q.1).0)

-- ---- the counts

module _ (geo : Geometry) (img : List ℕ) (i q c : ℕ) where
  pub counts-first : (z : Refusal) → refused z ≡ fall_out geo img q → refused z ≡ counts_out geo img i q c
  unfolding counts_out
  counts-first z h = rw (← h)

  module _ (a : got (tt {0}) ≡ fall_out geo img q) where
    pub counts-second : (z : Refusal) → refused z ≡ fall_out geo img c → refused z ≡ counts_out geo img i q c
    unfolding counts_out
    counts-second z h = rw (← a, ← h)

    pub counts-third : got (tt {0}) ≡ fall_out geo img c → (x : Out (Unit {0})) → x ≡ fall_out geo img i → x ≡ counts_out geo img i q c
    unfolding counts_out
    counts-third b x h = rw (← a, ← b) h

-- ---- "." in the block that ".." went from

module _ (o : Order) (d : Out (List ℕ)) (ok : Bool) (b : List ℕ) (e : d ≡ read_into ok b) where
  pub alone-unread : ok ≡ false → false ≡ alone_in o d
  alone-unread h = rw (e, h)

  pub alone-read : ok ≡ true → (u : Result Unlinked Damage) (x : List ℕ) → (x, u) ≡ unlink_in o b dotdot → (w : Result Unlinked Damage) (y : List ℕ) → (y, w) ≡ unlink_in o x dot → is_alone w ≡ alone_in o d
  alone-read h u x ex w y ey =
      let p : x ≡ (unlink_in o b dotdot).0 = ap (λ (z : List ℕ × Result Unlinked Damage). z.0) ex in
      let q : w ≡ (unlink_in o x dot).1 = ap (λ (z : List ℕ × Result Unlinked Damage). z.1) ey in
      rw (e, h, ← p, ← q)

module _ (geo : Geometry) (img : List ℕ) (e : Spot) (up own : Hit) where
  pub own-shared : (not up.alone && eqb up.block own.block) ≡ true → (t : Bool) → t ≡ alone_in geo.order (dir_block geo e.at e.shape.size img own.block)
      → ◌≡◌ {A = Hit} (record { block = own.block; inr = own.inr; alone = t }) (own_after geo img e up own)
  unfolding own_after
  own-shared h t q = rw (h, ← q)

  pub own-found : (not up.alone && eqb up.block own.block) ≡ false → own ≡ own_after geo img e up own
  unfolding own_after
  own-found h = rw h

pub size_less : (size : ℕ) (up : Hit) → up.alone ≡ true → size - 512 ≡ size_after size up
size_less size up h = rw h

pub size-same : (size : ℕ) (up : Hit) → up.alone ≡ false → size ≡ size_after size up
size-same size up h = rw h

-- ---- what is shorter than a block of 512 bytes

module _ (geo : Geometry) (size : ℕ) (h : Hit) (l : size < 512) where
  none_left : size - 512 ≡ 0
  none_left = omega arith

  pub small-end : got (tt {0}) ≡ drop_end geo size h
  small-end = end-is geo size h (zones_bytes geo) refl false (second-none h.alone (ltb (zones_bytes geo) (size - 512)) (le-ltb (zones_bytes geo) (size - 512) (omega (arith, none_left))))

keep-few : (geo : Geometry) → Sized geo → (s : ℕ) → s ≡ 0 → keep_of geo s < 12
keep-few geo z s e = go (ltb 0 (extent_of geo s).frags) refl
  where
    none : (extent_of geo s).blocks < 1
    none = let u = (units geo z).block in rw (size-is geo.bsize geo.fsize s) ((div-lt_iff_lt-mul {k = geo.bsize} {x = s} {y = 1} (omega (arith, u))).1 (omega (arith, u)))

    go : (t : Bool) → ltb 0 (extent_of geo s).frags ≡ t → keep_of geo s < 12
    go true q = omega (arith, none, keep-tail geo s (ltb-true 0 (extent_of geo s).frags q))
    go false q = omega (arith, none, keep-whole geo s (ltb-false 0 (extent_of geo s).frags q))

pub small-tail : (geo : Geometry) (size : ℕ) (h : Hit) → size < 512 → Sized geo → got (tt {0}) ≡ drop_tail geo size h
small-tail geo size h l z =
    let low : keep_of geo (size - 512) < zone_start (per_list geo) 3 = omega (arith, keep-few geo z (size - 512) (omega arith), start-three (per_list geo)) in
    tail-is geo size h true (sym (lt-ltb (keep_of geo (size - 512)) (zone_start (per_list geo) 3) low)) false (second-none h.alone (not true) refl)

-- ---- the three records that go, by one test

module _ (drop : Geometry → ℕ → Hit → Out (Unit {0})) (geo : Geometry) (img : List ℕ) (size : ℕ) (e : Spot) (link up own : Hit) where
  pub drops-first : (z : Refusal) → refused z ≡ drop geo size link → refused z ≡ drops_out drop geo img size e link up own
  unfolding drops_out
  drops-first z h = rw (← h)

  module _ (a : got (tt {0}) ≡ drop geo size link) where
    pub drops-second : (z : Refusal) → refused z ≡ drop geo e.shape.size up → refused z ≡ drops_out drop geo img size e link up own
    unfolding drops_out
    drops-second z h = rw (← a, ← h)

    pub drops-third : got (tt {0}) ≡ drop geo e.shape.size up → (left : ℕ) (last : Hit) → left ≡ size_after e.shape.size up → last ≡ own_after geo img e up own
        → (x : Out (Unit {0})) → x ≡ drop geo left last → x ≡ drops_out drop geo img size e link up own
    unfolding drops_out
    drops-third b left last el eh x h = rw (← a, ← b, ← el, ← eh) h

-- two tests, of which the first that refuses answers
module _ (a b : Out (Unit {0})) where
  pub first-refuses : (z : Refusal) → refused z ≡ a → refused z ≡ and_then a (λ _. b)
  first-refuses z h = rw (← h)

  pub second-tells : got (tt {0}) ≡ a → (x : Out (Unit {0})) → x ≡ b → x ≡ and_then a (λ _. b)
  second-tells g x h = rw (← g) h

-- ---- all that is judged of what was found

module _ (geo : Geometry) (img : List ℕ) (size : ℕ) (e : Spot) (i : ℕ) (link up own : Hit) (x : Out (Unit {0})) (ex : x ≡ empty_out (others_dir geo e.at e.shape.size img)) where
  pub hits-stop : (z : Refusal) → x ≡ refused z → refused z ≡ hits_out geo img size e i link up own
  unfolding hits_out
  hits-stop z h = rw (← ex, h)

  pub hits-go : x ≡ got (tt {0}) → (k d r : Out (Unit {0})) → k ≡ counts_out geo img i up.inr own.inr
      → d ≡ and_then (drops_out drop_end geo img size e link up own) (λ _. drops_out drop_tail geo img size e link up own) → r ≡ and_then k (λ _. d) → r ≡ hits_out geo img size e i link up own
  unfolding hits_out
  hits-go h k d r ek ed er = rw (← ex, h, er, ek, ed)
