-- The laws of `specs/Record.antt`: what each test answers, and what a record that is used has. Assumes nothing.
use mathlib.Core.Path.{◌≡◌, refl, sym}
use mathlib.Core.Bool.{Bool, true, false}
use mathlib.Core.List.{List}
use Prim.Native.Nat.{ℕ, ◌+◌, ◌-◌, ◌≤◌, ◌<◌}
use native.Mathlib.Omega.{arith}
use borrow.Author.Tests.{ltb-false, eqb-false, lt-ltb, le-ltb, eq-eqb, ne_eqb}
use lib.ListN.{length}
use lib.Dec.{ltb, eqb}
use Rattle.field.specs.declared.Order.{Order}
use Rattle.dirblock.specs.declared.Entry.{Entry}
use Rattle.dirblock.specs.declared.Rec.{Rec}
use Rattle.dirblock.specs.declared.Rec.TheVariants.{Used, Unused, End, Bad}
use Rattle.dirblock.specs.Record.{smallest_read, smallest_new, kind_known, entry_at, pick_rec, judged, rec_at}

-- ---- smallest lengths

pub smallest-low : (n : ℕ) → 8 + n ≤ smallest_read n
unfolding smallest_read
smallest-low n = omega arith

pub smallest-high : (n : ℕ) → smallest_read n ≤ n + 11
unfolding smallest_read
smallest-high n = omega arith

pub new-low : (n : ℕ) → 8 + n ≤ smallest_new n
unfolding smallest_new
new-low n = omega arith

pub new_enough : (n : ℕ) → smallest_read n ≤ smallest_new n
unfolding smallest_read smallest_new
new_enough n = omega arith

-- ---- what each test answers

module _ (left : ℕ) (e : Entry) where
  pub judged-tail : left < 8 → judged left e ≡ End
  unfolding judged
  judged-tail h = rw (lt-ltb left 8 h)

  module _ (room : 8 ≤ left) where
    pub judged-none : e.reclen ≡ 0 → judged left e ≡ End
    unfolding judged
    judged-none z = rw (le-ltb left 8 room, eq-eqb e.reclen 0 z)

    module _ (some : e.reclen ≡ 0 → ⊥) where
      pub judged-short : e.reclen < smallest_read e.namelen → judged left e ≡ Bad
      unfolding judged
      judged-short h = rw (le-ltb left 8 room, ne_eqb e.reclen 0 some, lt-ltb e.reclen (smallest_read e.namelen) h)

      module _ (least : smallest_read e.namelen ≤ e.reclen) where
        pub judged-past : left < e.reclen → judged left e ≡ Bad
        unfolding judged
        judged-past h =
            rw (le-ltb left 8 room, ne_eqb e.reclen 0 some, le-ltb e.reclen (smallest_read e.namelen) least, lt-ltb left e.reclen h)

        module _ (inside : e.reclen ≤ left) where
          pub judged-free : e.inr ≡ 0 → judged left e ≡ End
          unfolding judged
          judged-free z =
              rw (le-ltb left 8 room, ne_eqb e.reclen 0 some, le-ltb e.reclen (smallest_read e.namelen) least, le-ltb left e.reclen inside, eq-eqb e.inr 0 z)

          pub judged-kind : (e.inr ≡ 0 → ⊥) → judged left e ≡ pick_rec (kind_known e.kind) (Used e) Bad
          unfolding judged
          judged-kind z =
              rw (le-ltb left 8 room, ne_eqb e.reclen 0 some, le-ltb e.reclen (smallest_read e.namelen) least, le-ltb left e.reclen inside, ne_eqb e.inr 0 z)

pub rec_judged : (o : Order) (block : List ℕ) (pos left : ℕ) (e : Entry) → left ≡ length block - pos → e ≡ entry_at o pos block → rec_at o block pos ≡ judged left e
unfolding rec_at
rec_judged o block pos left e p q = rw (p, q)

-- ---- what a record that is used has

pub record Held (o : Order) (block : List ℕ) (pos : ℕ) (e : Entry) : Type 0 where
  pub same : e ≡ entry_at o pos block
  pub least : smallest_read e.namelen ≤ e.reclen
  pub inside : pos + e.reclen ≤ length block
  pub inode : e.inr ≡ 0 → ⊥
  pub kind : kind_known e.kind ≡ true

-- an answer that the test's first arm cannot give is the second arm's
past : (t : Bool) (a b r : Rec) → (a ≡ r → ⊥) → pick_rec t a b ≡ r → (t ≡ false) × (b ≡ r)
past true a b r f e = absurd (f e)
past false a b r f e = (refl, e)

end-used : (x : Entry) → End ≡ Used x → ⊥
end-used x e = let z : ◌≡◌ {A = ℕ} 0 1 = cc in omega arith

bad-used : (x : Entry) → Bad ≡ Used x → ⊥
bad-used x e = let z : ◌≡◌ {A = ℕ} 0 1 = cc in omega arith

end_unused : (x : Entry) → End ≡ Unused x → ⊥
end_unused x e = let z : ◌≡◌ {A = ℕ} 0 1 = cc in omega arith

bad_unused : (x : Entry) → Bad ≡ Unused x → ⊥
bad_unused x e = let z : ◌≡◌ {A = ℕ} 0 1 = cc in omega arith

last-used : (t : Bool) (e x : Entry) → pick_rec t (Used e) Bad ≡ Used x → (t ≡ true) × (e ≡ x)
last-used true e x q = (refl, cc)
last-used false e x q = absurd (bad-used x q)

last_unused : (t : Bool) (e x : Entry) → pick_rec t (Used e) Bad ≡ Unused x → ⊥
last_unused true e x q = let z : ◌≡◌ {A = ℕ} 0 1 = cc in omega arith
last_unused false e x q = bad_unused x q

module _ (o : Order) (block : List ℕ) (pos : ℕ) (e : Entry) where
  pub held : rec_at o block pos ≡ Used e → Held o block pos e
  unfolding rec_at judged
  held h =
      let f = entry_at o pos block in
      let left = length block - pos in
      let a = past (ltb left 8) End _ (Used e) (end-used e) h in
      let b = past (eqb f.reclen 0) End _ (Used e) (end-used e) a.1 in
      let c = past (ltb f.reclen (smallest_read f.namelen)) Bad _ (Used e) (bad-used e) b.1 in
      let d = past (ltb left f.reclen) Bad _ (Used e) (bad-used e) c.1 in
      let g = past (eqb f.inr 0) End _ (Used e) (end-used e) d.1 in
      let k = last-used (kind_known f.kind) f e g.1 in
      let q = k.1 in
      let l = ltb-false left 8 a.0 in
      let u = ltb-false left f.reclen d.0 in
      record {
        same = sym q;
        least = rw (← q) (ltb-false f.reclen (smallest_read f.namelen) c.0);
        inside = rw (← q) (omega arith);
        inode = rw (← q) (eqb-false f.inr 0 g.0);
        kind = rw (← q) k.0;
      }

  -- the base never answers Unused
  pub never-unused : rec_at o block pos ≡ Unused e → ⊥
  unfolding rec_at judged
  never-unused h =
      let f = entry_at o pos block in
      let left = length block - pos in
      let a = past (ltb left 8) End _ (Unused e) (end_unused e) h in
      let b = past (eqb f.reclen 0) End _ (Unused e) (end_unused e) a.1 in
      let c = past (ltb f.reclen (smallest_read f.namelen)) Bad _ (Unused e) (bad_unused e) b.1 in
      let d = past (ltb left f.reclen) Bad _ (Unused e) (bad_unused e) c.1 in
      let g = past (eqb f.inr 0) End _ (Unused e) (end_unused e) d.1 in
      last_unused (kind_known f.kind) f e g.1
