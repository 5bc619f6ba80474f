-- The laws of `specs/Record.antt`: what each test answers, and what an attribute that is taken has. Assumes nothing.
use Rattle.std.specs.Prelude.{Option, Some, None, Result, Ok, Err}
use mathlib.Core.Path.{◌≡◌, refl, sym}
use mathlib.Core.Bool.{Bool, true, false}
use mathlib.Core.List.{List}
use Prim.Native.Nat.{ℕ, ◌+◌, ◌-◌, ◌*◌, ◌/◌, ◌%◌, ◌≤◌, ◌<◌}
use native.Mathlib.Omega.{arith}
use borrow.Author.Tests.{ltb-false, eqb-false, lt-ltb, le-ltb, eq-eqb, ne_eqb}
use lib.ListN.{length}
use lib.Dec.{ltb, eqb}
use Rattle.field.specs.declared.Order.{Order}
use Rattle.field.proofs.Laws.{length-part}
use Rattle.attrrec.specs.declared.Entry.{Entry}
use Rattle.attrrec.specs.Record.{entry_at, name_at, gap, pick_attr, judged, attr_at}
use Rattle.refusal.specs.Refusal.{damage}
use Rattle.refusal.specs.declared.Damage.{Damage}

-- ---- where the value begins

pub gap-low : (b n : ℕ) → 7 + n ≤ gap b n
unfolding gap
gap-low b n = omega arith

pub gap-high : (b n : ℕ) → gap b n ≤ 14 + n
unfolding gap
gap-high b n = omega arith

-- only the place within eight bytes matters
pub gap-over : (b n : ℕ) → (b % 8 + n + 14) / 8 * 8 - b % 8 ≡ gap b n
unfolding gap
gap-over b n = omega arith

pub gap-aligned : (b n : ℕ) → b % 8 ≡ 0 → gap b n ≡ gap 0 n
unfolding gap
gap-aligned b n h = omega arith

-- ---- what each test answers

module _ (b left : ℕ) (e : Entry) where
  pub judged-tail : left < 7 → judged b left e ≡ Ok None
  unfolding judged
  judged-tail h = rw (lt-ltb left 7 h)

  module _ (room : 7 ≤ left) where
    pub judged-nameless : e.namelen ≡ 0 → judged b left e ≡ Ok None
    unfolding judged
    judged-nameless z = rw (le-ltb left 7 room, eq-eqb e.namelen 0 z)

    module _ (some : e.namelen ≡ 0 → ⊥) where
      pub judged-long : 64 < e.namelen → judged b left e ≡ Ok None
      unfolding judged
      judged-long h = rw (le-ltb left 7 room, ne_eqb e.namelen 0 some, lt-ltb 64 e.namelen h)

      module _ (short : e.namelen ≤ 64) where
        pub judged-cut : left < 7 + e.namelen → judged b left e ≡ Err damage
        unfolding judged
        judged-cut h = rw (le-ltb left 7 room, ne_eqb e.namelen 0 some, le-ltb 64 e.namelen short, lt-ltb left (7 + e.namelen) h)

        module _ (name : 7 + e.namelen ≤ left) where
          pub judged-short : e.len < gap b e.namelen → judged b left e ≡ Err damage
          unfolding judged
          judged-short h =
              rw (le-ltb left 7 room, ne_eqb e.namelen 0 some, le-ltb 64 e.namelen short, le-ltb left (7 + e.namelen) name, lt-ltb e.len (gap b e.namelen) h)

          module _ (least : gap b e.namelen ≤ e.len) where
            pub judged-past : left < e.len → judged b left e ≡ Err damage
            unfolding judged
            judged-past h =
                rw (le-ltb left 7 room, ne_eqb e.namelen 0 some, le-ltb 64 e.namelen short, le-ltb left (7 + e.namelen) name, le-ltb e.len (gap b e.namelen) least, lt-ltb left e.len h)

            module _ (inside : e.len ≤ left) where
              pub judged-pad : e.len - gap b e.namelen < e.pad → judged b left e ≡ Err damage
              unfolding judged
              judged-pad h =
                  rw (le-ltb left 7 room, ne_eqb e.namelen 0 some, le-ltb 64 e.namelen short, le-ltb left (7 + e.namelen) name, le-ltb e.len (gap b e.namelen) least, le-ltb left e.len inside, lt-ltb (e.len - gap b e.namelen) e.pad h)

              pub judged-is : e.pad ≤ e.len - gap b e.namelen → judged b left e ≡ Ok (Some e)
              unfolding judged
              judged-is h =
                  rw (le-ltb left 7 room, ne_eqb e.namelen 0 some, le-ltb 64 e.namelen short, le-ltb left (7 + e.namelen) name, le-ltb e.len (gap b e.namelen) least, le-ltb left e.len inside, le-ltb (e.len - gap b e.namelen) e.pad h)

pub attr-judged : (o : Order) (area : List ℕ) (b left : ℕ) (e : Entry) → left ≡ length area - b → e ≡ entry_at o b area → attr_at o area b ≡ judged b left e
unfolding attr_at
attr-judged o area b left e p q = rw (p, q)

-- ---- what an attribute that is taken has

pub record Held (o : Order) (area : List ℕ) (b : ℕ) (e : Entry) : Type 0 where
  pub same : e ≡ entry_at o b area
  pub some : e.namelen ≡ 0 → ⊥
  pub short : e.namelen ≤ 64
  pub name : b + 7 + e.namelen ≤ length area
  pub least : gap b e.namelen ≤ e.len
  pub inside : b + e.len ≤ length area
  pub pad : gap b e.namelen + e.pad ≤ e.len

-- an answer that the test's first arm cannot give is the second arm's
past : (t : Bool) (a b r : Result (Option Entry) Damage) → (a ≡ r → ⊥) → pick_attr t a b ≡ r → (t ≡ false) × (b ≡ r)
past true a b r f e = absurd (f e)
past false a b r f e = (refl, e)

end-is : (x : Entry) → ◌≡◌ {A = Result (Option Entry) Damage} (Ok None) (Ok (Some x)) → ⊥
end-is x e = let z : ◌≡◌ {A = ℕ} 0 1 = cc in omega arith

bad-is : (x : Entry) → ◌≡◌ {A = Result (Option Entry) Damage} (Err damage) (Ok (Some x)) → ⊥
bad-is x e = let z : ◌≡◌ {A = ℕ} 0 1 = cc in omega arith

pub held : (o : Order) (area : List ℕ) (b : ℕ) (e : Entry) → attr_at o area b ≡ Ok (Some e) → Held o area b e
unfolding attr_at judged
held o area b e h =
    let f = entry_at o b area in
    let left = length area - b in
    let room = past (ltb left 7) (Ok None) _ (Ok (Some e)) (end-is e) h in
    let some = past (eqb f.namelen 0) (Ok None) _ (Ok (Some e)) (end-is e) room.1 in
    let short = past (ltb 64 f.namelen) (Ok None) _ (Ok (Some e)) (end-is e) some.1 in
    let name = past (ltb left (7 + f.namelen)) (Err damage) _ (Ok (Some e)) (bad-is e) short.1 in
    let least = past (ltb f.len (gap b f.namelen)) (Err damage) _ (Ok (Some e)) (bad-is e) name.1 in
    let inside = past (ltb left f.len) (Err damage) _ (Ok (Some e)) (bad-is e) least.1 in
    let pad = past (ltb (f.len - gap b f.namelen) f.pad) (Err damage) _ (Ok (Some e)) (bad-is e) inside.1 in
    let q : f ≡ e = let w = pad.1 in cc in
    let l7 = ltb-false left 7 room.0 in
    let ln = ltb-false left (7 + f.namelen) name.0 in
    let ll = ltb-false f.len (gap b f.namelen) least.0 in
    let li = ltb-false left f.len inside.0 in
    let lp = ltb-false (f.len - gap b f.namelen) f.pad pad.0 in
    record {
      same = sym q;
      some = rw (← q) (eqb-false f.namelen 0 some.0);
      short = rw (← q) (ltb-false 64 f.namelen short.0);
      name = rw (← q) (omega arith);
      least = rw (← q) ll;
      inside = rw (← q) (omega arith);
      pad = rw (← q) (omega arith);
    }

pub name-length : (area : List ℕ) (b : ℕ) (e : Entry) → b + 7 + e.namelen ≤ length area → length (name_at area b e) ≡ e.namelen
unfolding name_at
name-length area b e h = length-part e.namelen (b + 7) area h
