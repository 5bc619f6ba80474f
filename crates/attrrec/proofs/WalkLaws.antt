-- The laws of `specs/Walk.antt`: the walk ends, and goes on attribute by attribute. Assumes nothing.
use Rattle.std.specs.Prelude.{Option, Some, None, Result, Ok, Err}
use mathlib.Core.Path.{◌≡◌, refl, ap}
use mathlib.Core.List.{List}
use Prim.Native.Nat.{ℕ, zero, suc, ◌+◌, ◌-◌, ◌≤◌, ◌<◌}
use native.Mathlib.Omega.{arith}
use lib.ListN.{length}
use Rattle.field.specs.declared.Order.{Order}
use Rattle.attrrec.specs.declared.Entry.{Entry}
use Rattle.attrrec.specs.Record.{attr_at}
use Rattle.attrrec.specs.Walk.{ended, damaged, halt, ahead, onward, walk_for, walk_from}
use Rattle.attrrec.proofs.RecordLaws.{held, gap-low}
use Rattle.refusal.specs.Refusal.{damage}
use Rattle.refusal.specs.declared.Damage.{Damage}

-- an attribute that is taken is at least 8 bytes long, and it and its name end in the area
pub record Sized (area : List ℕ) (b : ℕ) (e : Entry) : Type 0 where
  pub long : 8 ≤ e.len
  pub inside : b + e.len ≤ length area
  pub name : b + 7 + e.namelen ≤ length area
  pub short : e.namelen ≤ 64

module _ (o : Order) (area : List ℕ) where
  pub sized : (b : ℕ) (e : Entry) → attr_at o area b ≡ Ok (Some e) → Sized area b e
  sized b e h =
      let d = held o area b e h in
      record { long = let s = d.some in omega (arith, d.least, gap-low b e.namelen); inside = d.inside; name = d.name; short = d.short }

  -- the turns given are enough: more make no difference
  pub enough : (n m b : ℕ) → length area - b < n → length area - b < m → walk_for o area n b ≡ walk_for o area m b
  unfolding walk_for
  enough zero m b l r = absurd (let z : ⊥ = omega arith in z)
  enough (suc n) zero b l r = absurd (let z : ⊥ = omega arith in z)
  enough (suc n) (suc m) b l r = go (attr_at o area b) refl (enough n m)
    where
      go : (k : Result (Option Entry) Damage) → attr_at o area b ≡ k
          → ((q : ℕ) → length area - q < n → length area - q < m → walk_for o area n q ≡ walk_for o area m q)
          → onward b k (walk_for o area n) ≡ onward b k (walk_for o area m)
      go (Ok (Some e)) h f =
          let s = sized b e h in
          ap (ahead (record { pos = b; entry = e })) (f (b + e.len) (omega arith) (omega arith))
      go (Ok None) h f = refl
      go (Err harm) h f = refl

  -- the walk goes on attribute by attribute, and stops at the end or at damage
  pub walk_is : (b : ℕ) (e : Entry) → attr_at o area b ≡ Ok (Some e) → walk_from o area b ≡ ahead (record { pos = b; entry = e }) (walk_from o area (b + e.len))
  unfolding walk_from walk_for
  walk_is b e h =
      let s = sized b e h in
      rw h (ap (ahead (record { pos = b; entry = e })) (enough (length area) (suc (length area)) (b + e.len) (omega arith) (omega arith)))

  pub walk_end : (b : ℕ) → attr_at o area b ≡ Ok None → walk_from o area b ≡ halt ended
  unfolding walk_from walk_for
  walk_end b h = rw h

  pub walk-bad : (b : ℕ) → attr_at o area b ≡ Err damage → walk_from o area b ≡ halt damaged
  unfolding walk_from walk_for
  walk-bad b h = rw h
