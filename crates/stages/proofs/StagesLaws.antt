-- The laws of `specs/Stages.antt`: each stage's refusal where all stages before it pass. Assumes nothing.
use mathlib.Core.Path.{◌≡◌, refl, ◌∙◌}
use mathlib.Core.Bool.{Bool, true, false}
use Prim.Native.Nat.{ℕ}
use native.Mathlib.Omega.{arith}
use Rattle.refusal.specs.declared.Refusal.{Refusal}
use Rattle.refusal.specs.declared.Refusal.TheVariants.{Invalid, NameTooLong, NotDirectory, IsDirectory, Damaged}
use Rattle.store.specs.Act.{Out, got, refused}
use Rattle.stages.specs.Stages.{Stages, in_order, both_out, where_found, on_found}

-- ---- tests that the call's arguments and the inodes it meets decide

-- the names, numbers, inodes and kinds are such as the call takes
pub record Ready (s : Stages) : Type 0 where
  pub names : s.names ≡ true
  pub lengths : s.lengths ≡ true
  pub numbers : s.numbers ≡ true
  pub inodes : s.inodes ≡ true
  pub dirs : s.dirs ≡ true
  pub files : s.files ≡ true
  pub kinds : s.kinds ≡ true

module _ (s : Stages) where
  pub at_names : s.names ≡ false → in_order s ≡ refused Invalid
  unfolding in_order
  at_names h = rw h

  module _ (n : s.names ≡ true) where
    pub at-lengths : s.lengths ≡ false → in_order s ≡ refused NameTooLong
    unfolding in_order
    at-lengths h = rw (n, h)

    module _ (l : s.lengths ≡ true) where
      pub at-numbers : s.numbers ≡ false → in_order s ≡ refused Invalid
      unfolding in_order
      at-numbers h = rw (n, l, h)

      module _ (u : s.numbers ≡ true) where
        pub at-inodes : s.inodes ≡ false → in_order s ≡ refused Invalid
        unfolding in_order
        at-inodes h = rw (n, l, u, h)

        module _ (i : s.inodes ≡ true) where
          pub at-dirs : s.dirs ≡ false → in_order s ≡ refused NotDirectory
          unfolding in_order
          at-dirs h = rw (n, l, u, i, h)

          module _ (d : s.dirs ≡ true) where
            pub at-files : s.files ≡ false → in_order s ≡ refused IsDirectory
            unfolding in_order
            at-files h = rw (n, l, u, i, d, h)

            pub at-kinds : s.files ≡ true → s.kinds ≡ false → in_order s ≡ refused Damaged
            unfolding in_order
            at-kinds f h = rw (n, l, u, i, d, f, h)

-- ---- tests that walk the directories

module _ (s : Stages) (r : Ready s) where
  pub at-walk : (e : Refusal) → s.walk ≡ refused e → in_order s ≡ refused e
  unfolding in_order
  at-walk e h = rw (r.names, r.lengths, r.numbers, r.inodes, r.dirs, r.files, r.kinds, h)

  module _ (w : s.walk ≡ got (tt {0})) where
    pub at_target : (e : Refusal) → s.target ≡ refused e → in_order s ≡ refused e
    unfolding in_order
    at_target e h = rw (r.names, r.lengths, r.numbers, r.inodes, r.dirs, r.files, r.kinds, w, h)

    module _ (t : s.target ≡ got (tt {0})) where
      pub at-empty : (e : Refusal) → s.empty ≡ refused e → in_order s ≡ refused e
      unfolding in_order
      at-empty e h = rw (r.names, r.lengths, r.numbers, r.inodes, r.dirs, r.files, r.kinds, w, t, h)

      module _ (m : s.empty ≡ got (tt {0})) where
        pub at-links : (e : Refusal) → s.links ≡ refused e → in_order s ≡ refused e
        unfolding in_order
        at-links e h = rw (r.names, r.lengths, r.numbers, r.inodes, r.dirs, r.files, r.kinds, w, t, m, h)

        module _ (k : s.links ≡ got (tt {0})) where
          pub at-ends : (e : Refusal) → s.ends ≡ refused e → in_order s ≡ refused e
          unfolding in_order
          at-ends e h = rw (r.names, r.lengths, r.numbers, r.inodes, r.dirs, r.files, r.kinds, w, t, m, k, h)

          -- the last stage's answer is the answer
          pub at-tails : s.ends ≡ got (tt {0}) → in_order s ≡ s.tails
          unfolding in_order
          at-tails d = rw (r.names, r.lengths, r.numbers, r.inodes, r.dirs, r.files, r.kinds, w, t, m, k, d)

-- ---- all of them

pub record Passed (s : Stages) : Type 0 where
  pub ready : Ready s
  pub walk : s.walk ≡ got (tt {0})
  pub target : s.target ≡ got (tt {0})
  pub empty : s.empty ≡ got (tt {0})
  pub links : s.links ≡ got (tt {0})
  pub ends : s.ends ≡ got (tt {0})
  pub tails : s.tails ≡ got (tt {0})

pub passes : (s : Stages) → Passed s → in_order s ≡ got (tt {0})
passes s p = at-tails s p.ready p.walk p.target p.empty p.links p.ends ∙ p.tails

-- ---- inside a stage

pub both_first : (x y : Out (Unit {0})) (e : Refusal) → x ≡ refused e → both_out x y ≡ refused e
unfolding both_out
both_first x y e h = rw h

pub both_then : (x y : Out (Unit {0})) → x ≡ got (tt {0}) → both_out x y ≡ y
unfolding both_out
both_then x y h = rw h

pub both_passed : (x y : Out (Unit {0})) → both_out x y ≡ got (tt {0}) → (x ≡ got (tt {0})) × (y ≡ got (tt {0}))
unfolding both_out
both_passed (got a) y h = (refl, h)
both_passed (refused e) y h = absurd (let z : ◌≡◌ {A = ℕ} 0 1 = cc in let y : ⊥ = omega arith in y)

module _ {A : Type 0} (o : Out A) where
  pub where-got : (p : A → Bool) (a : A) → o ≡ got a → where_found o p ≡ p a
  unfolding where_found
  where-got p a h = rw h

  pub where-refused : (p : A → Bool) (e : Refusal) → o ≡ refused e → where_found o p ≡ true
  unfolding where_found
  where-refused p e h = rw h

  pub on-got : (f : A → Out (Unit {0})) (a : A) → o ≡ got a → on_found o f ≡ f a
  unfolding on_found
  on-got f a h = rw h

  pub on-refused : (f : A → Out (Unit {0})) (e : Refusal) → o ≡ refused e → on_found o f ≡ got (tt {0})
  unfolding on_found
  on-refused f e h = rw h
