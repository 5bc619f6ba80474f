-- Laws of looking a name up: one for each test, in 01's order. Assumes nothing.
use Rattle.std.specs.Prelude.{Option, Result, Ok, Err}
use mathlib.Core.Path.{◌≡◌, refl, sym, ap, ◌∙◌}
use mathlib.Core.Bool.{true, false}
use mathlib.Core.List.{List}
use Prim.Native.Nat.{ℕ}
use Rattle.refusal.specs.declared.Refusal.{Refusal}
use Rattle.refusal.specs.declared.Refusal.TheVariants.{Damaged, Invalid, NameTooLong, NoEntry}
use Rattle.store.specs.Act.{Out, got, refused}
use Rattle.volume.specs.declared.Geometry.{Geometry}
use Rattle.sound.specs.Test.{taken_of}
use Rattle.inode_run.specs.declared.Spot.{Spot}
use Rattle.inode_run.specs.Judge.{reading}
use Rattle.dirnames.specs.Names.{taken, short}
use Rattle.dirfile.specs.Block.{dir_of}
use Rattle.dirfile.specs.Seek.{Sought, sought_out}
use Rattle.dirwalk.specs.Walk.{lookup_dir, looked_out}
use Rattle.dirlookup.specs.Lookup.{lookup_for, dir_lookup}
use Rattle.refusal.specs.Refusal.{damage}
use Rattle.refusal.specs.declared.Damage.{Damage}

module _ (img : List ℕ) (d : ℕ) (name : List ℕ) (geo : Geometry) where
  pub lookup-bad-name : taken false name ≡ false → lookup_for img d name geo ≡ refused Invalid
  unfolding lookup_for
  lookup-bad-name h = rw h

  module _ (n : taken false name ≡ true) where
    pub lookup-long-name : short name ≡ false → lookup_for img d name geo ≡ refused NameTooLong
    unfolding lookup_for
    lookup-long-name h = rw (n, h)

    module _ (l : short name ≡ true) where
      pub lookup-no-dir : (e : Refusal) → dir_of geo img d ≡ refused e → lookup_for img d name geo ≡ refused e
      unfolding lookup_for
      lookup-no-dir e h = rw (n, l, h)

      pub lookup-dir : (s : Spot) → dir_of geo img d ≡ got s → (r : Result (Option ℕ) Damage) → looked_out r ≡ lookup_dir geo s.at s.shape.size img name → lookup_for img d name geo ≡ sought_out (looked_out r)
      unfolding lookup_for
      lookup-dir s h r e = rw (n, l, h, ← e)

  pub lookup-sound : taken_of img ≡ Ok geo → dir_lookup img d name ≡ lookup_for img d name geo
  unfolding dir_lookup reading
  lookup-sound e = rw e

pub lookup_unsound : (img : List ℕ) (d : ℕ) (name : List ℕ) → taken_of img ≡ Err damage → dir_lookup img d name ≡ refused Damaged
unfolding dir_lookup reading
lookup_unsound img d name e = rw e
