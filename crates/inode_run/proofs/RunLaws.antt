-- Laws of a file's runs. Assumes nothing.
use Rattle.std.specs.Prelude.{Some, None}
use mathlib.Core.Path.{◌≡◌, refl, sym, ap, ◌∙◌}
use mathlib.Core.Bool.{true, false}
use mathlib.Core.List.{List}
use Prim.Native.Nat.{ℕ, ◌/◌}
use Rattle.volume.specs.declared.Geometry.{Geometry}
use Rattle.inode.specs.Size.{held_at}
use Rattle.mapping.specs.declared.Mapped.{Mapped}
use Rattle.mapping.specs.Mapping.{mapped}
use Rattle.volume.specs.declared.FragNum.{FragNum}
use Rattle.frame.specs.Frame.{run_okb}
use Rattle.inode_run.specs.declared.Run.TheVariants.{At, Hole, Past, Bad}
use Rattle.inode_run.specs.Run.{run_for, run_at}

pub run-at-is : (geo : Geometry) (at size : ℕ) (img : List ℕ) (i : ℕ) → run_at geo at size img i ≡ run_for geo img (held_at geo size i) (mapped geo at img i)
unfolding run_at
run-at-is geo at size img i = refl

-- ---- the cases of a block of n bytes

module _ (geo : Geometry) (img : List ℕ) (n : ℕ) (m : Mapped) where
  pub run-good : (a : FragNum) → m ≡ Mapped.At a → run_okb geo img a.0 (n / geo.fsize) ≡ true → At a n ≡ run_for geo img (Some n) m
  run-good a e h = sym (ap (run_for geo img (Some n)) e ∙ rw h)

  pub run-wrong : (a : FragNum) → m ≡ Mapped.At a → run_okb geo img a.0 (n / geo.fsize) ≡ false → Bad ≡ run_for geo img (Some n) m
  run-wrong a e h = sym (ap (run_for geo img (Some n)) e ∙ rw h)

  pub run-hole : m ≡ Mapped.Hole → Hole n ≡ run_for geo img (Some n) m
  run-hole e = sym (ap (run_for geo img (Some n)) e)

  pub run-bad : m ≡ Mapped.Bad → Bad ≡ run_for geo img (Some n) m
  run-bad e = sym (ap (run_for geo img (Some n)) e)

  pub run_past : m ≡ Mapped.Past → Bad ≡ run_for geo img (Some n) m
  run_past e = sym (ap (run_for geo img (Some n)) e)

-- ---- and of an index

module _ (geo : Geometry) (at size : ℕ) (img : List ℕ) (i : ℕ) where
  pub run-held : (n : ℕ) (m : Mapped) → Some n ≡ held_at geo size i → m ≡ mapped geo at img i → run_for geo img (Some n) m ≡ run_at geo at size img i
  unfolding run_at
  run-held n m h e = rw (h, e)

  pub run_end : None ≡ held_at geo size i → Past ≡ run_at geo at size img i
  unfolding run_at
  run_end h = rw (← h)
