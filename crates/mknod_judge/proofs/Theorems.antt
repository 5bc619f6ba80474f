-- A name that lookup finds is not made again, whatever else is so: the Rust never looked. Assumes nothing.
use Rattle.std.specs.Prelude.{Some, None, Ok, Err}
use mathlib.Core.Path.{◌≡◌, refl, sym, ap, ◌∙◌}
use mathlib.Core.Bool.{Bool, true, false}
use mathlib.Core.List.{List}
use Prim.Native.Nat.{ℕ}
use native.Mathlib.Omega.{arith}
use Rattle.refusal.specs.declared.Refusal.{Refusal}
use Rattle.refusal.specs.declared.Refusal.TheVariants.{Exists}
use Rattle.store.specs.Act.{Out, got, refused}
use Rattle.volume.specs.declared.Geometry.{Geometry}
use Rattle.frame.specs.Frame.{Frame}
use Rattle.inode_run.specs.declared.Spot.{Spot}
use Rattle.stages.specs.Stages.{in_order}
use Rattle.stages.proofs.StagesLaws.{both_first}
use Rattle.dirnames.specs.Names.{taken, short}
use Rattle.dirfile.specs.Block.{dir_of}
use Rattle.dirfile.specs.Seek.{Sought, here, nowhere, hurt}
use Rattle.dirwalk.specs.Walk.{lookup_dir}
use Rattle.dirlookup.specs.Lookup.{lookup_for}
use Rattle.dirlookup.proofs.LookupLaws.{lookup-bad-name, lookup-long-name, lookup-no-dir, lookup-dir}
use Rattle.mknod_judge.specs.Make.{absent_out, make_stages}
use Rattle.mknod_judge.proofs.MakeLaws.{make-in}
use Rattle.refusal.specs.Refusal.{damage}

-- what a lookup that finds inode i has seen
record Looks (geo : Geometry) (img : List ℕ) (d : ℕ) (name : List ℕ) (i : ℕ) : Type 0 where
  pub short : short name ≡ true
  pub spot : Spot
  pub dir : dir_of geo img d ≡ got spot
  pub seen : lookup_dir geo spot.at spot.shape.size img name ≡ here i

apart : {A : Type 0} (a : A) (e : Refusal) → ◌≡◌ {A = Out A} (got a) (refused e) → ⊥
apart a e h = let z : ◌≡◌ {A = ℕ} 0 1 = cc in omega arith

module _ (geo : Geometry) (img : List ℕ) (d : ℕ) (name : List ℕ) (i : ℕ) (h : lookup_for img d name geo ≡ got i) where
  legal-by : (b : Bool) → taken false name ≡ b → taken false name ≡ true
  legal-by true q = q
  legal-by false q = absurd (apart _ _ (sym h ∙ lookup-bad-name img d name geo q))

  module _ (n : taken false name ≡ true) where
    short-by : (b : Bool) → short name ≡ b → short name ≡ true
    short-by true q = q
    short-by false q = absurd (apart _ _ (sym h ∙ lookup-long-name img d name geo n q))

    module _ (l : short name ≡ true) where
      seen_by : (s : Spot) → dir_of geo img d ≡ got s → (x : Sought ℕ) → lookup_dir geo s.at s.shape.size img name ≡ x → Looks geo img d name i
      seen_by s q (here j) u =
          let g : ◌≡◌ {A = Out ℕ} (got j) (got i) = sym (lookup-dir img d name geo n l s q (Ok (Some j)) (sym u)) ∙ h in
          let e : j ≡ i = cc in
          record { short = l; spot = s; dir = q; seen = u ∙ ap here e }
      seen_by s q nowhere u = absurd (apart _ _ (sym h ∙ lookup-dir img d name geo n l s q (Ok None) (sym u)))
      seen_by s q hurt u = absurd (apart _ _ (sym h ∙ lookup-dir img d name geo n l s q (Err damage) (sym u)))

      dir-by : (o : Out Spot) → dir_of geo img d ≡ o → Looks geo img d name i
      dir-by (got s) q = seen_by s q (lookup_dir geo s.at s.shape.size img name) refl
      dir-by (refused e) q = absurd (apart _ _ (sym h ∙ lookup-no-dir img d name geo n l e q))

  looks : Looks geo img d name i
  looks =
      let n = legal-by (taken false name) refl in
      dir-by n (short-by n (short name) refl) (dir_of geo img d) refl

-- in a directory that is found, before its count, its size and its tail are judged
pub seen-refused : (geo : Geometry) (img : List ℕ) → Frame geo img → (d : ℕ) (name : List ℕ) (raises : Bool) → taken true name ≡ true → short name ≡ true
    → (s : Spot) → dir_of geo img d ≡ got s → (i : ℕ) → lookup_dir geo s.at s.shape.size img name ≡ here i
    → in_order (make_stages geo img d name raises) ≡ refused Exists
seen-refused geo img fr d name raises n l s q i u = make-in geo img d name raises n l fr s q ∙ both_first _ _ Exists (ap absent_out u)

-- of the public lookup: "." and ".." apart, which it takes and mknod does not (22), what it finds is 17
pub found-refused : (geo : Geometry) (img : List ℕ) → Frame geo img → (d : ℕ) (name : List ℕ) (raises : Bool) → taken true name ≡ true
    → (i : ℕ) → lookup_for img d name geo ≡ got i → in_order (make_stages geo img d name raises) ≡ refused Exists
found-refused geo img fr d name raises n i h =
    let k = looks geo img d name i h in
    seen-refused geo img fr d name raises n k.short k.spot k.dir i k.seen
