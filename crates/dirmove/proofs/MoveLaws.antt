-- Laws of a name that moves: what each step leaves, case by case; and that the layout is kept at every cut. Assumes nothing.
use mathlib.Core.Path.{◌≡◌, refl, ◌∙◌}
use mathlib.Core.Bool.{Bool, true, false}
use mathlib.Core.List.{List}
use Prim.Native.Nat.{ℕ}
use Rattle.refusal.specs.declared.Refusal.{Refusal}
use Rattle.store.specs.Act.{Out, got, refused, pure, Left, leaves}
use Rattle.store.proofs.ActLaws.{step-good, step-bad, choose-yes, choose_no, leaves-pure}
use Rattle.volume.specs.declared.Geometry.{Geometry}
use Rattle.books.proofs.KeepLaws.{Keeps, keeps-bind, keeps-pure, keeps-choose}
use Rattle.dirwrite.specs.Write.{bump_found}
use Rattle.dirwrite.proofs.WriteKeeps.{keeps-bump-found}
use Rattle.dirlink.specs.Link.{link_name}
use Rattle.dirlink.proofs.LinkKeeps.{keeps-link-name}
use Rattle.dirtake.specs.Take.{take_name}
use Rattle.dirtake.proofs.TakeLaws.{keeps-take-name}
use Rattle.dirmove.specs.Move.{clear_way, add_name, drop_name, relink, move_name}

module _ (geo : Geometry) (d : ℕ) (name : List ℕ) (img : List ℕ) {b : Bool} where
  pub way-cleared : b ≡ true → leaves (take_name geo d name) img ≡ leaves (clear_way geo d name b) img
  unfolding clear_way
  way-cleared e = choose-yes (take_name geo d name) (pure (tt {0})) img e

  pub way-free : b ≡ false → ◌≡◌ {A = Left (Unit {0})} (img, got (tt {0})) (leaves (clear_way geo d name b) img)
  unfolding clear_way
  way-free e = leaves-pure (tt {0}) img ∙ choose_no (take_name geo d name) (pure (tt {0})) img e

module _ (geo : Geometry) (d : ℕ) (name : List ℕ) (i kind : ℕ) (img : List ℕ) {x : List ℕ} {o : Out (Unit {0})} (r : (x, o) ≡ leaves (bump_found geo i) img) where
  pub name-added : o ≡ got (tt {0}) → leaves (link_name geo d i kind name) x ≡ leaves (add_name geo d name i kind) img
  unfolding add_name
  name-added e = step-good (bump_found geo i) (λ _. link_name geo d i kind name) img r e

  pub add-stop : {f : Refusal} → o ≡ refused f → ◌≡◌ {A = Left (Unit {0})} (x, refused f) (leaves (add_name geo d name i kind) img)
  unfolding add_name
  add-stop e = step-bad (bump_found geo i) (λ _. link_name geo d i kind name) img r e

module _ (geo : Geometry) (s : ℕ) (old : List ℕ) (i : ℕ) (img : List ℕ) {x : List ℕ} {o : Out (Unit {0})} (r : (x, o) ≡ leaves (take_name geo s old) img) where
  pub name-dropped : o ≡ got (tt {0}) → ◌≡◌ {A = Left ℕ} (x, got i) (leaves (drop_name geo s old i) img)
  unfolding drop_name
  name-dropped e = leaves-pure i x ∙ step-good (take_name geo s old) (λ _. pure i) img r e

  pub drop-stop : {f : Refusal} → o ≡ refused f → ◌≡◌ {A = Left ℕ} (x, refused f) (leaves (drop_name geo s old i) img)
  unfolding drop_name
  drop-stop e = step-bad (take_name geo s old) (λ _. pure i) img r e

module _ (geo : Geometry) (d : ℕ) (name : List ℕ) (s : ℕ) (old : List ℕ) (i kind : ℕ) (img : List ℕ) {x : List ℕ} {o : Out (Unit {0})} where
  module _ (r : (x, o) ≡ leaves (add_name geo d name i kind) img) where
    pub relink-added : o ≡ got (tt {0}) → leaves (drop_name geo s old i) x ≡ leaves (relink geo d name s old i kind) img
    unfolding relink
    relink-added e = step-good (add_name geo d name i kind) (λ _. drop_name geo s old i) img r e

    pub relink-stop : {f : Refusal} → o ≡ refused f → ◌≡◌ {A = Left ℕ} (x, refused f) (leaves (relink geo d name s old i kind) img)
    unfolding relink
    relink-stop e = step-bad (add_name geo d name i kind) (λ _. drop_name geo s old i) img r e

  module _ (b : Bool) (r : (x, o) ≡ leaves (clear_way geo d name b) img) where
    pub move-cleared : o ≡ got (tt {0}) → leaves (relink geo d name s old i kind) x ≡ leaves (move_name geo d name s old b i kind) img
    unfolding move_name
    move-cleared e = step-good (clear_way geo d name b) (λ _. relink geo d name s old i kind) img r e

    pub move-stop : {f : Refusal} → o ≡ refused f → ◌≡◌ {A = Left ℕ} (x, refused f) (leaves (move_name geo d name s old b i kind) img)
    unfolding move_name
    move-stop e = step-bad (clear_way geo d name b) (λ _. relink geo d name s old i kind) img r e

-- ---- cut after any store, or refused, it leaves a volume laid out as it was

module _ (geo : Geometry) (d : ℕ) (name : List ℕ) where
  pub keeps-clear : (b : Bool) → Keeps geo (clear_way geo d name b)
  unfolding clear_way
  keeps-clear b = keeps-choose geo b (keeps-take-name geo d name) (keeps-pure geo (tt {0}))

  pub keeps-add : (i kind : ℕ) → Keeps geo (add_name geo d name i kind)
  unfolding add_name
  keeps-add i kind = keeps-bind geo (keeps-bump-found geo i) (λ _. keeps-link-name geo d i kind name)

  pub keeps-drop : (i : ℕ) → Keeps geo (drop_name geo d name i)
  unfolding drop_name
  keeps-drop i = keeps-bind geo (keeps-take-name geo d name) (λ _. keeps-pure geo i)

module _ (geo : Geometry) (d : ℕ) (name : List ℕ) (s : ℕ) (old : List ℕ) (i kind : ℕ) where
  pub keeps-relink : Keeps geo (relink geo d name s old i kind)
  unfolding relink
  keeps-relink = keeps-bind geo (keeps-add geo d name i kind) (λ _. keeps-drop geo s old i)

  pub keeps-move : (b : Bool) → Keeps geo (move_name geo d name s old b i kind)
  unfolding move_name
  keeps-move b = keeps-bind geo (keeps-clear geo d name b) (λ _. keeps-relink)
