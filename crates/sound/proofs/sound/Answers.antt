-- `sound` meets its contract. Assumes nothing.
use mathlib.Core.Path.{sym, ap, ◌∙◌}
use native.Mathlib.Omega.{arith}
use lib.ListN.{length}
use Rattle.sound.specs.Clauses.{sizes_ok, places_ok, groups_ok, zero_ok}
use Rattle.sound.specs.Test.{Laid}
use Rattle.sound.proofs.Laws.{tested, sound-last, laid, unit-sized, groups-at, group-inside, group-headed, placed}
use Rattle.bits.proofs.UptoLaws.{not-true as never_true}
use Rattle.sound.proofs.Laws.{clash}
use Rattle.sound.proofs.sound.Goals as goal

pub returns-then-n-lt66912 : goal.returns-then-n-lt66912
returns-then-n-lt66912 c = sym (never_true _ (λ h. let q = tested _ h in omega arith))

pub returns-then-n-gt1073741824 : goal.returns-then-n-gt1073741824
returns-then-n-gt1073741824 c = sym (never_true _ (λ h. let q = tested _ h in omega arith))

pub returns-then-not-sizes_ok : goal.returns-then-not-sizes_ok
returns-then-not-sizes_ok c = sym (never_true _ (λ h. clash (sym (c.if-not-sizes_ok.true) ∙ c.sizes_ok.ensures ∙ ap sizes_ok c.read_geometry-geo.ensures ∙ (tested _ h).sizes)))

pub places_ok-requires : goal.places_ok-requires
places_ok-requires c = (unit-sized _ (sym c.sizes_ok.ensures ∙ c.if-not-sizes_ok.false)).1

pub returns-then-not-places_ok : goal.returns-then-not-places_ok
returns-then-not-places_ok c = sym (never_true _ (λ h. clash (sym (c.if-not-places_ok.true) ∙ c.places_ok.ensures ∙ ap places_ok c.read_geometry-geo.ensures ∙ (tested _ h).places)))

pub returns-then-not-super_ok : goal.returns-then-not-super_ok
returns-then-not-super_ok c = sym (never_true _ (λ h. clash (sym (c.if-not-super_ok.true) ∙ c.super_ok.ensures ∙ (tested _ h).super)))

pub groups_ok-requires : goal.groups_ok-requires
groups_ok-requires c = laid _ _ c.if-n-lt66912.false c.if-n-gt1073741824.false (sym c.sizes_ok.ensures ∙ c.if-not-sizes_ok.false) (sym c.places_ok.ensures ∙ c.if-not-places_ok.false)

pub returns-then-not-groups_ok : goal.returns-then-not-groups_ok
returns-then-not-groups_ok c = sym (never_true _ (λ h. clash (sym (c.if-not-groups_ok.true) ∙ c.groups_ok.ensures ∙ ap (groups_ok c.args.img.now) c.read_geometry-geo.ensures ∙ (tested _ h).groups)))

pub zero_ok-requires : goal.zero_ok-requires
zero_ok-requires c =
    let l : Laid c.read_geometry-geo.result (length c.args.img.now) =
    laid _ _ c.if-n-lt66912.false c.if-n-gt1073741824.false (sym c.sizes_ok.ensures ∙ c.if-not-sizes_ok.false) (sym c.places_ok.ensures ∙ c.if-not-places_ok.false) in
    let g = groups-at c.args.img.now c.read_geometry-geo.result 0 (sym c.groups_ok.ensures ∙ c.if-not-groups_ok.false) l.groups in
    (l, placed _ _ _ l (group-inside _ _ _ g), group-headed _ _ _ g)

pub returns : goal.returns
returns c =
    let e = c.read_geometry-geo.ensures in
    c.zero_ok.ensures ∙ ap (zero_ok c.args.img.now) e
    ∙ sym (sound-last c.args.img.now c.if-n-lt66912.false c.if-n-gt1073741824.false
    (ap sizes_ok (sym e) ∙ sym c.sizes_ok.ensures ∙ c.if-not-sizes_ok.false)
    (ap places_ok (sym e) ∙ sym c.places_ok.ensures ∙ c.if-not-places_ok.false)
    (sym c.super_ok.ensures ∙ c.if-not-super_ok.false)
    (ap (groups_ok c.args.img.now) (sym e) ∙ sym c.groups_ok.ensures ∙ c.if-not-groups_ok.false))
