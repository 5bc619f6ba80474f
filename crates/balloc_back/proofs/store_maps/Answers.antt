-- `store_maps` meets its contract. The invariant: the first i map stores are made, as far as k; one more is `maps-more`. Assumes nothing.
use Rattle.std.proofs.Common.{◌≡◌, ◌+◌, ltb, [], ◌∷◌, length, sym, refl, ap, ◌∙◌, arith, rules}
use Rattle.store.specs.Store.{apply_if}
use Rattle.store.proofs.StoreLaws.{length-apply_if}
use Rattle.frame.specs.Writes.{map_write}
use Rattle.balloc_take.proofs.TakeLaws.{maps_none, maps-more, map_stored}
use Rattle.balloc_back.proofs.store_maps.Goals as goal

pub loop-i-init : goal.loop-i-init
loop-i-init c = let a = c.args in (refl, sym (maps_none a.geo a.g a.f a.img.now a.k))

pub loop-i-preserved : goal.loop-i-preserved
loop-i-preserved c =
    let a = c.args in
    let i = c.loop-i.i in
    let v = c.loop-i.invariant in (
      ap length c.put_if.ensures ∙ length-apply_if _ _ _ ∙ v.0,
      map_stored a.geo a.g a.f (i + 1) a.img.now c.map_at-at.ensures.0 refl c.put_bits-byte.ensures (search rules) _ _ _ c.put_if.ensures
          ∙ ap (apply_if (ltb i a.k) (map_write 1 a.geo a.g a.f (i + 1) a.img.now ∷ [])) v.1
          ∙ sym (maps-more a.geo a.g a.f a.img.now a.k i),
    )

pub returns : goal.returns
returns c =
    let q : c.loop-i.i ≡ c.args.n = omega arith in
    rw q at c.loop-i.invariant.1
