-- `put_map_if` meets its contract: the byte with the run's bits made 1, stored, is the map write, `map_stored`. Assumes nothing.
use Rattle.std.proofs.Common.{refl, rules}
use Rattle.balloc_take.proofs.TakeLaws.{map_stored}
use Rattle.balloc_back.proofs.put_map_if.Goals as goal

pub returns : goal.returns
returns c =
    let a = c.args in
    map_stored a.geo a.g a.f a.n a.img.now c.map_at-at.ensures.0 refl c.put_bits-byte.ensures (search rules) _ _ _ c.put_if.ensures
