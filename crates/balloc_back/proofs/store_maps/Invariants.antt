-- `store_maps` meets its contract. The invariant: the first i map stores are made, as far as k; one more is `maps-more`. Assumes nothing.
use Rattle.std.proofs.Common.{◌≡◌, length}
use Rattle.store.specs.Store.{cut}
use Rattle.balloc_take.specs.Take.{frag_maps}
use Rattle.balloc_back.proofs.store_maps.Given as goal

abbrev pub invariant-loop-i : goal.invariant-loop-i
invariant-loop-i l = (length l.img ≡ length l.initial.img) × (l.img ≡ cut l.k (frag_maps l.geo l.g l.f l.initial.img l.i) l.initial.img)
