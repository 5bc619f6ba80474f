-- `zero_ok` meets its contract. Assumes nothing.
use native.Mathlib.Omega.{arith}
use mathlib.Core.Path.{◌≡◌, ap, ◌∙◌}
use Prim.Native.Nat.{ℕ}
use Rattle.volume.specs.declared.Group.{Group}
use Rattle.volume.specs.Volume.{cg_at, group_of}
use Rattle.sound.proofs.Laws.{zero-test}
use Rattle.sound.proofs.zero_ok.Goals as goal

pub isfreefrag-requires : goal.isfreefrag-requires
isfreefrag-requires c =
    let s = c.args in
    let e : c.read_group-r.result.iusedoff ≡ (group_of s.geo.order (cg_at s.geo 0) s.img.now).iusedoff =
    ap (λ (r : Group). r.iusedoff) (c.read_group-r.ensures ∙ ap (λ (x : ℕ). group_of s.geo.order x s.img.now) c.frag_at-at.ensures) in
    omega arith

pub returns : goal.returns
returns c = c.isfreefrag.ensures ∙ zero-test _ _ _ _ c.frag_at-at.ensures c.read_group-r.ensures
