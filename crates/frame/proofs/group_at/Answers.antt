-- `group_at` meets its contract. Assumes nothing.
use borrow.Author.Rules.{rules}
use mathlib.Core.Path.{ap, ◌∙◌}
use Prim.Native.Nat.{ℕ}
use Rattle.volume.specs.declared.Group.{Group}
use Rattle.volume.specs.Volume.{group_of}
use Rattle.frame.proofs.group_at.Goals as goal

pub returns : goal.returns
returns c = let s = c.args in
    let e = c.read_group.ensures ∙ ap (λ (x : ℕ). group_of s.geo.order x s.img.now) c.cg_addr.ensures.0 in
    record { is = e; ndblk = ap (λ (r : Group). r.ndblk) e; iusedoff = ap (λ (r : Group). r.iusedoff) e; freeoff = ap (λ (r : Group). r.freeoff) e; spots = c.cg_addr.ensures.1 }
