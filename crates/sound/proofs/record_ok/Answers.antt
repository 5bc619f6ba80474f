-- `record_ok` meets its contract. Assumes nothing.
use mathlib.Core.Path.{◌≡◌, sym, ◌∙◌}
use mathlib.Core.Bool.{true}
use Prim.Native.Nat.{◌/◌}
use lib.ListN.{length}
use Rattle.sound.specs.Clauses.{header_ok}
use Rattle.volume.specs.Volume.{group_of, cg_at}
use Rattle.sound.proofs.Laws.{headed, group-stop, group-go}
use Rattle.sound.proofs.record_ok.Goals as goal

pub returns-then-not-header_ok : goal.returns-then-not-header_ok
returns-then-not-header_ok c = sym (group-stop _ _ _ (rw (c.read_group-r.ensures, c.frag_at.ensures) at (sym c.header_ok.ensures ∙ c.if-not-header_ok.true)))

pub body_ok-requires : goal.body_ok-requires
body_ok-requires c = (c.requires.0, c.requires.1, headed _ _ _ _ (sym c.header_ok.ensures ∙ c.if-not-header_ok.false))

pub returns : goal.returns
returns c =
    let a = c.args in
    let e : header_ok a.geo (length a.img.now / a.geo.fsize) a.g (group_of a.geo.order (cg_at a.geo a.g) a.img.now) ≡ true = rw (c.read_group-r.ensures, c.frag_at.ensures) at (sym c.header_ok.ensures ∙ c.if-not-header_ok.false) in
    rw (c.body_ok.ensures, c.read_group-r.ensures, c.frag_at.ensures) (sym (group-go a.img.now a.geo a.g e))
