-- `link_into` meets its contract. Assumes nothing.
use borrow.Author.Rules.{rules}
use mathlib.Core.Path.{refl, ap, ◌∙◌}
use Rattle.std.specs.Prelude.{Ok}
use Rattle.refusal.proofs.ExitLaws.{passed}
use Rattle.inode.proofs.SizeLaws.{units}
use Rattle.dirwalk.specs.Walk.{space_out}
use Rattle.dirlink.proofs.LinkLaws.{room-inside, grown_fits, link-room, link-full, link-far, link-hurt}
use Rattle.dirlink.proofs.link_into.Goals as goal

pub link_block-requires : goal.link_block-requires
link_block-requires c = let p = c.requires in (p.0, p.1, p.2, room-inside _ _ _ _ _ c.in_ok-k.ensures (ap (λ o. space_out (Ok o)) c.in-Some.is), p.3)

pub returns-in-Some : goal.returns-in-Some
returns-in-Some c = c.link_block.ensures ∙ link-room _ _ _ _ _ _ c.in_ok-k.ensures (ap (λ o. space_out (Ok o)) c.in-Some.is)

pub zones_bytes-requires : goal.zones_bytes-requires
zones_bytes-requires c = (units _ c.requires.0.sizes).block_top

pub returns-then-zones_bytes-size : goal.returns-then-zones_bytes-size
returns-then-zones_bytes-size c = link-far _ _ _ _ _ _ c.in_ok-k.ensures (ap (λ o. space_out (Ok o)) c.in_default.is) (rw (← c.zones_bytes.ensures) c.if-zones_bytes-size.true)

pub link_grown-requires : goal.link_grown-requires
link_grown-requires c = let p = c.requires in (p.0, p.1, p.2, grown_fits _ _ p.0 _ _ c.zones_bytes.ensures c.if-zones_bytes-size.false, p.3)

pub returns : goal.returns
returns c = c.link_grown.ensures ∙ link-full _ _ _ _ _ _ c.in_ok-k.ensures (ap (λ o. space_out (Ok o)) c.in_default.is)

pub returns-in_err-k : goal.returns-in_err-k
returns-in_err-k c = rw (passed _ _ c.from_residual.ensures) (link-hurt _ _ _ _ _ _ c.in_err-k.ensures refl)
