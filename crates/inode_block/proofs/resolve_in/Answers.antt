-- `resolve_in` meets its contract. Assumes nothing.
use mathlib.Core.Path.{sym, ap, ◌∙◌}
use Rattle.refusal.proofs.ExitLaws.{passed}
use Rattle.inode.proofs.SizeLaws.{units}
use Rattle.inode_read.specs.Calls.{resolved_answer}
use Rattle.inode_read.proofs.CallLaws.{size-got, size-refused, resolve-past-zones, resolve-size}
use Rattle.inode_block.proofs.resolve_in.Goals as goal

pub in_zones-requires : goal.in_zones-requires
in_zones-requires c = (units _ c.requires.0.sizes).block_top

pub returns-then-not-in_zones : goal.returns-then-not-in_zones
returns-then-not-in_zones c = resolve-past-zones _ _ _ _ (sym c.in_zones.ensures ∙ c.if-not-in_zones.true)

pub returns : goal.returns
returns c =
    c.land.ensures
    ∙ sym (ap resolved_answer (resolve-size _ _ _ _ (sym c.in_zones.ensures ∙ c.if-not-in_zones.false) _ (size-got _ _ c.in_ok-_n.ensures)))

pub returns-in_err-_n : goal.returns-in_err-_n
returns-in_err-_n c =
    passed _ _ c.from_residual.ensures
    ∙ sym (ap resolved_answer (resolve-size _ _ _ _ (sym c.in_zones.ensures ∙ c.if-not-in_zones.false) _ (size-refused _ _ c.in_err-_n.ensures)))
