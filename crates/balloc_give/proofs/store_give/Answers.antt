-- `store_give` meets its contract: each store is made if fewer than k came before it. Assumes nothing.
use Rattle.std.proofs.Common.{◌≡◌, ℕ, ltb, List, sym, refl, ap, ◌∙◌, subst, rules}
use Rattle.frame.specs.Frame.{Frame}
use Rattle.balloc_give.proofs.GiveLaws.{after_map, after-count, give-made}
use Rattle.balloc_give.proofs.store_give.Goals as goal

pub put_count_if-requires : goal.put_count_if-requires
put_count_if-requires c =
    (after_map _ _ c.requires.0 _ _ c.requires.1 c.requires.2 _ c.give_values-v.ensures _ _ c.put_if.ensures, c.requires.1)

pub put_total_if-requires : goal.put_total_if-requires
put_total_if-requires c =
    after-count _ _ (after_map _ _ c.requires.0 _ _ c.requires.1 c.requires.2 _ c.give_values-v.ensures _ _ c.put_if.ensures) _ c.requires.1 _ _ _ c.put_count_if.ensures

pub returns : goal.returns
returns c =
    give-made _ _ _ _ _ _ c.give_values-v.ensures _ _ _
    c.put_if.ensures
    c.put_count_if.ensures
    c.put_total_if.ensures
