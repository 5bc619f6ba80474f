-- `shrink_from` meets its contract: the root at hand is what stood at its address when the call came. Assumes nothing.
use mathlib.Core.Path.{refl, ◌∙◌}
use native.Mathlib.Omega.{arith}
use Rattle.refusal.proofs.ExitLaws.{passed}
use Rattle.books.proofs.SteadyLaws.{steady-trans, steady-run}
use Rattle.books.proofs.KeepLaws.{kept-left}
use Rattle.mapping.proofs.MappingLaws.{per-most}
use Rattle.inode_shrink.proofs.ShrinkLaws.{per_bytes, root-apply, list-at-hand, lists-at-hand, from-stopped, from-refused, from-done, keeps-shrink-list, keeps-lists}
use Rattle.inode_shrink.proofs.shrink_from.Goals as goal

pub entry_in-requires : goal.entry_in-requires
entry_in-requires c = let k = c.requires in omega (arith, per_bytes _ _ k.0, k.3, k.5.room)

pub overflow_add-high : goal.overflow_add-high
overflow_add-high c = let k = c.requires in omega (arith, k.3, per-most _ _ k.0)

pub free_lists-requires : goal.free_lists-requires
free_lists-requires c =
    let k = c.requires in
    ((kept-left _ (keeps-shrink-list _ _ _ _ _ _ k.4) k.0 c.in_ok-n.ensures).frame, k.5.room)

pub overflow_add-high-2 : goal.overflow_add-high-2
overflow_add-high-2 c = let k = c.requires in omega (arith, k.3, per-most _ _ k.0)

pub put_root-requires : goal.put_root-requires
put_root-requires c =
    let k = c.requires in
    let one = kept-left _ (keeps-shrink-list _ _ _ _ _ _ k.4) k.0 c.in_ok-n.ensures in
    let two = steady-trans _ one (kept-left _ (keeps-lists _ _ _ _ _) one.frame c.in_ok-m.ensures) in
    (two.frame, steady-run _ two _ _ ∙ k.1, k.5.room, omega (arith, k.3))

pub returns : goal.returns
returns c =
    let k = c.requires in
    from-done _ _ _ _ _ _ _ _ _ (list-at-hand _ _ _ _ _ _ _ _ k.0 k.1 _ k.5 _ c.entry_in.ensures k.3 c.in_ok-n.ensures) _ refl
    (lists-at-hand _ _ _ _ k.0 k.1 _ k.5 _ _ _ c.in_ok-m.ensures) refl
    (c.put_root.ensures ∙ root-apply _ _ k.0 _ k.1 _ k.5 _ (omega (arith, k.3)) _)

pub returns-in_err-m : goal.returns-in_err-m
returns-in_err-m c =
    let k = c.requires in
    rw (passed _ _ c.from_residual-in_err-m.ensures) (from-refused _ _ _ _ _ _ _ _ _ (list-at-hand _ _ _ _ _ _ _ _ k.0 k.1 _ k.5 _ c.entry_in.ensures k.3 c.in_ok-n.ensures) _ refl
    (lists-at-hand _ _ _ _ k.0 k.1 _ k.5 _ _ _ c.in_err-m.ensures) refl)

pub returns-in_err-n : goal.returns-in_err-n
returns-in_err-n c =
    let k = c.requires in
    rw (passed _ _ c.from_residual.ensures) (from-stopped _ _ _ _ _ _ _ _ _ (list-at-hand _ _ _ _ _ _ _ _ k.0 k.1 _ k.5 _ c.entry_in.ensures k.3 c.in_err-n.ensures) refl)
