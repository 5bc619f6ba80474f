-- `room_in` meets its contract. Assumes nothing.
use borrow.Author.Rules.{rules}
use mathlib.Core.Path.{◌≡◌, sym, ap, ◌∙◌}
use Rattle.refusal.proofs.ExitLaws.{passed}
use Rattle.dirblock.specs.Search.{roomy, room_of, room_in}
use Rattle.dirblock.proofs.RecordLaws.{held}
use Rattle.dirblock_search.proofs.room_in.Goals as goal

pub search_from-requires : goal.search_from-requires
search_from-requires c = λ pos e h. let q = (held _ _ _ _ h).least in search rules

pub returns-in_err-found : goal.returns-in_err-found
unfolding room_in roomy
returns-in_err-found c =
    let w = c.smallest_new-wanted.ensures in
    passed _ _ c.from_residual.ensures ∙ ap room_of (c.in_err-found.ensures (roomy c.args.n) (λ pos e r h q. search rules))

pub returns : goal.returns
unfolding room_in roomy
returns c =
    let w = c.smallest_new-wanted.ensures in
    let k = c.in_ok-found.ensures (roomy c.args.n) (λ pos e r h q. search rules) in
    let z = c.map.ensures.cases in
    rw (← k) (search rules)
