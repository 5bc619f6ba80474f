-- `span_of` meets its contract. Assumes nothing.
use Rattle.mapping.proofs.span_of.Goals as goal

pub returns : goal.returns
returns c = (rw (← c.per_list.ensures.0) c.span.ensures.0, c.span.ensures.1)
