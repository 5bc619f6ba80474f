-- `text_len` meets its contract. Assumes nothing.
use borrow.Author.Rules.{rules}
use mathlib.Core.Path.{sym, ◌∙◌}
use Rattle.attrrec.proofs.TextLaws.{shown-len-known, shown-len-other}
use Rattle.attrrec.proofs.text_len.Goals as goal

pub returns-then-namespace_known : goal.returns-then-namespace_known
returns-then-namespace_known c = (shown-len-known _ (sym c.namespace_known.ensures ∙ c.if-namespace_known.true) _ c.prefix_len.ensures.0, search rules)

pub returns : goal.returns
returns c = (shown-len-other _ (sym c.namespace_known.ensures ∙ c.if-namespace_known.false), search rules)
