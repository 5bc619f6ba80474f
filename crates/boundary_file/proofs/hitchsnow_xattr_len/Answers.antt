-- `hitchsnow_xattr_len` meets its contract: the call, and the words of its answer. Assumes nothing.
use borrow.Author.Rules.{rules}
use mathlib.Core.Path.{ap, ◌∙◌}
use Rattle.boundary_file.specs.Words.{length_words}
use Rattle.boundary_file.proofs.hitchsnow_xattr_len.Goals as goal

pub returns : goal.returns
returns c = c.put_length.ensures ∙ ap length_words c.xattr_len-l.ensures
