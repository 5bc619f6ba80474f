-- `hitchsnow_mkdir` meets its contract: the call, and the words of its answer. Assumes nothing.
use borrow.Author.Rules.{rules}
use mathlib.Core.Path.{◌∙◌}
use Rattle.boundary.proofs.WordsLaws.{passed}
use Rattle.boundary_file.specs.Words.{changed_words}
use Rattle.boundary_name.proofs.NodeLaws.{attr-made}
use Rattle.boundary_name.proofs.hitchsnow_mkdir.Goals as goal

pub returns : goal.returns
returns c = passed changed_words c.mkdir-m.ensures (c.put_attr.ensures ∙ attr-made _)
