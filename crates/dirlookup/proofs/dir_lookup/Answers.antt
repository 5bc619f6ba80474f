-- `dir_lookup` meets its contract. Assumes nothing.
use borrow.Author.Rules.{rules}
use mathlib.Core.Path.{sym, ap, ◌∙◌}
use Rattle.inode_read.proofs.JudgeLaws.{taken-frame}
use Rattle.dirlookup.specs.Lookup.{lookup_of}
use Rattle.dirlookup.proofs.LookupLaws.{lookup-sound, lookup_unsound}
use Rattle.dirlookup.proofs.dir_lookup.Goals as goal

pub lookup_in-requires : goal.lookup_in-requires
lookup_in-requires c = taken-frame _ _ (sym c.in-Ok.ensures)

pub returns : goal.returns
returns c = c.lookup_in.ensures ∙ sym (ap lookup_of (lookup-sound _ _ _ _ (sym c.in-Ok.ensures)))

pub returns-in_default : goal.returns-in_default
returns-in_default c = sym (ap lookup_of (lookup_unsound _ _ _ (sym c.in_default.ensures)))
