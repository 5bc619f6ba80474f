-- `list::write_text` meets its contract. Assumes nothing.
use borrow.Author.Rules.{rules}
use mathlib.Core.Path.{sym, ◌∙◌}
use native.Mathlib.Omega.{arith}
use Rattle.field.specs.Field.{part}
use Rattle.xattr.specs.Area.{gathered}
use Rattle.xattr.proofs.AreaLaws.{length-gathered}
use Rattle.xattr.proofs.ListLaws.{wrote_none, room_for, short-name, wrote}
use Rattle.xattr.proofs.list.write_text.Goals as goal

pub returns-then-not-namespace_known : goal.returns-then-not-namespace_known
returns-then-not-namespace_known c = wrote_none _ _ _ _ _ (sym c.namespace_known.ensures ∙ c.if-not-namespace_known.true)

pub put_text-requires : goal.put_text-requires
unfolding part
put_text-requires c = let p = c.requires in let g = length-gathered _ _ p.0 in (room_for _ _ _ c.args.out.now _ (sym c.namespace_known.ensures ∙ c.if-not-namespace_known.false) _ _ (omega (arith, g, p.1)) (search rules) c.gather.ensures p.3, short-name (gathered c.args.a c.args.img.now) c.args.b c.args.e c.args.out.now c.args.n (sym c.namespace_known.ensures ∙ c.if-not-namespace_known.false) _ _ (omega (arith, g, p.1)) (search rules) c.gather.ensures p.2)

pub returns : goal.returns
unfolding part
returns c = let p = c.requires in let g = length-gathered _ _ p.0 in wrote _ _ _ _ _ (sym c.namespace_known.ensures ∙ c.if-not-namespace_known.false) _ _ (omega (arith, g, p.1)) (search rules) c.gather.ensures _ _ c.put_text.ensures
