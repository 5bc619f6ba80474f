-- `make_node` meets its contract. Assumes nothing.
use borrow.Author.Rules.{rules}
use mathlib.Core.Path.{◌≡◌, sym, ap, ◌∙◌}
use Rattle.std.specs.Prelude.{Some, None, Result, Err}
use Rattle.refusal.specs.declared.Refusal.{Refusal}
use Rattle.refusal.specs.declared.Refusal.TheVariants.{Invalid}
use Rattle.inode.specs.declared.InodeAttr.{InodeAttr}
use Rattle.dirmake.specs.Make.{made_out}
use Rattle.boundary_name.proofs.NodeLaws.{node-kind, node-nameless}
use Rattle.boundary_name.proofs.make_node.Goals as goal

pub returns-in_err-k : goal.returns-in_err-k
returns-in_err-k c =
    let n : c.kind_of.result ≡ None = search rules in
    let e : c.from_residual.result ≡ Err Invalid = search rules in
    ap (λ (r : Result InodeAttr Refusal). (c.args.img.now, made_out r)) e ∙ node-nameless _ _ _ _ _ _ _ _ (sym c.kind_of.ensures ∙ n)

pub returns : goal.returns
returns c = let e : c.kind_of.result ≡ Some c.in_ok-k.k = search rules in c.mknod.ensures ∙ node-kind _ _ _ _ _ _ _ _ (sym c.kind_of.ensures ∙ e)
