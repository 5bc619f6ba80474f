-- `zones_bytes` meets its contract. Assumes nothing.
use borrow.Author.Rules.{rules}
use mathlib.Core.Path.{◌≡◌, sym, ap, ◌∙◌}
use native.Mathlib.Omega.{arith}
use Prim.Native.Nat.{◌+◌}
use Rattle.inode_grow.proofs.GrowLaws.{zones_bytes_lem, zones_fit}
use Rattle.inode_grow.proofs.zones_bytes.Goals as goal

pub overflow_mul-result : goal.overflow_mul-result
overflow_mul-result c =
    let n = c.span.result in
    omega (arith, zones_fit c.args.geo (12 + n + c.span-2.result + c.span-3.result) (omega (arith, c.span-3.ensures.1, c.span-2.ensures.1, c.span.ensures.1)) c.requires)

pub returns : goal.returns
returns c =
    zones_bytes_lem _ _ _ _ _ c.per_list-p.ensures.0 c.span.ensures.0 c.span-2.ensures.0 c.span-3.ensures.0
