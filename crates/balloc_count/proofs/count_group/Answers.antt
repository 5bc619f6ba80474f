-- `count_group` meets its contract: what the pass counts, less the fragments of free blocks. Assumes nothing.
use borrow.Author.Rules.{rules}
use mathlib.Core.Path.{◌≡◌}
use Prim.Native.Nat.{◌+◌}
use native.Mathlib.Omega.{arith}
use Rattle.sound.specs.Sound.{free_at}
use Rattle.balloc_count.proofs.FreshLaws.{counted}
use Rattle.balloc_count.proofs.count_group.Goals as goal

pub returns : goal.returns
returns c =
    let r = c.group_at-r.ensures in
    let a = c.cg_addr.ensures in
    let m = c.count_map-found.ensures in
    let e : c.cg_addr.result + c.group_at-r.result.freeoff ≡ free_at c.args.geo c.args.g c.args.img.now = omega (arith, a.0, r.freeoff) in
    let q = counted c.args.geo c.args.g c.args.img.now c.requires.0 e r.ndblk m.0 m.1 in
    (q.0, omega (arith, q.1))
