-- `write_at` meets its contract. Assumes nothing.
use mathlib.Core.Path.{refl, sym, subst}
use native.Mathlib.Omega.{arith}
use native.Mathlib.Nat.{le-max_right}
use Prim.Native.Nat.{◌+◌}
use lib.ListN.{length}
use Rattle.refusal.proofs.ExitLaws.{passed}
use Rattle.books.specs.Books.{Steady}
use Rattle.inode_write.proofs.WriteLaws.{write-none, write_done, write-stop}
use Rattle.inode_write.proofs.WriteKeeps.{size-steady}
use Rattle.inode_write.proofs.write_at.Goals as goal

pub returns-then-buf-eq0 : goal.returns-then-buf-eq0
returns-then-buf-eq0 c = write-none _ _ _ _ _ _ _ c.max-new.ensures c.put_size.ensures c.if-buf-eq0.true

pub write_blocks-requires : goal.write_blocks-requires
write_blocks-requires c =
    let k = c.requires in
    let a = c.args in
    let s = subst (Steady a.geo a.img.now) (sym c.put_size.ensures) (size-steady _ _ k.2 _ k.0 _) in
    (s.frame, omega (arith, s.long, k.1), k.2, omega (arith, c.if-buf-eq0.false), omega (arith, c.max-new.ensures, le-max_right a.size (a.off + length a.buf.now)))

pub returns : goal.returns
returns c = write_done _ _ _ _ _ _ _ c.max-new.ensures c.put_size.ensures c.if-buf-eq0.false _ c.read_blocks-held.ensures c.in_ok-write_blocks.ensures refl

pub returns-in_err-write_blocks : goal.returns-in_err-write_blocks
returns-in_err-write_blocks c = rw (passed _ _ c.from_residual.ensures) (write-stop _ _ _ _ _ _ _ c.max-new.ensures c.put_size.ensures c.if-buf-eq0.false _ c.read_blocks-held.ensures c.in_err-write_blocks.ensures refl)
