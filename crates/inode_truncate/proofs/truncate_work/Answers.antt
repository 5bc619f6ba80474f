-- `truncate_work` meets its contract. Assumes nothing.
use mathlib.Core.Path.{refl, ap, ◌∙◌}
use Prim.Native.Nat.{ℕ}
use Rattle.store.specs.Act.{leaves}
use Rattle.refusal.proofs.ExitLaws.{passed}
use Rattle.books.proofs.KeepLaws.{kept-left}
use Rattle.mapping.proofs.MappingLaws.{per-some}
use Rattle.inode_truncate.specs.Truncate.{shrink}
use Rattle.inode_truncate.proofs.ZoneLaws.{keeps-shrink}
use Rattle.inode_truncate.proofs.RecordLaws.{work-refused, work-done, work-grown}
use Rattle.inode_truncate.proofs.truncate_work.Goals as goal

pub shrink-requires : goal.shrink-requires
shrink-requires c =
    let k = c.requires in
    (k.0, k.1, rw c.keep_of.ensures (k.2 c.if-new-s.true))

pub put_shrunk-requires : goal.put_shrunk-requires
put_shrunk-requires c =
    let k = c.requires in
    let st = kept-left _ (keeps-shrink _ _ _ (per-some _ _ k.0) _ (rw c.keep_of.ensures (k.2 c.if-new-s.true))) k.0 c.in_ok-n.ensures in
    (st.frame, rw st.long k.1)

pub returns-then-new-s : goal.returns-then-new-s
returns-then-new-s c =
    let a = c.args in
    work-done _ _ _ _ _ c.if-new-s.true (c.in_ok-n.ensures ∙ ap (λ (k : ℕ). leaves (shrink a.geo a.at a.s k) a.img.now) c.keep_of.ensures) refl c.put_shrunk.ensures

pub returns-in_err-n : goal.returns-in_err-n
returns-in_err-n c =
    let a = c.args in
    rw (passed _ _ c.from_residual.ensures) (work-refused _ _ _ _ _ c.if-new-s.true (c.in_err-n.ensures ∙ ap (λ (k : ℕ). leaves (shrink a.geo a.at a.s k) a.img.now) c.keep_of.ensures) refl)

pub returns : goal.returns
returns c = work-grown _ _ _ _ _ c.if-new-s.false c.put_size.ensures
