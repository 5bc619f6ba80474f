-- `inode_attr` meets its contract. Assumes nothing.
use Rattle.std.specs.Prelude.{Option, Ok, Err, ok_or}
use mathlib.Core.Path.{◌≡◌, sym, ap, ◌∙◌}
use Rattle.refusal.specs.declared.Refusal.TheVariants.{Damaged}
use Rattle.inode.specs.declared.InodeType.{InodeType}
use Rattle.refusal.proofs.ExitLaws.{passed}
use Rattle.inode_read.proofs.JudgeLaws.{known-got, known-refused, place-stands}
use Rattle.inode_attr.specs.Attr.{attr_answer}
use Rattle.inode_attr.proofs.AttrLaws.{attr-refused, attr-got, attr-nameless}
use Rattle.inode_attr.proofs.inode_attr.Goals as goal

pub read_inode-ino-requires : goal.read_inode-ino-requires
read_inode-ino-requires c = (place-stands _ _ _ (known-got _ _ _ c.in-Ok.ensures)).named.place.inside

pub returns : goal.returns
returns c =
    let p = known-got _ _ _ c.in-Ok.ensures in
    ap Ok c.as_attr.ensures ∙ sym (ap attr_answer (attr-got _ _ _ p _ c.read_inode-ino.ensures _ (sym c.kind_of.ensures ∙ c.in_ok-k.ensures.ok_part)))

pub returns-in_err-k : goal.returns-in_err-k
returns-in_err-k c =
    let none = c.in_err-k.ensures.ok_part in
    let w = c.in_err-k.ensures.value ∙ ap (λ (k : Option InodeType). ok_or k Damaged) none in
    let e : c.in_err-k.field-0.0 ≡ Damaged = cc in
    let p = known-got _ _ _ c.in-Ok.ensures in
    passed _ _ c.from_residual.ensures
    ∙ ap Err e
    ∙ sym (ap attr_answer (attr-nameless _ _ _ p (sym c.kind_of.ensures ∙ none)))

pub returns-in-Err : goal.returns-in-Err
returns-in-Err c = sym (ap attr_answer (attr-refused _ _ _ (known-refused _ _ c.in-Err.ensures)))
