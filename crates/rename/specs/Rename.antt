-- 01: the public call that moves a name. Assumes nothing: these are definitions.
use Rattle.std.specs.Prelude.{List, ℕ, Result, Ok, Err}
use Rattle.store.specs.Act.{Act, pure, refuse}
use Rattle.volume.specs.declared.Geometry.{Geometry}
use Rattle.volume.specs.declared.Volume.{Volume}
use Rattle.balloc.specs.Calls.{writing}
use Rattle.dirmove.specs.Move.{move_name}
use Rattle.rename_judge.specs.declared.Verdict.{Verdict}
use Rattle.rename_judge.specs.declared.Verdict.TheVariants as Verdict
use Rattle.rename_judge.specs.Rename.{Asked, verdict_of}
use Rattle.refusal.specs.declared.Refusal.{Refusal}

-- "Same directory and name: nothing stored, inode returned"; else the name moves; all that is judged is judged before any store
abbrev pub moving : Geometry → Asked → Result Verdict Refusal → Act ℕ
moving geo a (Ok (Verdict.Same i)) = pure i
moving geo a (Ok (Verdict.Move i kind clears)) = move_name geo a.to a.new a.from a.old clears i kind
moving geo a (Err e) = refuse e

unfoldable pub rename_for : Asked → Geometry → Act ℕ
rename_for a geo = λ img. moving geo a (verdict_of geo img a) img

-- "Order: 97 for an unsound volume, 30, .."
unfoldable pub rename_call : Volume → Asked → Act ℕ
rename_call vol a = writing vol (rename_for a)
