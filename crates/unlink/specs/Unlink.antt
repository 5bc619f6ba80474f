-- 01: the public call that takes a name away, and with its last name the inode. Assumes nothing: these are definitions.
use Rattle.std.specs.Prelude.{List, ℕ}
use Rattle.store.specs.Act.{Act}
use Rattle.volume.specs.declared.Geometry.{Geometry}
use Rattle.volume.specs.declared.Volume.{Volume}
use Rattle.balloc.specs.Calls.{writing}
use Rattle.books.specs.Work.{given}
use Rattle.stages.specs.Stages.{in_order}
use Rattle.dirtake.specs.Take.{take_name}
use Rattle.unlink_judge.specs.Unlink.{unlink_stages}

unfoldable pub unlink_for : ℕ → List ℕ → Geometry → Act (Unit {0})
unlink_for d name geo = λ img. given (in_order (unlink_stages geo img d name)) (λ _. take_name geo d name) img

-- "Order: 97 for an unsound volume, 30, .."
unfoldable pub unlink_call : Volume → ℕ → List ℕ → Act (Unit {0})
unlink_call vol d name = writing vol (unlink_for d name)
