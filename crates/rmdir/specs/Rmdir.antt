-- 01: the public call that takes an empty directory away. Assumes nothing: these are definitions.
use Rattle.std.specs.Prelude.{List, ℕ, Result, Ok, Err}
use Rattle.store.specs.Act.{Act, refuse, ◌>>◌}
use Rattle.volume.specs.declared.Geometry.{Geometry}
use Rattle.volume.specs.declared.Volume.{Volume}
use Rattle.balloc.specs.Calls.{writing}
use Rattle.dirwrite.specs.Write.{free_found}
use Rattle.dirlink.specs.Link.{unlink_name}
use Rattle.dirtake.specs.Take.{take_name}
use Rattle.stages.specs.Stages.{in_order}
use Rattle.rmdir_judge.specs.Rmdir.{dot, dotdot, gone_in, rmdir_stages, removal_of}
use Rattle.refusal.specs.declared.Refusal.{Refusal}

-- ---- the work

-- "." goes with a link, then the directory's own link
unfoldable pub own_gone : Geometry → ℕ → Act (Unit {0})
own_gone geo i = take_name geo i dot >> free_found geo i

-- ".." goes first, with a link of its parent's
unfoldable pub emptied : Geometry → ℕ → Act (Unit {0})
emptied geo i = take_name geo i dotdot >> own_gone geo i

-- and before both its name in its parent
unfoldable pub remove_dir : Geometry → ℕ → List ℕ → ℕ → Act (Unit {0})
remove_dir geo d name i = unlink_name geo d name >> emptied geo i

-- ---- the call: all that is judged is judged before any store

abbrev pub removing : Geometry → ℕ → List ℕ → Result ℕ Refusal → Act (Unit {0})
removing geo d name (Ok i) = remove_dir geo d name i
removing geo d name (Err e) = refuse e

unfoldable pub rmdir_for : ℕ → List ℕ → Geometry → Act (Unit {0})
rmdir_for d name geo = λ img. removing geo d name (removal_of (gone_in geo img d name) (in_order (rmdir_stages geo img d name))) img

-- "Order: 97 for an unsound volume, 30, .."
unfoldable pub rmdir_call : Volume → ℕ → List ℕ → Act (Unit {0})
rmdir_call vol d name = writing vol (rmdir_for d name)
