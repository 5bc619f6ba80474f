-- 01, "Inodes and mapping": the public call that sets a file's size, with the order of refusals. Assumes nothing: these are definitions.
use Rattle.std.specs.Prelude.{Bool, true, false, not, ◌&&◌, List, ℕ, ltb, leb}
use Rattle.refusal.specs.declared.Refusal.TheVariants.{Invalid, TooBig, NotSupported}
use Rattle.store.specs.Act.{Out, got, refused, Act}
use Rattle.volume.specs.declared.Geometry.{Geometry}
use Rattle.volume.specs.declared.Volume.{Volume}
use Rattle.inode.specs.declared.Shape.{Shape}
use Rattle.inode.specs.Size.{pick}
use Rattle.inode.specs.Shape.{in_place}
use Rattle.mapping.specs.Zones.{zone_start}
use Rattle.mapping.specs.Mapping.{per_list}
use Rattle.inode_run.specs.Judge.{ask}
use Rattle.inode_run.specs.Find.{find_inode}
use Rattle.balloc.specs.Calls.{writing}
use Rattle.books.specs.Work.{given}
use Rattle.inode_grow.specs.Grow.{zones_bytes, grow_rule}
use Rattle.inode_truncate.specs.Truncate.{keep_of, truncate_work}

-- "22: .. shrinking an in-place link"; "27: .. end past the triple zone"; "45: growth of a held tail; shrink ending in the triple zone"
unfoldable pub truncate_judged : Geometry → ℕ → Shape → ℕ → List ℕ → Out (Unit {0})
truncate_judged geo at s new img =
    ask (not (in_place s && ltb new s.size)) Invalid
    (ask (leb new (zones_bytes geo)) TooBig
    (pick (ltb new s.size) (ask (ltb (keep_of geo new) (zone_start (per_list geo) 3)) NotSupported (got (tt {0}))) (grow_rule geo at s new img)))

-- what is judged is judged before any store
unfoldable pub judged_work : Geometry → ℕ → Shape → ℕ → Act (Unit {0})
judged_work geo at s new = λ img. given (truncate_judged geo at s new img) (λ _. truncate_work geo at s new) img

unfoldable pub truncate_for : Geometry → ℕ → ℕ → Act (Unit {0})
truncate_for geo i new = λ img. given (find_inode geo img i) (λ s. judged_work geo s.at s.shape new) img

-- "Order: 97 for an unsound volume, 30, .. numbers, the inode (22), .."
unfoldable pub inode_truncate : Volume → ℕ → ℕ → Act (Unit {0})
inode_truncate vol i new = writing vol (λ geo. truncate_for geo i new)
