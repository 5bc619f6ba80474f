-- 01, "Inodes and mapping": the public call that writes, with the order of refusals. Assumes nothing: these are definitions.
use Rattle.std.specs.Prelude.{not, ◌&&◌, List, ℕ, ◌+◌, ◌*◌, max, length, ltb, leb, Result, Ok, Err}
use Rattle.refusal.specs.declared.Refusal.TheVariants.{Damaged, TextInInode, TooBig}
use Rattle.store.specs.Act.{Out, got, refused, Act, pure, ◌>>=◌}
use Rattle.volume.specs.declared.Geometry.{Geometry}
use Rattle.volume.specs.declared.Volume.{Volume}
use Rattle.inode.specs.Size.{pick}
use Rattle.inode.specs.Shape.{sized, in_place}
use Rattle.mapping.specs.Zones.{zones_end}
use Rattle.mapping.specs.Mapping.{per_list}
use Rattle.inode_run.specs.declared.Spot.{Spot}
use Rattle.inode_run.specs.Judge.{ask}
use Rattle.inode_run.specs.Find.{find_inode}
use Rattle.balloc.specs.Calls.{writing}
use Rattle.books.specs.Work.{given}
use Rattle.inode_grow.specs.Grow.{grow_rule}
use Rattle.inode_write.specs.Write.{write_at}
use Rattle.refusal.specs.declared.Refusal.{Refusal}

-- where the triple zone ends, in bytes
unfoldable pub limit_of : Geometry → ℕ
limit_of geo = zones_end (per_list geo) * geo.bsize

-- "kind (5, ..), .. 27, 45": n bytes from `off` on; a kind is refused only where a byte is written
unfoldable pub write_judged : Geometry → Spot → ℕ → ℕ → List ℕ → Out (Unit {0})
write_judged geo s off n img =
    pick (ltb 0 n && in_place s.shape) (refused TextInInode)
    (pick (ltb 0 n && not (sized s.shape)) (refused Damaged)
    (ask (leb (off + n) (limit_of geo)) TooBig
    (grow_rule geo s.at s.shape (max s.shape.size (off + n)) img)))

unfoldable pub write_found : Geometry → Spot → ℕ → List ℕ → Act ℕ
write_found geo s off buf = λ img.
    given (write_judged geo s off (length buf) img) (λ _. write_at geo s.at s.shape.size off buf >>= (λ _. pure (length buf))) img

-- "Order: 97 for an unsound volume, 30, .. the inode (22), .."
unfoldable pub inode_write : Volume → ℕ → ℕ → List ℕ → Act ℕ
inode_write vol i off buf = writing vol (λ geo. λ img. given (find_inode geo img i) (λ s. write_found geo s off buf) img)

-- the code's answer
abbrev pub wrote_out : Result ℕ Refusal → Out ℕ
wrote_out (Ok n) = got n
wrote_out (Err e) = refused e

abbrev pub wrote_of : Out ℕ → Result ℕ Refusal
wrote_of (got n) = Ok n
wrote_of (refused e) = Err e

abbrev pub wrote_answer : List ℕ × Out ℕ → List ℕ × Result ℕ Refusal
wrote_answer p = (p.0, wrote_of p.1)
