-- 01: the work of mknod and mkdir: an inode given out, its name linked, a directory's first block. Assumes nothing: these are definitions.
use Rattle.std.specs.Prelude.{List, [], ◌∷◌, ℕ, Result, Ok, Err}
use Rattle.store.specs.Act.{Out, got, refused, Act, pure, reads, store, ◌>>=◌, ◌>>◌}
use Rattle.volume.specs.declared.Geometry.{Geometry}
use Rattle.volume.specs.Volume.{inode_at}
use Rattle.inode.specs.declared.Inode.{Inode}
use Rattle.inode.specs.declared.InodeAttr.{InodeAttr}
use Rattle.inode.specs.declared.InodeType.{InodeType}
use Rattle.inode.specs.declared.InodeType.TheVariants.{Directory}
use Rattle.inode.specs.Kind.{type_number, attr_of}
use Rattle.inode.specs.Places.{nlink_write}
use Rattle.inode_record.specs.Record.{inode_of}
use Rattle.ialloc_give.specs.Give.{give_inode}
use Rattle.inode_write.specs.Write.{write_at}
use Rattle.dirblock.specs.Write.{newdir_block}
use Rattle.dirwrite.specs.Write.{cut_to, bump_found}
use Rattle.dirlink.specs.Link.{link_name}
use Rattle.refusal.specs.declared.Refusal.{Refusal}

-- what the record of inode i, of that kind, says
unfoldable pub attr_now : Geometry → InodeType → ℕ → List ℕ → InodeAttr
attr_now geo kind i img = attr_of i kind (inode_of geo.order (inode_at geo i) img)

-- an inode given out, told as it is then, and its name linked
unfoldable pub make_node : Geometry → ℕ → List ℕ → InodeType → Inode → Act InodeAttr
make_node geo d name kind new =
    give_inode geo new >>= (λ i. reads (attr_now geo kind i) >>= (λ a. link_name geo d i (type_number kind) name >> pure a))

-- a new directory's two links, and its size
unfoldable pub first_size : Geometry → ℕ → Act (Unit {0})
first_size geo i = store (nlink_write geo.order (inode_at geo i) 2 ∷ []) >> cut_to geo i 512

-- its first block is `newdir`'s
unfoldable pub first_block : Geometry → ℕ → ℕ → Act InodeAttr
first_block geo d i = write_at geo (inode_at geo i) 512 0 (newdir_block geo.order i d) >> reads (attr_now geo Directory i)

-- the parent has a link more; then the new directory is filled
unfoldable pub fill_dir : Geometry → ℕ → ℕ → Act InodeAttr
fill_dir geo d i = bump_found geo d >> first_size geo i >> first_block geo d i

unfoldable pub make_dir : Geometry → ℕ → List ℕ → Inode → Act InodeAttr
make_dir geo d name new = give_inode geo new >>= (λ i. link_name geo d i (type_number Directory) name >> fill_dir geo d i)

-- the code's answer
abbrev pub made_out : Result InodeAttr Refusal → Out InodeAttr
made_out (Ok a) = got a
made_out (Err e) = refused e
