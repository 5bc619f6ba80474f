-- 01, "Directory records and attributes": a name linked into a directory, and one unlinked from it, as steps of the work: each makes its own tests again, and what they refuse is 97 there. Assumes nothing: these are definitions.
use Rattle.std.specs.Prelude.{List, ℕ, length, Result, Ok, Err}
use Rattle.refusal.specs.declared.Refusal.TheVariants.{Damaged}
use Rattle.store.specs.Act.{Out, got, refused, Act, pure, refuse, ◌>>=◌, ◌>>◌, choose}
use Rattle.volume.specs.declared.Geometry.{Geometry}
use Rattle.inode_run.specs.declared.Spot.{Spot}
use Rattle.books.specs.Work.{damaged_out, given}
use Rattle.dirfile.specs.Block.{dir_of}
use Rattle.dirfile.specs.Seek.{Sought, here, nowhere, hurt}
use Rattle.dirwalk.specs.declared.Hit.{Hit}
use Rattle.dirwalk.specs.Walk.{find_dir, room_dir}
use Rattle.dirwrite.specs.Write.{link_block, unlink_block, link_grown, drop_block}
use Rattle.refusal.specs.declared.Refusal.{Refusal}

-- ---- dir_newlink

-- into the first block with room; where none has, into a new one
abbrev pub link_by : Geometry → Spot → ℕ → ℕ → List ℕ → Sought ℕ → Act (Unit {0})
link_by geo s inr kind name (here k) = link_block geo s.at s.shape.size k inr kind name
link_by geo s inr kind name nowhere = link_grown geo s inr kind name
link_by geo s inr kind name hurt = refuse Damaged

unfoldable pub link_into : Geometry → Spot → ℕ → ℕ → List ℕ → Act (Unit {0})
link_into geo s inr kind name = λ img. link_by geo s inr kind name (room_dir geo s.at s.shape.size img (length name)) img

-- the inode inr gets the name in directory d
unfoldable pub link_name : Geometry → ℕ → ℕ → ℕ → List ℕ → Act (Unit {0})
link_name geo d inr kind name = λ img. given (damaged_out (dir_of geo img d)) (λ s. link_into geo s inr kind name) img

-- ---- dir_unlink

-- a record that stands alone takes its block with it
unfoldable pub take_hit : Geometry → ℕ → Spot → List ℕ → Hit → Act (Unit {0})
take_hit geo d s name h =
    choose h.alone (drop_block geo d s.at s.shape.size h.block) (unlink_block geo s.at s.shape.size h.block name)

-- the answer is its inode
unfoldable pub unlink_hit : Geometry → ℕ → Spot → List ℕ → Hit → Act ℕ
unlink_hit geo d s name h = take_hit geo d s name h >> pure h.inr

abbrev pub unlink_by : Geometry → ℕ → Spot → List ℕ → Sought Hit → Act ℕ
unlink_by geo d s name (here h) = unlink_hit geo d s name h
unlink_by geo d s name nowhere = refuse Damaged
unlink_by geo d s name hurt = refuse Damaged

unfoldable pub unlink_from : Geometry → ℕ → Spot → List ℕ → Act ℕ
unlink_from geo d s name = λ img. unlink_by geo d s name (find_dir geo s.at s.shape.size img name) img

-- directory d loses the name
unfoldable pub unlink_name : Geometry → ℕ → List ℕ → Act ℕ
unlink_name geo d name = λ img. given (damaged_out (dir_of geo img d)) (λ s. unlink_from geo d s name) img

-- the code's answer
abbrev pub gone_out : Result ℕ Refusal → Out ℕ
gone_out (Ok i) = got i
gone_out (Err e) = refused e
