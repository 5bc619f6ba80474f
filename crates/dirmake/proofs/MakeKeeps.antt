-- A name with a new inode, and a new directory, keep the layout at every cut. Assumes nothing.
use mathlib.Core.Path.{◌≡◌, refl}
use mathlib.Core.List.{List, [], ◌∷◌}
use Prim.Native.Nat.{ℕ, ◌*◌, ◌<◌}
use Rattle.field.specs.declared.Order.{Order}
use Rattle.store.specs.Store.{apply, apply_all}
use Rattle.store.specs.Where.{none, more}
use Rattle.store.specs.Act.{Act, pure, reads, ◌>>=◌, ◌>>◌}
use Rattle.store.proofs.AlwaysLaws.{always-all, always-bind}
use Rattle.volume.specs.declared.Geometry.{Geometry}
use Rattle.volume.specs.Volume.{inode_at}
use Rattle.frame.specs.Frame.{Frame}
use Rattle.frame.proofs.Places.{inode-is}
use Rattle.inode.specs.declared.Inode.{Inode}
use Rattle.inode.specs.declared.InodeType.{InodeType}
use Rattle.inode.specs.declared.InodeType.TheVariants.{Directory}
use Rattle.inode.specs.Kind.{type_number}
use Rattle.inode.specs.Places.{nlink_write}
use Rattle.inode.proofs.PlaceLaws.{nlink-inside}
use Rattle.books.specs.Books.{Steady}
use Rattle.books.proofs.KeepLaws.{Keeps, keeps-pure, keeps-bind}
use Rattle.ialloc_give.specs.Give.{give_inode}
use Rattle.ialloc_give.proofs.MarkLaws.{record_steady, keeps-store, keeps-reads}
use Rattle.ialloc_give.proofs.GiveLaws.{keeps-give}
use Rattle.inode_write.proofs.BlocksKeep.{keeps_write}
use Rattle.inode_write.proofs.CallLaws.{in_table}
use Rattle.dirblock.specs.Write.{newdir_block}
use Rattle.dirwrite.proofs.WriteKeeps.{keeps_cut, keeps-bump-found}
use Rattle.dirlink.specs.Link.{link_name}
use Rattle.dirlink.proofs.LinkKeeps.{keeps-link-name}
use Rattle.dirmake.specs.Make.{attr_now, make_node, first_size, first_block, fill_dir, make_dir}
use Rattle.dirmake.proofs.MakeLaws.{number-given}

module _ (geo : Geometry) where
  -- work that goes on with the inode given out, which is one of the volume's
  keeps-given-inode : {B : Type 0} (new : Inode) (f : ℕ → Act B) → ((i : ℕ) → i < geo.ncg * geo.ipg → Keeps geo (f i)) → Keeps geo (give_inode geo new >>= f)
  keeps-given-inode new f p start img s =
      let g = keeps-give geo new start img s in
      always-bind g (λ i e. p i (number-given geo new img i e) start (apply_all (give_inode geo new img).stores img) (always-all g))

  pub keeps-node : (d : ℕ) (name : List ℕ) (kind : InodeType) (new : Inode) → Keeps geo (make_node geo d name kind new)
  unfolding make_node
  keeps-node d name kind new =
      keeps-given-inode new (λ i. reads (attr_now geo kind i) >>= (λ a. link_name geo d i (type_number kind) name >> pure a))
      (λ i _. keeps-bind geo (keeps-reads geo (attr_now geo kind i)) (λ a. keeps-bind geo (keeps-link-name geo d i (type_number kind) name) (λ _. keeps-pure geo a)))

  module _ (i : ℕ) (l : i < geo.ncg * geo.ipg) where
    -- a link count stored in its record
    pub nlink-steady : (img : List ℕ) → Frame geo img → (o : Order) → o ≡ geo.order → {at : ℕ} → at ≡ inode_at geo i → (v : ℕ) → {x : List ℕ} → x ≡ apply (nlink_write o at v ∷ []) img → Steady geo img x
    nlink-steady img fr o eo ea v ex = rw (ex, eo, ea) (record_steady geo img fr i l (more (nlink-inside geo.order (inode_at geo i) v) none))

    pub keeps-first-size : Keeps geo (first_size geo i)
    unfolding first_size
    keeps-first-size =
        keeps-bind geo (keeps-store geo (λ _. nlink_write geo.order (inode_at geo i) 2 ∷ []) (λ img fr. nlink-steady img fr geo.order refl refl 2 refl))
        (λ _. keeps_cut geo i 512)

    pub keeps-first-block : (d : ℕ) → Keeps geo (first_block geo d i)
    unfolding first_block
    keeps-first-block d start img s =
        keeps-bind geo (keeps_write geo (inode_at geo i) (in_table geo img i (inode_at geo i) (inode-is geo img s.frame i (inode_at geo i) l refl)) 512 0 (newdir_block geo.order i d))
        (λ _. keeps-reads geo (attr_now geo Directory i)) start img s

    pub keeps-fill : (d : ℕ) → Keeps geo (fill_dir geo d i)
    unfolding fill_dir
    keeps-fill d = keeps-bind geo (keeps-bind geo (keeps-bump-found geo d) (λ _. keeps-first-size)) (λ _. keeps-first-block d)

  pub keeps-dir : (d : ℕ) (name : List ℕ) (new : Inode) → Keeps geo (make_dir geo d name new)
  unfolding make_dir
  keeps-dir d name new =
      keeps-given-inode new (λ i. link_name geo d i (type_number Directory) name >> fill_dir geo d i)
      (λ i l. keeps-bind geo (keeps-link-name geo d i (type_number Directory) name) (λ _. keeps-fill i l d))
