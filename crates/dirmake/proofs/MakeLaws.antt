-- Laws of an inode given out with its name, and of a directory's first block: what each call leaves, case by case. Assumes nothing.
use mathlib.Core.Path.{◌≡◌, refl, ap, ◌∙◌}
use mathlib.Core.List.{List, [], ◌∷◌}
use Prim.Native.Nat.{ℕ, ◌*◌, ◌<◌}
use Rattle.field.specs.declared.Order.{Order}
use Rattle.refusal.specs.declared.Refusal.{Refusal}
use Rattle.store.specs.Store.{apply, apply_all}
use Rattle.store.specs.Act.{Out, got, refused, pure, reads, ◌>>=◌, ◌>>◌, Left, leaves}
use Rattle.store.proofs.ActLaws.{step-good, step-bad, step_store, step_read, leaves-pure, left_out}
use Rattle.volume.specs.declared.Geometry.{Geometry}
use Rattle.volume.specs.Volume.{inode_at}
use Rattle.inode.specs.declared.Inode.{Inode}
use Rattle.inode.specs.declared.InodeAttr.{InodeAttr}
use Rattle.inode.specs.declared.InodeType.{InodeType}
use Rattle.inode.specs.declared.InodeType.TheVariants.{Directory}
use Rattle.inode.specs.Kind.{type_number, attr_of}
use Rattle.inode.specs.Places.{nlink_write}
use Rattle.inode_record.specs.Record.{inode_of}
use Rattle.ialloc_give.specs.Give.{give_inode}
use Rattle.ialloc_give.proofs.ChooseLaws.{number_in}
use Rattle.ialloc_give.proofs.Theorems.{given-first}
use Rattle.inode_write.specs.Write.{write_at}
use Rattle.dirblock.specs.Write.{newdir_block}
use Rattle.dirwrite.specs.Write.{cut_to, bump_found}
use Rattle.dirlink.specs.Link.{link_name}
use Rattle.dirmake.specs.Make.{attr_now, make_node, first_size, first_block, fill_dir, make_dir}

leaves-reads : {A : Type 0} (g : List ℕ → A) (img : List ℕ) → ◌≡◌ {A = Left A} (img, got (g img)) (leaves (reads g) img)
unfolding reads leaves apply_all
leaves-reads g img = refl

-- what the record says, read where it begins
pub attr_told : (geo : Geometry) (kind : InodeType) (i : ℕ) (img : List ℕ) (o : Order) → o ≡ geo.order → {at : ℕ} → at ≡ inode_at geo i → {v : Inode} → v ≡ inode_of o at img
    → {a : InodeAttr} → a ≡ attr_of i kind v → a ≡ attr_now geo kind i img
unfolding attr_now
attr_told geo kind i img o eo ea ev e = e ∙ rw (ev, eo, ea)

-- a kind's number, of a directory
pub directory_number : 4 ≡ type_number Directory
unfolding type_number
directory_number = refl

-- ---- the inode given out

module _ (geo : Geometry) (new : Inode) (img : List ℕ) where
  -- it is one of the volume's
  pub number-given : (i : ℕ) → (give_inode geo new img).out ≡ got i → i < geo.ncg * geo.ipg
  number-given i e = let a = given-first geo new img i e in rw a.number (number_in geo a.group a.place a.first.group a.first.inode)

  -- the same of what the code was told
  pub number-told : {x : List ℕ} {o : Out ℕ} → (x, o) ≡ leaves (give_inode geo new) img → {i : ℕ} → o ≡ got i → i < geo.ncg * geo.ipg
  number-told r {i} e = number-given i (left_out (give_inode geo new) img r ∙ e)

-- ---- a name with a new inode

module _ (geo : Geometry) (d : ℕ) (name : List ℕ) (kind : InodeType) (new : Inode) (img : List ℕ) {x : List ℕ} {o : Out ℕ} (r : (x, o) ≡ leaves (give_inode geo new) img) where
  pub node-none : {f : Refusal} → o ≡ refused f → ◌≡◌ {A = Left InodeAttr} (x, refused f) (leaves (make_node geo d name kind new) img)
  unfolding make_node
  node-none e = step-bad (give_inode geo new) (λ i. reads (attr_now geo kind i) >>= (λ a. link_name geo d i (type_number kind) name >> pure a)) img r e

  module _ {i : ℕ} (e : o ≡ got i) {k : ℕ} (ek : k ≡ type_number kind) {y : List ℕ} {p : Out (Unit {0})} (l : (y, p) ≡ leaves (link_name geo d i k name) x) where
    linked : (y, p) ≡ leaves (link_name geo d i (type_number kind) name) x
    linked = l ∙ ap (λ (k : ℕ). leaves (link_name geo d i k name) x) ek

    told : leaves (link_name geo d i (type_number kind) name >> pure (attr_now geo kind i x)) x ≡ leaves (make_node geo d name kind new) img
    unfolding make_node
    told =
        step_read (attr_now geo kind i) (λ a. link_name geo d i (type_number kind) name >> pure a) x
        ∙ step-good (give_inode geo new) (λ i. reads (attr_now geo kind i) >>= (λ a. link_name geo d i (type_number kind) name >> pure a)) img r e

    pub node_made : {a : InodeAttr} → a ≡ attr_now geo kind i x → p ≡ got (tt {0}) → ◌≡◌ {A = Left InodeAttr} (y, got a) (leaves (make_node geo d name kind new) img)
    node_made ea q =
        ap (λ (a : InodeAttr). (y, got a)) ea ∙ leaves-pure (attr_now geo kind i x) y
        ∙ step-good (link_name geo d i (type_number kind) name) (λ _. pure (attr_now geo kind i x)) x linked q ∙ told

    pub node-stop : {f : Refusal} → p ≡ refused f → ◌≡◌ {A = Left InodeAttr} (y, refused f) (leaves (make_node geo d name kind new) img)
    node-stop q = step-bad (link_name geo d i (type_number kind) name) (λ _. pure (attr_now geo kind i x)) x linked q ∙ told

-- ---- a new directory

pub size_linked : (geo : Geometry) (i : ℕ) (img : List ℕ) (o : Order) → o ≡ geo.order → {at : ℕ} → at ≡ inode_at geo i → {x : List ℕ} → x ≡ apply (nlink_write o at 2 ∷ []) img
    → leaves (cut_to geo i 512) x ≡ leaves (first_size geo i) img
unfolding first_size
size_linked geo i img o eo ea ex =
    rw (ex, eo, ea) (step_store (nlink_write geo.order (inode_at geo i) 2 ∷ []) (λ _. cut_to geo i 512) img)

module _ (geo : Geometry) (d i : ℕ) (img : List ℕ) (o : Order) (eo : o ≡ geo.order) {at : ℕ} (ea : at ≡ inode_at geo i) {b : List ℕ} (eb : b ≡ newdir_block o i d)
    {x : List ℕ} {p : Out (Unit {0})} (w : (x, p) ≡ leaves (write_at geo at 512 0 b) img) where
  first-written : (x, p) ≡ leaves (write_at geo (inode_at geo i) 512 0 (newdir_block geo.order i d)) img
  first-written = w ∙ rw (eb, eo, ea)

  pub first_done : p ≡ got (tt {0}) → {a : InodeAttr} → a ≡ attr_now geo Directory i x → ◌≡◌ {A = Left InodeAttr} (x, got a) (leaves (first_block geo d i) img)
  unfolding first_block
  first_done q {a} e =
      ap (λ (a : InodeAttr). (x, got a)) e ∙ leaves-reads (attr_now geo Directory i) x
      ∙ step-good (write_at geo (inode_at geo i) 512 0 (newdir_block geo.order i d)) (λ _. reads (attr_now geo Directory i)) img first-written q

  pub first-stop : {f : Refusal} → p ≡ refused f → ◌≡◌ {A = Left InodeAttr} (x, refused f) (leaves (first_block geo d i) img)
  unfolding first_block
  first-stop q = step-bad (write_at geo (inode_at geo i) 512 0 (newdir_block geo.order i d)) (λ _. reads (attr_now geo Directory i)) img first-written q

module _ (geo : Geometry) (d i : ℕ) (img : List ℕ) {x : List ℕ} {o : Out (Unit {0})} (r : (x, o) ≡ leaves (bump_found geo d) img) where
  pub fill_stop : {f : Refusal} → o ≡ refused f → ◌≡◌ {A = Left InodeAttr} (x, refused f) (leaves (fill_dir geo d i) img)
  unfolding fill_dir
  fill_stop e = step-bad (bump_found geo d >> first_size geo i) (λ _. first_block geo d i) img (step-bad (bump_found geo d) (λ _. first_size geo i) img r e) refl

  module _ (e : o ≡ got (tt {0})) {y : List ℕ} {p : Out (Unit {0})} (s : (y, p) ≡ leaves (first_size geo i) x) where
    raised : (y, p) ≡ leaves (bump_found geo d >> first_size geo i) img
    raised = s ∙ step-good (bump_found geo d) (λ _. first_size geo i) img r e

    pub fill-sized : p ≡ got (tt {0}) → leaves (first_block geo d i) y ≡ leaves (fill_dir geo d i) img
    unfolding fill_dir
    fill-sized q = step-good (bump_found geo d >> first_size geo i) (λ _. first_block geo d i) img raised q

    pub fill-unsized : {f : Refusal} → p ≡ refused f → ◌≡◌ {A = Left InodeAttr} (y, refused f) (leaves (fill_dir geo d i) img)
    unfolding fill_dir
    fill-unsized q = step-bad (bump_found geo d >> first_size geo i) (λ _. first_block geo d i) img raised q

module _ (geo : Geometry) (d : ℕ) (name : List ℕ) (new : Inode) (img : List ℕ) {x : List ℕ} {o : Out ℕ} (r : (x, o) ≡ leaves (give_inode geo new) img) where
  pub dir-none : {f : Refusal} → o ≡ refused f → ◌≡◌ {A = Left InodeAttr} (x, refused f) (leaves (make_dir geo d name new) img)
  unfolding make_dir
  dir-none e = step-bad (give_inode geo new) (λ i. link_name geo d i (type_number Directory) name >> fill_dir geo d i) img r e

  module _ {i : ℕ} (e : o ≡ got i) {k : ℕ} (ek : k ≡ type_number Directory) {y : List ℕ} {p : Out (Unit {0})} (l : (y, p) ≡ leaves (link_name geo d i k name) x) where
    dir-linked : (y, p) ≡ leaves (link_name geo d i (type_number Directory) name) x
    dir-linked = l ∙ ap (λ (k : ℕ). leaves (link_name geo d i k name) x) ek

    dir-given : leaves (link_name geo d i (type_number Directory) name >> fill_dir geo d i) x ≡ leaves (make_dir geo d name new) img
    unfolding make_dir
    dir-given = step-good (give_inode geo new) (λ i. link_name geo d i (type_number Directory) name >> fill_dir geo d i) img r e

    pub dir-made : p ≡ got (tt {0}) → leaves (fill_dir geo d i) y ≡ leaves (make_dir geo d name new) img
    dir-made q = step-good (link_name geo d i (type_number Directory) name) (λ _. fill_dir geo d i) x dir-linked q ∙ dir-given

    pub dir-stop : {f : Refusal} → p ≡ refused f → ◌≡◌ {A = Left InodeAttr} (y, refused f) (leaves (make_dir geo d name new) img)
    dir-stop q = step-bad (link_name geo d i (type_number Directory) name) (λ _. fill_dir geo d i) x dir-linked q ∙ dir-given
