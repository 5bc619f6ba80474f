-- What is there after an inode was given out: its bit is 1, and its record is the new one. Assumes nothing.
use Rattle.std.specs.Prelude.{Some}
use Rattle.std.proofs.Common.{◌≡◌, ℕ, ◌+◌, ◌-◌, ◌*◌, ◌/◌, ◌%◌, ◌^◌, ◌<◌, ◌≤◌, false, List, [], ◌∷◌, length, sym, refl, ap, ◌∙◌, inl, inr, add_comm, arith}
use native.Mathlib.Nat.{div-eq_of_lt, add-mul-div_right}
use Rattle.field.specs.Field.{Kept}
use Rattle.store.specs.Store.{apply, apply_all}
use Rattle.store.specs.Where.{All, none, more}
use Rattle.store.specs.Act.{got}
use Rattle.store.proofs.ActLaws.{left-image}
use Rattle.store.proofs.OnlyLaws.{kept-number}
use Rattle.store.proofs.StoreLaws.{length-apply}
use Rattle.store.proofs.WhereLaws.{all_append, all_parts}
use Rattle.volume.specs.declared.Geometry.{Geometry}
use Rattle.volume.specs.declared.Count.TheVariants.{Nifree}
use Rattle.volume.specs.Volume.{sb_at, cg_at, count_at, total_at, count_place, total_place, inode_at}
use Rattle.volume.proofs.Laws.{count-place, total-place}
use Rattle.bits.specs.Bits.{bit_at}
use Rattle.bits.proofs.BitsLaws.{bit_at-inside, kept-bit_at, kept-put_bits_at}
use Rattle.sound.specs.Sound.{used_at}
use Rattle.frame.specs.Frame.{Frame}
use Rattle.frame.proofs.Places.{spots, inode-is, used-byte}
use Rattle.frame.specs.Writes.{count_write, total_write}
use Rattle.frame.proofs.WriteLaws.{count-write-is, total-write-is}
use Rattle.inode.specs.declared.Inode.{Inode}
use Rattle.inode.specs.declared.InodeType.{InodeType}
use Rattle.inode.specs.declared.Times.{Times}
use Rattle.inode.specs.Kind.{type_number}
use Rattle.inode.specs.Places.{generation_at}
use Rattle.inode_record.specs.Record.{listed, inode_of, inode_store, Fit, Fits, slots, owner_slots, size_slots, time_slots, flag_slots, address_slots, last_slots}
use Rattle.inode_record.proofs.ReadLaws.{kept-inode, generation-of-inode}
use Rattle.inode_record.proofs.RecordLaws.{inode-back, kept-inode-store}
use Rattle.ialloc_give.specs.Marks.{counted}
use Rattle.ialloc_give.specs.Choose.{chosen, inode_number}
use Rattle.ialloc_give.specs.Give.{new_inode, with_link, give_at, give_inode}
use Rattle.ialloc_give.proofs.MarkLaws.{apply-used, mark-left, count_left}
use Rattle.ialloc_give.proofs.ChooseLaws.{IsChosen, number_in}
use Rattle.ialloc_give.proofs.GiveLaws.{kind-small, setup-made, give-made}
use Rattle.ialloc_give.proofs.OutLaws.{Ready, marked}
use Rattle.ialloc_give.proofs.Theorems.{Answered, given-first}

-- ---- the new record as its bytes can say it

module _ (n : ℕ) (small : n < 256 ^ 4) (v : Inode) where
  owner-fits : All Fit (owner_slots v) → All Fit (owner_slots (with_link n v))
  unfolding with_link
  owner-fits (more mode (more nlink rest)) = let one : 1 < 256 ^ 2 = omega arith in more mode (more one rest)

  flags-fit : All Fit (flag_slots v) → All Fit (flag_slots (with_link n v))
  unfolding with_link
  flags-fit (more generation rest) = more small rest

  pub link_fits : Fits v → Fits (with_link n v)
  unfolding with_link slots
  link_fits f =
      let p = all_parts (owner_slots v) f.numbers in
      let q = all_parts (size_slots v) p.1 in
      let r = all_parts (time_slots v.times) q.1 in
      let s = all_parts (flag_slots v) r.1 in
      record {
        numbers = all_append (owner-fits p.0) (all_append q.0 (all_append r.0 (all_append (flags-fit s.0) s.1)));
        extb = f.extb;
        direct = f.direct;
        indirect = f.indirect;
        spare = f.spare;
      }

-- the record that a call prepares
pub new-fits : (geo : Geometry) (kind : InodeType) (perm uid gid : ℕ) (t : Times) → geo.bsize < 256 ^ 4 → uid < 256 ^ 4 → gid < 256 ^ 4 → All Fit (time_slots t) → Fits (new_inode geo kind perm uid gid t)
unfolding new_inode slots listed
new-fits geo kind perm uid gid t b u g times =
    let mode : type_number kind * 4096 + perm % 4096 < 256 ^ 2 = omega (arith, kind-small kind) in
    let two : 0 < 256 ^ 2 = omega arith in
    let four : 0 < 256 ^ 4 = omega arith in
    let eight : 0 < 256 ^ 8 = omega arith in
    let v = new_inode geo kind perm uid gid t in
    let owner : All Fit (owner_slots v) = more mode (more two (more u (more g (more b none)))) in
    let size : All Fit (size_slots v) = more eight (more eight none) in
    let flags : All Fit (flag_slots v) = more four (more four (more four (more four none))) in
    let direct : All Fit (address_slots v) =
    more eight (more eight (more eight (more eight (more eight (more eight (more eight (more eight (more eight (more eight (more eight (more eight (more eight (more eight (more eight (more eight (more eight none)))))))))))))))) in
    let last : All Fit (last_slots v) = more eight (more four (more four (more four (more four none)))) in
    record {
      numbers = all_append owner (all_append size (all_append times (all_append flags (all_append direct last))));
      extb = refl;
      direct = refl;
      indirect = refl;
      spare = refl;
    }

-- ---- where the record and the bit stand

pub number-group : (geo : Geometry) (g k : ℕ) → 0 < geo.ipg → k < geo.ipg → inode_number geo g k / geo.ipg ≡ g
unfolding inode_number
number-group geo g k p l =
    ap (λ (x : ℕ). x / geo.ipg) (add_comm (g * geo.ipg) k) ∙ add-mul-div_right k g p ∙ ap (λ (x : ℕ). x + g) (div-eq_of_lt l) ∙ omega arith

module _ (geo : Geometry) (new : Inode) (img : List ℕ) (fr : Frame geo img) (g k : ℕ) (lg : g < geo.ncg) (lk : k < geo.ipg) where
  abbrev at : ℕ
  at = inode_at geo (inode_number geo g k)

  abbrev after-record : List ℕ
  after-record = apply (inode_store geo.order at (with_link (generation_at geo.order at (marked geo new g k img) + 1) new)) (marked geo new g k img)

  abbrev after-count : List ℕ
  after-count = apply (count_write geo g Nifree (counted false 4 (count_at geo.order Nifree (cg_at geo g) after-record)) ∷ []) after-record

  abbrev after-all : List ℕ
  after-all = apply (total_write geo Nifree (counted false 8 (total_at geo.order Nifree after-count)) ∷ []) after-count

  kept-mark : Kept (used_at geo g img + k / 8) 1 img (marked geo new g k img)
  kept-mark = rw (apply-used 1 geo g k img) (kept-put_bits_at 1 img (used_at geo g img) k 1)

  kept_record : Kept at 256 (marked geo new g k img) after-record
  kept_record = kept-inode-store geo.order at _ (marked geo new g k img)

  kept-counts : Kept (cg_at geo g + count_place Nifree) 4 after-record after-count
  kept-counts = rw (count-write-is geo g Nifree (counted false 4 (count_at geo.order Nifree (cg_at geo g) after-record))) (kept-number geo.order 4 (cg_at geo g + count_place Nifree) _ after-record)

  kept-total : Kept (sb_at + total_place Nifree) 8 after-count after-all
  kept-total = rw (total-write-is geo Nifree (counted false 8 (total_at geo.order Nifree after-count))) (kept-number geo.order 8 (sb_at + total_place Nifree) _ after-count)

  -- the superblock, the group's counts, its inode map, and the record, in that order
  order-there : (sb_at + total_place Nifree + 8 ≤ cg_at geo g) × (cg_at geo g + count_place Nifree + 4 ≤ used_at geo g img + k / 8) × (used_at geo g img + k / 8 + 1 ≤ at) × (at + 256 ≤ length img)
  order-there =
      let s = spots geo img fr g lg in
      let u = used-byte geo img fr g k lg lk in
      let i = inode-is geo img fr (inode_number geo g k) at (number_in geo g k lg lk) refl in
      let e = number-group geo g k (omega (arith, fr.laid.inodes)) lk in
      let f = rw e at i.first in
      let c = count-place Nifree in
      let t = total-place Nifree in
      (omega arith, omega arith, omega arith, i.inside)

  bit-there : bit_at after-all (used_at geo g img) k ≡ 1
  bit-there =
      let o = order-there in
      kept-bit_at (used_at geo g img) k kept-total (inr (omega (arith, o.0, o.1)))
      ∙ kept-bit_at (used_at geo g img) k kept-counts (inr o.1)
      ∙ kept-bit_at (used_at geo g img) k kept_record (inl (omega (arith, o.2)))
      ∙ rw (apply-used 1 geo g k img) (bit_at-inside 1 img (used_at geo g img) k 1 (omega arith) (omega arith) (omega (arith, o.2, o.3)) k (omega arith) (omega arith))

  generation-there : generation_at geo.order at (marked geo new g k img) ≡ generation_at geo.order at img
  generation-there =
      generation-of-inode geo.order at (marked geo new g k img)
      ∙ ap (λ (v : Inode). v.generation) (kept-inode geo.order at kept-mark (inr order-there.2))
      ∙ sym (generation-of-inode geo.order at img)

  record-there : generation_at geo.order at (marked geo new g k img) < 4294967295 → Fits new → inode_of geo.order at after-all ≡ with_link (generation_at geo.order at img + 1) new
  record-there room f =
      let o = order-there in
      let l : length (marked geo new g k img) ≡ length img = length-apply _ img in
      kept-inode geo.order at kept-total (inr (omega (arith, o.0, o.1, o.2)))
      ∙ kept-inode geo.order at kept-counts (inr (omega (arith, o.1, o.2)))
      ∙ inode-back geo.order at _ (marked geo new g k img) (link_fits _ (omega (arith, room)) new f) (omega (arith, l, o.3))
      ∙ ap (λ (n : ℕ). with_link (n + 1) new) generation-there

  after_is : Ready geo (inode_number geo g k) (marked geo new g k img) (generation_at geo.order at (marked geo new g k img) + 1) → after-all ≡ apply_all (give_at geo new g k img).stores img
  after_is y =
      left-image (give_at geo new g k) img
      (give-made geo new g k img (inode_number geo g k) refl (mark-left 1 geo g k img refl refl) (setup-made geo new (inode_number geo g k) (marked geo new g k img) y.unlinked y.room refl) refl (count_left false geo g after-record refl refl))

-- ---- after a good answer

pub record Made (geo : Geometry) (new : Inode) (img : List ℕ) (i : ℕ) (z : List ℕ) : Type 0 where
  pub answered : Answered geo img i
  pub bit : bit_at z (used_at geo answered.group img) answered.place ≡ 1
  pub inode : inode_of geo.order (inode_at geo i) z ≡ with_link (generation_at geo.order (inode_at geo i) img + 1) new

chosen-stores : (geo : Geometry) (new : Inode) (img : List ℕ) (g k : ℕ) → chosen geo img ≡ Some (g, k) → apply_all (give_at geo new g k img).stores img ≡ apply_all (give_inode geo new img).stores img
unfolding give_inode
chosen-stores geo new img g k e = rw e

made-at : (geo : Geometry) (new : Inode) (img : List ℕ) → Frame geo img → Fits new → (i g k : ℕ) → chosen geo img ≡ Some (g, k) → IsChosen geo img g k → i ≡ inode_number geo g k
    → Ready geo i (marked geo new g k img) (generation_at geo.order (inode_at geo i) (marked geo new g k img) + 1) → (z : List ℕ) → apply_all (give_inode geo new img).stores img ≡ z
    → (bit_at z (used_at geo g img) k ≡ 1) × (inode_of geo.order (inode_at geo i) z ≡ with_link (generation_at geo.order (inode_at geo i) img + 1) new)
made-at geo new img fr f i g k q c en r z ez =
    let y = rw en at r in
    let w : after-all geo new img fr g k c.group c.inode ≡ z = after_is geo new img fr g k c.group c.inode y ∙ chosen-stores geo new img g k q ∙ ez in
    (rw (← w) (bit-there geo new img fr g k c.group c.inode), rw (← w, en) (record-there geo new img fr g k c.group c.inode y.room f))

pub given-after : (geo : Geometry) (new : Inode) (img : List ℕ) → Frame geo img → Fits new → (i : ℕ) → (give_inode geo new img).out ≡ got i → Made geo new img i (apply_all (give_inode geo new img).stores img)
given-after geo new img fr f i e =
    let a = given-first geo new img i e in
    let m = made-at geo new img fr f i a.group a.place a.chosen_there a.first a.number a.ready (apply_all (give_inode geo new img).stores img) refl in
    record { answered = a; bit = m.0; inode = m.1 }
