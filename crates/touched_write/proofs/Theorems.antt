-- Where each store of inode_write lies: in the maps and counts, in the inode's record, in a block that was free, in a data block or a list of the file; and all along the layout stays. At every cut, on damaged volumes too. Assumes nothing.
use Rattle.std.specs.Prelude.{Ok}
use mathlib.Core.Path.{◌≡◌, refl, subst}
use mathlib.Core.List.{List}
use Prim.Native.Nat.{ℕ, zero, suc, ◌+◌, max}
use lib.ListN.{length}
use Rattle.refusal.specs.declared.Refusal.TheVariants.{ReadOnly}
use Rattle.store.specs.Store.{Store, apply_all, cut}
use Rattle.store.specs.Where.{KeptBut}
use Rattle.store.specs.Act.{Out, got, refused, pure, ◌>>=◌, cut_act, Always}
use Rattle.store.proofs.OnlyLaws.{kept-but-refl, kept-but-store}
use Rattle.store.proofs.CutLaws.{cut_act_lem, cut-none}
use Rattle.volume.specs.declared.Geometry.{Geometry}
use Rattle.volume.specs.declared.Volume.{Volume}
use Rattle.volume.specs.Volume.{inode_at}
use Rattle.sound.specs.Test.{taken_of}
use Rattle.inode.specs.Shape.{shape_of}
use Rattle.inode_run.specs.declared.Spot.{Spot}
use Rattle.inode_run.specs.Find.{spot_of, find_inode}
use Rattle.inode_run.proofs.FindLaws.{find-named}
use Rattle.balloc.specs.Calls.{entering, writing}
use Rattle.books.specs.Work.{given}
use Rattle.inode_read.proofs.JudgeLaws.{taken-frame}
use Rattle.inode_setblock.specs.Set.{InTable}
use Rattle.inode_write.specs.Write.{write_at}
use Rattle.inode_write.specs.Calls.{write_judged, write_found, inode_write}
use Rattle.inode_write.proofs.CallLaws.{in_table}
use Rattle.touched_write.specs.Stores.{Goes, done, next, Passes, WriteByte}
use Rattle.touched_write.proofs.GoesLaws.{Kind, Fine, fine_bind, fine-pure, fine-refuse, fine-choose, fine-given, fine-reads}
use Rattle.touched_write.proofs.ApartLaws.{Going, going-refl}
use Rattle.touched_write.proofs.WriteStores.{write_fine}

-- one store more changes only bytes that Q names of the image just before
pub goes_cut : {Q : List ℕ → ℕ → Type 0} {img : List ℕ} {ss : List Store} → Goes Q img ss → (k : ℕ) → KeptBut (Q (cut k ss img)) (cut k ss img) (cut (suc k) ss img)
unfolding cut apply_all
goes_cut {img = img} done k = rw (cut-none k img, cut-none (suc k) img) (kept-but-refl _ img)
goes_cut {img = img} (next p ps) zero = kept-but-store p img
goes_cut (next p ps) (suc k) = goes_cut ps k

-- of an inode that was found
found-fine : (geo : Geometry) (start : List ℕ) (Seen : List ℕ → Type 0) (s : Spot) → InTable geo s.at → (off : ℕ) (buf : List ℕ) {x : List ℕ} → Going geo start x
    → Fine (WriteByte geo start Seen s.at (max s.shape.size (off + length buf))) (Going geo start) Seen (write_found geo s off buf) x
unfolding write_found
found-fine geo start Seen s t off buf {x} p =
    let q = WriteByte geo start Seen s.at (max s.shape.size (off + length buf)) in
    fine-reads q (Going geo start) Seen (λ y. given (write_judged geo s off (length buf) y) (λ _. write_at geo s.at s.shape.size off buf >>= (λ _. pure (length buf))))
    (λ _. fine-given q (Going geo start) Seen (write_judged geo s off (length buf) x) (λ _. write_at geo s.at s.shape.size off buf >>= (λ _. pure (length buf))) p
    (λ _. fine_bind q (Going geo start) Seen {m = write_at geo s.at s.shape.size off buf} (write_fine geo start Seen s.at t s.shape.size off buf p) (λ _ _ u. fine-pure q (Going geo start) Seen (length buf) u)))

module _ (vol : Volume) (i off : ℕ) (buf img : List ℕ) (geo : Geometry) where
  -- the bytes that a store of the call may change, of the image just before it
  abbrev pub CallByte : List ℕ → ℕ → Type 0
  CallByte = WriteByte geo img (Passes (inode_write vol i off buf) img) (inode_at geo i) (max (shape_of geo.order (inode_at geo i) img).size (off + length buf))

  abbrev Seen : List ℕ → Type 0
  Seen = Passes (inode_write vol i off buf) img

  module _ (t : taken_of img ≡ Ok geo) where
    here : Going geo img img
    here = going-refl geo img (taken-frame img geo t)

    found : (s : Spot) → find_inode geo img i ≡ got s → Fine CallByte (Going geo img) Seen (write_found geo s off buf) img
    unfolding spot_of
    found s e =
        let n = find-named geo img (taken-frame img geo t) i s e in
        subst (λ (r : Spot). Fine (WriteByte geo img Seen r.at (max r.shape.size (off + length buf))) (Going geo img) Seen (write_found geo s off buf) img) n.is
        (found-fine geo img Seen s (in_table geo img i s.at n.place) off buf here)

    call-fine : Fine CallByte (Going geo img) Seen (inode_write vol i off buf) img
    unfolding inode_write writing
    call-fine =
        fine-reads CallByte (Going geo img) Seen (λ x. entering vol (λ geo. λ img. given (find_inode geo img i) (λ s. write_found geo s off buf) img) (taken_of x))
        (λ _. rw t
        (fine-choose CallByte (Going geo img) Seen vol.writable
        (λ _. fine-reads CallByte (Going geo img) Seen (λ x. given (find_inode geo x i) (λ s. write_found geo s off buf)) (λ _. go (find_inode geo img i) refl))
        (λ _. fine-refuse CallByte (Going geo img) Seen ℕ ReadOnly here)))
      where
        go : (o : Out Spot) → find_inode geo img i ≡ o → Fine CallByte (Going geo img) Seen (given o (λ s. write_found geo s off buf)) img
        go (got s) e = found s e
        go (refused r) e = fine-refuse CallByte (Going geo img) Seen ℕ r here

    call-kind : Kind CallByte (Going geo img) Seen (inode_write vol i off buf) img
    call-kind = call-fine (record { holds = λ k. record { stores = k; is = refl } })

    -- the public call, on a volume that is taken: every store, in its turn
    pub call-goes : Goes CallByte img (inode_write vol i off buf img).stores
    call-goes = call-kind.goes

    -- what one store more changes
    pub call_touches : (k : ℕ) → KeptBut (CallByte (cut_act k (inode_write vol i off buf) img)) (cut_act k (inode_write vol i off buf) img) (cut_act (suc k) (inode_write vol i off buf) img)
    call_touches k = rw (cut_act_lem k (inode_write vol i off buf) img, cut_act_lem (suc k) (inode_write vol i off buf) img) (goes_cut call-goes k)

    -- at every cut the layout stands, and nothing is free that was not
    pub call-going : Always (Going geo img) (inode_write vol i off buf) img
    call-going = call-kind.keeps
