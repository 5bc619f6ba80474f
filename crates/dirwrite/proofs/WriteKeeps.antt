-- Writing, moving and cutting off a directory's blocks keeps the layout, at every cut. Assumes nothing.
use mathlib.Core.Path.{◌≡◌, refl}
use mathlib.Core.Bool.{true}
use mathlib.Core.List.{List}
use Prim.Native.Nat.{ℕ, ◌+◌, ◌-◌, ◌*◌, ◌/◌}
use Rattle.refusal.specs.declared.Refusal.TheVariants.{Damaged}
use Rattle.store.specs.Act.{Out, got, refused, Act, Always}
use Rattle.store.proofs.AlwaysLaws.{always-refuse}
use Rattle.volume.specs.declared.Geometry.{Geometry}
use Rattle.inode.specs.declared.Shape.{Shape}
use Rattle.mapping.proofs.MappingLaws.{per-some}
use Rattle.dirblock.specs.Link.{link_in, unlink_in}
use Rattle.inode_run.specs.declared.Spot.{Spot}
use Rattle.inode_run.specs.Find.{number_ok, find_inode}
use Rattle.inode_run.proofs.FindLaws.{find-named, number-is}
use Rattle.books.specs.Books.{Steady}
use Rattle.books.specs.Work.{damaged_out, or_damaged, given}
use Rattle.books.proofs.KeepLaws.{Keeps, keeps-bind, keeps-each, keeps_given, keeps-work, keeps-read}
use Rattle.ialloc_give.specs.Give.{bump}
use Rattle.ialloc_give.proofs.MarkLaws.{keeps-store}
use Rattle.ialloc_give.proofs.GiveLaws.{keeps-bump}
use Rattle.ialloc_free.specs.Free.{free_inode}
use Rattle.ialloc_free.proofs.FreeLaws.{keeps-free}
use Rattle.truncate.specs.Call.{judged_work}
use Rattle.truncate.proofs.Theorems.{keeps-judged}
use Rattle.inode_setblock.specs.Set.{InTable}
use Rattle.inode_setblock.proofs.SetKeeps.{always_reads, record_steady}
use Rattle.inode_write.specs.Write.{write_at}
use Rattle.inode_write.proofs.BlocksKeep.{keeps_write}
use Rattle.inode_write.proofs.CallLaws.{in_table}
use Rattle.dirfile.specs.Block.{dir_block}
use Rattle.dirwrite.specs.Write.{link_block, unlink_block, sole_block, link_grown, move_block, close_up, cut_to, drop_block, bump_found, free_found}

module _ (geo : Geometry) where
  module _ (at : ℕ) (t : InTable geo at) where
    -- ---- one block

    module _ (size k : ℕ) where
      keeps-block : (off : ℕ) (new : List ℕ → List ℕ) → Keeps geo (λ img. given (dir_block geo at size img k) (λ b. write_at geo at size off (new b)) img)
      keeps-block off new = keeps-read geo (λ x. given (dir_block geo at size x k) (λ b. write_at geo at size off (new b))) (λ x. keeps_given geo (dir_block geo at size x k) (λ b. keeps_write geo at t size off (new b)))

      pub keeps-link : (inr kind : ℕ) (name : List ℕ) → Keeps geo (link_block geo at size k inr kind name)
      unfolding link_block
      keeps-link inr kind name = keeps-block (k * 512) (λ b. (link_in geo.order b inr kind name).0)

      pub keeps-unlink : (name : List ℕ) → Keeps geo (unlink_block geo at size k name)
      unfolding unlink_block
      keeps-unlink name = keeps-block (k * 512) (λ b. (unlink_in geo.order b name).0)

      pub keeps-move : Keeps geo (move_block geo at size k)
      unfolding move_block
      keeps-move = keeps-block ((k - 1) * 512) (λ b. b)

    -- ---- the directory's size

    pub keeps-resize : (s : Shape) (new : ℕ) → Keeps geo (or_damaged (judged_work geo at s new))
    keeps-resize s new =
        keeps-work geo (λ start img st. keeps-judged geo (per-some geo img st.frame) at (λ w o. keeps-store geo (λ _. w) (λ x fr. record_steady geo x fr at t w o)) s new start img st)

    pub keeps-close : (size k : ℕ) → Keeps geo (close_up geo at size k)
    unfolding close_up
    keeps-close size k = keeps-each geo (λ q _. move_block geo at size q) (λ q _. keeps-move size q) (size / 512 - (k + 1)) (k + 1) (tt {0})

  pub keeps-grown : (s : Spot) → InTable geo s.at → (inr kind : ℕ) (name : List ℕ) → Keeps geo (link_grown geo s inr kind name)
  unfolding link_grown
  keeps-grown s t inr kind name =
      keeps-bind geo (keeps-resize s.at t s.shape (s.shape.size + 512))
      (λ _. keeps_write geo s.at t (s.shape.size + 512) s.shape.size (sole_block geo.order inr kind name))

  -- ---- an inode that is found again

  module _ (i : ℕ) where
    keeps-again : (f : Spot → Act (Unit {0})) → ((s : Spot) → InTable geo s.at → number_ok geo i ≡ true → Keeps geo (f s)) → Keeps geo (λ img. given (damaged_out (find_inode geo img i)) f img)
    keeps-again f p start img st = always_reads (λ x. given (damaged_out (find_inode geo x i)) f) (go (find_inode geo img i) refl)
      where
        go : (o : Out Spot) → find_inode geo img i ≡ o → Always (Steady geo start) (given (damaged_out o) f) img
        go (got s) e = let n = find-named geo img st.frame i s e in p s (in_table geo img i s.at n.place) n.number start img st
        go (refused r) e = always-refuse (Unit {0}) Damaged st

    pub keeps_cut : (new : ℕ) → Keeps geo (cut_to geo i new)
    unfolding cut_to
    keeps_cut new = keeps-again (λ s. or_damaged (judged_work geo s.at s.shape new)) (λ s t _. keeps-resize s.at t s.shape new)

    pub keeps-drop : (at : ℕ) → InTable geo at → (size k : ℕ) → Keeps geo (drop_block geo i at size k)
    unfolding drop_block
    keeps-drop at t size k = keeps-bind geo (keeps-close at t size k) (λ _. keeps_cut (size - 512))

    pub keeps-bump-found : Keeps geo (bump_found geo i)
    unfolding bump_found
    keeps-bump-found = keeps-again (λ _. bump geo i) (λ _ _ n. keeps-bump geo i (number-is geo i n).1)

    pub keeps-free-found : Keeps geo (free_found geo i)
    unfolding free_found
    keeps-free-found = keeps-again (λ _. free_inode geo i) (λ _ _ n. let l = number-is geo i n in keeps-free geo i l.1 l.0)
