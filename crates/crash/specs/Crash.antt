-- Demand 3: a run of the block calls, cut after any store, and one recount. Assumes nothing: these are definitions.
use Rattle.std.specs.Prelude.{◌≡◌, true, List, [], ◌∷◌, ◌++◌, ℕ, ◌+◌, ◌-◌, ◌/◌, ◌%◌, ◌≤◌, ◌<◌, eqb, length, get_or}
use Rattle.store.specs.Store.{Store, apply_all, cut}
use Rattle.store.specs.Where.{Range}
use Rattle.store.specs.Act.{Out, got, refused, leaves}
use Rattle.volume.specs.declared.Geometry.{Geometry}
use Rattle.volume.specs.declared.Volume.{Volume}
use Rattle.volume.specs.declared.Count.TheVariants.{Nbfree, Nffree}
use Rattle.volume.specs.Volume.{geometry_of, byte_at, cg_at, count_at, total_at}
use Rattle.bits.specs.Bits.{put_bits_at}
use Rattle.sound.specs.Clauses.{soundb}
use Rattle.sound.specs.Sound.{group_at, free_at, free_bit}
use Rattle.frame.specs.Frame.{Outside}
use Rattle.balloc_take.specs.Take.{pick}
use Rattle.balloc_count.specs.Recount.{blocks_of, loose_of, total_blocks, total_loose, CountByte}
use Rattle.balloc.specs.Calls.{blk_alloc, blk_free, recount}

-- "which give out whole blocks, take back whole blocks or take back fragments, refusals among them": of any size, address and size
pub data Call : Type 0 where
  give : ℕ → Call
  take : ℕ → ℕ → Call

-- the stores of the public call, none where it refuses; `blk_alloc_cut` and `blk_free_cut` promise a cut of just these
abbrev pub call_stores : Volume → Call → List ℕ → List Store
call_stores vol (give size) img = (blk_alloc vol size img).stores
call_stores vol (take a size) img = (blk_free vol a size img).stores

-- a run, call after call
unfoldable pub run_stores : Volume → List Call → List ℕ → List Store
run_stores vol [] img = []
run_stores vol (c ∷ cs) img = call_stores vol c img ++ run_stores vol cs (apply_all (call_stores vol c img) img)

-- a number for each call of a run, added up
unfoldable pub over_run : Volume → (Call → List ℕ → ℕ) → List Call → List ℕ → ℕ
over_run vol f [] img = 0
over_run vol f (c ∷ cs) img = f c img + over_run vol f cs (apply_all (call_stores vol c img) img)

-- a number where the call answers, 0 where it refuses
abbrev pub answered : {A : Type 0} → Out A → ℕ → ℕ
answered (got x) n = n
answered (refused e) n = 0

-- "the fragments given"
unfoldable pub given_by : Volume → Geometry → Call → List ℕ → ℕ
given_by vol geo (give size) img = answered (blk_alloc vol size img).out geo.frag
given_by vol geo (take a size) img = 0

-- "plus the fragments taken back, address 0 adding nothing"
unfoldable pub taken_by : Volume → Geometry → Call → List ℕ → ℕ
taken_by vol geo (give size) img = 0
taken_by vol geo (take a size) img = pick (eqb a 0) 0 (answered (blk_free vol a size img).out (size / geo.fsize))

-- "the finished calls"
unfoldable pub finished : Volume → List Call → List ℕ → List ℕ
finished vol cs img = apply_all (run_stores vol cs img) img

-- "Cut the run after any store, or before the first"
unfoldable pub cut_run : Volume → List Call → ℕ → List ℕ → List ℕ
cut_run vol cs k img = cut k (run_stores vol cs img) img

-- "One recount then leaves"
abbrev pub recounted : Volume → List ℕ → List ℕ
recounted vol img = (leaves (recount vol) img).0

-- byte j is one of a group's free map
abbrev pub MapByte : Geometry → List ℕ → ℕ → Type 0
MapByte geo img j = (g : ℕ) × (g < geo.ncg) × Range (free_at geo g img) (((group_at geo g img).ndblk + 7) / 8) j

-- no superblock copy's magic stands inside its group's free map: so it is where sblkno * fsize + 1376 <= cblkno * fsize, as on every card that we have
abbrev pub MagicApart : Geometry → List ℕ → Type 0
MagicApart geo img = (g : ℕ) → g < geo.ncg → Outside (free_at geo g img) (((group_at geo g img).ndblk + 7) / 8) (byte_at geo g geo.sblkno + 1372) 4

-- "with the cut call made, not made, or, for fragments, made for its first few": an image that has the map, from z, after the finished calls
pub data CutCall (vol : Volume) (geo : Geometry) (z : List ℕ) : List Call → List ℕ → Type 0 where
  not_made : (cs : List Call) → CutCall vol geo z cs z
  made : (c : Call) (cs : List Call) → CutCall vol geo z (c ∷ cs) (finished vol (c ∷ []) z)
  first_few : (a size i : ℕ) (cs : List Call) → i < size / geo.fsize → CutCall vol geo z (take a size ∷ cs) (put_bits_at 1 z (free_at geo (a / geo.fpg) z) (a % geo.fpg) i)

-- k stores after z: the next call, if there is one, has not made its last
abbrev pub Unfinished : Volume → List ℕ → ℕ → List Call → Type 0
Unfinished vol z k [] = Unit {0}
Unfinished vol z k (c ∷ cs) = k < length (call_stores vol c z)

-- what the recount leaves: y, from the start, with the free map of m
pub record Recovered (geo : Geometry) (start m y : List ℕ) : Type 0 where
  pub long : length y ≡ length start
  -- "leaves the free map of .."
  pub map : (g : ℕ) → g < geo.ncg → (f : ℕ) → f < (group_at geo g start).ndblk → free_bit geo g y f ≡ free_bit geo g m f
  -- "all block and fragment counts equal a fresh count of that map", in every group
  pub counts : (g : ℕ) → g < geo.ncg → (count_at geo.order Nbfree (cg_at geo g) y ≡ blocks_of geo g y) × (count_at geo.order Nffree (cg_at geo g) y ≡ loose_of geo g y)
  -- and in the superblock
  pub totals : (total_at geo.order Nbfree y ≡ total_blocks geo y) × (total_at geo.order Nffree y ≡ total_loose geo y)
  -- "no other byte differs from the start"
  pub other : (j : ℕ) → (MapByte geo start j → ⊥) → (CountByte geo j → ⊥) → get_or y j 0 ≡ get_or start j 0

-- the calls finished before the cut, the calls from the cut one on, and what is left
pub record Survives (vol : Volume) (img : List ℕ) (cs : List Call) (k : ℕ) : Type 0 where
  pub done : List Call
  pub rest : List Call
  pub all : cs ≡ done ++ rest
  -- the finished calls are those that have made their last store, and no others
  pub in_time : length (run_stores vol done img) ≤ k
  pub not_yet : Unfinished vol (finished vol done img) (k - length (run_stores vol done img)) rest
  pub like : List ℕ
  pub cut_call : CutCall vol (geometry_of img) (finished vol done img) rest like
  -- so that the recount is not refused
  pub sound : soundb (cut_run vol cs k img) ≡ true
  pub left : Recovered (geometry_of img) img like (recounted vol (cut_run vol cs k img))
