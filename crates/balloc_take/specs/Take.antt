-- 01, "Giving out and taking back blocks": taking back. Assumes nothing: these are definitions.
use Rattle.std.specs.Prelude.{ℕ, zero, suc, ◌+◌, ◌-◌, ◌/◌, ◌%◌, ◌^◌, min, Bool, true, false, not, ◌&&◌, List, [], ◌∷◌, ◌++◌, ◌==◌, nat_le, nat_lt, Result, Ok, Err}
use Rattle.refusal.specs.declared.Refusal.{Refusal}
use Rattle.refusal.specs.declared.Refusal.TheVariants.{Invalid, Damaged}
use Rattle.store.specs.Store.{Store}
use Rattle.store.specs.Act.{Out, got, refused, Run, Act}
use Rattle.volume.specs.declared.Geometry.{Geometry}
use Rattle.volume.specs.declared.Count.{Count}
use Rattle.volume.specs.declared.Count.TheVariants.{Nbfree, Nffree}
use Rattle.volume.specs.declared.Counts.{Counts}
use Rattle.volume.specs.declared.Totals.{Totals}
use Rattle.volume.specs.Volume.{cg_at, count_at, total_at, counts_of, totals_of}
use Rattle.bits.specs.Bits.{bits_are, block_free, put_bits_at}
use Rattle.sound.specs.Sound.{free_at}
use Rattle.frame.specs.Frame.{run_okb}
use Rattle.frame.specs.Writes.{map_write, count_write, total_write, up, down}

-- "a positive multiple of fsize up to bsize"
unfoldable pub good_size : Geometry → ℕ → Bool
good_size geo size = nat_lt 0 size && size % geo.fsize == 0 && nat_le size geo.bsize

-- "the run must lie inside one block, address % frag + n <= frag"
unfoldable pub in_block : Geometry → ℕ → ℕ → Bool
in_block geo a n = nat_le (a % geo.frag + n) geo.frag

-- a group's count, and a total
abbrev pub group_count : Geometry → ℕ → Count → List ℕ → ℕ
group_count geo g c img = count_at geo.order c (cg_at geo g) img

abbrev pub total : Geometry → Count → List ℕ → ℕ
total geo c img = total_at geo.order c img

-- a signed number of w bytes, kept modulo 256 ^ w, can rise or fall by d within its type
unfoldable pub rises : ℕ → ℕ → ℕ → Bool
rises w x d = not (nat_lt (x + x) (256 ^ w) && nat_le (256 ^ w) (x + d + (x + d)))

unfoldable pub falls : ℕ → ℕ → ℕ → Bool
falls w x d = not (nat_le (256 ^ w) (x + x) && nat_lt (x - d + (x - d)) (256 ^ w))

-- the n fragments from f of group g back, is the block that they stand in wholly free?
unfoldable pub whole_then : Geometry → ℕ → ℕ → ℕ → List ℕ → Bool
whole_then geo g f n img = block_free geo.frag (put_bits_at 1 img (free_at geo g img) f n) (free_at geo g img) (f / geo.frag)

-- damage is "each place .. where the Rust would panic, wrap or leave the image": no count that is computed may wrap
unfoldable pub block_fits : Geometry → ℕ → List ℕ → Bool
block_fits geo g img = rises 4 (group_count geo g Nbfree img) 1 && rises 8 (total geo Nbfree img) 1

-- the same of n fragments; and of a block that they make whole
unfoldable pub frags_fit : Geometry → ℕ → ℕ → List ℕ → Bool
frags_fit geo g n img = rises 4 (group_count geo g Nffree img) n && rises 8 (total geo Nffree img) n

unfoldable pub whole_fits : Geometry → ℕ → ℕ → List ℕ → Bool
whole_fits geo g n img =
    falls 4 (up 4 (group_count geo g Nffree img) n) geo.frag
    && falls 8 (up 8 (total geo Nffree img) n) geo.frag
    && block_fits geo g img

-- the one where the test holds, else the other
abbrev pub pick : {A : Type 0} → Bool → A → A → A
pick true a b = a
pick false a b = b

-- the counts that this run's stores compute, the ones on the way too
unfoldable pub counts_fit : Geometry → ℕ → ℕ → ℕ → List ℕ → Bool
counts_fit geo g f n img =
    pick (n == geo.frag) (block_fits geo g img)
    (frags_fit geo g n img && pick (whole_then geo g f n img) (whole_fits geo g n img) true)

-- the first test that fails refuses
abbrev pub ask : Bool → Refusal → Result (Unit {0}) Refusal → Result (Unit {0}) Refusal
ask true e j = j
ask false e j = Err e

-- "Otherwise the size is checked the same way (22); the run must lie inside one block (22); it must lie within ndblk and touch no reserved fragment (97);
-- all its bits must be 0 (97)"
unfoldable pub take_test : Geometry → ℕ → ℕ → List ℕ → Result (Unit {0}) Refusal
take_test geo a size img =
    let n = size / geo.fsize in
    let g = a / geo.fpg in
    let f = a % geo.fpg in
    ask (good_size geo size) Invalid
    (ask (in_block geo a n) Invalid
    (ask (run_okb geo img a n) Damaged
    (ask (bits_are 0 img (free_at geo g img) f n) Damaged
    (ask (counts_fit geo g f n img) Damaged
    (Ok tt)))))

-- "block taken back: map byte; total nbfree; group nbfree"
unfoldable pub block_stores : Geometry → ℕ → ℕ → List ℕ → List Store
block_stores geo g f img =
    (map_write 1 geo g f geo.frag img ∷ [])
    ∷ (total_write geo Nbfree (up 8 (total geo Nbfree img) 1) ∷ [])
    ∷ (count_write geo g Nbfree (up 4 (group_count geo g Nbfree img) 1) ∷ [])
    ∷ []

-- "n map bytes, lowest fragment first"
unfoldable pub frag_maps : Geometry → ℕ → ℕ → List ℕ → ℕ → List Store
frag_maps geo g f img zero = []
frag_maps geo g f img (suc i) = frag_maps geo g f img i ++ (map_write 1 geo g f (suc i) img ∷ []) ∷ []

-- "total nffree; if the block is now whole, totals nffree and nbfree; group nffree and nbfree", from the group's counts c and the totals t
abbrev pub count_stores : Geometry → ℕ → ℕ → Counts → Totals → Bool → List Store
count_stores geo g n c t false =
    (total_write geo Nffree (up 8 t.nffree n) ∷ [])
    ∷ (count_write geo g Nffree (up 4 c.nffree n) ∷ count_write geo g Nbfree c.nbfree ∷ [])
    ∷ []
count_stores geo g n c t true =
    (total_write geo Nffree (up 8 t.nffree n) ∷ [])
    ∷ (total_write geo Nffree (down 8 (up 8 t.nffree n) geo.frag) ∷ total_write geo Nbfree (up 8 t.nbfree 1) ∷ [])
    ∷ (count_write geo g Nffree (down 4 (up 4 c.nffree n) geo.frag) ∷ count_write geo g Nbfree (up 4 c.nbfree 1) ∷ [])
    ∷ []

-- the same, from the image that the call meets
abbrev pub frag_counts : Geometry → ℕ → ℕ → List ℕ → Bool → List Store
frag_counts geo g n img whole = count_stores geo g n (counts_of geo.order (cg_at geo g) img) (totals_of geo.order img) whole

-- "n fragments taken back": the map bytes, then the counts
unfoldable pub frag_stores : Geometry → ℕ → ℕ → ℕ → List ℕ → List Store
frag_stores geo g f n img = frag_maps geo g f img n ++ frag_counts geo g n img (whole_then geo g f n img)

-- "block taken back" where the size is a block's, else "n fragments taken back"
unfoldable pub take_stores : Geometry → ℕ → ℕ → List ℕ → List Store
take_stores geo a size img =
    let n = size / geo.fsize in
    pick (n == geo.frag) (block_stores geo (a / geo.fpg) (a % geo.fpg) img) (frag_stores geo (a / geo.fpg) (a % geo.fpg) n img)

-- "giving out and taking back refuse only before their first store"
abbrev pub taking : Result (Unit {0}) Refusal → List Store → Run (Unit {0})
taking (Ok u) ss = record { stores = ss; out = got (tt {0}) }
taking (Err e) ss = record { stores = []; out = refused e }

-- "Taking back address 0, past 97 and 30, makes no store"
unfoldable pub take_back : Geometry → ℕ → ℕ → Act (Unit {0})
take_back geo a size img = pick (a == 0) (record { stores = []; out = got (tt {0}) }) (taking (take_test geo a size img) (take_stores geo a size img))

-- how many of a run's n fragments are marked free once k stores are made: a block's all with the first store, else one with each
unfoldable pub back_by : Geometry → ℕ → ℕ → ℕ
back_by geo n k = pick (n == geo.frag) (pick (nat_lt 0 k) n 0) (min k n)

-- the code's answer: the number of stores made, or a refusal
abbrev pub took_out : Result ℕ Refusal → Out (Unit {0})
took_out (Ok n) = got (tt {0})
took_out (Err e) = refused e

-- "0 for address 0 or a refusal"
abbrev pub took_made : Result ℕ Refusal → ℕ
took_made (Ok n) = n
took_made (Err e) = 0
