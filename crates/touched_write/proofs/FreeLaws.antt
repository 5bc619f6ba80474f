-- What giving out and other stores do to the map's free bytes. Assumes nothing.
use Rattle.std.specs.Prelude.{Option, Some, None}
use mathlib.Core.Path.{◌≡◌, refl, sym, ap, subst, ◌∙◌}
use mathlib.Core.Bool.{Bool, true, false}
use mathlib.Core.List.{List, [], ◌∷◌}
use mathlib.Core.Logic.{◌⊎◌, inl, inr, ⊎_elim}
use Prim.Native.Nat.{ℕ, ◌+◌, ◌-◌, ◌*◌, ◌/◌, ◌%◌, ◌≤◌, ◌<◌}
use native.Mathlib.Nat.{div-lt_iff_lt-mul, div-mul-le_self, lt-div-mul-add, mul_comm}
use native.Mathlib.Omega.{arith}
use native.Mathlib.Decide.{dec_lt, dec_le, ℕ_discrete}
use lib.Dec.{ltb}
use Rattle.store.specs.Store.{Store, apply, apply_all, apply_if, cut}
use Rattle.store.specs.Where.{Range, KeptBut}
use Rattle.store.specs.Act.{got, cut_act}
use Rattle.store.proofs.StoreLaws.{apply_if-yes, apply_if_no}
use Rattle.store.proofs.CutLaws.{cut_act_lem, cut-all, cut-none}
use Rattle.store.proofs.AlwaysLaws.{always-all}
use Rattle.volume.specs.declared.Geometry.{Geometry}
use Rattle.volume.specs.declared.Count.TheVariants.{Nbfree}
use Rattle.volume.specs.Volume.{byte_at, cg_at, count_place}
use Rattle.volume.proofs.Laws.{byte_at-mono, byte_at-next, byte_at-add, count-place, total-place, kept-put_count, kept-put_total}
use Rattle.bits.specs.Bits.{bit_at, put_bits_at}
use Rattle.bits.proofs.BitsLaws.{frag-some, block_in_byte, bit_at-same, kept-bit_at, kept-put_bits_at, bit_at-inside, bit_at-outside, free-bits, bits_at}
use Rattle.sound.specs.Sound.{group_at, free_at}
use Rattle.frame.specs.Frame.{Frame}
use Rattle.frame.specs.Writes.{map_write, count_write, total_write}
use Rattle.frame.proofs.Places.{order, spots}
use Rattle.frame.proofs.Stores.{record_apart}
use Rattle.frame.proofs.WriteLaws.{apply-map, apply-count, apply-total}
use Rattle.inode.proofs.SizeLaws.{units}
use Rattle.balloc_give.specs.Give.{chosen, giving, give_stores, give_block, block_address}
use Rattle.balloc_give.proofs.GiveLaws.{IsChosen, chosen-is, block_inside, block-byte, block-place, give-cut, give_three}
use Rattle.balloc_give.proofs.Theorems.{given-first}
use Rattle.books.specs.Books.{Book, of_free, Steady}
use Rattle.books.proofs.SteadyLaws.{give-steady}
use Rattle.touched_write.specs.Free.{Free}

-- ---- from the bits to the bytes

-- no bit is 1 in ys that is not in xs
abbrev pub BitsFewer : Geometry → List ℕ → List ℕ → Type 0
BitsFewer geo xs ys = (g f : ℕ) → g < geo.ncg → f < (group_at geo g xs).ndblk → bit_at ys (free_at geo g xs) f ≡ 1 → bit_at xs (free_at geo g xs) f ≡ 1

module _ (geo : Geometry) {xs ys : List ℕ} (s : Steady geo xs ys) where
  pub free-fewer : BitsFewer geo xs ys → {j : ℕ} → Free geo ys j → Free geo xs j
  free-fewer h p =
      let e = s.groups p.group p.one in
      let w = rw e at p.within in
      record { group = p.group; one = p.one; frag = p.frag; within = w; bit = h p.group p.frag p.one w (rw e at p.bit); byte = p.byte }

  -- stores elsewhere leave the map
  pub free-elsewhere : {Q : ℕ → Type 0} → KeptBut Q xs ys → ((j : ℕ) → Q j → Book geo xs j → ⊥) → {j : ℕ} → Free geo ys j → Free geo xs j
  free-elsewhere k a =
      free-fewer (λ g f l w b.
      sym (bit_at-same xs ys (free_at geo g xs) f (k.byte (free_at geo g xs + f / 8) (λ q. a _ q (of_free g l (omega arith, omega arith))))) ∙ b)

-- ---- giving out

-- a byte between two places of a group is of a fragment between them
pub same-place : (geo : Geometry) (k f g u v j : ℕ) → Range (byte_at geo k f) geo.fsize j → f < geo.fpg → byte_at geo g u ≤ j → j < byte_at geo g v → v ≤ geo.fpg → (g ≡ k) × (u ≤ f) × (f < v)
same-place geo k f g u v j r lf lo hi lv = by (order g k)
  where
    ends : byte_at geo k (f + 1) ≡ byte_at geo k f + geo.fsize
    ends = byte_at-add geo k f 1 ∙ omega arith

    first : (x : ℕ) → byte_at geo x 0 ≤ byte_at geo x u
    first x = let z : 0 ≤ u = omega arith in byte_at-mono geo x z

    zeroth : byte_at geo k 0 ≤ byte_at geo k f
    zeroth = let z : 0 ≤ f = omega arith in byte_at-mono geo k z

    here : g ≡ k → Dec (u ≤ f) → Dec (f < v) → (g ≡ k) × (u ≤ f) × (f < v)
    here e (yes a) (yes b) = (e, a, b)
    here e (no a) d =
        let q : f + 1 ≤ u = omega arith in
        let m = byte_at-mono geo k q in
        let z : byte_at geo g u ≡ byte_at geo k u = ap (λ (x : ℕ). byte_at geo x u) e in
        absurd (let y : ⊥ = omega (arith, ends, m, z, r.1, lo) in y)
    here e (yes a) (no b) =
        let q : v ≤ f = omega arith in
        let m = byte_at-mono geo k q in
        let z : byte_at geo g v ≡ byte_at geo k v = ap (λ (x : ℕ). byte_at geo x v) e in
        absurd (let y : ⊥ = omega (arith, m, z, r.0, hi) in y)

    by : (g < k) ⊎ ((g ≡ k) ⊎ (k < g)) → (g ≡ k) × (u ≤ f) × (f < v)
    by (inl l) = absurd (let y : ⊥ = omega (arith, byte_at-next geo l, byte_at-mono geo g lv, zeroth, r.0, hi) in y)
    by (inr (inl e)) = here e (dec_le u f) (dec_lt f v)
    by (inr (inr l)) =
        let q : f + 1 ≤ geo.fpg = omega arith in
        absurd (let y : ⊥ = omega (arith, byte_at-next geo l, byte_at-mono geo k q, ends, first g, r.1, lo) in y)

module _ (geo : Geometry) (img : List ℕ) (fr : Frame geo img) where
  -- a count or a total stored leaves every map
  module _ (k f : ℕ) (lk : k < geo.ncg) (lf : f < (group_at geo k img).ndblk) where
    count-bit : (g v : ℕ) → g < geo.ncg → (x : List ℕ) → bit_at (apply (count_write geo g Nbfree v ∷ []) x) (free_at geo k img) f ≡ bit_at x (free_at geo k img) f
    count-bit g v lg x =
        let s = spots geo img fr g lg in
        let t = spots geo img fr k lk in
        let q = count-place Nbfree in
        rw (apply-count geo x g Nbfree v)
        (kept-bit_at (free_at geo k img) f (kept-put_count geo.order Nbfree (cg_at geo g) v x)
        (⊎_elim (λ a. inl (omega arith)) (λ a. inr (omega arith))
        (record_apart geo img fr g (count_place Nbfree) 4 k ((group_at geo k img).freeoff + f / 8) 1 lg lk (omega arith) (omega arith) (λ _. inr (omega arith)))))

    total-bit : (v : ℕ) (x : List ℕ) → bit_at (apply (total_write geo Nbfree v ∷ []) x) (free_at geo k img) f ≡ bit_at x (free_at geo k img) f
    total-bit v x =
        let t = spots geo img fr k lk in
        let q = total-place Nbfree in
        rw (apply-total geo x Nbfree v) (kept-bit_at (free_at geo k img) f (kept-put_total geo.order Nbfree v x) (inr (omega arith)))

    bit-if : (go : Bool) (s : Store) (x : List ℕ) → bit_at (apply s x) (free_at geo k img) f ≡ bit_at x (free_at geo k img) f → bit_at (apply_if go s x) (free_at geo k img) f ≡ bit_at x (free_at geo k img) f
    bit-if true s x e = rw (apply_if-yes {go = true} refl s x) e
    bit-if false s x e = rw (apply_if_no {go = false} refl s x) refl

  -- the bits of the block chosen fall, the others stay
  module _ (g h : ℕ) (i : IsChosen geo img g h) where
    in_byte : geo.frag * h % 8 + geo.frag ≤ 8
    in_byte = block_in_byte h geo.frag fr.sizes.frag

    cleared : List ℕ
    cleared = put_bits_at 0 img (free_at geo g img) (geo.frag * h) geo.frag

    other-bit : (k f : ℕ) → k < geo.ncg → f < (group_at geo k img).ndblk → (g ≡ k → ⊥) → bit_at cleared (free_at geo k img) f ≡ bit_at img (free_at geo k img) f
    unfolding cleared
    other-bit k f lk lf ne =
        let s = spots geo img fr g i.group in
        let t = spots geo img fr k lk in
        let w = block_inside geo img fr g h i.group i.block in
        let z = frag-some geo.frag fr.sizes.frag in
        kept-bit_at (free_at geo k img) f (kept-put_bits_at 0 img (free_at geo g img) (geo.frag * h) geo.frag)
        (⊎_elim (λ a. inl (omega arith)) (λ a. inr (omega arith))
        (record_apart geo img fr g ((group_at geo g img).freeoff + geo.frag * h / 8) 1 k ((group_at geo k img).freeoff + f / 8) 1 i.group lk (omega arith) (omega arith) (λ e. absurd (ne e))))

    own-bit : (f : ℕ) → geo.frag * h ≤ f → f < geo.frag * h + geo.frag → bit_at cleared (free_at geo g img) f ≡ 0
    unfolding cleared
    own-bit f lo hi = bit_at-inside 0 img (free_at geo g img) (geo.frag * h) geo.frag (omega arith) in_byte (block-byte geo img fr g h i.group i.block) f lo hi

    beside-bit : (f : ℕ) → (f < geo.frag * h) ⊎ (geo.frag * h + geo.frag ≤ f) → bit_at cleared (free_at geo g img) f ≡ bit_at img (free_at geo g img) f
    unfolding cleared
    beside-bit f o = bit_at-outside 0 img (free_at geo g img) (geo.frag * h) geo.frag (omega arith) in_byte (block-byte geo img fr g h i.group i.block) f o

    cleared-fewer : BitsFewer geo img cleared
    cleared-fewer k f lk lf b = by (ℕ_discrete g k) (dec_le (geo.frag * h) f) (dec_lt f (geo.frag * h + geo.frag))
      where
        by : Dec (g ≡ k) → Dec (geo.frag * h ≤ f) → Dec (f < geo.frag * h + geo.frag) → bit_at img (free_at geo k img) f ≡ 1
        by (no n) d c = sym (other-bit k f lk lf n) ∙ b
        by (yes e) (no d) c = subst (λ (x : ℕ). bit_at cleared (free_at geo x img) f ≡ 1 → bit_at img (free_at geo x img) f ≡ 1) e (λ b. sym (beside-bit f (inl (omega arith))) ∙ b) b
        by (yes e) (yes d) (no c) = subst (λ (x : ℕ). bit_at cleared (free_at geo x img) f ≡ 1 → bit_at img (free_at geo x img) f ≡ 1) e (λ b. sym (beside-bit f (inr (omega arith))) ∙ b) b
        by (yes e) (yes d) (yes c) = subst (λ (x : ℕ). bit_at cleared (free_at geo x img) f ≡ 1 → bit_at img (free_at geo x img) f ≡ 1) e (λ b. absurd (let z : ◌≡◌ {A = ℕ} 0 1 = sym (own-bit f d c) ∙ b in let y : ⊥ = omega arith in y)) b

    -- at a cut, and once all are made
    cut-bits : (k f n : ℕ) → k < geo.ncg → f < (group_at geo k img).ndblk → bit_at (cut n (give_stores geo img g h) img) (free_at geo k img) f ≡ bit_at (apply_if (ltb 0 n) (map_write 0 geo g (geo.frag * h) geo.frag img ∷ []) img) (free_at geo k img) f
    cut-bits k f n lk lf =
        rw (give-cut n geo img g h)
        (bit-if k f lk lf (ltb 2 n) _ _ (total-bit k f lk lf _ _) ∙ bit-if k f lk lf (ltb 1 n) _ _ (count-bit k f lk lf g _ i.group _))

    if-cleared : (go : Bool) → BitsFewer geo img (apply_if go (map_write 0 geo g (geo.frag * h) geo.frag img ∷ []) img)
    unfolding cleared
    if-cleared true = rw (apply_if-yes {go = true} refl (map_write 0 geo g (geo.frag * h) geo.frag img ∷ []) img, apply-map geo img 0 g (geo.frag * h) geo.frag) cleared-fewer
    if-cleared false = rw (apply_if_no {go = false} refl (map_write 0 geo g (geo.frag * h) geo.frag img ∷ []) img) (λ k f lk lf b. b)

    cut-fewer : (n : ℕ) → BitsFewer geo img (cut n (give_stores geo img g h) img)
    cut-fewer n k f lk lf b = if-cleared (ltb 0 n) k f lk lf (sym (cut-bits k f n lk lf) ∙ b)

    -- where the block lies
    block-ends-at : byte_at geo g (geo.frag * h + geo.frag) ≡ block_address geo g h * geo.fsize + geo.bsize
    block-ends-at =
        let u = units geo fr.sizes in
        byte_at-add geo g (geo.frag * h) geo.frag ∙ ap (λ (x : ℕ). byte_at geo g (geo.frag * h) + x) (mul_comm geo.frag geo.fsize ∙ u.frags) ∙ ap (λ (x : ℕ). x + geo.bsize) (sym (block-place geo g h))

    block-free : (j : ℕ) → Range (block_address geo g h * geo.fsize) geo.bsize j → Free geo img j
    block-free j r =
        let u = units geo fr.sizes in
        let unit : 0 < geo.fsize = omega (arith, u.unit) in
        let d = j - block_address geo g h * geo.fsize in
        let most : d < geo.frag * geo.fsize = omega (arith, r.0, r.1, mul_comm geo.frag geo.fsize, u.frags) in
        let few : d / geo.fsize < geo.frag = (div-lt_iff_lt-mul {k = geo.fsize} unit).1 most in
        let place = block-place geo g h in
        let at = byte_at-add geo g (geo.frag * h) (d / geo.fsize) in
        let below = div-mul-le_self d geo.fsize in
        let above = lt-div-mul-add {a = d} unit in
        record {
          group = g;
          one = i.group;
          frag = geo.frag * h + d / geo.fsize;
          within = omega (arith, few, block_inside geo img fr g h i.group i.block);
          bit = bits_at 1 img (free_at geo g img) (geo.frag * h) geo.frag (d / geo.fsize) (sym (free-bits geo.frag img (free_at geo g img) h) ∙ i.free) few;
          byte = (omega (arith, r.0, place, at, below), omega (arith, r.0, place, at, above));
        }

    -- no byte of it is free then
    block-not : {ys : List ℕ} → ys ≡ cut 3 (give_stores geo img g h) img → Steady geo img ys → {j : ℕ} → Free geo ys j → Range (block_address geo g h * geo.fsize) geo.bsize j → ⊥
    unfolding cleared
    block-not {ys} e s {j} p r =
        let eg = s.groups p.group p.one in
        let w = rw eg at p.within in
        let span = (fr.head p.group p.one).span in
        let spanned = (fr.head g i.group).span in
        let inside = block_inside geo img fr g h i.group i.block in
        let q = same-place geo p.group p.frag g (geo.frag * h) (geo.frag * h + geo.frag) j p.byte (omega (arith, w, span)) (omega (arith, r.0, block-place geo g h)) (omega (arith, r.1, block-ends-at)) (omega (arith, inside, spanned)) in
        let b : bit_at ys (free_at geo p.group img) p.frag ≡ 1 = rw eg at p.bit in
        let c : bit_at ys (free_at geo p.group img) p.frag ≡ bit_at cleared (free_at geo p.group img) p.frag =
        ap (λ (x : List ℕ). bit_at x (free_at geo p.group img) p.frag) e ∙ cut-bits p.group p.frag 3 p.one w
        ∙ ap (λ (x : List ℕ). bit_at x (free_at geo p.group img) p.frag) (apply_if-yes {go = true} refl (map_write 0 geo g (geo.frag * h) geo.frag img ∷ []) img ∙ apply-map geo img 0 g (geo.frag * h) geo.frag) in
        let o : bit_at cleared (free_at geo p.group img) p.frag ≡ 0 = subst (λ (x : ℕ). bit_at cleared (free_at geo x img) p.frag ≡ 0) q.0 (own-bit p.frag q.1 q.2) in
        let z : ◌≡◌ {A = ℕ} 0 1 = sym o ∙ sym c ∙ b in
        omega arith

  -- ---- what is relied on of giving out

  -- at every cut no byte is free that was not
  pub give-fewer : (n : ℕ) {j : ℕ} → Free geo (cut_act n (give_block geo) img) j → Free geo img j
  unfolding give_block
  give-fewer n = free-fewer geo ((give-steady geo img fr).holds n) (rw (cut_act_lem n (give_block geo) img) (go (chosen geo img) refl))
    where
      go : (c : Option (ℕ × ℕ)) → chosen geo img ≡ c → BitsFewer geo img (cut n (giving geo img c).stores img)
      go None q = rw (cut-none n img) (λ k f lk lf b. b)
      go (Some (g, h)) q = cut-fewer g h (chosen-is geo img g h q) n

  module _ (a : ℕ) (e : (give_block geo img).out ≡ got a) where
    -- every byte of the block given was free
    pub given-free : (j : ℕ) → Range (a * geo.fsize) geo.bsize j → Free geo img j
    given-free j r = let t = given-first geo img a e in block-free t.0 t.1 t.2 j (subst (λ (x : ℕ). Range (x * geo.fsize) geo.bsize j) t.3 r)

    -- and none is once it is given
    pub given-taken : {j : ℕ} → Free geo (apply_all (give_block geo img).stores img) j → Range (a * geo.fsize) geo.bsize j → ⊥
    unfolding give_block
    given-taken {j} = go (chosen geo img) refl e (always-all (give-steady geo img fr))
      where
        go : (c : Option (ℕ × ℕ)) → chosen geo img ≡ c → (giving geo img c).out ≡ got a → Steady geo img (apply_all (giving geo img c).stores img) → Free geo (apply_all (giving geo img c).stores img) j → Range (a * geo.fsize) geo.bsize j → ⊥
        go None q e s p r = let z : ◌≡◌ {A = ℕ} 0 1 = cc in omega arith
        go (Some (g, h)) q e s p r =
            let same : block_address geo g h ≡ a = cc in
            block-not g h (chosen-is geo img g h q) (sym (cut-all 3 (give_stores geo img g h) img (omega (arith, give_three geo img g h)))) s p (subst (λ (x : ℕ). Range (x * geo.fsize) geo.bsize j) (sym same) r)
