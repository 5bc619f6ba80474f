-- Laws of the calls that read: each refusal, and each good answer. Assumes nothing.
use Rattle.std.specs.Prelude.{Some, None, Ok, Err}
use mathlib.Core.Path.{◌≡◌, ap}
use mathlib.Core.Bool.{true, false}
use mathlib.Core.List.{List}
use Prim.Native.Nat.{ℕ}
use lib.Dec.{ltb}
use borrow.Author.Tests.{eq-eqb, ne_eqb}
use Rattle.refusal.specs.declared.Refusal.{Refusal}
use Rattle.refusal.specs.declared.Refusal.TheVariants.{Damaged, Invalid, TextInInode}
use Rattle.store.specs.Act.{Out, got, refused}
use Rattle.volume.specs.declared.Geometry.{Geometry}
use Rattle.inode.specs.declared.Shape.{Shape}
use Rattle.inode.specs.Size.{held_at}
use Rattle.inode.specs.Shape.{sized, in_place}
use Rattle.mapping.specs.Zones.{zones_end}
use Rattle.mapping.specs.Mapping.{per_list}
use Rattle.inode_run.specs.declared.Spot.{Spot}
use Rattle.inode_run.specs.declared.Run.{Run}
use Rattle.inode_run.specs.Judge.{and_then}
use Rattle.inode_run.specs.Run.{run_at}
use Rattle.inode_read.specs.Read.{read_at}
use Rattle.inode_read.specs.Calls.{Place, place_in, size_out, inode_get_block_size, size_answer, landed, landing_out, resolve_out, inode_resolve_block, resolved_answer, read_out, read_found, inode_read}
use native.Mathlib.Omega.{arith}

-- ---- how many bytes a block holds

module _ (geo : Geometry) (s : Shape) (i : ℕ) where
  pub size-unsized : sized s ≡ false → Err Damaged ≡ size_answer (size_out geo s i)
  unfolding size_out
  size-unsized z = rw z

  pub size-held : sized s ≡ true → (n : ℕ) → Some n ≡ held_at geo s.size i → Ok n ≡ size_answer (size_out geo s i)
  unfolding size_out
  size-held z n h = rw (z, ← h)

  pub size-past : sized s ≡ true → None ≡ held_at geo s.size i → Err Invalid ≡ size_answer (size_out geo s i)
  unfolding size_out
  size-past z h = rw (z, ← h)

pub size-got : (o : Out ℕ) (n : ℕ) → Ok n ≡ size_answer o → o ≡ got n
size-got (got m) n e = let q : m ≡ n = cc in ap got q
size-got (refused r) n e = absurd (let z : ◌≡◌ {A = ℕ} 0 1 = cc in let y : ⊥ = omega arith in y)

pub size-refused : (o : Out ℕ) (e : Refusal) → Err e ≡ size_answer o → o ≡ refused e
size-refused (got m) e h = absurd (let z : ◌≡◌ {A = ℕ} 0 1 = cc in let y : ⊥ = omega arith in y)
size-refused (refused r) e h = let q : r ≡ e = cc in ap refused q

-- ---- where it lies

module _ (geo : Geometry) (s : Spot) (img : List ℕ) (i : ℕ) where
  pub land-in-place : in_place s.shape ≡ true → Err TextInInode ≡ resolved_answer (landing_out geo s img i)
  unfolding landing_out
  land-in-place h = rw h

  pub land-run : in_place s.shape ≡ false → (r : Run) → r ≡ run_at geo s.at s.shape.size img i → resolved_answer (landed r) ≡ resolved_answer (landing_out geo s img i)
  unfolding landing_out
  land-run h r e = rw (h, ← e)

  pub resolve-past-zones : ltb i (zones_end (per_list geo)) ≡ false → Err Invalid ≡ resolved_answer (resolve_out geo s img i)
  unfolding resolve_out
  resolve-past-zones h = rw h

  pub resolve-size : ltb i (zones_end (per_list geo)) ≡ true → (o : Out ℕ) → size_out geo s.shape i ≡ o → resolve_out geo s img i ≡ and_then o (λ n. landing_out geo s img i)
  unfolding resolve_out
  resolve-size h o e = rw (h, e)

-- ---- reading

module _ (geo : Geometry) (s : Spot) (img : List ℕ) (off n : ℕ) (buf : List ℕ) where
  pub read_none : n ≡ 0 → read_out geo s img off n buf ≡ (buf, got 0)
  unfolding read_out
  read_none z = rw (eq-eqb _ _ z)

  module _ (z : n ≡ 0 → ⊥) where
    pub read-in-place : in_place s.shape ≡ true → read_out geo s img off n buf ≡ (buf, refused TextInInode)
    unfolding read_out
    read-in-place p = rw (ne_eqb _ _ z, p)

    pub read-unsized : in_place s.shape ≡ false → sized s.shape ≡ false → read_out geo s img off n buf ≡ (buf, refused Damaged)
    unfolding read_out
    read-unsized p q = rw (ne_eqb _ _ z, p, q)

    pub read-blocks : in_place s.shape ≡ false → sized s.shape ≡ true → (m : ℕ) → m ≡ n → read_out geo s img off n buf ≡ read_at geo s.at s.shape.size img off m buf
    unfolding read_out
    read-blocks p q m e = rw (ne_eqb _ _ z, p, q, e)

-- ---- the public calls, once it is known whether the inode is found

module _ (img : List ℕ) (i : ℕ) (o : Out Place) (e : place_in img i ≡ o) where
  pub block-size-found : (idx : ℕ) → inode_get_block_size img i idx ≡ and_then o (λ p. size_out p.geo p.spot.shape idx)
  unfolding inode_get_block_size
  block-size-found idx = rw e

  pub resolve-found : (idx : ℕ) → inode_resolve_block img i idx ≡ and_then o (λ p. resolve_out p.geo p.spot img idx)
  unfolding inode_resolve_block
  resolve-found idx = rw e

  pub read_found_lem : (off : ℕ) (buf : List ℕ) → inode_read img i off buf ≡ read_found img off buf o
  unfolding inode_read
  read_found_lem off buf = rw e
