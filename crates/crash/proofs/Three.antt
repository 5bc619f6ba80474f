-- Demand 3. The calls' stores are those that `balloc`'s promises equal, so this speaks of the code. Assumes nothing.
use mathlib.Core.Path.{◌≡◌, refl}
use mathlib.Core.Bool.{true}
use mathlib.Core.List.{List}
use mathlib.Core.Logic.{inl}
use Prim.Native.Nat.{ℕ, ◌+◌, ◌*◌, ◌/◌, ◌≤◌, ◌<◌}
use native.Mathlib.Omega.{arith}
use Rattle.volume.specs.declared.Geometry.{Geometry}
use Rattle.volume.specs.declared.Volume.{Volume}
use Rattle.volume.specs.Volume.{geometry_of, byte_at, cg_at}
use Rattle.volume.proofs.Laws.{byte_at-eq}
use Rattle.sound.specs.Clauses.{soundb}
use Rattle.sound.specs.Sound.{group_at, free_at}
use Rattle.frame.specs.Frame.{Frame, Outside}
use Rattle.frame.proofs.Places.{frame-of}
use Rattle.frame.proofs.SoundKept.{marked-of, bounded-of}
use Rattle.balloc_count.specs.Recount.{TrueCounts}
use Rattle.crash.specs.Crash.{Call, MagicApart, Survives}
use Rattle.crash.proofs.Shape.{Held}
use Rattle.crash.proofs.Demand.{Going, run-cut}
use Rattle.crash.proofs.BlockCalls.{call-cut}

-- "Take a sound, writable volume whose free counts agree with its maps": cut any run after any store, and recount
pub demand_three : (vol : Volume) (img : List ℕ) → soundb img ≡ true → vol.writable ≡ true → TrueCounts (geometry_of img) img → MagicApart (geometry_of img) img → (cs : List Call) (k : ℕ)
    → Survives vol img cs k
demand_three vol img e w t m cs k =
    let geo = geometry_of img in
    let h : Held geo img = record { frame = frame-of img e; bounded = bounded-of img e } in
    let go : Going geo img img = record { long = refl; held = h; marked = marked-of img e; counts = t; groups = λ g l. refl; apart = m; other = λ j n c. refl } in
    let r = run-cut vol geo img w (λ z s c. call-cut vol geo img z w s c) cs k img go in
    record { done = r.done; rest = r.rest; all = r.all; in_time = r.in_time; not_yet = r.not_yet; like = r.like; cut_call = r.cut_call; sound = r.sound; left = r.left }

-- where each copy of the superblock, as far as its magic, ends before its group's record: on every card that we have
pub apart-before : (img : List ℕ) → soundb img ≡ true → (geometry_of img).sblkno * (geometry_of img).fsize + 1376 ≤ (geometry_of img).cblkno * (geometry_of img).fsize → MagicApart (geometry_of img) img
apart-before img e l g b =
    let geo = geometry_of img in
    let s = byte_at-eq geo g geo.sblkno in
    let c = byte_at-eq geo g geo.cblkno in
    inl (omega arith)

pub demand_three_before : (vol : Volume) (img : List ℕ) → soundb img ≡ true → vol.writable ≡ true → TrueCounts (geometry_of img) img
    → (geometry_of img).sblkno * (geometry_of img).fsize + 1376 ≤ (geometry_of img).cblkno * (geometry_of img).fsize → (cs : List Call) (k : ℕ) → Survives vol img cs k
demand_three_before vol img e w t l cs k = demand_three vol img e w t (apart-before img e l) cs k
