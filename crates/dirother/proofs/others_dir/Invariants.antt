-- `others_dir` meets its contract: no block passed holds another record. Assumes nothing.
use borrow.Author.Rules.{rules}
use mathlib.Core.Path.{◌≡◌}
use Prim.Native.Nat.{◌-◌}
use Rattle.dirfile.specs.Seek.{seek_from}
use Rattle.dirfile.proofs.SeekLaws.{said}
use Rattle.dirother.specs.Other.{others_dir}
use Rattle.dirother.proofs.OtherLaws.{others}
use Rattle.dirother.proofs.others_dir.Given as goal

abbrev pub invariant-loop-k : goal.invariant-loop-k
invariant-loop-k l = seek_from (said l.geo l.at l.size l.img (others l.geo)) (l.n - l.k) l.k ≡ others_dir l.geo l.at l.size l.img
