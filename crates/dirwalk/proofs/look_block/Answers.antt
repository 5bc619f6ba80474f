-- `look_block` meets its contract. Assumes nothing.
use borrow.Author.Rules.{rules}
use mathlib.Core.Path.{◌≡◌, sym, ap, ◌∙◌}
use Prim.Native.Nat.{ℕ}
use Rattle.std.specs.Prelude.{Option, Some, None, Ok}
use Rattle.std.specs.Option.{MatchOption, IsSomeAnd}
use Rattle.refusal.proofs.ExitLaws.{passed}
use Rattle.dirblock.specs.declared.Spot.{Spot}
use Rattle.dirwalk.specs.Walk.{looked_in, looked_out}
use Rattle.dirwalk.proofs.ZeroLaws.{find-zeros}
use Rattle.dirwalk.proofs.BlockLaws.{said_at, said-hole, said-bad}
use mathlib.Core.Bool.{false}
use Rattle.dirwalk.proofs.look_block.Goals as goal

-- the record's inode, where there is a record
inode_of : (x : Option Spot) (r : Option ℕ) → MatchOption x (r ≡ None) (λ s. IsSomeAnd r (λ i. i ≡ s.entry.inr)) → looked_out (Ok r) ≡ looked_in (Ok x)
inode_of None r h = rw h
inode_of (Some s) (Some i) h = rw h
inode_of (Some s) None h = absurd h

pub returns-in_err-p : goal.returns-in_err-p
returns-in_err-p c = ap looked_out (passed _ _ c.from_residual.ensures) ∙ said-bad _ _ c.block_at.ensures.0 c.in_err-p.was

pub returns-in_default : goal.returns-in_default
returns-in_default c = sym (ap looked_in (find-zeros _ _ false)) ∙ said-hole _ _ c.block_at.ensures.0 (c.in_ok-p.was ∙ ap Ok c.in_default.is)

pub returns-in_err-found : goal.returns-in_err-found
returns-in_err-found c =
    ap looked_out (passed _ _ c.from_residual-in_err-found.ensures) ∙ ap looked_in c.in_err-found.ensures ∙ said_at _ _ c.block_at.ensures.0 _ (c.in_ok-p.was ∙ ap Ok c.in-Some.is)

pub returns : goal.returns
returns c =
    let q : MatchOption c.in_ok-found.found (c.map.result ≡ None) (λ s. IsSomeAnd c.map.result (λ i. i ≡ s.entry.inr)) = search rules in
    inode_of c.in_ok-found.found c.map.result q ∙ ap looked_in c.in_ok-found.ensures ∙ said_at _ _ c.block_at.ensures.0 _ (c.in_ok-p.was ∙ ap Ok c.in-Some.is)
