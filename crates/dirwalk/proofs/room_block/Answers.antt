-- `room_block` meets its contract. Assumes nothing.
use borrow.Author.Rules.{rules}
use mathlib.Core.Path.{◌≡◌, sym, ap, ◌∙◌}
use Prim.Native.Nat.{ℕ}
use Rattle.std.specs.Prelude.{Option, Some, None, Ok}
use Rattle.std.specs.Option.{MatchOption, IsSomeAnd}
use Rattle.refusal.proofs.ExitLaws.{passed}
use Rattle.dirblock.specs.declared.Entry.{Entry}
use Rattle.dirwalk.specs.Walk.{roomy_in, space_out}
use Rattle.dirwalk.proofs.ZeroLaws.{room-zeros}
use Rattle.dirwalk.proofs.BlockLaws.{said_at, said-hole, said-bad}
use Rattle.dirwalk.proofs.room_block.Goals as goal

-- the block itself, where it has room
block_of : (k : ℕ) (x : Option (ℕ × Entry)) (r : Option ℕ) → MatchOption x (r ≡ None) (λ _. IsSomeAnd r (λ b. b ≡ k)) → space_out (Ok r) ≡ roomy_in k (Ok x)
block_of k None r h = rw h
block_of k (Some (pos, e)) (Some b) h = rw h
block_of k (Some (pos, e)) None h = absurd h

pub returns-in_err-p : goal.returns-in_err-p
returns-in_err-p c = ap space_out (passed _ _ c.from_residual.ensures) ∙ said-bad _ _ c.block_at.ensures.0 c.in_err-p.was

pub returns-in_default : goal.returns-in_default
returns-in_default c = sym (ap (roomy_in c.args.k) (room-zeros _ _)) ∙ said-hole _ _ c.block_at.ensures.0 (c.in_ok-p.was ∙ ap Ok c.in_default.is)

pub returns-in_err-room : goal.returns-in_err-room
returns-in_err-room c =
    ap space_out (passed _ _ c.from_residual-in_err-room.ensures) ∙ ap (roomy_in c.args.k) c.in_err-room.ensures ∙ said_at _ _ c.block_at.ensures.0 _ (c.in_ok-p.was ∙ ap Ok c.in-Some.is)

pub returns : goal.returns
returns c =
    let q : MatchOption c.in_ok-room.room (c.map.result ≡ None) (λ _. IsSomeAnd c.map.result (λ b. b ≡ c.args.k)) = search rules in
    block_of c.args.k c.in_ok-room.room c.map.result q ∙ ap (roomy_in c.args.k) c.in_ok-room.ensures ∙ said_at _ _ c.block_at.ensures.0 _ (c.in_ok-p.was ∙ ap Ok c.in-Some.is)
