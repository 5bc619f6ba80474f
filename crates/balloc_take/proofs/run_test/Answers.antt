-- `run_test` meets its contract: the run's bits, and then the counts. Assumes nothing.
use Rattle.std.proofs.Common.{◌≡◌, ℕ, sym, ap, ◌∙◌, arith, rules}
use Rattle.bits.specs.Bits.{bits_are}
use Rattle.sound.specs.Sound.{free_at}
use Rattle.balloc_take.proofs.run_test.Goals as goal

pub clear_bits-requires : goal.clear_bits-requires
clear_bits-requires c = let r = c.requires in let h = r.frame.head _ r.group in omega arith

-- the bits are those that the code reads
pub returns-then-not-clear_bits : goal.returns-then-not-clear_bits
returns-then-not-clear_bits c =
    let a = c.args in
    rw (ap (λ (at : ℕ). bits_are 0 a.img.now at a.f a.n) (sym c.free_at.ensures.0) ∙ sym c.clear_bits.ensures ∙ c.if-not-clear_bits.true)

pub returns-then-not-counts_fit : goal.returns-then-not-counts_fit
returns-then-not-counts_fit c =
    let a = c.args in
    rw (ap (λ (at : ℕ). bits_are 0 a.img.now at a.f a.n) (sym c.free_at.ensures.0) ∙ sym c.clear_bits.ensures ∙ c.if-not-clear_bits.false, sym c.counts_fit.ensures ∙ c.if-not-counts_fit.true)

pub returns : goal.returns
returns c =
    let a = c.args in
    rw (ap (λ (at : ℕ). bits_are 0 a.img.now at a.f a.n) (sym c.free_at.ensures.0) ∙ sym c.clear_bits.ensures ∙ c.if-not-clear_bits.false, sym c.counts_fit.ensures ∙ c.if-not-counts_fit.false)
