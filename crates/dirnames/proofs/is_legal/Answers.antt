-- `is_legal` meets its contract: each byte is plain, and there is one. Assumes nothing.
use Rattle.std.proofs.Common.{rules, arith, ◌≡◌, refl, ap, ◌∙◌, true, not, eqb, ◌↔◌, ℕ, zero, suc, length, get_or, EachIndex, IsTrue}
use lib.Dec.{ltb}
use borrow.Author.Tests.{ne_eqb, lt-ltb}
use Rattle.bits.proofs.UptoLaws.{true-not-false}
use Rattle.dirnames.specs.Names.{plain}
use Rattle.dirnames.proofs.NamesLaws.{legal-all, legal-not}
use Rattle.dirnames.proofs.is_legal.Goals as goal

some : (n : ℕ) → not (eqb n 0) ≡ ltb 0 n
some zero = refl
some (suc n) = rw (ne_eqb (suc n) 0 (λ e. let y : ⊥ = omega arith in y), lt-ltb 0 (suc n) (omega arith))

pub returns-then-all : goal.returns-then-all
returns-then-all c =
    let name = c.args.name.now in
    let told : IsTrue c.all.result ↔ EachIndex name (λ k. plain (get_or name k 0) ≡ true) = search rules in
    ap not c.is_empty.ensures ∙ some (length name) ∙ legal-all name (told.0 c.if-all.true)

pub returns-else-all : goal.returns-else-all
returns-else-all c =
    let name = c.args.name.now in
    let told : IsTrue c.all.result ↔ EachIndex name (λ k. plain (get_or name k 0) ≡ true) = search rules in
    c.if-all.false ∙ legal-not name (λ h. true-not-false (told.1 h) c.if-all.false)
