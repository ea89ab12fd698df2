-- Numbers are their own values, and octets those of the bytes.
use Rattle.std.proofs.Common.{sym, ◌∙◌, subst}
use Rattle.store.specs.declared.lent.Lent.{Lent}
use Rattle.store.specs.Lent.{AreLent}
use Rattle.plans.proofs.Blocks.{some-numbers, lent-octets}
use Rattle.plans.proofs.block.cells_of_lent.Goals as goal

pub returns-in-Numbers : goal.returns-in-Numbers
returns-in-Numbers c = λ column size are.
    let lent = subst (λ (lent : Lent). AreLent column lent) c.in-Numbers.is are in
    sym (some-numbers c.in-Numbers.numbers.now) ∙ lent

pub returns-in-Some : goal.returns-in-Some
returns-in-Some c = λ column size are.
    let lent = subst (λ (lent : Lent). AreLent column lent) c.in-Octets.is are in
    lent-octets c.in-Some.values.items column c.args.count c.in-Octets.width c.in-Octets.bytes.now size lent.1
    (rw c.in-Some.is at c.in_ok-found-in-Octets.ensures)
