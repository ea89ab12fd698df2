-- A group that is known has its number.
use Rattle.std.proofs.Common.{sym, ◌∙◌}
use Rattle.plans.proofs.numbering.Numbering.number_lent.Goals as goal

pub returns-in-Some-clause-number : goal.returns-in-Some-clause-number
returns-in-Some-clause-number c =
    c.requires.numbering.there c.in-Some.place.now c.args.key.now
    (c.requires.other c.args.self.now.singles.entries c.args.self.now.others.entries ∙ sym c.in-Some.ensures.value)
