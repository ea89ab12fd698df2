-- The rest of the line is skipped, up to its end.
use Rattle.requests.proofs.Taking.{skips-to}
use Rattle.requests.proofs.lines.Lines.skip_cut.Goals as goal

pub returns-in-Some-clause-skips : goal.returns-in-Some-clause-skips
returns-in-Some-clause-skips c = λ remaining.
    skips-to c.args.self.now.is_cut c.skip_to.new.self.is_cut c.args.self.now.rest.items c.len_of_first.new.self.rest.items
    c.skip_to.new.self.rest.items c.in-Some.len remaining c.if-not-self.false c.skip_to.ensures.cut c.len_of_first.ensures.rest
    c.in-Some.ensures.found.1 c.in-Some.ensures.found.2 c.skip_to.ensures.rest
