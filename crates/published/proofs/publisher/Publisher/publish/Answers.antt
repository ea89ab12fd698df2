-- What is shown after a publication.
use Rattle.std.proofs.Common.{drop, ap, sym}
use Rattle.published.proofs.Publications.{published}
use Rattle.published.proofs.publisher.Publisher.publish.Goals as goal

pub invariant_of-self : goal.invariant_of-self
invariant_of-self g c =
    let e = c.replace_with.ensures in
    (published g.L.Naming.book g.L.Line.schema g.L.Line.workers c.self.inside.writer.desk.shown.value
    c.replace_with.new.dest.desk.shown.value (drop c.self.inside.writer.behind c.self.inside.writer.log.items)
    (drop c.replace_with.new.dest.behind c.replace_with.new.dest.log.items) c.replace_with.result
    c.self.invariant.0 c.self.invariant.1 e.0 e.1).0

pub returns-clause-shown : goal.returns-clause-shown
returns-clause-shown g c =
    let e = c.replace_with.ensures in
    rw (sym (ap (λ v. v.shown) c.self.view_is)) (
    published g.L.Naming.book g.L.Line.schema g.L.Line.workers c.self.inside.writer.desk.shown.value
    c.replace_with.new.dest.desk.shown.value (drop c.self.inside.writer.behind c.self.inside.writer.log.items)
    (drop c.replace_with.new.dest.behind c.replace_with.new.dest.log.items) c.replace_with.result
    c.self.invariant.0 c.self.invariant.1 e.0 e.1
    ).1
