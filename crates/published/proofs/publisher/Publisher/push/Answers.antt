-- A publication that is added is the last of what is queued.
use Rattle.std.proofs.Common.{drop, ap, sym}
use Rattle.published.proofs.Publications.{pushed}
use Rattle.published.proofs.publisher.Publisher.push.Goals as goal

pub invariant_of-self : goal.invariant_of-self
invariant_of-self g c =
    let q = c.self.view_is in
    let inv = c.self.invariant in
    let r = pushed c.commits_are_defined_one_by_one.ensures.each g.L.Naming.book g.L.Line.schema g.L.Line.workers
    c.self.inside.writer.desk.shown.value
    (drop c.self.inside.writer.behind c.self.inside.writer.log.items) (drop c.append.new.self.behind c.append.new.self.log.items)
    c.args.publication c.append.result inv.1 c.requires.book (rw (ap (λ v. v.queued) q) c.requires.history) c.requires.some
    (rw (ap (λ v. v.queued) q) c.requires.legal) c.append.ensures.pending in
    rw c.append.ensures.desk (inv.0, r.0)

pub returns-clause-queued : goal.returns-clause-queued
returns-clause-queued g c =
    let q = c.self.view_is in
    let inv = c.self.invariant in
    let r = pushed c.commits_are_defined_one_by_one.ensures.each g.L.Naming.book g.L.Line.schema g.L.Line.workers
    c.self.inside.writer.desk.shown.value
    (drop c.self.inside.writer.behind c.self.inside.writer.log.items) (drop c.append.new.self.behind c.append.new.self.log.items)
    c.args.publication c.append.result inv.1 c.requires.book (rw (ap (λ v. v.queued) q) c.requires.history) c.requires.some
    (rw (ap (λ v. v.queued) q) c.requires.legal) c.append.ensures.pending in
    rw (c.append.ensures.desk, sym (ap (λ v. v.queued) q)) r.1
