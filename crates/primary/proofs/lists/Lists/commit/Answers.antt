-- One commit more, or none.
use Rattle.std.proofs.Common.{ap, arith}
use Rattle.primary.specs.State.{Primary}
use Rattle.primary.proofs.Committing.{lists-push, lists-stay}
use Rattle.primary.proofs.lists.Lists.commit.Goals as goal
use Rattle.primary.proofs.lists.Lists.commit.Goals.{in-Ok-kept, in-Err-kept}

pub invariant_of-self : goal.invariant_of-self
invariant_of-self c =
    let inside = c.self.inside in
    let judged = c.in-Ok.ensures in
    let same = c.entries.ensures.entries in
    elim c.match-kept.branch [
      | in-Ok-kept w ↦
          lists-push inside.versions c.keep-kept.new.versions inside.tail c.keep-kept.new.tail inside.pieces.items inside.durable
          inside.workers c.args.worker c.entries.result.now c.self.invariant
          (omega (arith, c.requires, ap (λ (p : Primary). p.workers) c.self.view_is)) (rw same judged.some) c.entries.ensures.few
          (rw same judged.spelled) judged.numbered (rw same judged.countable) w.in-Ok-kept.ensures.ok c.keep-kept.ensures.base
          c.keep-kept.ensures.tail
      | in-Err-kept w ↦
          lists-stay inside.versions c.keep-kept.new.versions inside.tail c.keep-kept.new.tail inside.pieces.items inside.durable
          inside.workers c.self.invariant w.in-Err-kept.ensures.err c.keep-kept.ensures.base c.keep-kept.ensures.tail
    ]
