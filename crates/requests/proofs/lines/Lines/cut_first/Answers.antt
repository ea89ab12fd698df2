-- The front of the line is taken, and what comes after it is left.
use Rattle.std.proofs.Common.{refl, arith}
use Rattle.requests.proofs.Taking.{takes-first, length-front}
use Rattle.requests.proofs.lines.Lines.cut_first.Goals as goal

pub returns-clause-form : goal.returns-clause-form
returns-clause-form c = length-front c.args.self.now.rest.items c.in-Ok.front 65536 (omega (arith, c.requires.long)) c.in-Ok.ensures.front

pub returns-clause-takes : goal.returns-clause-takes
returns-clause-takes c = λ remaining. (
  c.requires.cut,
  refl,
  takes-first c.args.self.now.rest.items c.in-Ok.front c.freeze_to.new.self.items 65536 remaining c.in-Ok.ensures.front
      c.in-Ok.ensures.rest.0,
)
