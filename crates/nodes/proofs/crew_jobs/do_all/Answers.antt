-- All answers are those that the crew gives, and the first worker's seat has seen what they rest on.
use Rattle.std.proofs.Common.{◌<◌, [], sym, subst, arith, length}
use Rattle.std.specs.Io.KnownBytes.{Appends}
use Rattle.std.specs.List.{AllZip}
use Rattle.rows.specs.Shape.{shape_of}
use Rattle.sockets.specs.Answers.{IsJobAnswer}
use Rattle.sockets.specs.Crews.{first_list}
use Rattle.requests.specs.AnswerLines.{numbered_lines}
use Rattle.nodes.proofs.Crews.{ok-on, all-begin, answered-first, by-first}
use Rattle.nodes.proofs.crew_jobs.do_all.Goals as goal

pub tell_all-requires : goal.tell_all-requires
tell_all-requires g c =
    let shape = shape_of g.L.Line.schema in
    let some : 0 < length c.args.crew.now = omega (arith, c.if-count-eq0.false) in
    let some-new : 0 < length c.run_crew.new.crew = omega (arith, some, c.run_crew.auto.crew) in
    let are = c.in-Ok.ensures.answered [] (all-begin c.args.crew.now) some in
    by-first shape c.args.jobs.now c.run_crew.new.crew c.index-crew-0.result c.as_slice.result.now some-new
    (subst (λ answers. AllZip (IsJobAnswer shape 0 (first_list c.run_crew.new.crew)) c.args.jobs.now answers) (sym c.as_slice.ensures.value)
    are.answered)

pub returns-in-Ok : goal.returns-in-Ok
returns-in-Ok g c =
    let some : 0 < length c.args.crew.now = omega (arith, c.if-count-eq0.false) in
    let are = c.in-Ok.ensures.answered [] (all-begin c.args.crew.now) some in
    ok-on c.tell_all.result
    (λ told. (
      first_list c.run_crew.new.crew,
      c.in-Ok.answers.items,
      are,
      subst
          (λ answers. Appends (g.W.Write.contents c.args.writer.now) (g.W.Write.contents c.tell_all.new.writer) (numbered_lines 0 answers))
          c.as_slice.ensures.value told,
    ))
    c.tell_all.ensures

pub tell_some-requires : goal.tell_some-requires
tell_some-requires g c =
    answered-first g.L.Line.workers (shape_of g.L.Line.schema) c.args.jobs.now c.args.crew.now c.run_crew.new.crew
    (omega (arith, c.run_crew.auto.crew)) c.requires.new c.in-Err.ensures.worked
