-- The answer of each job is the next one of its worker.
use Rattle.std.proofs.Common.{◌≡◌, ap, sym, refl, ◌∙◌, arith, length, get_or, take}
use Rattle.std.proofs.lemmas.List.{length_push}
use Rattle.sockets.specs.declared.job_answer.JobAnswer.TheVariants.{Ticket}
use Rattle.sockets.specs.Work.{jobs_of, answers_of}
use Rattle.sockets.proofs.Crews.{next-within, job-below, index-is, next-after, answered-more}
use Rattle.sockets.proofs.Jobs.{take-all}
use Rattle.sockets.proofs.ending.in_job_order.Goals as goal

pub bounds-answers-index : goal.bounds-answers-index
bounds-answers-index g c =
    let inv = c.loop-job.invariant in
    let jobs = c.args.jobs.now in
    let i = c.loop-job.job-index in
    let job = c.job-item.result in
    let below = job-below jobs (length c.args.crew.now) i job c.loop-job-test.true c.job-item.is c.requires.there in
    let at =
    index-is c.loop-job.next.items job.worker c.index-index.result.now (length (jobs_of job.worker (take i jobs))) c.index-index.ensures
    (omega (arith, inv.counters, c.loop-job.next.ok.0, below)) (inv.next job.worker below) in
    next-within jobs c.args.crew.now i job c.index-crew-worker.result c.answers.result.now c.index-index.result.now
    c.loop-job-test.true c.job-item.is c.requires.whole below c.index-crew-worker.is c.answers.ensures at

pub offset_bounds-answers-index : goal.offset_bounds-answers-index
offset_bounds-answers-index g c =
    let within = bounds-answers-index g c in omega (arith, within, c.answers.type_inv.1)

pub overflow_add-index : goal.overflow_add-index
overflow_add-index g c =
    let inv = c.loop-job.invariant in
    let jobs = c.args.jobs.now in
    let i = c.loop-job.job-index in
    let job = c.job-item.result in
    let below = job-below jobs (length c.args.crew.now) i job c.loop-job-test.true c.job-item.is c.requires.there in
    let at =
    index-is c.loop-job.next.items job.worker c.index-index.result.now (length (jobs_of job.worker (take i jobs))) c.index-index.ensures
    (omega (arith, inv.counters, c.loop-job.next.ok.0, below)) (inv.next job.worker below) in
    let within =
    next-within jobs c.args.crew.now i job c.index-crew-worker.result c.answers.result.now c.index-index.result.now
    c.loop-job-test.true c.job-item.is c.requires.whole below c.index-crew-worker.is c.answers.ensures at in
    omega (arith, within, c.answers.type_inv.0)

pub loop-job-preserved : goal.loop-job-preserved
loop-job-preserved g c =
    let inv = c.loop-job.invariant in
    let jobs = c.args.jobs.now in
    let crew = c.args.crew.now in
    let i = c.loop-job.job-index in
    let job = c.job-item.result in
    let index = c.index-index.result.now in
    let next = c.loop-job.next.items in
    let below = job-below jobs (length crew) i job c.loop-job-test.true c.job-item.is c.requires.there in
    let long : length next ≡ length crew = sym c.loop-job.next.ok.0 ∙ inv.counters in
    let at =
    index-is next job.worker index (length (jobs_of job.worker (take i jobs))) c.index-index.ensures (omega (arith, long, below))
    (inv.next job.worker below) in
    let within =
    next-within jobs crew i job c.index-crew-worker.result c.index-crew-worker.result.answers index c.loop-job-test.true c.job-item.is
    c.requires.whole below c.index-crew-worker.is refl at in
    record {
      room = omega (arith, inv.room, c.push_reserved.ensures.capacity);
      count =
          rw c.push_reserved.ensures.items (
          omega (arith, inv.count, length_push c.loop-job.answers.items (get_or c.answers.result.now index (Ticket 0)))
          );
      counters = inv.counters;
      next = next-after next jobs i (length crew) job index c.loop-job-test.true c.job-item.is long below at inv.next;
      answered =
          rw (c.push_reserved.ensures.items, c.answers.ensures) (
          answered-more jobs crew i job c.index-crew-worker.result c.loop-job.answers.items index (Ticket 0)
          c.loop-job-test.true c.job-item.is inv.count below c.index-crew-worker.is at within inv.answered
          );
    }

-- the index is behind the last job
pub returns-clause-count : goal.returns-clause-count
returns-clause-count g c = omega (arith, c.loop-job.invariant.count, c.loop-job.auto.job-index-end, c.loop-job-test.false)

pub returns-clause-each : goal.returns-clause-each
returns-clause-each g c = λ number any below.
    let inv = c.loop-job.invariant in
    let all = take-all c.loop-job.job-index c.args.jobs.now (omega (arith, c.loop-job.auto.job-index-end, c.loop-job-test.false)) in
    let mine = c.requires.whole number any below in
    ap (λ js. answers_of number js c.loop-job.answers.items) (sym all)
    ∙ (inv.answered number any below
    ∙ (ap (λ js. take (length (jobs_of number js)) (get_or c.args.crew.now number any).answers) all
    ∙ take-all (length (jobs_of number c.args.jobs.now)) (get_or c.args.crew.now number any).answers (sym mine)))
