-- How far a worker came, at the end of its jobs and after its seat met others.
use Rattle.std.proofs.Common.{◌≡◌, refl, ap, sym, ◌∙◌, subst, arith, ℕ, ◌≤◌}
use Rattle.std.proofs.Common.{List, [], ◌++◌, length, take, append-nil, length-append, None, Some}
use Rattle.std.proofs.Common.{Result, Ok, Err, IfErr, MatchResult}
use Rattle.std.specs.List.{AllZip}
use Rattle.std.proofs.lemmas.List.{nil_from_length}
use Rattle.std.proofs.Math.Seq.{take-append_seam}
use mathlib.Core.List.{IsPrefix}
use Rattle.rows.specs.Shape.{Shape}
use Rattle.desk.specs.State.{SeatState}
use Rattle.sockets.specs.declared.faults.WorkersFault.{WorkersFault}
use Rattle.sockets.specs.declared.faults.WorkersFault.TheVariants.{NoSeat}
use Rattle.sockets.specs.declared.job.Job.{Job}
use Rattle.sockets.specs.declared.job_answer.JobAnswer.{JobAnswer}
use Rattle.sockets.specs.Answers.{IsJobAnswer}
use Rattle.sockets.specs.Inner.Jobs.{HasMet}
use Rattle.sockets.specs.Inner.JobSeats.{fault_of}
use Rattle.sockets.specs.JobSeats.{JobSeatState, IsPending, HasTaken, HasEnded, GoesOn, Ends, outcomes}
use Rattle.sockets.specs.Work.{jobs_of, ticket_count, last_ticket, IsRising, unanswered_max, HasWorked}
use Rattle.sockets.specs.Worker.{WorkerState}
use Rattle.sockets.proofs.Beginnings.{prefix_self, prefix_trans}
use Rattle.sockets.proofs.Jobs.{answers-begun, take-all, zip-long}
use Rattle.sockets.proofs.Taking.{ended-after}

-- all its answers so far, if it did not end by a fault
pub all-answered : (workers : ℕ) (shape : Shape) (number : ℕ) (jobs : List Job) (old new : WorkerState)
    → HasWorked workers shape number jobs old new → new.fault ≡ None
    → AllZip (IsJobAnswer shape (length old.seat.list) new.seat.list) (jobs_of number jobs) new.answers
all-answered workers shape number jobs old new w none =
    subst (λ mine. AllZip (IsJobAnswer shape (length old.seat.list) new.seat.list) mine new.answers)
    (take-all (length new.answers) (jobs_of number jobs) (w.whole none)) w.answered

-- a worker whose first jobs were taken and are all settled, up to the last one or up to a fault
worked-up-to : (workers : ℕ) (shape : Shape) (number : ℕ) (jobs begun : List Job) (old new : WorkerState) (s : JobSeatState) (lost : ℕ)
    → new.seat ≡ s.seat → new.answers ≡ s.answers → s.pending ≡ [] → HasTaken workers shape lost old.seat begun s
    → IsPrefix begun (jobs_of number jobs) → (new.fault ≡ None → begun ≡ jobs_of number jobs)
    → lost ≤ unanswered_max new.fault → ¬ (new.fault ≡ Some NoSeat) → HasWorked workers shape number jobs old new
worked-up-to workers shape number jobs begun old new s lost seat answers idle t begins whole few fault = record {
  legal = rw seat t.legal;
  later = rw seat t.later;
  few = (let both = sym (ap length begins.1) ∙ length-append begun begins.0 in omega (arith, both, counted));
  answered =
      rw seat (subst (λ some. AllZip R some new.answers) (sym first)
      (rw answers (subst (λ js. AllZip R js s.answers) (sym all) t.answered)));
  whole = (λ none. counted ∙ ap length (whole none));
  rising = rw answers (subst (IsRising old.seat.last) told t.rising);
  newest = rw (answers, seat) (subst (λ xs. last_ticket old.seat.last xs ≤ s.seat.last) told t.newest);
  got = rw (answers, seat) (omega (arith, t.share, ap ticket_count told));
  no_more = rw (answers, seat) (omega (arith, t.share, ap ticket_count told, few));
  number_kept = ap (λ (x : SeatState). x.number) seat ∙ t.number;
  fault = fault;
}
  where
    R : Job → JobAnswer → Type 0
    R = IsJobAnswer shape (length old.seat.list) s.seat.list

    told : outcomes s ≡ s.answers
    told = rw idle (append-nil s.answers)

    all : begun ≡ t.done
    all =
        t.split
        ∙ (ap (λ js. t.done ++ js) (nil_from_length t.waiting
        (zip-long (IsPending shape (length old.seat.list) s.seat.list) t.waiting s.pending t.committed ∙ ap length idle))
        ∙ append-nil t.done)

    counted : length new.answers ≡ length begun
    counted = ap length answers ∙ (sym (zip-long R t.done s.answers t.answered) ∙ ap length (sym all))

    first : take (length new.answers) (jobs_of number jobs) ≡ begun
    first = rw counted (subst (λ js. take (length begun) js ≡ begun) begins.1 (take-append_seam begun begins.0))

-- a worker all of whose jobs were taken and settled
pub worked-whole : (workers : ℕ) (shape : Shape) (number : ℕ) (jobs : List Job) (old new : WorkerState) (s : JobSeatState)
    → new.seat ≡ s.seat → new.answers ≡ s.answers → s.pending ≡ [] → HasTaken workers shape 0 old.seat (jobs_of number jobs) s
    → new.fault ≡ None → HasWorked workers shape number jobs old new
worked-whole workers shape number jobs old new s seat answers idle t none =
    worked-up-to workers shape number jobs (jobs_of number jobs) old new s 0 seat answers idle t (prefix_self (jobs_of number jobs))
    (λ is. refl) (omega arith) (λ is. absurd (cc (none, is)))

-- a worker that a fault ended
pub worked-left : (workers : ℕ) (shape : Shape) (number : ℕ) (jobs : List Job) (old new : WorkerState) (s : JobSeatState)
    (fault : WorkersFault) → new.seat ≡ s.seat → new.answers ≡ s.answers → s.pending ≡ []
    → HasEnded workers shape old.seat (jobs_of number jobs) s → new.fault ≡ Some fault → ¬ (fault ≡ NoSeat)
    → HasWorked workers shape number jobs old new
worked-left workers shape number jobs old new s fault seat answers idle e ended other =
    worked-up-to workers shape number jobs e.begun old new s e.lost seat answers idle e.taken e.begins
    (λ is. absurd (cc (ended, is)))
    (rw ended (let few = e.taken.few in omega (arith, few)))
    (λ is. let same : Some fault ≡ Some NoSeat = sym ended ∙ is in other (cc same))

-- a worker that took its jobs, up to the first fault, and settled what was pending
pub worked-at-end : {A B : Type 0} (workers : ℕ) (shape : Shape) (number : ℕ) (jobs : List Job) (old new : WorkerState)
    (ready taken settled : JobSeatState) (ended : Result A WorkersFault) (told : Result B WorkersFault)
    → new.seat ≡ settled.seat → new.answers ≡ settled.answers → settled.pending ≡ [] → new.fault ≡ fault_of ended told
    → HasTaken workers shape 0 old.seat [] ready
    → MatchResult ended (λ _. GoesOn workers shape 0 (jobs_of number jobs) ready taken)
    (λ fault. Ends workers shape 0 (jobs_of number jobs) ready taken)
    → IfErr ended (λ fault. ¬ (fault ≡ NoSeat))
    → ((lost : ℕ) → MatchResult told (λ _. GoesOn workers shape lost [] taken settled) (λ fault. Ends workers shape lost [] taken settled))
    → IfErr told (λ fault. ¬ (fault ≡ NoSeat)) → HasWorked workers shape number jobs old new
worked-at-end workers shape number jobs old new ready taken settled (Ok done) (Ok all) seat answers idle fault begin took other then
    others =
    worked-whole workers shape number jobs old new settled seat answers idle
    (subst (λ js. HasTaken workers shape 0 old.seat js settled) (append-nil (jobs_of number jobs))
    (then 0 old.seat (jobs_of number jobs) (took old.seat [] begin))) fault
worked-at-end workers shape number jobs old new ready taken settled (Ok done) (Err why) seat answers idle fault begin took other then
    others =
    worked-left workers shape number jobs old new settled why seat answers idle
    (subst (λ js. HasEnded workers shape old.seat js settled) (append-nil (jobs_of number jobs))
    (then 0 old.seat (jobs_of number jobs) (took old.seat [] begin))) fault others
worked-at-end workers shape number jobs old new ready taken settled (Err why) told seat answers idle fault begin took other then others =
    worked-left workers shape number jobs old new settled why seat answers idle
    (ended-after workers shape old.seat (jobs_of number jobs) taken settled told then (took old.seat [] begin)) fault other

-- its seat has met others since
pub worked-met : (workers : ℕ) (shape : Shape) (number : ℕ) (jobs : List Job) (old mid new : WorkerState)
    → HasWorked workers shape number jobs old mid → HasMet workers shape mid new → HasWorked workers shape number jobs old new
worked-met workers shape number jobs old mid new w met = record {
  legal = met.legal;
  later = prefix_trans old.seat.list mid.seat.list new.seat.list w.later met.later;
  few = rw answers w.few;
  answered =
      rw answers (answers-begun shape (length old.seat.list) (length old.seat.list) mid.seat.list new.seat.list
      (take (length mid.answers) (jobs_of number jobs)) mid.answers (omega arith) met.later w.answered);
  whole = (λ is. rw answers (w.whole (sym fault ∙ is)));
  rising = rw answers w.rising;
  newest = rw answers (omega (arith, last, w.newest));
  got = rw answers (omega (arith, share, w.got));
  no_more = rw (answers, fault) (omega (arith, share, w.no_more));
  number_kept = ap (λ (s : SeatState). s.number) seat ∙ w.number_kept;
  fault = (λ is. w.fault (sym fault ∙ is));
}
  where
    seat : new.seat ≡ record mid.seat { list = new.seat.list }
    seat = ap (λ (w : WorkerState). w.seat) met.same

    answers : new.answers ≡ mid.answers
    answers = ap (λ (w : WorkerState). w.answers) met.same

    fault : new.fault ≡ mid.fault
    fault = ap (λ (w : WorkerState). w.fault) met.same

    share : new.seat.share ≡ mid.seat.share
    share = ap (λ (s : SeatState). s.share) seat

    last : new.seat.last ≡ mid.seat.last
    last = ap (λ (s : SeatState). s.last) seat
