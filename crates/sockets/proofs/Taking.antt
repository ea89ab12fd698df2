-- How far the jobs at a seat came, after one call more.
use Rattle.std.proofs.Common.{◌≡◌, refl, ap, sym, ◌∙◌, subst, arith, ℕ, zero, suc, ◌+◌, ◌<◌, ◌≤◌, Bool, true, false, ◌==◌}
use Rattle.std.proofs.Common.{Result, Ok, Err, IfErr, MatchResult}
use Rattle.std.proofs.Common.{List, [], ◌∷◌, ◌++◌, length, get_or, map, take, drop, append-nil, append_assoc, length-append}
use Rattle.std.specs.List.{AllZip}
use Rattle.std.proofs.lemmas.Bool.{eqb-true, eqb-false}
use Rattle.std.proofs.lemmas.List.Elements.{filter-append}
use Rattle.std.proofs.lemmas.List.{get_or_default, take-append-drop, map-append, take_all, drop_all, nil_from_length}
use Rattle.std.proofs.lemmas.List.{length-drop, length-map}
use mathlib.Core.List.{IsPrefix}
use Rattle.rows.specs.declared.commit.Commit.{Commit}
use Rattle.rows.specs.Shape.{Shape}
use Rattle.journal.specs.Recovery.{IsJournaled}
use Rattle.primary.specs.declared.ticket.Ticket.{Ticket}
use Rattle.desk.specs.Answers.{Stands}
use Rattle.desk.specs.State.{SeatState}
use Rattle.sockets.specs.declared.faults.WorkersFault.{WorkersFault}
use Rattle.sockets.specs.declared.job.Job.{Job}
use Rattle.sockets.specs.declared.job_answer.JobAnswer.{JobAnswer}
use Rattle.sockets.specs.declared.job_answer.JobAnswer.TheVariants as variants
use Rattle.sockets.specs.Answers.{IsJobAnswer}
use Rattle.sockets.specs.Inner.Jobs.{IsUncommitted}
use Rattle.sockets.specs.Inner.JobSeats.{AreSettled}
use Rattle.sockets.specs.JobSeats.{JobSeatState, IsPending, HasTaken, HasEnded, GoesOn, Ends, ticket_answer, outcomes}
use Rattle.sockets.specs.Work.{jobs_of, ticket_count, last_ticket, IsRising, shared_jobs_max}
use Rattle.sockets.proofs.Beginnings.{commit_at-begun, prefix_self, prefix_trans, prefix_length}
use Rattle.sockets.proofs.Drafts.{pending-begun, pending-stands}
use Rattle.sockets.proofs.Jobs.{answers-begun, answer-begun, take-more, zip-append, zip-long, count-append, last-append, rising-append}
use Rattle.sockets.proofs.Jobs.{rising-front, last-front}

-- the answers of settled tickets are as many tickets
count-settled : (tickets : List Ticket) → ticket_count (map ticket_answer tickets) ≡ length tickets
count-settled [] = refl
count-settled (ticket ∷ tickets) = omega (arith, count-settled tickets)

-- jobs whose commits are pending, on a longer list
pendings-begun : (shape : Shape) (first from : ℕ) (list all : List Commit) (jobs : List Job) (tickets : List Ticket) → first ≤ from
    → IsPrefix list all → AllZip (IsPending shape from list) jobs tickets → AllZip (IsPending shape first all) jobs tickets
pendings-begun shape first from list all [] [] le begins are = tt
pendings-begun shape first from list all [] (ticket ∷ tickets) le begins are = absurd are
pendings-begun shape first from list all (job ∷ jobs) [] le begins are = absurd are
pendings-begun shape first from list all (job ∷ jobs) (ticket ∷ tickets) le begins are = (
  pending-begun shape first from list all job ticket le begins are.0,
  pendings-begun shape first from list all jobs tickets le begins are.1,
)

-- the first of them are answered once their commits stand in the list
settled-answers : (shape : Shape) (from : ℕ) (list : List Commit) (count : ℕ) (jobs : List Job) (tickets : List Ticket)
    → AllZip (IsPending shape from list) jobs tickets
    → ((k : ℕ) (any : Ticket) → k < count → Stands list (get_or tickets k any))
    → AllZip (IsJobAnswer shape from list) (take count jobs) (map ticket_answer (take count tickets))
settled-answers shape from list zero jobs tickets are stand = tt
settled-answers shape from list (suc count) [] [] are stand = tt
settled-answers shape from list (suc count) [] (ticket ∷ tickets) are stand = absurd are
settled-answers shape from list (suc count) (job ∷ jobs) [] are stand = absurd are
settled-answers shape from list (suc count) (job ∷ jobs) (ticket ∷ tickets) are stand = (
  pending-stands shape from list job ticket are.0 (stand 0 ticket (omega arith)),
  settled-answers shape from list count jobs tickets are.1 (λ k any lt. stand (suc k) any (omega arith)),
)

-- a seat at which no job was done
pub taken-none : (workers : ℕ) (shape : Shape) (first : SeatState) (s : JobSeatState) → IsJournaled workers shape s.seat.list
    → s ≡ record { seat = first; answers = []; pending = [] } → HasTaken workers shape 0 first [] s
taken-none workers shape first s legal is = subst (HasTaken workers shape 0 first []) (sym is) (record {
  legal = subst (λ (x : JobSeatState). IsJournaled workers shape x.seat.list) is legal;
  later = prefix_self first.list;
  done = [];
  waiting = [];
  split = refl;
  answered = tt;
  committed = tt;
  rising = tt;
  newest = omega arith;
  share = omega arith;
  number = refl;
  few = omega arith;
})

-- a seat that has seen more of the list since
pub taken-later : (workers : ℕ) (shape : Shape) (lost : ℕ) (first : SeatState) (jobs : List Job) (old new : JobSeatState)
    → HasTaken workers shape lost first jobs old → IsJournaled workers shape new.seat.list → IsPrefix old.seat.list new.seat.list
    → new.seat ≡ record old.seat { list = new.seat.list } → new.answers ≡ old.answers → new.pending ≡ old.pending
    → HasTaken workers shape lost first jobs new
taken-later workers shape lost first jobs old new t legal later seat answers pending = record {
  legal = legal;
  later = prefix_trans first.list old.seat.list new.seat.list t.later later;
  done = t.done;
  waiting = t.waiting;
  split = t.split;
  answered =
      rw answers (answers-begun shape (length first.list) (length first.list) old.seat.list new.seat.list t.done old.answers
      (omega arith) later t.answered);
  committed =
      rw pending (pendings-begun shape (length first.list) (length first.list) old.seat.list new.seat.list t.waiting old.pending
      (omega arith) later t.committed);
  rising = rw (answers, pending) t.rising;
  newest = rw (answers, pending) (omega (arith, last, t.newest));
  share = rw (answers, pending) (omega (arith, share, t.share));
  number = ap (λ (s : SeatState). s.number) seat ∙ t.number;
  few = rw pending t.few;
}
  where
    last : new.seat.last ≡ old.seat.last
    last = ap (λ (s : SeatState). s.last) seat

    share : new.seat.share ≡ old.seat.share
    share = ap (λ (s : SeatState). s.share) seat

-- the answers with that of a job whose commit is pending
pub outcomes-pending : (old new : JobSeatState) (ticket : Ticket) → new.answers ≡ old.answers → new.pending ≡ old.pending ++ ticket ∷ []
    → outcomes new ≡ outcomes old ++ ticket_answer ticket ∷ []
outcomes-pending old new ticket answers pending =
    ap (λ tickets. new.answers ++ map ticket_answer tickets) pending
    ∙ (ap (λ rest. new.answers ++ rest) (map-append ticket_answer old.pending (ticket ∷ []))
    ∙ (ap (λ told. told ++ (map ticket_answer old.pending ++ ticket_answer ticket ∷ [])) answers
    ∙ sym (append_assoc old.answers (map ticket_answer old.pending) (ticket_answer ticket ∷ []))))

-- and with one more, where nothing is pending
pub outcomes-answered : (old new : JobSeatState) (answer : JobAnswer) → old.pending ≡ [] → new.answers ≡ old.answers ++ answer ∷ []
    → new.pending ≡ [] → outcomes new ≡ outcomes old ++ answer ∷ []
outcomes-answered old new answer idle told pending =
    ap (λ tickets. new.answers ++ map ticket_answer tickets) pending
    ∙ (append-nil new.answers
    ∙ (told
    ∙ ap (λ front. front ++ answer ∷ [])
    (sym (ap (λ tickets. old.answers ++ map ticket_answer tickets) idle ∙ append-nil old.answers))))

-- and of the same jobs
pub outcomes-same : (old new : JobSeatState) → new.answers ≡ old.answers → new.pending ≡ old.pending → outcomes new ≡ outcomes old
outcomes-same old new answers pending = rw (answers, pending) refl

-- where so many tickets were settled, they are the first of those before
outcomes-some : (count : ℕ) (list : List Commit) (old new : JobSeatState) → AreSettled count old.pending list old.answers new.answers
    → new.pending ≡ [] → outcomes old ≡ outcomes new ++ map ticket_answer (drop count old.pending)
outcomes-some count list old new settled pending =
    ap (λ tickets. old.answers ++ map ticket_answer tickets) (sym (take-append-drop count old.pending))
    ∙ (ap (λ more. old.answers ++ more) (map-append ticket_answer (take count old.pending) (drop count old.pending))
    ∙ (sym (append_assoc old.answers (map ticket_answer (take count old.pending)) (map ticket_answer (drop count old.pending)))
    ∙ ap (λ now. now ++ map ticket_answer (drop count old.pending))
    (sym (ap (λ tickets. new.answers ++ map ticket_answer tickets) pending ∙ (append-nil new.answers ∙ settled.kept)))))

-- what was pending was settled, or a fault ended it: no answer has changed
pub outcomes-settled : {A : Type 0} (list : List Commit) (old new : JobSeatState) (result : Result A WorkersFault)
    → new.pending ≡ []
    → MatchResult result (λ _. AreSettled (length old.pending) old.pending list old.answers new.answers)
    (λ fault. (count : ℕ) × AreSettled count old.pending list old.answers new.answers)
    → MatchResult result (λ _. outcomes new ≡ outcomes old) (λ _. IsPrefix (outcomes new) (outcomes old))
outcomes-settled list old new (Ok none) pending settled =
    sym (outcomes-some (length old.pending) list old new settled pending
    ∙ (ap (λ (tickets : List Ticket). outcomes new ++ map ticket_answer tickets) (drop_all (length old.pending) old.pending (omega arith))
    ∙ append-nil (outcomes new)))
outcomes-settled list old new (Err fault) pending settled = (
  map ticket_answer (drop settled.0 old.pending),
  sym (outcomes-some settled.0 list old new settled.1 pending),
)

-- one job more whose commit is pending
pub taken-pending : (workers : ℕ) (shape : Shape) (first : SeatState) (jobs : List Job) (job : Job) (old new : JobSeatState)
    (ticket : Ticket) → HasTaken workers shape 0 first jobs old → length old.pending < shared_jobs_max
    → IsJournaled workers shape new.seat.list → IsPrefix old.seat.list new.seat.list
    → IsPending shape (length old.seat.list) new.seat.list job ticket → old.seat.last < ticket.number
    → new.seat ≡ record old.seat { list = new.seat.list; last = ticket.number; share = old.seat.share + 1 }
    → new.answers ≡ old.answers → new.pending ≡ old.pending ++ ticket ∷ [] → HasTaken workers shape 0 first (jobs ++ job ∷ []) new
taken-pending workers shape first jobs job old new ticket t room legal later is above seat answers pending = record {
  legal = legal;
  later = prefix_trans first.list old.seat.list new.seat.list t.later later;
  done = t.done;
  waiting = t.waiting ++ job ∷ [];
  split = ap (λ js. js ++ job ∷ []) t.split ∙ append_assoc t.done t.waiting (job ∷ []);
  answered =
      rw answers (answers-begun shape (length first.list) (length first.list) old.seat.list new.seat.list t.done old.answers
      (omega arith) later t.answered);
  committed =
      rw pending (zip-append (IsPending shape (length first.list) new.seat.list) t.waiting (job ∷ []) old.pending (ticket ∷ [])
      (pendings-begun shape (length first.list) (length first.list) old.seat.list new.seat.list t.waiting old.pending
      (omega arith) later t.committed) (
        pending-begun shape (length first.list) (length old.seat.list) new.seat.list new.seat.list job ticket
            (prefix_length first.list old.seat.list t.later) (prefix_self new.seat.list) is,
        tt,
      ));
  rising =
      rw more (rising-append first.last (outcomes old) (variants.Ticket ticket.number ∷ []) t.rising
      (omega (arith, above, t.newest), tt));
  newest = rw (more, last-append first.last (outcomes old) (variants.Ticket ticket.number ∷ [])) (omega (arith, last));
  share = rw more (omega (arith, share, t.share, count-append (outcomes old) (variants.Ticket ticket.number ∷ [])));
  number = ap (λ (s : SeatState). s.number) seat ∙ t.number;
  few = (let longer = ap length pending ∙ length-append old.pending (ticket ∷ []) in omega (arith, longer, room));
}
  where
    more : outcomes new ≡ outcomes old ++ variants.Ticket ticket.number ∷ []
    more = outcomes-pending old new ticket answers pending

    last : new.seat.last ≡ ticket.number
    last = ap (λ (s : SeatState). s.last) seat

    share : new.seat.share ≡ old.seat.share + 1
    share = ap (λ (s : SeatState). s.share) seat

-- an answer without a ticket adds none
uncommitted-count : (answer : JobAnswer) → IsUncommitted answer → ticket_count (answer ∷ []) ≡ 0
uncommitted-count (variants.Ticket number) without = absurd without
uncommitted-count (variants.Conflict number) without = refl
uncommitted-count (variants.Refused refusal) without = refl

uncommitted-last : (last : ℕ) (answer : JobAnswer) → IsUncommitted answer → last_ticket last (answer ∷ []) ≡ last
uncommitted-last last (variants.Ticket number) without = absurd without
uncommitted-last last (variants.Conflict number) without = refl
uncommitted-last last (variants.Refused refusal) without = refl

uncommitted-rising : (last : ℕ) (answer : JobAnswer) → IsUncommitted answer → IsRising last (answer ∷ [])
uncommitted-rising last (variants.Ticket number) without = absurd without
uncommitted-rising last (variants.Conflict number) without = tt
uncommitted-rising last (variants.Refused refusal) without = tt

-- one job more that is answered without a ticket, where nothing is pending
pub taken-answered : (workers : ℕ) (shape : Shape) (first : SeatState) (jobs : List Job) (job : Job) (old new : JobSeatState)
    (answer : JobAnswer) → HasTaken workers shape 0 first jobs old → old.pending ≡ []
    → IsJournaled workers shape new.seat.list → IsPrefix old.seat.list new.seat.list
    → IsJobAnswer shape (length old.seat.list) new.seat.list job answer → IsUncommitted answer
    → new.seat ≡ record old.seat { list = new.seat.list } → new.answers ≡ old.answers ++ answer ∷ [] → new.pending ≡ []
    → HasTaken workers shape 0 first (jobs ++ job ∷ []) new
taken-answered workers shape first jobs job old new answer t idle legal later is without seat told pending = record {
  legal = legal;
  later = prefix_trans first.list old.seat.list new.seat.list t.later later;
  done = t.done ++ job ∷ [];
  waiting = [];
  split =
      ap (λ js. js ++ job ∷ []) (t.split ∙ (ap (λ js. t.done ++ js) nobody ∙ append-nil t.done))
      ∙ sym (append-nil (t.done ++ job ∷ []));
  answered =
      rw told (zip-append (IsJobAnswer shape (length first.list) new.seat.list) t.done (job ∷ []) old.answers (answer ∷ [])
      (answers-begun shape (length first.list) (length first.list) old.seat.list new.seat.list t.done old.answers
      (omega arith) later t.answered) (
        answer-begun shape (length first.list) (length old.seat.list) new.seat.list new.seat.list job answer
            (prefix_length first.list old.seat.list t.later) (prefix_self new.seat.list) is,
        tt,
      ));
  committed = rw pending tt;
  rising =
      rw more (rising-append first.last (outcomes old) (answer ∷ []) t.rising
      (uncommitted-rising (last_ticket first.last (outcomes old)) answer without));
  newest =
      rw (
        more,
        last-append first.last (outcomes old) (answer ∷ []),
        uncommitted-last (last_ticket first.last (outcomes old)) answer without,
      )
      (omega (arith, last, t.newest));
  share = rw more (omega (arith, share, t.share, count-append (outcomes old) (answer ∷ []), uncommitted-count answer without));
  number = ap (λ (s : SeatState). s.number) seat ∙ t.number;
  few = rw pending (omega arith);
}
  where
    nobody : t.waiting ≡ []
    nobody = nil_from_length t.waiting (zip-long (IsPending shape (length first.list) old.seat.list) t.waiting old.pending t.committed
        ∙ ap length idle)

    more : outcomes new ≡ outcomes old ++ answer ∷ []
    more = outcomes-answered old new answer idle told pending

    last : new.seat.last ≡ old.seat.last
    last = ap (λ (s : SeatState). s.last) seat

    share : new.seat.share ≡ old.seat.share
    share = ap (λ (s : SeatState). s.share) seat

-- so many of the tickets were settled, and the rest is lost
taken-some : (workers : ℕ) (shape : Shape) (lost count : ℕ) (first : SeatState) (jobs : List Job) (old new : JobSeatState)
    (t : HasTaken workers shape lost first jobs old) → IsJournaled workers shape new.seat.list → IsPrefix old.seat.list new.seat.list
    → new.seat ≡ record old.seat { list = new.seat.list } → AreSettled count old.pending new.seat.list old.answers new.answers
    → new.pending ≡ []
    → HasTaken workers shape (lost + length (drop count old.pending)) first (t.done ++ take count t.waiting) new
taken-some workers shape lost count first jobs old new t legal later seat settled pending = record {
  legal = legal;
  later = prefix_trans first.list old.seat.list new.seat.list t.later later;
  done = t.done ++ take count t.waiting;
  waiting = [];
  split = sym (append-nil (t.done ++ take count t.waiting));
  answered =
      rw settled.kept (zip-append (IsJobAnswer shape (length first.list) new.seat.list) t.done (take count t.waiting) old.answers
      (map ticket_answer (take count old.pending))
      (answers-begun shape (length first.list) (length first.list) old.seat.list new.seat.list t.done old.answers
      (omega arith) later t.answered)
      (settled-answers shape (length first.list) new.seat.list count t.waiting old.pending
      (pendings-begun shape (length first.list) (length first.list) old.seat.list new.seat.list t.waiting old.pending
      (omega arith) later t.committed) settled.stand));
  committed = rw pending tt;
  rising = rw now (rising-front first.last (old.answers ++ map ticket_answer (take count old.pending)) rest whole);
  newest =
      rw now (omega (
        arith,
        last,
        t.newest,
        ap (last_ticket first.last) before,
        last-front first.last (old.answers ++ map ticket_answer (take count old.pending)) rest whole,
      ));
  share =
      rw now (omega (
        arith,
        share,
        t.share,
        ap ticket_count before,
        count-append (old.answers ++ map ticket_answer (take count old.pending)) rest,
        count-settled (drop count old.pending),
      ));
  number = ap (λ (s : SeatState). s.number) seat ∙ t.number;
  few = rw pending (let both = ap length (take-append-drop count old.pending) in
      let parts = length-append (take count old.pending) (drop count old.pending) in omega (arith, both, parts, t.few));
}
  where
    rest : List JobAnswer
    rest = map ticket_answer (drop count old.pending)

    now : outcomes new ≡ old.answers ++ map ticket_answer (take count old.pending)
    now =
        ap (λ tickets. new.answers ++ map ticket_answer tickets) pending ∙ (append-nil new.answers ∙ settled.kept)

    before : outcomes old ≡ (old.answers ++ map ticket_answer (take count old.pending)) ++ rest
    before =
        ap (λ tickets. old.answers ++ map ticket_answer tickets) (sym (take-append-drop count old.pending))
        ∙ (ap (λ more. old.answers ++ more) (map-append ticket_answer (take count old.pending) (drop count old.pending))
        ∙ sym (append_assoc old.answers (map ticket_answer (take count old.pending)) rest))

    whole : IsRising first.last ((old.answers ++ map ticket_answer (take count old.pending)) ++ rest)
    whole = subst (IsRising first.last) before t.rising

    last : new.seat.last ≡ old.seat.last
    last = ap (λ (s : SeatState). s.last) seat

    share : new.seat.share ≡ old.seat.share
    share = ap (λ (s : SeatState). s.share) seat

-- all tickets were settled
pub taken-settled : (workers : ℕ) (shape : Shape) (lost : ℕ) (first : SeatState) (jobs : List Job) (old new : JobSeatState)
    → HasTaken workers shape lost first jobs old → IsJournaled workers shape new.seat.list → IsPrefix old.seat.list new.seat.list
    → new.seat ≡ record old.seat { list = new.seat.list }
    → AreSettled (length old.pending) old.pending new.seat.list old.answers new.answers → new.pending ≡ []
    → HasTaken workers shape lost first jobs new
taken-settled workers shape lost first jobs old new t legal later seat settled pending =
    subst (λ n. HasTaken workers shape n first jobs new) none
    (subst (λ js. HasTaken workers shape (lost + length (drop (length old.pending) old.pending)) first js new) all
    (taken-some workers shape lost (length old.pending) first jobs old new t legal later seat settled pending))
  where
    none : lost + length (drop (length old.pending) old.pending) ≡ lost
    none = let nothing = ap length (drop_all (length old.pending) old.pending (omega arith)) in omega (arith, nothing)

    all : t.done ++ take (length old.pending) t.waiting ≡ jobs
    all =
        ap (λ js. t.done ++ js) (take_all (length old.pending) t.waiting
        (let long = zip-long (IsPending shape (length first.list) old.seat.list) t.waiting old.pending t.committed in omega (arith, long)))
        ∙ sym t.split

-- a fault ended what was pending after so many tickets were settled
pub taken-ended : (workers : ℕ) (shape : Shape) (lost count : ℕ) (first : SeatState) (jobs : List Job) (old new : JobSeatState)
    → HasTaken workers shape lost first jobs old → IsJournaled workers shape new.seat.list → IsPrefix old.seat.list new.seat.list
    → new.seat ≡ record old.seat { list = new.seat.list } → AreSettled count old.pending new.seat.list old.answers new.answers
    → new.pending ≡ [] → HasEnded workers shape first jobs new
taken-ended workers shape lost count first jobs old new t legal later seat settled pending = record {
  begun = t.done ++ take count t.waiting;
  begins = (
    drop count t.waiting,
    append_assoc t.done (take count t.waiting) (drop count t.waiting)
        ∙ (ap (λ js. t.done ++ js) (take-append-drop count t.waiting) ∙ sym t.split),
  );
  lost = lost + length (drop count old.pending);
  taken = taken-some workers shape lost count first jobs old new t legal later seat settled pending;
}

-- none of the tickets was settled
pub settled-none : (tickets : List Ticket) (list : List Commit) (answers : List JobAnswer) → AreSettled 0 tickets list answers answers
settled-none tickets list answers = record {
  within = omega arith;
  stand = (λ k any lt. absurd (omega (arith, lt)));
  kept = sym (append-nil answers);
}

-- what was pending was settled, or a fault ended it
pub after-settling : {A : Type 0} (workers : ℕ) (shape : Shape) (old new : JobSeatState) (result : Result A WorkersFault)
    → IsJournaled workers shape new.seat.list → IsPrefix old.seat.list new.seat.list → new.seat ≡ record old.seat { list = new.seat.list }
    → new.pending ≡ []
    → MatchResult result (λ _. AreSettled (length old.pending) old.pending new.seat.list old.answers new.answers)
    (λ fault. (count : ℕ) × AreSettled count old.pending new.seat.list old.answers new.answers)
    → (lost : ℕ) → MatchResult result (λ _. GoesOn workers shape lost [] old new) (λ fault. Ends workers shape lost [] old new)
after-settling workers shape old new (Ok none) legal later seat pending settled lost = λ first jobs t.
    subst (λ js. HasTaken workers shape lost first js new) (sym (append-nil jobs))
    (taken-settled workers shape lost first jobs old new t legal later seat settled pending)
after-settling workers shape old new (Err fault) legal later seat pending settled lost = λ first jobs t.
    subst (λ js. HasEnded workers shape first js new) (sym (append-nil jobs))
    (taken-ended workers shape lost settled.0 first jobs old new t legal later seat settled.1 pending)

-- a fault that takes no answer back has ended nothing
pub whole-settled : (workers : ℕ) (shape : Shape) (count : ℕ) (old new : JobSeatState)
    → IsJournaled workers shape new.seat.list → IsPrefix old.seat.list new.seat.list → new.seat ≡ record old.seat { list = new.seat.list }
    → new.pending ≡ [] → AreSettled count old.pending new.seat.list old.answers new.answers
    → length (outcomes new) ≡ length (outcomes old) → GoesOn workers shape 0 [] old new
whole-settled workers shape count old new legal later seat pending settled same = λ first jobs t.
    subst (λ js. HasTaken workers shape 0 first js new) (sym (append-nil jobs))
    (taken-settled workers shape 0 first jobs old new t legal later seat
    (subst (λ n. AreSettled n old.pending new.seat.list old.answers new.answers) all settled) pending)
  where
    rest : List Ticket
    rest = drop count old.pending

    none : length rest ≡ 0
    none =
        let whole = ap length (outcomes-some count new.seat.list old new settled pending) in
        let parts = length-append (outcomes new) (map ticket_answer rest) in
        let many = length-map rest ticket_answer in omega (arith, same, whole, parts, many)

    all : count ≡ length old.pending
    all = let left = length-drop count old.pending in omega (arith, settled.within, none, left)

pub after-settling-whole : {A : Type 0} (workers : ℕ) (shape : Shape) (old new : JobSeatState) (result : Result A WorkersFault)
    → IsJournaled workers shape new.seat.list → IsPrefix old.seat.list new.seat.list → new.seat ≡ record old.seat { list = new.seat.list }
    → new.pending ≡ []
    → MatchResult result (λ _. AreSettled (length old.pending) old.pending new.seat.list old.answers new.answers)
    (λ fault. (count : ℕ) × AreSettled count old.pending new.seat.list old.answers new.answers)
    → IfErr result (λ _. length (outcomes new) ≡ length (outcomes old) → GoesOn workers shape 0 [] old new)
after-settling-whole workers shape old new (Ok none) legal later seat pending settled = tt
after-settling-whole workers shape old new (Err fault) legal later seat pending settled =
    whole-settled workers shape settled.0 old new legal later seat pending settled.1

-- two calls, one after the other
pub goes-trans : (workers : ℕ) (shape : Shape) (lost : ℕ) (more others : List Job) (old mid new : JobSeatState)
    → GoesOn workers shape lost more old mid → GoesOn workers shape lost others mid new → GoesOn workers shape lost (more ++ others) old new
goes-trans workers shape lost more others old mid new one other = λ first jobs t.
    subst (λ js. HasTaken workers shape lost first js new) (append_assoc jobs more others)
    (other first (jobs ++ more) (one first jobs t))

pub goes-ends : (workers : ℕ) (shape : Shape) (lost : ℕ) (more others : List Job) (old mid new : JobSeatState)
    → GoesOn workers shape lost more old mid → Ends workers shape lost others mid new → Ends workers shape lost (more ++ others) old new
goes-ends workers shape lost more others old mid new one other = λ first jobs t.
    subst (λ js. HasEnded workers shape first js new) (append_assoc jobs more others)
    (other first (jobs ++ more) (one first jobs t))

-- what goes on has not ended
pub goes-is-ended : (workers : ℕ) (shape : Shape) (lost : ℕ) (more : List Job) (old new : JobSeatState)
    → GoesOn workers shape lost more old new → Ends workers shape lost more old new
goes-is-ended workers shape lost more old new goes = λ first jobs t. record {
  begun = jobs ++ more;
  begins = prefix_self (jobs ++ more);
  lost = lost;
  taken = goes first jobs t;
}

-- a call after one that takes no job
pub after-going : {A : Type 0} (workers : ℕ) (shape : Shape) (more : List Job) (old mid new : JobSeatState) (result : Result A WorkersFault)
    → GoesOn workers shape 0 [] old mid
    → MatchResult result (λ _. GoesOn workers shape 0 more mid new) (λ fault. Ends workers shape 0 [] mid new)
    → MatchResult result (λ _. GoesOn workers shape 0 more old new) (λ fault. Ends workers shape 0 [] old new)
after-going workers shape more old mid new (Ok done) goes then = goes-trans workers shape 0 [] more old mid new goes then
after-going workers shape more old mid new (Err fault) goes then = goes-ends workers shape 0 [] [] old mid new goes then

-- the same of a fault that takes no answer back
pub after-going-whole : {A : Type 0} (workers : ℕ) (shape : Shape) (old mid new : JobSeatState) (result : Result A WorkersFault)
    → GoesOn workers shape 0 [] old mid → outcomes mid ≡ outcomes old
    → IfErr result (λ _. length (outcomes new) ≡ length (outcomes mid) → GoesOn workers shape 0 [] mid new)
    → IfErr result (λ _. length (outcomes new) ≡ length (outcomes old) → GoesOn workers shape 0 [] old new)
after-going-whole workers shape old mid new (Ok done) goes is then = tt
after-going-whole workers shape old mid new (Err fault) goes is then = λ same.
    goes-trans workers shape 0 [] [] old mid new goes (then (same ∙ sym (ap length is)))

-- a fault within the first jobs is one within all
pub ends-first : (workers : ℕ) (shape : Shape) (lost : ℕ) (more all : List Job) (old new : JobSeatState) → IsPrefix more all
    → Ends workers shape lost more old new → Ends workers shape lost all old new
ends-first workers shape lost more all old new begins ends = λ first jobs t.
    let e = ends first jobs t in record {
      begun = e.begun;
      begins =
          prefix_trans e.begun (jobs ++ more) (jobs ++ all) e.begins
          (begins.0, append_assoc jobs more begins.0 ∙ ap (λ js. jobs ++ js) begins.1);
      lost = e.lost;
      taken = e.taken;
    }

-- the first jobs of a worker begin all of its jobs
pub mine-begin : (number : ℕ) (jobs : List Job) (i : ℕ) → IsPrefix (jobs_of number (take i jobs) ++ []) (jobs_of number jobs)
mine-begin number jobs i = (
  jobs_of number (drop i jobs),
  ap (λ js. js ++ jobs_of number (drop i jobs)) (append-nil (jobs_of number (take i jobs)))
      ∙ (sym (filter-append (λ (j : Job). j.worker == number) (take i jobs) (drop i jobs))
      ∙ ap (jobs_of number) (take-append-drop i jobs)),
)

-- settling after a fault
pub ended-after : {A : Type 0} (workers : ℕ) (shape : Shape) (first : SeatState) (jobs : List Job) (old new : JobSeatState)
    (result : Result A WorkersFault)
    → ((lost : ℕ) → MatchResult result (λ _. GoesOn workers shape lost [] old new) (λ fault. Ends workers shape lost [] old new))
    → HasEnded workers shape first jobs old → HasEnded workers shape first jobs new
ended-after workers shape first jobs old new (Ok none) then e =
    let t = then e.lost first e.begun e.taken in
    record {
      begun = e.begun ++ [];
      begins = subst (λ js. IsPrefix js jobs) (sym (append-nil e.begun)) e.begins;
      lost = e.lost;
      taken = t;
    }
ended-after workers shape first jobs old new (Err fault) then e =
    let f = then e.lost first e.begun e.taken in
    record {
      begun = f.begun;
      begins = prefix_trans f.begun (e.begun ++ []) jobs f.begins (subst (λ js. IsPrefix js jobs) (sym (append-nil e.begun)) e.begins);
      lost = f.lost;
      taken = f.taken;
    }

-- one ticket more is settled
pub stand-more : (tickets : List Ticket) (i : ℕ) (ticket : Ticket) (list all : List Commit) → IsPrefix list all
    → i < length tickets → ticket ≡ get_or tickets i ticket
    → ((k : ℕ) (any : Ticket) → k < i → Stands list (get_or tickets k any)) → Stands all ticket
    → (k : ℕ) (any : Ticket) → k < i + 1 → Stands all (get_or tickets k any)
stand-more tickets i ticket list all begins lt is stand last k any below = by (k == i) refl
  where
    by : (here : Bool) → (k == i) ≡ here → Stands all (get_or tickets k any)
    by true e =
        let same : k ≡ i = eqb-true k i e in
        subst (λ n. Stands all (get_or tickets n any)) (sym same)
        (subst (Stands all) (is ∙ get_or_default tickets i ticket any lt) last)
    by false e =
        let other = eqb-false k i e in
        let there = get_or tickets k any in
        commit_at-begun list all there.number (record { worker = there.worker; entries = there.entries }) begins
        (stand k any (omega (arith, other, below)))

pub kept-more : (old now : List JobAnswer) (tickets : List Ticket) (i : ℕ) (ticket : Ticket) (answer : JobAnswer)
    → i < length tickets → ticket ≡ get_or tickets i ticket → now ≡ old ++ map ticket_answer (take i tickets)
    → answer ≡ ticket_answer ticket → now ++ answer ∷ [] ≡ old ++ map ticket_answer (take (i + 1) tickets)
kept-more old now tickets i ticket answer lt is kept told =
    ap (λ front. front ++ answer ∷ []) kept
    ∙ (append_assoc old (map ticket_answer (take i tickets)) (answer ∷ [])
    ∙ ap (λ rest. old ++ rest) (ap (λ a. map ticket_answer (take i tickets) ++ a ∷ []) told
    ∙ (sym (map-append ticket_answer (take i tickets) (ticket ∷ []))
    ∙ ap (map ticket_answer) (sym (take-more tickets i ticket lt is)))))
