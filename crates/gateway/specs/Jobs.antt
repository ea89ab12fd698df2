-- What a primary answers to jobs, and when it stands.
use Rattle.std.specs.Prelude.{◌≡◌, ℕ, ◌<◌, Bool, true, false, List, [], ◌++◌, length, codes, All, None}
use Rattle.std.specs.List.{AllZip}
use Rattle.http.specs.declared.request.Request.{Request}
use Rattle.http.specs.Request.{head_of}
use Rattle.http_uri.specs.Uri.{uri_path}
use Rattle.http_server.specs.declared.response.Response.{Response}
use Rattle.http_server.specs.Exchange.{Call, Chain}
use Rattle.rows.specs.declared.commit.Commit.{Commit}
use Rattle.rows.specs.Shape.{Shape}
use Rattle.sockets.specs.declared.job.Job.{Job}
use Rattle.sockets.specs.declared.job_answer.JobAnswer.{JobAnswer}
use Rattle.sockets.specs.declared.job_answer.JobAnswer.TheVariants as answers
use Rattle.sockets.specs.Answers.{IsJobAnswer}
use Rattle.sockets.specs.JobSeats.{JobSeatState, GoesOn, outcomes}
use Rattle.journal.specs.Recovery.{IsJournaled}
use Rattle.service.specs.Denials.{denial_of, WithDenials}
use Rattle.requests.specs.AnswerLines.{numbered_lines}

-- a request that has jobs
abbrev pub IsJobs : Request (List ℕ) → Type 0
IsJobs request = ((head_of request).method ≡ codes "POST") × (uri_path (head_of request).uri ≡ codes "/jobs")

-- a job that is committed
abbrev pub IsTicket : JobAnswer → Type 0
IsTicket (answers.Ticket number) = Unit {0}
IsTicket (answers.Conflict number) = ⊥
IsTicket (answers.Refused refusal) = ⊥

-- what is told of jobs that are answered so: with status 200 or 409 their lines; with 200 there is one at least, and each has a ticket,
-- and with 409 one has none; with any other status below 500 no job was taken
pub record Tells (told : List JobAnswer) (response : Response) : Type 0 where
  pub all : response.status ≡ 200 → (0 < length told) × All IsTicket told × (response.body.items ≡ numbered_lines 0 told)
  pub some : response.status ≡ 409 → ¬ (All IsTicket told) × (response.body.items ≡ numbered_lines 0 told)
  pub other : response.status < 500 → ¬ (response.status ≡ 200) → ¬ (response.status ≡ 409) → told ≡ []

-- jobs were taken at a seat, each of which is answered so
pub record TakesJobs (workers : ℕ) (shape : Shape) (old new : JobSeatState) (told : List JobAnswer) : Type 0 where
  pub jobs : List Job
  pub goes : GoesOn workers shape 0 jobs old new
  pub kept : outcomes new ≡ outcomes old ++ told
  pub each : length told ≡ length jobs

-- a call at a seat: it takes jobs, and tells what they are answered; a request that has none takes none
abbrev pub IsCall : ℕ → Shape → JobSeatState → Request (List ℕ) → Response → JobSeatState → Type 0
IsCall workers shape old request response new =
    (told : List JobAnswer) × TakesJobs workers shape old new told × (IsJobs request → Tells told response)
    × (¬ (IsJobs request) → told ≡ [])

-- what answers requests: a seat at which jobs are taken, and whether a fault took back what requests of this round were told
pub record DeskState : Type 0 where
  pub job_seat : JobSeatState
  pub has_lost : Bool

-- what it answers: that is a call at the seat; or a fault took back what was told before
abbrev pub AnswersJobs : ℕ → Shape → DeskState → Request (List ℕ) → Response → DeskState → Type 0
AnswersJobs workers shape old request response new =
    new.has_lost ≡ false → (old.has_lost ≡ false) × IsCall workers shape old.job_seat request response new.job_seat

-- what was pending is durable, and no answer has changed; the seat begins anew
pub record IsSettled (workers : ℕ) (shape : Shape) (old new : JobSeatState) : Type 0 where
  pub done : JobSeatState
  pub goes : GoesOn workers shape 0 [] old done
  pub none : done.pending ≡ []
  pub kept : outcomes done ≡ outcomes old
  pub anew : new ≡ record { seat = done.seat; answers = []; pending = [] }

-- what a round comes to: nothing was taken back, and all is settled; or it does not stand
abbrev pub SettlesJobs : ℕ → Shape → DeskState → Bool → DeskState → Type 0
SettlesJobs workers shape old stands new =
    stands ≡ true → (old.has_lost ≡ false) × (new.has_lost ≡ false) × IsSettled workers shape old.job_seat new.job_seat

-- jobs that are answered so, each as the list has it: the commit of a ticket stands there, is of the job's worker, and has the entries
-- that the job's steps make from version `from` or a later one
pub record AreDone (shape : Shape) (from : ℕ) (list : List Commit) (told : List JobAnswer) : Type 0 where
  pub jobs : List Job
  pub each : AllZip (IsJobAnswer shape from list) jobs told

-- a call that told of jobs told of such, whatever its status: with 200 and 409 all that its lines say stands
abbrev pub ToldStands : Shape → ℕ → List Commit → Call → Type 0
ToldStands shape from list call =
    denial_of call.0 ≡ None → IsJobs call.0 → (told : List JobAnswer) × Tells told call.1 × AreDone shape from list told

-- the law: what a round told of jobs stands once it has settled, if nothing was taken at the seat before the round
abbrev pub WhatIsToldStands : Type 0
WhatIsToldStands =
    (workers : ℕ) (shape : Shape) (old called new : DeskState) (calls : List Call) → old.job_seat.answers ≡ []
    → old.job_seat.pending ≡ [] → IsJournaled workers shape old.job_seat.seat.list
    → Chain (WithDenials (AnswersJobs workers shape)) old calls called → SettlesJobs workers shape called true new
    → All (ToldStands shape (length old.job_seat.seat.list) new.job_seat.seat.list) calls
