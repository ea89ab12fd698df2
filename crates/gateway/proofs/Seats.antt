-- Jobs that are taken at a seat, one after the other.
use Rattle.std.proofs.Common.{◌≡◌, refl, ap, sym, ◌∙◌, subst, arith, ℕ, ◌+◌, ◌<◌, ◌≤◌, List, [], ◌∷◌, ◌++◌, length, take, get_or}
use Rattle.std.proofs.Common.{append-nil, append_assoc, length-append}
use Rattle.std.proofs.lemmas.List.{nil_from_length}
use Rattle.std.proofs.Math.Seq.{take-suc}
use Rattle.std.proofs.Math.Numerals.{suc-eq-add-one}
use mathlib.Core.List.{IsPrefix}
use Rattle.rows.specs.Shape.{Shape}
use Rattle.sockets.specs.declared.job.Job.{Job}
use Rattle.sockets.specs.declared.job_answer.JobAnswer.{JobAnswer}
use Rattle.sockets.specs.JobSeats.{JobSeatState, HasTaken, GoesOn, outcomes}
use Rattle.gateway.specs.Jobs.{TakesJobs}
use Rattle.gateway.specs.Inner.Taking.{AreTaken}

-- no job was taken
pub goes-nowhere : (workers : ℕ) (shape : Shape) (s : JobSeatState) → GoesOn workers shape 0 [] s s
goes-nowhere workers shape s = λ first jobs t. subst (λ js. HasTaken workers shape 0 first js s) (sym (append-nil jobs)) t

-- jobs, and then others
pub goes-then : (workers : ℕ) (shape : Shape) (more others : List Job) (old mid new : JobSeatState) → GoesOn workers shape 0 more old mid
    → GoesOn workers shape 0 others mid new → GoesOn workers shape 0 (more ++ others) old new
goes-then workers shape more others old mid new one other = λ first jobs t.
    subst (λ js. HasTaken workers shape 0 first js new) (append_assoc jobs more others) (other first (jobs ++ more) (one first jobs t))

-- none so far
pub taken-none : (workers : ℕ) (shape : Shape) (s : JobSeatState) → AreTaken workers shape [] s s []
taken-none workers shape s = (goes-nowhere workers shape s, sym (append-nil (outcomes s)), refl)

-- one more
pub taken-next : (workers : ℕ) (shape : Shape) (jobs : List Job) (i : ℕ) (job : Job) (old mid new : JobSeatState) (told : List JobAnswer)
    (answer : JobAnswer) → i < length jobs → job ≡ get_or jobs i job → AreTaken workers shape (take i jobs) old mid told
    → GoesOn workers shape 0 (job ∷ []) mid new → outcomes new ≡ outcomes mid ++ answer ∷ []
    → AreTaken workers shape (take (i + 1) jobs) old new (told ++ answer ∷ [])
taken-next workers shape jobs i job old mid new told answer lt at are goes kept = (
  subst (λ js. GoesOn workers shape 0 js old new) (sym more) (goes-then workers shape (take i jobs) (job ∷ []) old mid new are.0 goes),
  kept ∙ (ap (λ front. front ++ answer ∷ []) are.1 ∙ append_assoc (outcomes old) told (answer ∷ [])),
  (let longer = length-append told (answer ∷ []) in
      let others = length-append (take i jobs) (job ∷ []) in omega (arith, are.2, longer, others, ap length more)),
)
  where
    more : take (i + 1) jobs ≡ take i jobs ++ job ∷ []
    more = ap (λ n. take n jobs) (sym (suc-eq-add-one i)) ∙ (take-suc jobs i job lt ∙ ap (λ j. take i jobs ++ j ∷ []) (sym at))

-- a call that takes no job
pub takes-none : (workers : ℕ) (shape : Shape) (s : JobSeatState) → TakesJobs workers shape s s []
takes-none workers shape s =
    record { jobs = []; goes = goes-nowhere workers shape s; kept = sym (append-nil (outcomes s)); each = refl }

-- a fault that takes no answer back leaves what was told
pub taken-still : (workers : ℕ) (shape : Shape) (jobs : List Job) (old mid new : JobSeatState) (told : List JobAnswer)
    → AreTaken workers shape jobs old mid told → IsPrefix (outcomes new) (outcomes mid)
    → (length (outcomes new) ≡ length (outcomes mid) → GoesOn workers shape 0 [] mid new)
    → length (outcomes mid) ≤ length (outcomes new) → AreTaken workers shape jobs old new told
taken-still workers shape jobs old mid new told are front whole le = (
  subst (λ js. GoesOn workers shape 0 js old new) (append-nil jobs) (goes-then workers shape jobs [] old mid new are.0 (whole same)),
  sym (append-nil (outcomes new)) ∙ (ap (λ rest. outcomes new ++ rest) (sym none) ∙ (front.1 ∙ are.1)),
  are.2,
)
  where
    same : length (outcomes new) ≡ length (outcomes mid)
    same = let both = ap length front.1 in let parts = length-append (outcomes new) front.0 in omega (arith, le, both, parts)

    none : front.0 ≡ []
    none = nil_from_length front.0
        (let both = ap length front.1 in let parts = length-append (outcomes new) front.0 in omega (arith, le, both, parts))
