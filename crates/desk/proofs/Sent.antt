-- What is sent of a list of commits is what a primary sends of which it is the durable list.
use Rattle.std.proofs.Common.{◌≡◌, refl, ◌∙◌, ℕ, List, Result, Ok, Err, IfOk}
use Rattle.rows.specs.declared.commit.Commit.{Commit}
use Rattle.rows.specs.declared.kind.Kind.{Kind}
use Rattle.wire.specs.declared.datagram.Datagram.{Datagram}
use Rattle.wire.specs.declared.datagram.Datagram.TheVariants.{Frame, Ask, Head, Want, Piece, Pull}
use Rattle.wire.specs.declared.faults.WireFault.{WireFault}
use Rattle.wire.specs.Reading.{reading}
use Rattle.primary.specs.State.{Primary}
use Rattle.primary.specs.Sending.{pushed, answers, answers_to}
use Rattle.desk.specs.Answers.{primary_of}

to_one : (p : Primary) (read : Result Datagram WireFault)
    → answers_to p read ≡ answers_to (primary_of p.schema p.workers p.durable p.base) read
to_one p (Ok (Ask replica boot request)) = refl
to_one p (Ok (Want replica worker from)) = refl
to_one p (Ok (Frame worker seq commit last entries)) = refl
to_one p (Ok (Head head)) = refl
to_one p (Ok (Piece base number last entries)) = refl
to_one p (Ok (Pull replica base from)) = refl
to_one p (Err fault) = refl

pub answers_of : (p : Primary) (schema : List (List ℕ × List Kind)) (workers : ℕ) (list : List Commit) (base : ℕ) (bytes : List ℕ)
    → p.schema ≡ schema → p.workers ≡ workers → p.durable ≡ list → p.base ≡ base
    → answers p bytes ≡ answers (primary_of schema workers list base) bytes
answers_of p schema workers list base bytes named same is on =
    to_one p (reading bytes)
    ∙ (λ i. answers (primary_of (named i) (same i) (is i) (on i)) bytes)

-- so is a packet that is pushed
pub pushed_of : (p : Primary) (schema : List (List ℕ × List Kind)) (workers : ℕ) (list : List Commit) (base worker seq : ℕ)
    → p.durable ≡ list → p.base ≡ base → pushed p worker seq ≡ pushed (primary_of schema workers list base) worker seq
pushed_of p schema workers list base worker seq is on = λ i. pushed (primary_of schema workers (is i) (on i)) worker seq

pub if_ok : {A E : Type 0} (P Q : A → Type 0) (r : Result A E) → ((x : A) → P x → Q x) → IfOk r P → IfOk r Q
if_ok P Q (Ok x) how is = how x is
if_ok P Q (Err e) how is = tt
