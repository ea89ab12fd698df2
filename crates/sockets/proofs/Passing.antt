-- What a primary answers to an Ask of its own tells what is durable.
use Rattle.std.proofs.Common.{◌≡◌, ℕ, ◌^◌, ◌<◌, List, length, min, take, drop, ap, ◌∙◌, arith}
use Rattle.std.proofs.lemmas.List.{length-append, length-take, length-drop}
use Rattle.rows.specs.declared.commit.Commit.{Commit}
use Rattle.rows.specs.declared.kind.Kind.{Kind}
use Rattle.rows.specs.Shape.{shape_of}
use Rattle.wire.specs.declared.datagram.Datagram.TheVariants as datagrams
use Rattle.wire.specs.declared.out.Out.{Out}
use Rattle.wire.specs.Spelling.{spelling, IsAsk}
use Rattle.wire.specs.Laws.{SpelledAreRead}
use Rattle.primary.specs.Sending.{counts_of, head_of, answers, answers_to}
use Rattle.desk.specs.Answers.{IsReadable, IsBaseOf, primary_of}
use Rattle.sockets.specs.Primaries.{counts_at, counts_in, passed}
use Rattle.sockets.proofs.Streams.{marks-spelled, counts-below}

own-ask : IsAsk 0 0 0
own-ask = record { replica_below = omega arith; boot_below = omega arith; request_below = omega arith }

pub told-counts : SpelledAreRead → (schema : List (List ℕ × List Kind)) (workers : ℕ) (list : List Commit) (base : ℕ) (outs : List Out)
    → IsReadable workers (shape_of schema) list → IsBaseOf (shape_of schema) list base
    → outs ≡ answers (primary_of schema workers list base) (spelling (datagrams.Ask 0 0 0))
    → counts_in outs ≡ counts_of list (length list) workers
told-counts reads schema workers list base outs readable is_base is =
    let head = head_of (shape_of schema) list base (length list) workers 0 0 0 in
    let below : length list < 2 ^ 64 = omega (arith, readable.numbered.commits_below) in
    let marks = marks-spelled (shape_of schema) list base (length list) workers readable.some readable.few is_base.within below
    (λ worker. omega (arith, counts-below list (length list) worker, readable.numbered.frames_below worker)) is_base.counted in
    ap counts_in (is ∙ ap (answers_to (primary_of schema workers list base)) (reads (datagrams.Ask 0 0 0) own-ask))
    ∙ ap counts_at (reads (datagrams.Head head) (own-ask, marks))

-- there are as many counters
pub passed-length : (counters counts : List ℕ) → length (passed counters counts) ≡ length counters
passed-length counters counts =
    let both = min (length counters) (length counts) in
    omega (
      arith,
      length-append (take both counts) (drop both counters),
      length-take both counts,
      length-drop both counters,
    )
