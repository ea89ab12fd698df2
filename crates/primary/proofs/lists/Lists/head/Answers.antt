-- The Head of what is durable has a spelling, and its counts and pieces are those of the durable list.
use Rattle.std.proofs.Common.{◌≡◌, ℕ, List, length, take, sym, ap, subst, ◌∙◌, arith}
use Rattle.std.proofs.lemmas.List.{length-take-le}
use Rattle.rows.specs.Shape.{shape_of}
use Rattle.update_log.specs.Images.{pieces_at}
use Rattle.wire.specs.declared.out.Out.{Out}
use Rattle.wire.specs.declared.out.To.TheVariants.{Replica}
use Rattle.wire.specs.declared.datagram.Datagram.TheVariants.{Head}
use Rattle.wire.specs.declared.head.Head as heads
use Rattle.wire.specs.Spelling.{AreMarks, spelling}
use Rattle.primary.specs.Inner.Parts.{primary_of}
use Rattle.primary.specs.Sending.{head_for, counts_of}
use Rattle.primary.proofs.Cut.{pieces-counted, pieces-durable}
use Rattle.primary.proofs.Streams.{marks_for_head, counts-durable, counts-at_base}
use Rattle.primary.proofs.lists.Lists.head.Goals as goal

pub of-requires : goal.of-requires
of-requires c =
    let inside = c.self.inside in
    let kept = c.self.invariant in
    let commits = inside.versions.commits in
    let shape = shape_of inside.versions.schema in
    let base = inside.tail.base in
    let many : length c.as_slice.result.now ≡ length (pieces_at shape commits base) =
    ap length c.as_slice.ensures.value ∙ pieces-counted shape commits base inside.pieces.items kept.spelled in
    let marks = marks_for_head c.pieces_are_cut.ensures.some shape commits base inside.durable inside.workers (length c.as_slice.result.now)
    (omega (arith, kept.within, kept.numbered.commits_below)) kept.based (omega arith) many kept.numbered kept.some_workers
    kept.few_workers in (
      c.requires,
      subst (λ (lows : List ℕ). AreMarks inside.durable base (length c.as_slice.result.now) lows c.counts.result)
          (sym (c.low_counts.ensures commits kept.framed))
          (subst (AreMarks inside.durable base (length c.as_slice.result.now) (counts_of commits base inside.workers))
          (sym (c.counts.ensures commits kept.framed kept.numbered)) marks),
    )

pub returns : goal.returns
returns c =
    let inside = c.self.inside in
    let kept = c.self.invariant in
    let commits = inside.versions.commits in
    let durable = take inside.durable commits in
    let shape = shape_of inside.versions.schema in
    let base = inside.tail.base in
    let workers = inside.workers in
    let replica = c.args.replica in
    let boot = c.args.boot in
    let request = c.args.request in
    let head : ℕ → ℕ → List ℕ → List ℕ → heads.Head = λ version pieces lows counts. record {
      replica = replica;
      boot = boot;
      request = request;
      version = version;
      base = base;
      pieces = pieces;
      lows = lows;
      counts = counts;
    } in
    let counted : c.counts.result ≡ counts_of durable (length durable) workers =
    c.counts.ensures commits kept.framed kept.numbered ∙ sym (counts-durable commits inside.durable workers kept.within) in
    let lowest : c.low_counts.result ≡ counts_of durable base workers =
    c.low_counts.ensures commits kept.framed ∙ sym (counts-at_base commits base inside.durable workers kept.based) in
    let many : length c.as_slice.result.now ≡ length (pieces_at shape durable base) =
    ap length c.as_slice.ensures.value ∙ pieces-counted shape commits base inside.pieces.items kept.spelled
    ∙ ap length (sym (pieces-durable shape commits inside.durable base kept.based)) in
    let version : inside.durable ≡ length durable = sym (length-take-le inside.durable commits kept.within) in
    let here : c.of.result
    ≡ spelling (Head (head_for (primary_of inside.versions inside.durable workers inside.failed base) replica boot request)) =
    c.of.ensures.spelled
    ∙ ap (λ (counts : List ℕ). spelling (Head (head inside.durable (length c.as_slice.result.now) c.low_counts.result counts))) counted
    ∙ ap (λ (lows : List ℕ). spelling (Head (head inside.durable (length c.as_slice.result.now) lows
    (counts_of durable (length durable) workers)))) lowest
    ∙ ap (λ (n : ℕ). spelling (Head (head inside.durable n (counts_of durable base workers)
    (counts_of durable (length durable) workers)))) many
    ∙ ap (λ (v : ℕ). spelling (Head (head v (length (pieces_at shape durable base)) (counts_of durable base workers)
    (counts_of durable (length durable) workers)))) version in
    let there : c.of.result ≡ spelling (Head (head_for c.args.self.now replica boot request)) =
    here ∙ ap (λ p. spelling (Head (head_for p replica boot request))) c.self.view_is in
    ap (λ packet. let out : Out = record { to = Replica replica; packet = packet } in out) there
