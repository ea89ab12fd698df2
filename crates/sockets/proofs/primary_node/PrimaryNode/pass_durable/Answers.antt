-- The Head that answers the Ask has the frame counts of what is durable.
use Rattle.std.proofs.Common.{◌≡◌, ◌∙◌, ap, ℕ, List, length, arith}
use Rattle.std.specs.Vec.{with_items}
use Rattle.std.proofs.lemmas.List.{with_items_is}
use Rattle.primary.specs.Sending.{counts_of, answers}
use Rattle.desk.specs.Answers.{primary_of}
use Rattle.sockets.specs.Primaries.{passed, counts_in}
use Rattle.sockets.proofs.Passing.{told-counts, passed-length}
use Rattle.sockets.proofs.primary_node.PrimaryNode.pass_durable.Goals as goal

pub returns-in-Ok-clause-ok : goal.returns-in-Ok-clause-ok
returns-in-Ok-clause-ok g c =
    let schema = g.L.Line.schema in
    let workers = g.L.Line.workers in
    let list = c.on_bytes.new.seat.list in
    let asked = c.bytes.ensures.bytes ∙ c.of-ask.ensures.spelled in
    let sent = c.in-Ok.ensures.ok in
    let told : counts_in c.deref.result.now ≡ counts_of list (length list) workers =
    ap counts_in c.deref.ensures.value
    ∙ told-counts c.one_spelling.ensures.read schema workers list sent.0 c.in-Ok.outs.items c.in-Ok.ensures.readable sent.1
    (sent.2 ∙ ap (answers (primary_of schema workers list sent.0)) asked) in
    let passes : c.pass_told.new.counters ≡ passed c.self.inside.counters.items (counts_of list (length list) workers) =
    c.pass_told.ensures
    ∙ (ap (λ (counters : List ℕ). passed counters (counts_in c.deref.result.now)) c.deref_mut.ensures.value
    ∙ ap (passed c.self.inside.counters.items) told) in
    let many = passed-length c.deref_mut.result.now (counts_in c.deref.result.now) in
    let kept : (with_items c.self.inside.counters c.pass_told.new.counters).items ≡ c.pass_told.new.counters =
    with_items_is c.self.inside.counters c.pass_told.new.counters
    (omega (arith, ap length c.pass_told.ensures, many, ap length c.deref_mut.ensures.value, c.self.inside.counters.ok)) in
    rw (← c.self.view_is)
    (ap (λ (counters : List ℕ). record {
      seat = c.on_bytes.new.seat;
      port = c.self.inside.port;
      counters = counters;
      traffic = c.self.inside.traffic;
      asked = c.self.inside.asked;
    }) (kept ∙ passes))
