-- Each entry that is read stands behind those before it; where none is read, or bytes are left, there are none.
use Rattle.std.proofs.Common.{◌≡◌, ◌++◌, ◌∷◌, [], sym, ap, ◌∙◌}
use Rattle.rows.specs.declared.entry.Entry.{Entry}
use Rattle.rows.specs.Reading.{seen, entry_of, entries_filling}
use Rattle.rows.proofs.EntriesFilling.{gathered_more, gathered_not}
use Rattle.rows.proofs.filling.read_entries.Goals as goal

pub returns-in-None : goal.returns-in-None
returns-in-None c =
    sym (gathered_not c.loop.entries c.args.count c.loop.counter c.loop.rest.now
    (entries_filling c.args.count c.args.bytes.now) c.loop-test.true (sym c.in-None.ensures.exact) c.loop.invariant)

pub loop-preserved : goal.loop-preserved
loop-preserved c =
    let more =
    gathered_more c.loop.entries c.args.count c.loop.counter c.loop.rest.now (seen (c.in-Some.entry, c.in-Some.len))
    (entries_filling c.args.count c.args.bytes.now) c.loop-test.true (sym c.in-Some.ensures.exact) c.loop.invariant in
    let made : c.push.new.self ≡ c.loop.entries ++ entry_of c.in-Some.entry ∷ [] =
    c.in_ok-push-in-Some.ensures.ok ∙ ap (λ (entry : Entry). c.loop.entries ++ entry ∷ []) c.in_ok-owned-in-Some.ensures in
    rw (c.split_at.ensures.back, made) more
