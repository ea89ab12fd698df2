-- There was one answer, to as many bytes as an Ask has.
use Rattle.std.proofs.Common.{ℕ, List, Option, sym, ap, ◌∙◌, arith}
use Rattle.wire.specs.Reading.{reading}
use Rattle.sockets.specs.Asking.{noted_if, version_at}
use Rattle.sockets.proofs.Asks.{noted-one}
use Rattle.sockets.proofs.asked.note.Goals as goal

pub returns-in-Some : goal.returns-in-Some
returns-in-Some c =
    c.note_ask.ensures
    ∙ ap (λ (v : Option ℕ). noted_if c.args.asked.now (reading c.args.bytes.now) v)
    (sym c.in-Some.is ∙ c.version_told.ensures ∙ ap (λ (p : List ℕ). version_at (reading p)) c.bytes.ensures.bytes)
    ∙ noted-one c.args.asked.now c.args.bytes.now c.args.outs.now c.index-outs-0.result (omega arith) (omega arith)

pub returns-in_default : goal.returns-in_default
returns-in_default c =
    ap (λ (v : Option ℕ). noted_if c.args.asked.now (reading c.args.bytes.now) v)
    (sym c.in_default.is ∙ c.version_told.ensures ∙ ap (λ (p : List ℕ). version_at (reading p)) c.bytes.ensures.bytes)
    ∙ noted-one c.args.asked.now c.args.bytes.now c.args.outs.now c.index-outs-0.result (omega arith) (omega arith)
