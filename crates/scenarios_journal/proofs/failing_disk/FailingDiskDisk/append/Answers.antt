-- An append that fails leaves some beginning of what was to be appended: none of it, where there was no room.
use Rattle.std.proofs.Common.{[], OnErr, Result, Ok, Err, refl, sym, ap, ◌∙◌}
use Rattle.std.proofs.lemmas.List.{append-nil}
use Rattle.scenarios_journal.proofs.failing_disk.FailingDiskDisk.append.Goals as goal

-- a fact that needs no failure
when_err : {T E : Type 0} (result : Result T E) {Fact : Type 0} → Fact → OnErr result Fact
when_err (Ok done) fact = tt
when_err (Err fault) fact = fact

pub returns-in_err-put-clause-err : goal.returns-in_err-put-clause-err
returns-in_err-put-clause-err c = λ honest.
    when_err c.from_residual.result (
      [],
      (c.args.bytes.now, refl),
      c.in_err-put.ensures.err ∙ ap (λ content. content.items) c.is_turn.ensures.content ∙ sym (append-nil c.args.self.now.content.items),
    )
