-- What is read stands there, and where nothing is read the bytes are damaged.
use Rattle.std.proofs.Common.{◌+◌, ◌++◌, ℕ, List, Bool, drop, refl, sym, ap, subst, ◌∙◌, arith}
use Rattle.journal.specs.Inner.Progress.{IsAccepted}
use Rattle.journal.specs.Recovery.{IsRecordAt}
use Rattle.journal.specs.Text.{record_of}
use Rattle.journal.proofs.RecordLaws.{read_here, record_at-there, record_at-damaged}
use Rattle.journal.proofs.recovery.next_commit.Goals as goal

pub returns-in-Ok-None-clause-err : goal.returns-in-Ok-None-clause-err
returns-in-Ok-None-clause-err c tables is = (
  refl,
  record_at-damaged c.entries_are_read_as_spelled.ensures.spelled c.args.form c.args.rest.now c.requires
      (sym c.in-Ok-None.ensures ∙ c.in-Ok-None.field-0-is),
)

pub returns-then-found-number-clause-err : goal.returns-then-found-number-clause-err
returns-then-found-number-clause-err c tables is =
    let rest = c.args.rest.now in
    let found = c.in-Ok-Some.found in
    let read =
    read_here c.numbers_are_read_as_spelled.ensures.spelled c.numbers_are_read_as_spelled.ensures.below
    c.entries_are_read_as_spelled.ensures.found c.args.form rest found c.in-Ok-Some.field-0 (λ i. omega (arith, c.type_inv.rest i))
    c.requires c.in-Ok-Some.ensures c.in-Ok-Some.field-0-is in (
      refl,
      record {
        number = found.number;
        commit = found.commit;
        there = record_at-there c.args.form rest found read;
        other = c.if-found-number.true;
      },
    )

pub returns-in-Ok-false-clause-err : goal.returns-in-Ok-false-clause-err
returns-in-Ok-false-clause-err c tables is =
    let rest = c.args.rest.now in
    let found = c.in-Ok-Some.found in
    let read =
    read_here c.numbers_are_read_as_spelled.ensures.spelled c.numbers_are_read_as_spelled.ensures.below
    c.entries_are_read_as_spelled.ensures.found c.args.form rest found c.in-Ok-Some.field-0 (λ i. omega (arith, c.type_inv.rest i))
    c.requires c.in-Ok-Some.ensures c.in-Ok-Some.field-0-is in (
      refl,
      record {
        commit = found.commit;
        there = subst (λ (n : ℕ). IsRecordAt c.args.form rest n found.commit) c.if-found-number.false
            (record_at-there c.args.form rest found read);
        undefined =
            subst (λ (b : Bool). IsAccepted b c.args.workers tables c.accepts.new.present found.commit)
            c.in-Ok-false.field-0-test (c.in-Ok-false.ensures tables is);
      },
    )

pub returns-clause-ok : goal.returns-clause-ok
returns-clause-ok c tables is =
    let rest = c.args.rest.now in
    let found = c.in-Ok-Some.found in
    let read =
    read_here c.numbers_are_read_as_spelled.ensures.spelled c.numbers_are_read_as_spelled.ensures.below
    c.entries_are_read_as_spelled.ensures.found c.args.form rest found c.in-Ok-Some.field-0 (λ i. omega (arith, c.type_inv.rest i))
    c.requires c.in-Ok-Some.ensures c.in-Ok-Some.field-0-is in
    record {
      front =
          read.spelled
          ∙ ap (λ (t : List ℕ). record_of found.number found.commit ++ t)
          (sym (c.split_at.ensures.back ∙ ap (λ (n : ℕ). drop (4 + n) rest) c.body_len.ensures.value))
          ∙ ap (λ (n : ℕ). record_of n found.commit ++ c.split_at.result.1.now) c.if-found-number.false;
      held = read.held;
      follows = read.follows;
      accepted =
          subst (λ (b : Bool). IsAccepted b c.args.workers tables c.accepts.new.present found.commit)
          c.in-Ok-true.field-0-test (c.in-Ok-true.ensures tables is);
    }
