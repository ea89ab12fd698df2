-- What the journal keeps is durable, and stays what it was where the start is refused.
use Rattle.std.proofs.Common.{◌≡◌, length, sym, ap, subst, ◌∙◌, arith}
use Rattle.rows.specs.Shape.{shape_of}
use Rattle.journal.specs.declared.form.Form.{Form}
use Rattle.journal.specs.Recovery.{IsRecovered}
use Rattle.journal.specs.Text.{journal_text, missing_text, started}
use Rattle.primary.specs.Journaling.{IsFormOf, KeepsSame}
use Rattle.primary.specs.State.{Primary}
use Rattle.primary.proofs.Opening.{same-bytes, kept-within, repaired-is_text, started-form, partly-keeps_same}
use Rattle.primary.proofs.Wanting.{on-err}
use Rattle.primary.proofs.starting.open.Goals as goal

pub returns-in_err-bytes-clause-same : goal.returns-in_err-bytes-clause-same
returns-in_err-bytes-clause-same g c honest =
    let stands = g.J.JournalStore.standing in
    on-err _ c.from_residual.result
    (same-bytes c.args.workers (shape_of c.args.schema.now) (stands c.args.journal.now) (stands c.standing.new.journal)
    (c.standing.ensures.same honest))

pub returns-in_err-recovered-clause-same : goal.returns-in_err-recovered-clause-same
returns-in_err-recovered-clause-same g c honest =
    let stands = g.J.JournalStore.standing in
    on-err _ c.from_residual-in_err-recovered.result
    (same-bytes c.args.workers (shape_of c.args.schema.now) (stands c.args.journal.now) (stands c.standing.new.journal)
    (c.standing.ensures.same honest))

pub returns-in_default-clause-same : goal.returns-in_default-clause-same
returns-in_default-clause-same g c honest =
    let stands = g.J.JournalStore.standing in
    same-bytes c.args.workers (shape_of c.args.schema.now) (stands c.args.journal.now) (stands c.standing.new.journal)
    (c.standing.ensures.same honest)

pub returns-in_default-missing_text-clause-same : goal.returns-in_default-missing_text-clause-same
returns-in_default-missing_text-clause-same g c honest =
    let stands = g.J.JournalStore.standing in
    same-bytes c.args.workers (shape_of c.args.schema.now) (stands c.args.journal.now) (stands c.standing.new.journal)
    (c.standing.ensures.same honest)

pub repair-requires-clause-within : goal.repair-requires-clause-within
repair-requires-clause-within g c =
    let found = c.in_ok-recovered.recovered in
    omega (
      arith,
      kept-within c.args.workers (shape_of c.args.schema.now) c.deref.result.now found.form found.commits.items found.bytes_kept
          c.in_ok-recovered.ensures.kept,
      ap length c.deref.ensures.value,
      ap length c.deref-3.ensures.value,
    )

pub returns-in_err-repair-clause-same : goal.returns-in_err-repair-clause-same
returns-in_err-repair-clause-same g c honest =
    let store = g.J.JournalStore in
    let found = c.in_ok-recovered.recovered in
    let shape = shape_of c.args.schema.now in
    let stood : c.deref-3.result.now ≡ store.standing c.args.journal.now = c.deref-3.ensures.value ∙ c.in_ok-bytes.ensures.ok honest in
    let recovered =
    subst (λ bytes. IsRecovered c.args.workers shape bytes found.form found.commits.items found.bytes_kept)
    (c.deref.ensures.value ∙ sym c.deref-3.ensures.value) c.in_ok-recovered.ensures.kept in
    let missing : c.deref-4.result.now ≡ missing_text c.args.workers shape found.form found.bytes_kept =
    c.deref-4.ensures.value ∙ c.in-Ok-missing_text.ensures in
    on-err _ c.from_residual-in_err-repair.result
    (subst (λ bytes. KeepsSame c.args.workers shape bytes (store.standing c.repair.new.journal)) stood
    (partly-keeps_same c.args.workers shape c.deref-3.result.now c.deref-4.result.now (store.standing c.repair.new.journal)
    found.form found.commits.items found.bytes_kept c.stops_are_recovered.ensures.once c.stops_are_recovered.ensures.not_refused
    c.starts_go_on.ensures.again c.starts_go_on.ensures.header recovered missing
    (c.in_err-repair.ensures.partly (c.standing.ensures.honest ∙ honest))))

pub returns-clause-form : goal.returns-clause-form
returns-clause-form g c =
    let found = c.in_ok-recovered.recovered in
    let is =
    started-form c.args.workers (shape_of c.args.schema.now) c.deref.result.now found.form found.commits.items found.bytes_kept
    c.texts_grow.ensures.goes_on c.in_ok-recovered.ensures.kept in
    let count : c.len.result ≡ length found.commits.items = omega (arith, c.len.ensures, found.commits.ok.0) in
    let form : c.started-form.result ≡ started found.form (length found.commits.items) =
    c.started-form.ensures ∙ ap (started found.form) count in
    let durable : found.commits.items ≡ c.in-Ok.lists.durable =
    sym (ap (λ (p : Primary). p.durable) c.in-Ok.ensures ∙ c.deref-2.ensures.value) in
    subst (IsFormOf c.started-form.result) durable (subst (λ (f : Form). IsFormOf f found.commits.items) (sym form) is)

pub returns-clause-text : goal.returns-clause-text
returns-clause-text g c honest =
    let store = g.J.JournalStore in
    let found = c.in_ok-recovered.recovered in
    let shape = shape_of c.args.schema.now in
    let recovered =
    subst (λ bytes. IsRecovered c.args.workers shape bytes found.form found.commits.items found.bytes_kept)
    (c.deref.ensures.value ∙ sym c.deref-3.ensures.value) c.in_ok-recovered.ensures.kept in
    let missing : c.deref-4.result.now ≡ missing_text c.args.workers shape found.form found.bytes_kept =
    c.deref-4.ensures.value ∙ c.in-Ok-missing_text.ensures in
    let count : c.len.result ≡ length found.commits.items = omega (arith, c.len.ensures, found.commits.ok.0) in
    let form : c.started-form.result ≡ started found.form (length found.commits.items) =
    c.started-form.ensures ∙ ap (started found.form) count in
    let durable : found.commits.items ≡ c.in-Ok.lists.durable =
    sym (ap (λ (p : Primary). p.durable) c.in-Ok.ensures ∙ c.deref-2.ensures.value) in
    repaired-is_text c.args.workers shape c.deref-3.result.now c.deref-4.result.now (store.standing c.repair.new.journal)
    found.form found.commits.items found.bytes_kept c.texts_grow.ensures.marks recovered missing
    (c.in_ok-repair.ensures.ok (c.standing.ensures.honest ∙ honest))
    ∙ ap (λ (f : Form). journal_text f c.args.workers shape found.commits.items) (sym form)
    ∙ ap (journal_text c.started-form.result c.args.workers shape) durable
