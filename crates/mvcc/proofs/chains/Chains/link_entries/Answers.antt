-- Each entry links one more, and a refusal leaves what can be taken back.
use Rattle.std.proofs.Common.{◌≡◌, ℕ, ◌<◌, ◌+◌, ◌∷◌, ◌++◌, [], length, take, get_or, List, zero, suc, refl, sym, ap, subst, ◌∙◌, arith}
use Rattle.std.specs.List.{AllByRecursion}
use Rattle.std.proofs.lemmas.List.{take_more}
use Rattle.rows.specs.declared.entry.Entry.{Entry}
use Rattle.rows.specs.Entries.{table_of}
use Rattle.rows.specs.Shape.{Shape}
use Rattle.mvcc.specs.Inner.Chains.{and_entries, AreChains, AreChainsTakenBack, AreLinkable}
use Rattle.mvcc.specs.Inner.Columns.{columns_after, columns_after_one, blank_at}
use Rattle.mvcc.proofs.Blanks.{kept-after, valued-more}
use Rattle.mvcc.proofs.Keeping.{kept-begun, kept-linked, taken_back-part, on_err, any-take}
use Rattle.mvcc.proofs.TableCommits.{columns-stay, columns_after-push}
use Rattle.mvcc.proofs.chains.Chains.link_entries.Goals as goal
use Rattle.mvcc.proofs.chains.Chains.link_entries.Goals.{After-add_of}

-- what holds of each entry holds of one
all-at : (shape : Shape) (entries : List Entry) (i : ℕ) (entry : Entry) → i < length entries → entry ≡ get_or entries i entry
    → AllByRecursion (λ (e : Entry). table_of e < length shape) entries → table_of entry < length shape
all-at shape [] i entry within is all = absurd (omega arith)
all-at shape (first ∷ entries) zero entry within is all = subst (λ (e : Entry). table_of e < length shape) (sym is) all.0
all-at shape (first ∷ entries) (suc i) entry within is all = all-at shape entries i entry (omega arith) is all.1

pub loop-entry-init : goal.loop-entry-init
loop-entry-init c = record {
  linked = λ shape may. kept-begun shape c.args.commits.now c.args.self.now may.kept;
  columns = refl;
  valued = tt;
}

pub returns-in_err-link-clause-err : goal.returns-in_err-link-clause-err
returns-in_err-link-clause-err c =
    on_err c.from_residual.result (λ shape may.
    subst (AreChainsTakenBack shape c.args.commits.now c.args.entries.now) (sym c.in_err-link.ensures.err)
    (taken_back-part shape c.args.commits.now c.loop-entry.self c.args.entries.now c.loop-entry.entry-index
    (c.loop-entry.invariant.linked shape may)))

pub returns-in_err-link-clause-stay : goal.returns-in_err-link-clause-stay
returns-in_err-link-clause-stay c =
    on_err c.from_residual.result (λ none.
    c.loop-entry.invariant.columns
    ∙ columns-stay (length c.args.commits.now + 1) (take c.loop-entry.entry-index c.args.entries.now) c.args.columns.now
    (any-take _ c.loop-entry.entry-index c.args.entries.now none))

-- the chains once the entry is linked
next : (c : After-add_of) (shape : Shape)
    → AreLinkable shape c.args.commits.now c.args.entries.now c.args.columns.now c.args.self.now
    → AreChains shape (and_entries c.args.commits.now (take (c.loop-entry.entry-index + 1) c.args.entries.now)) c.link.new.self
next c shape may =
    let commits = c.args.commits.now in
    let entries = c.args.entries.now in
    let i = c.loop-entry.entry-index in
    let entry = c.entry-item.result in
    let number = length commits + 1 in
    let there = all-at shape entries i entry c.loop-entry-test.true c.entry-item.is may.there in
    let blank = c.blank.ensures ∙ ap (λ columns. blank_at columns c.table.result) c.loop-entry.invariant.columns
    ∙ ap (blank_at (columns_after number (take i entries) c.args.columns.now)) c.table.ensures
    ∙ kept-after shape commits c.args.columns.now number (table_of entry) (take i entries) may.columns there in
    kept-linked shape commits c.loop-entry.self _ _ entries i entry c.loop-entry-test.true c.entry-item.is blank
    c.in_ok-link.ensures.ok (c.loop-entry.invariant.linked shape may)

pub returns-in_err-add_of-clause-err : goal.returns-in_err-add_of-clause-err
returns-in_err-add_of-clause-err c =
    on_err c.from_residual-in_err-add_of.result (λ shape may.
    taken_back-part shape c.args.commits.now c.link.new.self c.args.entries.now (c.loop-entry.entry-index + 1)
    (next (goal.at.returns-in_err-add_of-clause-err c).After-add_of shape may))

pub loop-entry-preserved : goal.loop-entry-preserved
loop-entry-preserved c =
    let commits = c.args.commits.now in
    let entries = c.args.entries.now in
    let i = c.loop-entry.entry-index in
    let entry = c.entry-item.result in
    let number = length commits + 1 in
    let before = c.loop-entry.invariant in
    let more : take (i + 1) entries ≡ take i entries ++ entry ∷ [] =
    take_more entries i entry c.loop-entry-test.true ∙ ap (λ (last : Entry). take i entries ++ last ∷ []) (sym c.entry-item.is) in
    record {
      linked = next (goal.at.loop-entry-preserved c).After-add_of;
      columns = c.in_ok-add_of.ensures.ok ∙ ap (columns_after_one number entry) before.columns
          ∙ sym (ap (λ es. columns_after number es c.args.columns.now) more
          ∙ columns_after-push number (take i entries) entry c.args.columns.now);
      valued = valued-more entries i entry c.loop-entry-test.true c.entry-item.is before.valued c.in_ok-add_of.ensures.value;
    }
