-- Where recovery stops the commits so far are the kept ones, and what stands there says why.
use Rattle.std.proofs.Common.{◌≡◌, ◌+◌, ◌-◌, ◌<◌, ◌^◌, ◌∷◌, [], ◌++◌, ℕ, length, is_ok, not, true, subst, sym, ap, ◌∙◌, arith}
use Rattle.std.proofs.lemmas.Bool.{cond-true}
use Rattle.rows.specs.Shape.{shape_of}
use Rattle.journal.specs.declared.form.Form.TheVariants.{Old}
use Rattle.journal.specs.Recovery.{IsBeginning}
use Rattle.journal.specs.Text.{mark}
use Rattle.journal.specs.Inner.Progress.{IsNextCommit, IsStop}
use Rattle.journal.proofs.Recovering.{recovered, refused, has_come-first, has_come-more, has_come-marked}
use Rattle.journal.proofs.recovery.recover_records.Goals as goal

pub loop-alloc-init : goal.loop-alloc-init
loop-alloc-init c =
    rw c.new-commits.ensures.items (has_come-first c.args.header_form c.args.workers (shape_of c.args.schema.now) c.args.bytes.now
    c.args.behind_header.now c.in-Ok.present c.requires.form c.requires.bytes c.in-Ok.ensures)

pub returns-in-Err : goal.returns-in-Err
returns-in-Err c =
    let commits = c.loop-alloc.commits in
    let form = c.loop-alloc.form in
    let rest = c.loop-alloc.rest.now in
    let bytes = c.args.bytes.now in
    let number : c.len-in-loop-alloc.result + 1 ≡ length commits.items + 1 = omega (arith, c.len-in-loop-alloc.ensures, commits.ok.0) in
    let few : length bytes < 2 ^ 64 = omega arith in
    let so_far = c.loop-alloc.invariant in
    refused c.entries_are_read_as_spelled.ensures.spelled form c.args.workers (shape_of c.args.schema.now) bytes commits.items so_far.tables
    rest (length bytes - length rest) c.in-Err.fault so_far.read c.in_default-behind_mark.ensures (omega arith) few
    (subst (λ (n : ℕ). IsStop form c.args.workers n so_far.tables (length bytes - length rest) rest c.in-Err.fault) number
    (c.in-Err.ensures.err so_far.tables so_far.rows))

pub loop-alloc-preserved : goal.loop-alloc-preserved
loop-alloc-preserved c =
    let commits = c.loop-alloc.commits in
    let form = c.loop-alloc.form in
    let commit = c.in-Ok-next_commit.commit in
    let number : c.len-in-loop-alloc.result + 1 ≡ length commits.items + 1 = omega (arith, c.len-in-loop-alloc.ensures, commits.ok.0) in
    let ok : is_ok c.push.result ≡ true = c.is_err.ensures.negation ∙ ap not c.if-is_err.false in
    let pushed : c.push.new.self.items ≡ commits.items ++ commit ∷ [] = c.push.ensures.items ∙ cond-true _ _ _ ok in
    let so_far = c.loop-alloc.invariant in
    rw pushed (has_come-more form c.args.workers (shape_of c.args.schema.now) c.args.bytes.now commits.items c.loop-alloc.present
    c.next_commit.new.present c.loop-alloc.rest.now commit c.in-Ok-next_commit.behind.now so_far
    (subst (λ (n : ℕ). IsNextCommit form c.args.workers n so_far.tables c.next_commit.new.present c.loop-alloc.rest.now commit
    c.in-Ok-next_commit.behind.now) number (c.in-Ok-next_commit.ensures.ok so_far.tables so_far.rows)))

pub returns : goal.returns
returns c =
    recovered c.entries_are_read_as_spelled.ensures.spelled c.loop-alloc.form c.args.workers (shape_of c.args.schema.now) c.args.bytes.now
    c.loop-alloc.commits.items c.loop-alloc.invariant.tables c.loop-alloc.rest.now (length c.args.bytes.now - length c.loop-alloc.rest.now)
    c.loop-alloc.invariant.read (omega arith)
    (sym c.is_torn.ensures ∙ c.loop-alloc-test.false)
