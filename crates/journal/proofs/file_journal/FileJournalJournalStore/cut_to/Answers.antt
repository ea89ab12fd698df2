-- A cut that fails leaves as many bytes as it was asked for, at least.
use Rattle.std.proofs.Common.{◌≡◌, ℕ, ◌≤◌, length, take, ap, ◌∙◌, arith}
use Rattle.std.proofs.lemmas.List.{length-take}
use Rattle.journal.specs.State.{FileState}
use Rattle.journal.proofs.Settling.{take-shorter, cut-is_partly}
use Rattle.journal.proofs.file_journal.FileJournalJournalStore.cut_to.Goals as goal

pub returns-in-Err-clause-err : goal.returns-in-Err-clause-err
returns-in-Err-clause-err g c honest =
    let was = g.D.Disk.synced c.self.inside.disk in
    let now = g.D.Disk.synced c.cut_synced.new.disk in
    let len = c.self.inside.len in
    let asked = c.args.len in
    let old = c.args.self.now.bytes in
    let seen : take len was ≡ old = ap (λ (state : FileState). state.bytes) c.self.view_is in
    let within : asked ≤ length old = c.requires.within honest in
    let short : asked ≤ len = omega (arith, within, ap length seen, length-take len was) in
    let same : c.min-self-inside.result ≡ asked = omega (arith, c.min-self-inside.ensures, short) in
    let kept : now ≡ was = c.in-Err.ensures.kept honest in
    cut-is_partly asked old c.fault.new.self.bytes within
    (ap (λ (state : FileState). state.bytes) c.fault.ensures.counted
    ∙ ap (λ (n : ℕ). take n now) same
    ∙ ap (take asked) kept
    ∙ take-shorter asked len was short
    ∙ ap (take asked) seen)
