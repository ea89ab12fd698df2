-- A cut that fails leaves at least what it was asked for.
use Rattle.std.proofs.Common.{◌≡◌, ◌++◌, List, ℕ, length, take, drop, sym, ap, ◌∙◌, arith}
use Rattle.std.proofs.lemmas.List.{length-take, take-append-drop}
use Rattle.scenarios_journal.proofs.failing_disk.FailingDiskDisk.cut_to.Goals as goal

pub returns-then-is_turn-clause-err : goal.returns-then-is_turn-clause-err
returns-then-is_turn-clause-err c = λ honest.
    let old = c.args.self.now.content.items in
    let n = c.saturating_add-kept.result in
    let kept : c.truncate.new.self.items ≡ take n old = rw c.is_turn.ensures.content at c.truncate.ensures.items in
    let within = c.requires honest in (
      (drop n old, sym (take-append-drop n old) ∙ ap (λ (t : List ℕ). t ++ drop n old) (sym kept)),
      omega (arith, ap length kept, length-take n old, within, c.saturating_add-kept.ensures),
    )
