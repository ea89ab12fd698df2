-- There is a table at each number below the length.
use Rattle.std.proofs.Common.{[], ◌∷◌, ◌++◌, map, sym, ap, ◌∙◌, arith}
use Rattle.std.proofs.lemmas.List.{map-append}
use Rattle.rows.specs.Shape.{given}
use Rattle.script.proofs.TableReading.{take-next, not-past}
use Rattle.script.proofs.settings.tables_of.Goals as goal
use Rattle.script.proofs.settings.tables_of.Goals.{in-Some+in_ok-push, in_default}

pub loop-number-preserved : goal.loop-number-preserved
loop-number-preserved c =
    let number = c.loop-number.number in
    let schema = c.args.schema.now in
    elim c.match-table_at.branch [
      | in-Some+in_ok-push w ↦
          let table = given w.in-Some.table in
          ap (λ tables. map given tables.items) w.tables-is ∙ ap (map given) w.in_ok-push.ensures.items
          ∙ map-append given c.loop-number.tables.items (w.in-Some.table ∷ [])
          ∙ ap (λ front. front ++ table ∷ []) c.loop-number.invariant
          ∙ sym (take-next schema number table w.in-Some.ensures)
      | in_default w ↦ absurd (not-past schema number ([], []) (omega arith) w.in_default.ensures)
    ]
