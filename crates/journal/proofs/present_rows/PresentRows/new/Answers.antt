-- Tables without rows.
use Rattle.std.proofs.Common.{[], replicate, ap, sym, ◌∙◌}
use Rattle.std.proofs.lemmas.List.{length-map}
use Rattle.rows.specs.Shape.{shape_of}
use Rattle.journal.specs.Inner.Presence.{TableIds, has_row}
use Rattle.journal.proofs.Presence.{opening-kinds, opening-rows}
use Rattle.journal.proofs.present_rows.PresentRows.new.Goals as goal

pub returns : goal.returns
returns c =
    let shape = shape_of c.args.schema.now in
    record {
      kinds = c.in_ok-kinds_of.ensures.value ∙ sym (opening-kinds shape);
      rows = λ table row.
          ap (λ (rows : TableIds). has_row rows table row) (c.in_ok-no_rows.ensures ∙ ap (λ count. replicate count []) (c.len.ensures ∙ sym
          (length-map c.args.schema.now (λ x. x.1))))
          ∙ opening-rows shape table row;
    }
