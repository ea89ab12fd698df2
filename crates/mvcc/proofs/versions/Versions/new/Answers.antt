-- No commits, and no chains; the columns of the schema.
use Rattle.std.proofs.Common.{◌≡◌, refl, ap, sym, ◌∙◌, length, map, replicate}
use Rattle.rows.specs.Shape.{shape_of}
use Rattle.mvcc.specs.Inner.Columns.{opened}
use Rattle.std.proofs.lemmas.List.{length-map}
use Rattle.mvcc.proofs.TableCommits.{columns-opened, last-opened}
use Rattle.mvcc.proofs.versions.Versions.new.Goals as goal

pub invariant_of-result : goal.invariant_of-result
invariant_of-result c =
    let schema = c.in_ok-schema.schema in
    let shape = shape_of schema in
    let columns : c.in_ok-columns.columns ≡ map opened shape = c.in_ok-columns.ensures in
    let last : c.in_ok-last.last ≡ replicate (length shape) 0 =
    c.in_ok-last.ensures ∙ ap (λ n. replicate n 0) (c.len.ensures ∙ sym (length-map schema (λ table. table.1))) in
    rw (c.new-3.ensures.items, c.new-4.ensures, columns, last)
    (record { legal = refl; valued = tt; kept = λ t r. refl; columns = columns-opened shape; last = last-opened shape })
