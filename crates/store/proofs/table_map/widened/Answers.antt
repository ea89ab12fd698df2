-- The row of the next identifier stands behind those before it.
use Rattle.std.proofs.Common.{◌≡◌, ◌<◌, suc, take, ◌+◌, ◌++◌, ◌∷◌, [], get_or, length, rules, subst, sym, ap, ◌∙◌, arith}
use Rattle.std.specs.List.Sorted.{IsStrictlySortedBy}
use Rattle.std.specs.BTreeMap.{insert_entry}
use Rattle.std.specs.Ordering.{nat_cmp}
use Rattle.std.proofs.lemmas.List.{take_all}
use Rattle.std.proofs.lemmas.Map.Entries.{length-keys_of}
use Rattle.rows.specs.Tables.{with_column}
use Rattle.store.proofs.Ids.{id_in-keys_of}
use Rattle.store.proofs.Rows.{IsAboveAllBefore-sorted, placed, with_column-next}
use Rattle.store.proofs.table_map.widened.Goals as goal

pub loop-i-init : goal.loop-i-init
loop-i-init c = search rules

pub unreachable-requires : goal.unreachable-requires
unreachable-requires c =
    let rows = c.args.rows.now.entries in
    let i = c.loop-i.i in
    let id = c.index.result.now in
    let within : i < length rows = omega (arith, c.loop-i-test.true, c.len-i-end.ensures, ap length c.requires.ids, length-keys_of rows) in
    let here = id_in-keys_of rows i id within (c.index.ensures ∙ ap (λ ids. get_or ids i id) c.requires.ids) in
    let rise = subst (IsStrictlySortedBy nat_cmp) c.requires.ids c.requires.rise in
    let found = placed rows i id here (IsAboveAllBefore-sorted rows i id rise (sym here)) in
    let there = found.2 in
    let value = c.in_default.ensures.value in
    cc

pub loop-i-preserved : goal.loop-i-preserved
loop-i-preserved c =
    let rows = c.args.rows.now.entries in
    let i = c.loop-i.i in
    let id = c.index.result.now in
    let within : i < length rows = omega (arith, c.loop-i-test.true, c.len-i-end.ensures, ap length c.requires.ids, length-keys_of rows) in
    let here = id_in-keys_of rows i id within (c.index.ensures ∙ ap (λ ids. get_or ids i id) c.requires.ids) in
    let rise = subst (IsStrictlySortedBy nat_cmp) c.requires.ids c.requires.rise in
    let above = IsAboveAllBefore-sorted rows i id rise (sym here) in
    let found = placed rows i id here above in
    let there = found.2 in
    let value = c.in-Some.ensures.value in
    let row : c.in-Some.row.now ≡ found.0 = cc in
    let next : suc i ≡ i + 1 = omega arith in
    c.in_ok-insert.ensures.entries
    ∙ ap (λ made. insert_entry nat_cmp made id c.in_ok-with.field-0) c.loop-i.invariant
    ∙ ap (insert_entry nat_cmp (with_column c.args.default (take i rows)) id)
    (c.in_ok-with.ensures ∙ ap (λ values. values ++ c.args.default ∷ []) row)
    ∙ with_column-next rows i id found.0 c.args.default found.1 above
    ∙ ap (λ n. with_column c.args.default (take n rows)) next

pub returns : goal.returns
returns c =
    let rows = c.args.rows.now.entries in
    c.loop-i.invariant
    ∙ ap (with_column c.args.default) (take_all c.loop-i.i rows
    (omega (arith, c.loop-i-test.false, c.len-i-end.ensures, ap length c.requires.ids, length-keys_of rows)))
