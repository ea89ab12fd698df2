-- The row's home takes it.
use Rattle.std.proofs.Common.{◌≡◌, ◌<◌, length, get_or, slice_set, sym, ap, subst, ◌∙◌}
use Rattle.rows.specs.Tables.{Table, with_row}
use Rattle.rows.specs.Values.{values_of}
use Rattle.apply.specs.Orders.{Rising}
use Rattle.apply.specs.Inner.Joins.{joined, AreBlocks}
use Rattle.apply.proofs.Ordered.{rising-with_row}
use Rattle.apply.specs.Inner.Joins.{IsHome}
use Rattle.apply.proofs.Joined.{home-present, home-insert, blocks-set, some-with_row, ok-then, ok-or-err}
use Rattle.std.proofs.lemmas.List.{set-get_or, take-set}
use Rattle.apply.proofs.sequence.insert_row.Goals as goal

pub insert-requires-clause-absent : goal.insert-requires-clause-absent
insert-requires-clause-absent c =
    let home : IsHome c.args.blocks.now c.args.home c.args.row =
    c.requires.home in
    sym (home-present c.args.blocks.now c.args.home c.args.row c.index-blocks-home.result home) ∙ c.requires.absent

pub returns-clause-ok : goal.returns-clause-ok
returns-clause-ok c =
    let blocks = c.args.blocks.now in
    let m = c.args.home in
    let d = c.index-blocks-home.result in
    let values = values_of c.args.kinds.now c.args.bytes.now in
    let home : IsHome blocks m c.args.row =
    c.requires.home in
    let kinds : (get_or blocks m d).kinds ≡ c.args.kinds.now = c.requires.blocks.alike m d home.within in
    ok-then c.insert.result _ _ c.insert.ensures.ok (λ put.
    home-insert blocks m c.args.row d home c.insert.new.self values
    (ap (λ (block : Table). block.rows) put
    ∙ ap (λ kinds. with_row (get_or blocks m d).rows c.args.row (values_of kinds c.args.bytes.now)) kinds))

pub returns-clause-blocks : goal.returns-clause-blocks
returns-clause-blocks c =
    let blocks = c.args.blocks.now in
    let m = c.args.home in
    let d = c.index-blocks-home.result in
    let new = c.insert.new.self in
    let kinds = c.args.kinds.now in
    let values = values_of kinds c.args.bytes.now in
    let home : IsHome blocks m c.args.row =
    c.requires.home in
    let same : (get_or blocks m d).kinds ≡ kinds = c.requires.blocks.alike m d home.within in
    ok-or-err c.insert.result _ _ (AreBlocks kinds (slice_set blocks m new)) c.insert.ensures.ok c.insert.ensures.err
    (λ put.
    let rows : new.rows ≡ with_row (get_or blocks m d).rows c.args.row values =
    ap (λ (block : Table). block.rows) put
    ∙ ap (λ kinds. with_row (get_or blocks m d).rows c.args.row (values_of kinds c.args.bytes.now)) same in
    let made = home-insert blocks m c.args.row d home new values rows in
    blocks-set kinds blocks m new home.within c.requires.blocks (ap (λ (block : Table). block.kinds) put ∙ same)
    (subst (λ rows. 0 < length rows) (sym rows) (some-with_row (get_or blocks m d).rows c.args.row values))
    (subst Rising (sym made) (rising-with_row c.args.row values (joined blocks) c.requires.blocks.rise c.requires.absent)))
    (λ left.
    subst (AreBlocks kinds) (sym (ap (slice_set blocks m) left ∙ set-get_or blocks m d)) c.requires.blocks)

pub returns-clause-front : goal.returns-clause-front
returns-clause-front c = take-set c.args.blocks.now c.args.home c.insert.new.self
