-- The row's home has it.
use Rattle.std.proofs.Common.{◌≡◌, length, get_or, sym, ap, subst, ◌∙◌, arith}
use Rattle.rows.specs.Tables.{Table, with_patch}
use Rattle.apply.specs.Orders.{Rising}
use Rattle.apply.specs.Inner.Joins.{joined}
use Rattle.apply.specs.Inner.Joins.{IsHome}
use Rattle.apply.proofs.Joined.{home-present, home-patch, blocks-set, length-with_patch, rising-with_patch}
use Rattle.apply.proofs.Ended.{ends-set}
use Rattle.apply.proofs.sequence.patch_row.Goals as goal

pub returns-clause-there : goal.returns-clause-there
returns-clause-there c =
    let home : IsHome c.args.blocks.now c.home_of-home.result c.args.row =
    c.home_of-home.ensures in
    c.patch.ensures.there
    ∙ sym (home-present c.args.blocks.now c.home_of-home.result c.args.row c.index-blocks-home.result home)

pub returns-clause-rows : goal.returns-clause-rows
returns-clause-rows c =
    let blocks = c.args.blocks.now in
    let m = c.home_of-home.result in
    let d = c.index-blocks-home.result in
    let home : IsHome blocks m c.args.row =
    c.home_of-home.ensures in
    let kinds : (get_or blocks m d).kinds ≡ c.args.kinds.now = c.requires.alike m d home.within in
    home-patch blocks m c.args.row d home c.patch.new.self c.args.kinds.now c.args.offset c.args.bytes.now
    (ap (λ (block : Table). block.rows) c.patch.ensures.rows
    ∙ ap (λ kinds. with_patch kinds (get_or blocks m d).rows c.args.row c.args.offset c.args.bytes.now) kinds)

pub returns-clause-blocks : goal.returns-clause-blocks
returns-clause-blocks c =
    let blocks = c.args.blocks.now in
    let m = c.home_of-home.result in
    let d = c.index-blocks-home.result in
    let new = c.patch.new.self in
    let kinds = c.args.kinds.now in
    let home : IsHome blocks m c.args.row =
    c.home_of-home.ensures in
    let same : (get_or blocks m d).kinds ≡ kinds = c.requires.alike m d home.within in
    let rows : new.rows ≡ with_patch kinds (get_or blocks m d).rows c.args.row c.args.offset c.args.bytes.now =
    ap (λ (block : Table). block.rows) c.patch.ensures.rows
    ∙ ap (λ kinds. with_patch kinds (get_or blocks m d).rows c.args.row c.args.offset c.args.bytes.now) same in
    let made = home-patch blocks m c.args.row d home new kinds c.args.offset c.args.bytes.now rows in
    let some = c.requires.some m d home.within in
    let many = ap length rows ∙ length-with_patch kinds (get_or blocks m d).rows c.args.row c.args.offset c.args.bytes.now in
    blocks-set kinds blocks m new home.within c.requires (ap (λ (block : Table). block.kinds) c.patch.ensures.rows ∙ same)
    (omega (arith, some, many))
    (subst Rising (sym made) (rising-with_patch kinds (joined blocks) c.args.row c.args.offset c.args.bytes.now c.requires.rise))

pub returns-clause-ends : goal.returns-clause-ends
returns-clause-ends c =
    let blocks = c.args.blocks.now in
    let m = c.home_of-home.result in
    let d = c.index-blocks-home.result in
    let many = ap (λ (block : Table). length block.rows) c.patch.ensures.rows
    ∙ length-with_patch (get_or blocks m d).kinds (get_or blocks m d).rows c.args.row c.args.offset c.args.bytes.now in
    ends-set 0 m blocks d c.patch.new.self many
