-- The row's home has it, behind the rows of the blocks before.
use Rattle.std.proofs.Common.{◌≡◌, length, take, ap, sym, ◌∙◌, arith}
use Rattle.rows.specs.Tables.{Table, is_present}
use Rattle.apply.specs.Orders.{place_in}
use Rattle.apply.specs.Inner.Joins.{joined, end_before}
use Rattle.apply.proofs.Counted.{place-home, joined-within}
use Rattle.apply.proofs.Ended.{end-before, ends-length}
use Rattle.apply.proofs.Joined.{home-present}
use Rattle.apply.proofs.Ordered.{place-within}
use Rattle.apply.proofs.sequence.find.Goals as goal
use Rattle.apply.proofs.sequence.find.Goals.{After-rows_before}

pub rows_before-requires : goal.rows_before-requires
rows_before-requires c = omega (arith, ap length c.requires.ends, ends-length 0 c.args.blocks.now, c.home_of-home.ensures.within)

-- how many rows stand before its home
before : (c : After-rows_before) → c.rows_before.result ≡ length (joined (take c.home_of-home.result c.args.blocks.now))
before c =
    c.rows_before.ensures ∙ ap (λ ends. end_before ends c.home_of-home.result) c.requires.ends
    ∙ end-before c.home_of-home.result c.args.blocks.now (omega (arith, c.home_of-home.ensures.within))

pub overflow_add-result : goal.overflow_add-result
overflow_add-result c =
    let blocks = c.args.blocks.now in
    let m = c.home_of-home.result in
    let d = c.index-blocks-home.result in
    let many = ap (λ (block : Table). length block.rows) c.index-blocks-home.is in
    omega (
      arith,
      joined-within blocks m d c.home_of-home.ensures.within,
      many,
      place-within c.args.row d.rows,
      c.in-Some.ensures.place,
      before c,
      c.requires.few,
    )

pub returns-in-Some-clause-found : goal.returns-in-Some-clause-found
returns-in-Some-clause-found c =
    c.in-Some.ensures.found ∙ ap (λ (block : Table). is_present block.rows c.args.row) c.index-blocks-home.is
    ∙ sym (home-present c.args.blocks.now c.home_of-home.result c.args.row c.index-blocks-home.result c.home_of-home.ensures)

pub returns-in-Some-clause-place : goal.returns-in-Some-clause-place
returns-in-Some-clause-place c =
    let blocks = c.args.blocks.now in
    let m = c.home_of-home.result in
    let d = c.index-blocks-home.result in
    let at = c.in-Some.ensures.place ∙ ap (λ (block : Table). place_in block.rows c.args.row) c.index-blocks-home.is in
    omega (arith, at, before c, place-home blocks m c.args.row d c.home_of-home.ensures)

pub returns-in-None-clause-found : goal.returns-in-None-clause-found
returns-in-None-clause-found c =
    c.in-None.ensures.found ∙ ap (λ (block : Table). is_present block.rows c.args.row) c.index-blocks-home.is
    ∙ sym (home-present c.args.blocks.now c.home_of-home.result c.args.row c.index-blocks-home.result c.home_of-home.ensures)
