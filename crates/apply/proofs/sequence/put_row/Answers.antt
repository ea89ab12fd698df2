-- The blocks before the one that changed stay, and there is room for one more.
use Rattle.std.proofs.Common.{rules, ◌≡◌, ◌+◌, ◌≤◌, length, get_or, take, sym, ap, subst, ◌∙◌, arith}
use Rattle.rows.specs.Tables.{Rows, Table, is_present}
use Rattle.rows.specs.Values.{values_of}
use Rattle.apply.specs.Inner.Joins.{joined, IsHome}
use Rattle.apply.proofs.Counted.{refilled, length-with_row}
use Rattle.apply.proofs.Ended.{ends-length, ends-front, take-same}
use Rattle.apply.proofs.Joined.{home-present, ok-or-err}
use Rattle.apply.proofs.sequence.put_row.Goals as goal
use Rattle.apply.proofs.sequence.put_row.Goals.{After-contains, After-min}

-- its home alone may have it
has : (c : After-contains) → c.contains.result ≡ is_present (joined c.args.blocks.now.items) c.args.row
has c =
    let blocks = c.args.blocks.now.items in
    let m = c.home_of-home.result in
    let d = c.index.result.now in
    let home : IsHome blocks m c.args.row = subst (λ blocks. IsHome blocks m c.args.row) c.as_slice.ensures.value c.home_of-home.ensures in
    let read : d ≡ get_or blocks m d = search rules in
    c.contains.ensures ∙ ap (λ (block : Table). is_present block.rows c.args.row) read ∙ sym (home-present blocks m c.args.row d home)

-- the blocks that are left
left : (c : After-min) → c.as_slice-2.result.now ≡ c.insert_row-put.new.blocks
left c =
    c.as_slice-2.ensures.value
    ∙ refilled c.roomy_home.new.blocks.len c.roomy_home.new.blocks.items c.insert_row-put.new.blocks
    (sym (ap length c.as_mut_slice.ensures.value) ∙ c.as_mut_slice.ensures.len)
    (c.insert_row-put.ensures.len ∙ ap length c.as_mut_slice.ensures.value)

pub renew_ends-requires-clause-before : goal.renew_ends-requires-clause-before
renew_ends-requires-clause-before c =
    let olds = c.args.blocks.now.items in
    let between = c.roomy_home.new.blocks.items in
    let news = c.insert_row-put.new.blocks in
    let from = c.min.result in
    let changed : take from news ≡ take from between =
    take-same from c.in_ok-at.at between news (omega (arith, c.min.ensures))
    (c.insert_row-put.ensures.front ∙ ap (take c.in_ok-at.at) c.as_mut_slice.ensures.value) in
    let cut : take from between ≡ take from olds =
    take-same from c.home_of-home.result olds between (omega (arith, c.min.ensures)) c.in_ok-at.ensures.front in
    ap (take from) (c.in_ok-reserve-2.ensures.items ∙ c.requires.ends)
    ∙ ends-front from olds c.as_slice-2.result.now (ap (take from) (left c) ∙ changed ∙ cut)

pub renew_ends-requires-clause-room : goal.renew_ends-requires-clause-room
renew_ends-requires-clause-room c =
    let many = ap length (left c) ∙ c.insert_row-put.ensures.len ∙ ap length c.as_mut_slice.ensures.value in
    let ends = ap length (c.in_ok-reserve-2.ensures.items ∙ c.requires.ends) in
    omega (
      arith,
      many,
      c.in_ok-at.ensures.more,
      ends,
      ends-length 0 c.args.blocks.now.items,
      c.reserve-2.new.self.ok.0,
      c.in_ok-reserve-2.ensures.ok,
    )

pub renew_ends-requires-clause-few : goal.renew_ends-requires-clause-few
renew_ends-requires-clause-few c =
    let seen : joined c.as_mut_slice.result.now ≡ joined c.args.blocks.now.items =
    ap joined c.as_mut_slice.ensures.value ∙ c.in_ok-at.ensures.rows in
    let absent = sym (has (goal.at.renew_ends-requires-clause-few c).After-contains) ∙ c.if-contains.false in
    let away = ap (λ (rows : Rows). is_present rows c.args.row) seen ∙ absent in
    let rows = joined c.as_mut_slice.result.now in
    let many = ap (λ blocks. length (joined blocks)) (left c) in
    let before = ap length seen in
    let more : length (joined c.insert_row-put.new.blocks) ≤ length rows + 1 =
    ok-or-err c.insert_row-put.result _ _ _ c.insert_row-put.ensures.ok c.insert_row-put.ensures.err
    (λ put. omega (arith, ap length put, length-with_row c.args.row (values_of c.args.kinds.now c.args.bytes.now) rows away))
    (λ same. omega (arith, ap length same)) in
    omega (arith, many, before, more, c.requires.few)

pub insert_row-put-requires-clause-absent : goal.insert_row-put-requires-clause-absent
insert_row-put-requires-clause-absent c =
    let absent = sym (has (goal.at.insert_row-put-requires-clause-absent c).After-contains) ∙ c.if-contains.false in
    ap (λ blocks. is_present (joined blocks) c.args.row) c.as_mut_slice.ensures.value
    ∙ ap (λ (rows : Rows). is_present rows c.args.row) c.in_ok-at.ensures.rows ∙ absent

pub returns-then-contains-clause-new : goal.returns-then-contains-clause-new
returns-then-contains-clause-new c = sym (has (goal.at.returns-then-contains-clause-new c).After-contains) ∙ c.if-contains.true

pub returns-clause-new : goal.returns-clause-new
returns-clause-new c = sym (has (goal.at.returns-clause-new c).After-contains) ∙ c.if-contains.false

pub returns-in_err-reserve-2-clause-absent : goal.returns-in_err-reserve-2-clause-absent
returns-in_err-reserve-2-clause-absent c =
    let away = sym (has (goal.at.returns-in_err-reserve-2-clause-absent c).After-contains) ∙ c.if-contains.false in
    search (rules, away)

pub returns-in_err-at-clause-absent : goal.returns-in_err-at-clause-absent
returns-in_err-at-clause-absent c =
    let away = sym (has (goal.at.returns-in_err-at-clause-absent c).After-contains) ∙ c.if-contains.false in
    search (rules, away)

pub returns-in_err-put-clause-absent : goal.returns-in_err-put-clause-absent
returns-in_err-put-clause-absent c =
    let away = sym (has (goal.at.returns-in_err-put-clause-absent c).After-contains) ∙ c.if-contains.false in
    search (rules, away)
