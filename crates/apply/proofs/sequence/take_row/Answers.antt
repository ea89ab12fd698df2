-- The row's home loses it, and is dropped if that leaves it empty.
use Rattle.std.proofs.Common.{rules, ◌≡◌, ◌<◌, Bool, [], ◌∷◌, length, get_or, slice_set, refl, sym, ap, subst, ◌∙◌, arith}
use Rattle.std.specs.List.{remove}
use Rattle.std.proofs.lemmas.List.{get_or-set_same}
use Rattle.rows.specs.Tables.{Rows, Table, is_present, without_row}
use Rattle.apply.specs.Orders.{Rising}
use Rattle.apply.specs.Inner.Joins.{joined, AreBlocks}
use Rattle.apply.proofs.Ordered.{rising-without_row}
use Rattle.apply.proofs.Joined.{home-present, home-remove, home-drop, blocks-set, blocks-remove, remove-set}
use Rattle.apply.proofs.sequence.take_row.Goals as goal
use Rattle.apply.proofs.sequence.take_row.Goals.{After-remove, After-len}

read : (c : After-remove) → c.index_mut.result.now ≡ get_or c.args.blocks.now.items c.args.home c.index_mut.result.now
read c = search rules

-- its home alone may have it
has : (c : After-remove) → (there : Bool) → there ≡ is_present c.index_mut.result.now.rows c.args.row
    → there ≡ is_present (joined c.args.blocks.now.items) c.args.row
has c there at =
    at ∙ ap (λ (block : Table). is_present block.rows c.args.row) (read c)
    ∙ sym (home-present c.args.blocks.now.items c.args.home c.args.row c.index_mut.result.now c.requires.home)

left : (c : After-remove)
    → c.remove.new.self.rows ≡ without_row (get_or c.args.blocks.now.items c.args.home c.index_mut.result.now).rows c.args.row
left c =
    ap (λ (block : Table). block.rows) c.remove.ensures.rows
    ∙ ap (λ (block : Table). without_row block.rows c.args.row) (read c)

rows : (c : After-remove)
    → joined (slice_set c.args.blocks.now.items c.args.home c.remove.new.self)
    ≡ without_row (joined c.args.blocks.now.items) c.args.row
rows c =
    home-remove c.args.blocks.now.items c.args.home c.args.row c.index_mut.result.now c.remove.new.self c.requires.home (left c)

many : (c : After-len) → c.len.result ≡ length c.remove.new.self.rows
many c =
    let blocks = c.args.blocks.now.items in
    let seen : c.index.result.now ≡ get_or (slice_set blocks c.args.home c.remove.new.self) c.args.home c.index.result.now =
    search rules in
    c.len.ensures
    ∙ ap (λ (block : Table). length block.rows)
    (seen ∙ get_or-set_same blocks c.args.home c.remove.new.self c.index.result.now c.requires.home.within)

-- without its home, if that is left without rows
dropped : (c : After-remove) → length c.remove.new.self.rows ≡ 0
    → joined (remove c.args.blocks.now.items c.args.home) ≡ without_row (joined c.args.blocks.now.items) c.args.row
dropped c none =
    home-drop c.args.blocks.now.items c.args.home c.args.row c.index_mut.result.now c.requires.home
    (sym (left c) ∙ empty c.remove.new.self.rows none)
  where
    empty : (rows : Rows) → length rows ≡ 0 → rows ≡ []
    empty [] e = refl
    empty (row ∷ rows) e = absurd (omega arith)

pub returns-then-not-remove-clause-there : goal.returns-then-not-remove-clause-there
returns-then-not-remove-clause-there c =
    has (goal.at.returns-then-not-remove-clause-there c).After-remove _ c.if-not-remove.ensures.there

pub returns-then-not-remove-clause-rows : goal.returns-then-not-remove-clause-rows
returns-then-not-remove-clause-rows c = rows (goal.at.returns-then-not-remove-clause-rows c).After-remove

pub returns-then-len-eq0-clause-there : goal.returns-then-len-eq0-clause-there
returns-then-len-eq0-clause-there c =
    has (goal.at.returns-then-len-eq0-clause-there c).After-remove _ c.if-not-remove.ensures.there

pub returns-then-len-eq0-clause-rows : goal.returns-then-len-eq0-clause-rows
returns-then-len-eq0-clause-rows c =
    let at = goal.at.returns-then-len-eq0-clause-rows c in
    ap joined (c.remove-then-len-eq0.ensures.items ∙ remove-set c.args.blocks.now.items c.args.home c.remove.new.self)
    ∙ dropped at.After-remove (sym (many at.After-len) ∙ c.if-len-eq0.true)

pub returns-then-len-eq0-clause-blocks : goal.returns-then-len-eq0-clause-blocks
returns-then-len-eq0-clause-blocks c =
    let at = goal.at.returns-then-len-eq0-clause-blocks c in
    let blocks = c.args.blocks.now.items in
    let made = dropped at.After-remove (sym (many at.After-len) ∙ c.if-len-eq0.true) in
    subst (AreBlocks c.args.kinds.now)
    (sym (c.remove-then-len-eq0.ensures.items ∙ remove-set blocks c.args.home c.remove.new.self))
    (blocks-remove c.args.kinds.now blocks c.args.home c.requires.home.within c.requires.blocks
    (subst Rising (sym made) (rising-without_row c.args.row (joined blocks) c.requires.blocks.rise)))

pub returns-else-len-eq0-clause-there : goal.returns-else-len-eq0-clause-there
returns-else-len-eq0-clause-there c =
    has (goal.at.returns-else-len-eq0-clause-there c).After-remove _ c.if-not-remove.ensures.there

pub returns-else-len-eq0-clause-rows : goal.returns-else-len-eq0-clause-rows
returns-else-len-eq0-clause-rows c = rows (goal.at.returns-else-len-eq0-clause-rows c).After-remove

pub returns-else-len-eq0-clause-blocks : goal.returns-else-len-eq0-clause-blocks
returns-else-len-eq0-clause-blocks c =
    let at = (goal.at.returns-else-len-eq0-clause-blocks c).After-remove in
    let some : 0 < length c.remove.new.self.rows =
    omega (arith, many (goal.at.returns-else-len-eq0-clause-blocks c).After-len, c.if-len-eq0.false) in
    blocks-set c.args.kinds.now c.args.blocks.now.items c.args.home c.remove.new.self c.requires.home.within c.requires.blocks
    (ap (λ (block : Table). block.kinds) (c.remove.ensures.rows)
    ∙ ap (λ (block : Table). block.kinds) (read at)
    ∙ c.requires.blocks.alike c.args.home c.index_mut.result.now c.requires.home.within)
    some
    (subst Rising (sym (rows at)) (rising-without_row c.args.row (joined c.args.blocks.now.items) c.requires.blocks.rise))
