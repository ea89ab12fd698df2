-- The rows before the cut and those behind it are the block's.
use Rattle.std.proofs.Common.{rules, ◌≡◌, ◌+◌, ◌<◌, length, get_or, slice_set, take, drop, ◌++◌, sym, ap, subst, ◌∙◌, arith}
use Rattle.std.specs.List.{insert}
use Rattle.rows.specs.Tables.{Table}
use Rattle.apply.specs.Inner.Joins.{joined, AreBlocks}
use Rattle.apply.proofs.Joined.{joined-cut, blocks-cut, front-insert}
use Rattle.std.proofs.lemmas.List.{get_or_default, take-append-drop, length-take-le, length-drop, take-set, length-set}
use Rattle.std.proofs.lemmas.List.Edits.{get_or-insert_below, length-insert}
use Rattle.apply.proofs.sequence.make_room.Goals as goal
use Rattle.apply.proofs.sequence.make_room.Goals.{After-truncate}

-- the two blocks
made : (c : After-truncate)
    → (joined (slice_set c.insert.new.self.items c.args.home c.truncate.new.self) ≡ joined c.args.blocks.now.items)
    × AreBlocks c.args.kinds.now (slice_set c.insert.new.self.items c.args.home c.truncate.new.self)
made c =
    let blocks = c.args.blocks.now.items in
    let m = c.args.home in
    let d = c.index-3.result.now in
    let e = c.index_mut.result.now in
    let f = c.index.result.now in
    let cut = c.cut_at-cut.result in
    let tail = c.in_ok-tail.tail in
    let head = c.truncate.new.self in
    let lt : m < length blocks = c.requires.within in
    let put : c.insert.new.self.items ≡ insert blocks (m + 1) tail = search rules in
    let read : d ≡ get_or blocks m d = search rules in
    let seen : f ≡ get_or blocks m f = search rules in
    let first : f ≡ get_or blocks m d = seen ∙ get_or_default blocks m f d lt in
    let second : e ≡ get_or c.insert.new.self.items m e = search rules in
    let again : e ≡ get_or blocks m d =
    second ∙ ap (λ blocks. get_or blocks m e) put ∙ get_or-insert_below blocks (m + 1) tail e m (omega arith) (omega (arith, lt))
    ∙ get_or_default blocks m e d lt in
    let rows = (get_or blocks m d).rows in
    let head_rows : head.rows ≡ take cut rows =
    ap (λ (block : Table). block.rows) c.truncate.ensures ∙ ap (λ (block : Table). take cut block.rows) again in
    let tail_rows : tail.rows ≡ drop cut rows =
    ap (λ (block : Table). block.rows) c.in_ok-tail.ensures ∙ ap (λ (block : Table). drop cut block.rows) read in
    let both : head.rows ++ tail.rows ≡ rows =
    ap (λ front. front ++ tail.rows) head_rows ∙ ap (λ back. take cut rows ++ back) tail_rows ∙ take-append-drop cut rows in
    let kinds = c.requires.blocks.alike m d lt in
    let head_kinds = ap (λ (block : Table). block.kinds) c.truncate.ensures ∙ ap (λ (block : Table). block.kinds) again ∙ kinds in
    let tail_kinds = ap (λ (block : Table). block.kinds) c.in_ok-tail.ensures ∙ ap (λ (block : Table). block.kinds) read ∙ kinds in
    let many : c.len-rows.result ≡ length rows = c.len-rows.ensures ∙ ap (λ (block : Table). length block.rows) first in
    let within : cut < length rows = omega (arith, many, c.cut_at-cut.ensures.within.1) in
    let head_some : 0 < length head.rows = subst (λ rows. 0 < length rows) (sym head_rows)
    (omega (arith, length-take-le cut rows (omega (arith, within)), c.cut_at-cut.ensures.within.0)) in
    let tail_some : 0 < length tail.rows =
    subst (λ rows. 0 < length rows) (sym tail_rows) (omega (arith, length-drop cut rows, within)) in (
      ap (λ blocks. joined (slice_set blocks m head)) put ∙ joined-cut blocks m d head tail lt both,
      subst (λ all. AreBlocks c.args.kinds.now (slice_set all m head)) (sym put)
          (blocks-cut c.args.kinds.now blocks m d head tail lt c.requires.blocks both head_kinds tail_kinds head_some tail_some),
    )

pub returns-clause-rows : goal.returns-clause-rows
returns-clause-rows c = (made (goal.at.returns-clause-rows c).After-truncate).0

pub returns-clause-blocks : goal.returns-clause-blocks
returns-clause-blocks c = (made (goal.at.returns-clause-blocks c).After-truncate).1

-- one block more, behind the others
grown : (c : After-truncate)
    → (take c.args.home (slice_set c.insert.new.self.items c.args.home c.truncate.new.self) ≡ take c.args.home c.args.blocks.now.items)
    × (length (slice_set c.insert.new.self.items c.args.home c.truncate.new.self) ≡ length c.args.blocks.now.items + 1)
grown c =
    let blocks = c.args.blocks.now.items in
    let m = c.args.home in
    let tail = c.in_ok-tail.tail in
    let head = c.truncate.new.self in
    let lt : m < length blocks = c.requires.within in
    let put : c.insert.new.self.items ≡ insert blocks (m + 1) tail = search rules in (
      take-set c.insert.new.self.items m head ∙ ap (take m) put ∙ front-insert blocks m tail lt,
      length-set c.insert.new.self.items m head ∙ ap length put ∙ length-insert blocks (m + 1) tail (omega (arith, lt)),
    )

pub returns-clause-front : goal.returns-clause-front
returns-clause-front c = (grown (goal.at.returns-clause-front c).After-truncate).0

pub returns-clause-some : goal.returns-clause-some
returns-clause-some c = omega (arith, (grown (goal.at.returns-clause-some c).After-truncate).1)

pub returns-clause-more : goal.returns-clause-more
returns-clause-more c = omega (arith, (grown (goal.at.returns-clause-more c).After-truncate).1)
