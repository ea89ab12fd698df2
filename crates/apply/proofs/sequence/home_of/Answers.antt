-- The block in the middle tells of those before it, or of itself and those behind it.
use Rattle.std.proofs.Common.{◌≡◌, ◌+◌, ◌-◌, ◌/◌, ◌<◌, length, get_or, ap, ◌∙◌, arith}
use Rattle.std.specs.Map.{keys_of}
use Rattle.rows.specs.Tables.{Table}
use Rattle.apply.proofs.Joined.{under-step, over-step}
use Rattle.apply.proofs.sequence.home_of.Goals as goal

pub loop-low-preserved-then-ids-row : goal.loop-low-preserved-then-ids-row
loop-low-preserved-then-ids-row c =
    let blocks = c.args.blocks.now in
    let m = c.loop-low.low + (c.loop-low.high - c.loop-low.low) / 2 in
    let d = c.index-blocks-middle.result in
    let lt : m < length blocks = omega (arith, c.loop-low.invariant.within, c.loop-low-test.true) in
    let first = get_or c.ids.result.now 0 0 in
    let at : first ≡ get_or (keys_of (get_or blocks m d).rows) 0 0 =
    ap (λ ids. get_or ids 0 0) (c.ids.ensures.value ∙ ap (λ (block : Table). keys_of block.rows) c.index-blocks-middle.is) in
    record {
      apart = omega (arith, c.loop-low-test.true);
      within = c.loop-low.invariant.within;
      front = under-step blocks m c.args.row first 0 d c.requires.rise lt (c.requires.rows m d lt) at c.if-ids-row.true;
      back = c.loop-low.invariant.back;
    }

pub loop-low-preserved : goal.loop-low-preserved
loop-low-preserved c =
    let blocks = c.args.blocks.now in
    let m = c.loop-low.low + (c.loop-low.high - c.loop-low.low) / 2 in
    let d = c.index-blocks-middle.result in
    let lt : m < length blocks = omega (arith, c.loop-low.invariant.within, c.loop-low-test.true) in
    let first = get_or c.ids.result.now 0 0 in
    let at : first ≡ get_or (keys_of (get_or blocks m d).rows) 0 0 =
    ap (λ ids. get_or ids 0 0) (c.ids.ensures.value ∙ ap (λ (block : Table). keys_of block.rows) c.index-blocks-middle.is) in
    record {
      apart = omega (arith, c.loop-low-test.true);
      within = omega (arith, lt);
      front = c.loop-low.invariant.front;
      back = over-step blocks m c.args.row first 0 d c.requires.rise lt (c.requires.rows m d lt) at c.if-ids-row.false;
    }
