-- The next block's rows stand behind those before it.
use Rattle.std.proofs.Common.{◌≡◌, ◌+◌, ◌<◌, [], ◌∷◌, ◌++◌, length, take, get_or, ap, sym, ◌∙◌, arith}
use Rattle.std.proofs.lemmas.List.{length-take-le, take-take}
use Rattle.rows.specs.Tables.{Table}
use Rattle.apply.specs.Inner.Joins.{joined, end_before}
use Rattle.apply.proofs.Counted.{joined-more, joined-within}
use Rattle.apply.proofs.Ended.{end-before, ends-length, ends-more}
use Rattle.apply.proofs.sequence.renew_ends.Goals as goal

pub rows_before-rows-requires : goal.rows_before-rows-requires
rows_before-rows-requires c =
    let front = take c.args.from c.args.blocks.now in
    let same = ap length (c.as_slice.ensures.value ∙ c.truncate.ensures.items ∙ c.requires.before) in
    omega (arith, same, ends-length 0 front, length-take-le c.args.from c.args.blocks.now c.requires.within)

pub loop-k-init : goal.loop-k-init
loop-k-init c =
    let from = c.args.from in
    let blocks = c.args.blocks.now in
    let kept = c.truncate.ensures.items ∙ c.requires.before in
    record {
      ends = kept;
      rows = c.rows_before-rows.ensures ∙ ap (λ ends. end_before ends from) (c.as_slice.ensures.value ∙ kept)
          ∙ end-before from (take from blocks) (omega (arith, length-take-le from blocks c.requires.within))
          ∙ ap (λ front. length (joined front)) (take-take from from blocks (omega arith));
      room = omega (arith, c.truncate.ensures.capacity, c.requires.room);
    }

pub overflow_add-rows : goal.overflow_add-rows
overflow_add-rows c =
    let blocks = c.args.blocks.now in
    let k = c.loop-k.k in
    let d = c.index-blocks-k.result in
    let lt : k < length blocks = c.loop-k-test.true in
    let many = ap (λ (block : Table). length block.rows) c.index-blocks-k.is in
    omega (arith, joined-within blocks k d lt, many, c.len-rows.ensures, c.loop-k.invariant.rows, c.requires.few)

pub push_reserved-requires : goal.push_reserved-requires
push_reserved-requires c =
    let same = ap length c.loop-k.invariant.ends in
    let front = length-take-le c.loop-k.k c.args.blocks.now (omega (arith, c.loop-k-test.true)) in
    omega (
      arith,
      same,
      ends-length 0 (take c.loop-k.k c.args.blocks.now),
      front,
      c.loop-k.ends.ok.0,
      c.loop-k.invariant.room,
      c.loop-k-test.true,
    )

pub loop-k-preserved : goal.loop-k-preserved
loop-k-preserved c =
    let blocks = c.args.blocks.now in
    let k = c.loop-k.k in
    let d = c.index-blocks-k.result in
    let lt : k < length blocks = c.loop-k-test.true in
    let many = ap (λ (block : Table). length block.rows) c.index-blocks-k.is in
    let all : c.loop-k.rows + c.len-rows.result ≡ length (joined (take k blocks)) + length (get_or blocks k d).rows =
    omega (arith, many, c.len-rows.ensures, c.loop-k.invariant.rows) in
    record {
      ends = c.push_reserved.ensures.items
          ∙ ap (λ ends. ends ++ (c.loop-k.rows + c.len-rows.result) ∷ []) c.loop-k.invariant.ends
          ∙ sym (ends-more k (c.loop-k.rows + c.len-rows.result) blocks d lt all);
      rows = omega (arith, all, joined-more blocks k d lt);
      room = omega (arith, c.push_reserved.ensures.capacity, c.loop-k.invariant.room);
    }
