-- One position more.
use Rattle.std.proofs.Common.{◌++◌, ◌∷◌, [], ◌+◌, ◌∙◌, sym, ap, arith}
use Rattle.plans.proofs.Picking.{positions-next}
use Rattle.plans.proofs.selecting.all_positions.Goals as goal

pub push_reserved-requires : goal.push_reserved-requires
push_reserved-requires c =
    omega (arith, c.loop-position-test.true, c.in-Ok.ensures.1, c.loop-position.invariant.len, c.loop-position.invariant.room)

pub loop-position-preserved : goal.loop-position-preserved
loop-position-preserved c =
    let position = c.loop-position.position in
    record {
      items = c.push_reserved.ensures.items ∙ ap (λ list. list ++ position ∷ []) c.loop-position.invariant.items
          ∙ sym (positions-next position);
      len = c.push_reserved.ensures.len ∙ ap (λ n. n + 1) c.loop-position.invariant.len;
      room = omega (arith, c.push_reserved.ensures.capacity, c.loop-position.invariant.room);
    }
