-- Each piece goes behind those before it, and the last one is marked as last.
use Rattle.std.proofs.Common.{length, sym, ap, subst, arith}
use Rattle.std.specs.List.{AllByRecursion}
use Rattle.std.proofs.lemmas.List.{length-drop, length-take-le}
use Rattle.rows.specs.Spelling.{HasSpelling}
use Rattle.update_log.specs.Parts.{piece_front_len, part_len}
use Rattle.primary.proofs.Cut.{packets-more}
use Rattle.primary.proofs.Elements.{all-take, all-drop}
use Rattle.primary.proofs.pieces.piece_packets.Goals as goal

pub of_piece-requires-in-loop-rest : goal.of_piece-requires-in-loop-rest
of_piece-requires-in-loop-rest c =
    let rest = c.loop-rest.rest.now in
    let n = c.piece_len.result in
    let first = c.piece_len.ensures in
    let front = c.split_at.ensures.front in
    record {
      based = c.requires.based;
      base_below = omega arith;
      number_below = omega arith;
      spelled = subst (AllByRecursion HasSpelling) (sym front) (all-take HasSpelling n rest c.loop-rest.invariant.spelled);
      few = omega (arith, first.fits, ap (part_len piece_front_len) front);
      empty = λ none. absurd (omega (arith, none, ap length front, length-take-le n rest first.within, first.some));
    }

pub loop-rest-preserved : goal.loop-rest-preserved
loop-rest-preserved c =
    let so_far = c.loop-rest.invariant in
    let rest = c.loop-rest.rest.now in
    let n = c.piece_len.result in
    let behind = c.split_at.result.1.now in
    record {
      so_far =
          packets-more c.pieces_are_cut.ensures.some c.args.base c.loop-rest.number n rest c.split_at.result.0.now behind
          c.is_empty-in-loop-rest-2.result c.loop-rest.packets.items c.push-in-loop-rest.new.self.items _ c.of_piece-in-loop-rest.result
          c.piece_len.ensures.cut c.split_at.ensures.front c.split_at.ensures.back c.is_empty-in-loop-rest-2.ensures
          c.of_piece-in-loop-rest.ensures.spelled c.in_ok-push-2.ensures.items so_far.so_far;
      spelled = subst (AllByRecursion HasSpelling) (sym c.split_at.ensures.back) (all-drop HasSpelling n rest so_far.spelled);
      counted =
          omega (
            arith,
            so_far.counted,
            c.piece_len.ensures.some,
            c.piece_len.ensures.within,
            ap length c.split_at.ensures.back,
            length-drop n rest,
          );
    }
