-- Each part's span goes behind those before it.
use Rattle.std.proofs.Common.{◌≡◌, ◌∷◌, take, drop, subst, sym, ap, length, arith}
use Rattle.std.specs.List.{AllByRecursion}
use Rattle.std.proofs.lemmas.List.{length-drop, length-take-le}
use Rattle.rows.specs.Spelling.{HasSpelling}
use Rattle.update_log.specs.Parts.{parts_of}
use Rattle.update_log.specs.Inner.Spans.{spans_of}
use Rattle.update_log.proofs.Elements.{all-drop}
use Rattle.update_log.proofs.Spans.{spans-more}
use Rattle.update_log.proofs.Uniqueness.{first-part}
use Rattle.update_log.proofs.cutting.cut_spans.Goals as goal

pub loop-rest-preserved : goal.loop-rest-preserved
loop-rest-preserved c =
    let rest = c.loop-rest.rest.now in
    let n = c.first_part_len-len.result in
    let part = c.first_part_len-len.ensures in
    let behind = c.split_at.result.1.now in
    let so_far = c.loop-rest.invariant in
    let cut : parts_of rest ≡ take n rest ∷ parts_of (drop n rest) = first-part rest n part.some part.within part.fits part.full in
    record {
      so_far =
          rw c.in_ok-push.ensures.items
          (spans-more c.loop-rest.spans.items (spans_of c.args.entries.now c.args.number) c.args.number c.loop-rest.start n rest behind
          c.split_at.ensures.back cut (length-take-le n rest part.within) so_far.so_far);
      spelled = subst (AllByRecursion HasSpelling) (sym c.split_at.ensures.back) (all-drop HasSpelling n rest so_far.spelled);
      counted = omega (arith, so_far.counted, part.within, ap length c.split_at.ensures.back, length-drop n rest);
    }
