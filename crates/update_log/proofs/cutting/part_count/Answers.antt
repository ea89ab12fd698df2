-- Each part is counted once.
use Rattle.std.proofs.Common.{◌≡◌, ◌∷◌, take, drop, subst, sym, ap, length, List, arith}
use Rattle.std.specs.List.{AllByRecursion}
use Rattle.rows.specs.declared.entry.Entry.{Entry}
use Rattle.rows.specs.Spelling.{HasSpelling}
use Rattle.update_log.specs.Parts.{parts_of}
use Rattle.update_log.proofs.Elements.{all-drop}
use Rattle.update_log.proofs.Uniqueness.{cut-is_short, first-part}
use Rattle.update_log.proofs.cutting.part_count.Goals as goal

pub loop-count-preserved : goal.loop-count-preserved
loop-count-preserved c =
    let rest = c.loop-count.rest.now in
    let n = c.first_part_len.result in
    let part = c.first_part_len.ensures in
    let cut : parts_of rest ≡ take n rest ∷ parts_of (drop n rest) = first-part rest n part.some part.within part.fits part.full in
    record {
      counted =
          omega (
            arith,
            ap length cut,
            ap (λ (behind : List Entry). length (parts_of behind)) c.split_at.ensures.back,
            c.loop-count.invariant.counted,
          );
      spelled =
          subst (AllByRecursion HasSpelling) (sym c.split_at.ensures.back)
          (all-drop HasSpelling n rest c.loop-count.invariant.spelled);
    }

-- there are no more parts than entries, so none is left
pub returns : goal.returns
returns c = omega (arith, cut-is_short c.args.entries.now, c.loop-count.invariant.counted, c.loop-count-test.false)
