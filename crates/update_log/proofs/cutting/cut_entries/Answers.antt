-- Each part's frame goes behind those before it, and a datagram spells each.
use Rattle.std.proofs.Common.{◌≡◌, ◌==◌, true, ◌∷◌, take, drop, subst, sym, ap, ◌∙◌, length, arith}
use Rattle.std.specs.List.{AllByRecursion}
use Rattle.rows.specs.declared.commit.Commit.{Commit}
use Rattle.rows.specs.Spelling.{HasSpelling}
use Rattle.update_log.specs.Frames.{frames_from, frames_of}
use Rattle.update_log.specs.Parts.{parts_of}
use Rattle.update_log.proofs.Elements.{all-drop}
use Rattle.update_log.proofs.Framing.{frames-end, frames-more, frames-sendable, seqs-more}
use Rattle.update_log.proofs.Uniqueness.{first-part}
use Rattle.update_log.proofs.cutting.cut_entries.Goals as goal

pub overflow_add-seq : goal.overflow_add-seq
overflow_add-seq c =
    let rest = c.loop-rest.rest.now in
    let n = c.first_part_len.result in
    let part = c.first_part_len.ensures in
    let cut : parts_of rest ≡ take n rest ∷ parts_of (drop n rest) = first-part rest n part.some part.within part.fits part.full in
    omega (arith, ap length cut, c.loop-rest.invariant.seqs)

pub loop-rest-preserved : goal.loop-rest-preserved
loop-rest-preserved c =
    let rest = c.loop-rest.rest.now in
    let n = c.first_part_len.result in
    let part = c.first_part_len.ensures in
    let behind = c.split_at.result.1.now in
    let cut : parts_of rest ≡ take n rest ∷ parts_of (drop n rest) = first-part rest n part.some part.within part.fits part.full in
    record {
      so_far =
          rw c.in_ok-push.ensures.items
          (frames-more c.loop-rest.frames.items
          (frames_from c.args.worker c.args.number c.args.first_seq (parts_of c.args.entries.now)) c.args.worker c.args.number
          c.loop-rest.seq n rest c.in_ok-copy.copy behind c.is_empty-in-loop-rest.result
          (c.in_ok-copy.ensures ∙ c.split_at.ensures.front) c.split_at.ensures.back c.is_empty-in-loop-rest.ensures cut
          c.loop-rest.invariant.so_far);
      spelled =
          subst (AllByRecursion HasSpelling) (sym c.split_at.ensures.back) (all-drop HasSpelling n rest c.loop-rest.invariant.spelled);
      seqs = seqs-more c.loop-rest.seq n rest behind c.split_at.ensures.back cut c.loop-rest.invariant.seqs;
    }

pub returns-clause-sendable : goal.returns-clause-sendable
returns-clause-sendable c =
    let commit : Commit = record { worker = c.args.worker; entries = c.args.entries.now } in
    let number = c.args.number in
    let first = c.args.first_seq in
    let frames = c.loop-rest.frames.items in
    let none : (length c.loop-rest.rest.now == 0) ≡ true = sym c.is_empty.ensures ∙ c.loop-rest-test.false in
    let whole : frames ≡ frames_of commit number first =
    frames-end frames (frames_of commit number first) commit.worker number c.loop-rest.seq c.loop-rest.rest.now none
    c.loop-rest.invariant.so_far in
    frames-sendable commit number first frames c.requires c.ranges.number.fits whole
