-- The laws, for all entries.
use Rattle.std.proofs.Common.{refl}
use Rattle.update_log.specs.Frames.{frames_of}
use Rattle.update_log.proofs.Framing.{frames-sendable}
use Rattle.update_log.proofs.Uniqueness.{cut-is_short, cut-is_unique, entries-are_cut}
use Rattle.update_log.proofs.laws.one_cut.Goals as goal

pub returns-clause-cut : goal.returns-clause-cut
returns-clause-cut c = entries-are_cut

pub returns-clause-only : goal.returns-clause-only
returns-clause-only c = cut-is_unique

pub returns-clause-short : goal.returns-clause-short
returns-clause-short c = cut-is_short

pub returns-clause-sendable : goal.returns-clause-sendable
returns-clause-sendable c = λ commit number first_seq cuttable fits.
    frames-sendable commit number first_seq (frames_of commit number first_seq) cuttable fits refl
