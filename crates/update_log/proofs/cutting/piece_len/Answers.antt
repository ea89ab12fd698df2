-- What fits into one piece and is full before the next entry is the first piece.
use Rattle.update_log.proofs.Pieces.{first-piece}
use Rattle.update_log.proofs.cutting.piece_len.Goals as goal

pub returns-clause-cut : goal.returns-clause-cut
returns-clause-cut c =
    let piece = c.first_part_len.ensures in
    first-piece c.args.entries.now c.first_part_len.result piece.some piece.within piece.fits piece.full
