-- A check that finds no fault has found none in any part.
use Rattle.queries.proofs.Faultless.{each-part-fits}
use Rattle.queries.proofs.laws.each_part_fits.Goals as goal

pub returns : goal.returns
returns c = each-part-fits
