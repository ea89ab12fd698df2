-- No rows are tallied by no keys.
use Rattle.std.proofs.Common.{[], refl}
use Rattle.plans.proofs.scan.Scan.new.Goals as goal

pub returns : goal.returns
returns c = λ tables classes table are. record {
  numberings = c.in_ok-numberings.ensures;
  sizes = c.in_ok-tallies.ensures.sizes;
  tallies = λ p n d e t lt on.
      let first = c.in_ok-tallies.ensures.tallied p e t lt in
      record { before = []; more = _; split = refl; shaped = first.shaped; tallied = first.tallied };
}
