-- No seat has a number above those of the commits.
use Rattle.std.proofs.Common.{◌≡◌, ap, ◌∙◌, arith}
use Rattle.std.proofs.lemmas.Option.{get_or_from_slice_get}
use Rattle.desk.specs.Keeping.{commit_count, last_number}
use Rattle.desk.specs.Inner.Noted.{Noted}
use Rattle.desk.proofs.Numbers.{last_within}
use Rattle.desk.proofs.roster.Roster.last.Goals as goal

pub returns-clause-within : goal.returns-clause-within
returns-clause-within g c =
    let first = g.L.Origin.first in
    let is : c.index.result.now ≡ last_number first c.args.self.now.seats c.args.seat =
    c.index.ensures
    ∙ get_or_from_slice_get c.self.inside.lasts.items c.args.seat (last_number first c.self.inside.seats.items c.args.seat)
    c.index.result.now
    (c.self.invariant.lasts c.args.seat c.requires)
    ∙ ap (λ (v : Noted). last_number first v.seats c.args.seat) c.self.view_is in
    rw is (last_within c.args.seat 0 (commit_count first) c.args.self.now.seats (omega arith))
