use Rattle.std.proofs.Common.{subst, ap, arith, length, List, ◌≤◌, ◌<◌}
use mathlib.Core.List.{IsPrefix}
use Rattle.history.specs.declared.stamp.Stamp.{Stamp}
use Rattle.history.proofs.Stamps.{shorter_begins}
use Rattle.history.proofs.front.Front.follow.Goals as goal

pub returns : goal.returns
returns g c =
    let both = c.learn.new.self.log in
    let mine = c.self.inside.seen.log in
    let others = c.other.inside.seen.log in
    let this : IsPrefix mine both = subst (λ (l : List Stamp). IsPrefix l both) (ap (λ s. s.log) c.again-both.ensures) c.learn.ensures.2 in
    let some : 0 < length mine = omega (arith, c.self.invariant.1) in
    let less : length mine ≤ length others = omega (arith, c.self.invariant.1, c.other.invariant.1, c.if-other-self.false) in
    (c.other.view_is, rw (← c.self.view_is) (shorter_begins mine others both this c.learn.ensures.3 some less))
