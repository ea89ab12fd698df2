use Rattle.std.proofs.Common.{sym, ◌∙◌, ap, subst, List, arith, length, ◌≤◌, ◌<◌}
use Rattle.history.proofs.Beginnings.{prefix_trans}
use mathlib.Core.List.{IsPrefix}
use Rattle.history.specs.declared.stamp.Stamp.{Stamp}
use Rattle.history.proofs.Stamps.{seen_of_whole}
use Rattle.history.proofs.Keeping.{checks_moves}
use Rattle.history.proofs.keeper.Keeper.confirm.Goals as goal

pub compare_exchange-requires : goal.compare_exchange-requires
compare_exchange-requires g c =
    let inv = c.self.invariant in
    let h = inv.0 in
    let again = c.again-all.ensures in
    let offer = c.plain-asked.ensures in
    let book = ap (λ w. w.book) h in (
      ap (λ w. w.tracked) h,
      c.learn.ensures.0 ∙ (ap (λ s. s.book) again ∙ (inv.1 ∙ sym book)),
      inv.2 ∙ sym book,
      offer.0,
      rw (ap (λ w. w.key) h, offer.3) (checks_moves c.learn.new.self.log c.plain-asked.result.ask c.self.inside.pen.nib inv.3),
    )

pub returns-clause-begins : goal.returns-clause-begins
returns-clause-begins g c =
    let both = c.learn.new.self.log in
    let mine = c.self.inside.seen.log in
    let this : IsPrefix mine both = subst (λ (l : List Stamp). IsPrefix l both) (ap (λ s. s.log) c.again-all.ensures) c.learn.ensures.2 in
    let x = c.compare_exchange.ensures in
    let now = c.compare_exchange.new.seen.log in
    let short : length now ≤ length mine = x.7.1 mine (prefix_trans mine both now this x.6) c.self.invariant.4 c.self.invariant.5 in
    let some : 0 < length c.front.inside.seen.log = omega (arith, c.front.invariant.1) in
    rw (← c.front.view_is) (seen_of_whole mine c.front.inside.seen.log both now this c.learn.ensures.3 x.6 short some)
