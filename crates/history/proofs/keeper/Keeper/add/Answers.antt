use Rattle.std.proofs.Common.{sym, ◌∙◌, ap, rules, ◌≡◌, ◌∷◌, [], ◌++◌, length, length-append, arith}
use Rattle.history.specs.Inner.Rule.{last_key}
use Rattle.history.proofs.Stamps.{last_key_snoc}
use Rattle.history.proofs.Keeping.{adds_moves}
use Rattle.history.proofs.keeper.Keeper.add.Goals as goal

pub compare_exchange-requires : goal.compare_exchange-requires
compare_exchange-requires g c =
    let inv = c.self.invariant in
    let h = inv.0 in
    let offer = c.plain-asked.ensures in
    let book = ap (λ w. w.book) h in (
      ap (λ w. w.tracked) h,
      inv.1 ∙ sym book,
      inv.2 ∙ sym book,
      offer.0,
      rw (ap (λ w. w.key) h, offer.1, offer.3) (adds_moves c.self.inside.seen.log _ c.self.inside.pen.nib inv.3 inv.4 inv.5),
    )

pub invariant_of-self : goal.invariant_of-self
invariant_of-self g c =
    let inv = c.self.invariant in
    let x = c.compare_exchange.ensures in
    let made = c.new_pen-next.ensures in
    let log = x.7 in
    let next : c.new_pen-next.result.nib.key ≡ c.plain-asked.result.ask.next =
    ap (λ p. p.nib.key) (sym c.of-2.ensures) ∙ ap (λ s. s.next) (sym c.plain-asked.ensures.1) in (
      inv.0,
      x.0 ∙ inv.1,
      made.0 ∙ inv.1,
      made.1,
      next ∙ (sym (last_key_snoc c.self.inside.seen.log c.plain-asked.result.ask) ∙ ap last_key (sym log)),
      rw log (omega (arith, length-append c.self.inside.seen.log (c.plain-asked.result.ask ∷ []))),
    )
