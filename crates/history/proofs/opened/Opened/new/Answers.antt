use Rattle.std.proofs.Common.{sym, ◌∙◌, ap}
use Rattle.history.proofs.Keeping.{begins_moves}
use Rattle.history.proofs.opened.Opened.new.Goals as goal

pub compare_exchange-found-requires : goal.compare_exchange-found-requires
compare_exchange-found-requires c =
    let begun = c.open-seen.ensures in
    let h = c.tracked-head.ensures.0 in
    let offer = c.plain-asked.ensures in
    let pen = c.no_pen-no_pen.ensures in
    let book = ap (λ w. w.book) h ∙ begun.2 in (
      ap (λ w. w.tracked) h,
      sym book,
      pen.0 ∙ sym book,
      offer.0,
      rw (ap (λ w. w.key) h, pen.1, offer.1, offer.3, begun.1, begun.4) (begins_moves _),
    )
