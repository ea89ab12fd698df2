-- One piece more.
use Rattle.std.proofs.Common.{◌+◌, Option, Result, IfOk, IfSome, length, get_or, sym, ap, subst, ◌∙◌, arith}
use Rattle.std.specs.declared.alloc.AllocError.{AllocError}
use Rattle.std.proofs.lemmas.List.{length_push}
use Rattle.plans.specs.declared.piecewise.PieceGroups.{PieceGroups}
use Rattle.plans.specs.Inner.Together.{IsOfPiece}
use Rattle.plans.proofs.Tallied.{pushed}
use Rattle.plans.proofs.together.scan_in_turn.Goals as goal

pub loop-piece-init : goal.loop-piece-init
loop-piece-init g c = record {
  sizes = ap length c.in_ok-parts.ensures.items;
  parts = λ piece d lt. let none = ap length c.in_ok-parts.ensures.items in absurd (omega (arith, lt, none));
}

pub loop-piece-preserved : goal.loop-piece-preserved
loop-piece-preserved g c =
    let tables = g.S.Store.tables c.args.store.now in
    let plans = c.args.plans.now in
    let table = c.args.table in
    let pieces = c.args.pieces in
    let items = c.loop-piece.parts.items in
    let here = c.scan_piece.result in
    let i = c.loop-piece.piece in
    let same = c.loop-piece.invariant.sizes in
    let size = ap length c.in_ok-push.ensures.items ∙ length_push items here ∙ ap (λ n. n + 1) same in
    record {
      sizes = size;
      parts = λ piece d lt.
          subst (λ list. IfOk (get_or list piece d) (λ found. IfSome found (IsOfPiece tables plans table pieces piece)))
          (sym c.in_ok-push.ensures.items)
          (pushed (λ n (result : Result (Option PieceGroups) AllocError). IfOk result
          (λ found. IfSome found (IsOfPiece tables plans table pieces n)))
          items here i same
          (λ k t less. c.loop-piece.invariant.parts k t (omega (arith, less, same)))
          c.scan_piece.ensures piece d (omega (arith, lt, size)));
    }
