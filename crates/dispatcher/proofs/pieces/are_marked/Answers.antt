-- Each piece is looked at.
use Rattle.std.proofs.Common.{◌≡◌, ◌+◌, ◌==◌, Bool, true, false, not, refl}
use Rattle.dispatcher.proofs.Collecting.{marked-more, not-marked}
use Rattle.dispatcher.proofs.pieces.are_marked.Goals as goal
use mathlib.Core.Bool.{beq}

same : (a b : Bool) → not (beq a b) ≡ false → a ≡ b
same true true h = refl
same false false h = refl
same true false h = absurd (cc)
same false true h = absurd (cc)

apart : (a b : Bool) → not (beq a b) ≡ true → a ≡ b → ⊥
apart true true h e = absurd (cc)
apart false false h e = absurd (cc)
apart true false h e = absurd (cc)
apart false true h e = absurd (cc)

pub returns-then-piece-number-clause-not : goal.returns-then-piece-number-clause-not
returns-then-piece-number-clause-not c = λ is.
    not-marked c.args.intake.now c.loop-number.number c.args.pieces c.piece_at-piece.result.now c.loop-number-test.true c.requires
    c.piece_at-piece.ensures
    (apart c.piece_at-piece.result.now.last ((c.loop-number.number + 1) == c.args.pieces) c.if-piece-number.true) c.loop-number.invariant

pub loop-number-preserved : goal.loop-number-preserved
loop-number-preserved c =
    marked-more c.args.intake.now c.loop-number.number c.args.pieces c.piece_at-piece.result.now c.loop-number-test.true c.requires
    c.piece_at-piece.ensures
    (same c.piece_at-piece.result.now.last ((c.loop-number.number + 1) == c.args.pieces) c.if-piece-number.false) c.loop-number.invariant
