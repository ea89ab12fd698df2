-- Seq by seq, until none is left that would be kept, or there is no more room.
use Rattle.std.proofs.Common.{◌≡◌, refl, ap, sym, subst, ◌∙◌, arith, ◌+◌, ◌-◌, ◌^◌, ◌<◌, ◌++◌, ◌∷◌, [], length, take}
use Rattle.std.proofs.Common.{vec_capacity, slice_index, inl, inr, false}
use Rattle.std.proofs.lemmas.List.{append_assoc}
use Rattle.intake.specs.State.{known_of}
use Rattle.dispatcher.specs.declared.gaps.Gap.{Gap}
use Rattle.dispatcher.specs.Gaps.{gaps_among, is_missing}
use Rattle.dispatcher.proofs.Gapping.{Told, answer-tells, from-first, next-covered, next-missing, next-other, none-ahead, take-none}
use Rattle.dispatcher.proofs.gaps.push_gaps_of.Goals as goal
use Rattle.dispatcher.proofs.gaps.push_gaps_of.Goals.{in-Stored, in-Repeat}

pub loop-ahead-init : goal.loop-ahead-init
loop-ahead-init c =
    let known = known_of c.args.intake.now c.args.worker in
    let base = slice_index c.args.bases.now c.args.worker in
    let first = c.contiguous_from-first.result in
    let s : first + 0 ≡ first = omega arith in
    record {
      few = c.requires.few;
      capacity = refl;
      rest = ap (λ gaps. take c.args.most (c.args.gaps.now.items ++ gaps))
          (ap (λ x. gaps_among c.args.stride c.args.worker base known (c.args.count - x) x 0) (s ∙ c.contiguous_from-first.ensures)
          ∙ from-first c.args.stride c.args.worker base known c.args.count c.first_missing_is_least.ensures.first);
    }

pub loop-ahead-preserved-then-covered-gt0 : goal.loop-ahead-preserved-then-covered-gt0
loop-ahead-preserved-then-covered-gt0 c =
    let known = known_of c.args.intake.now c.args.worker in
    let base = slice_index c.args.bases.now c.args.worker in
    let inv = c.loop-ahead.invariant in
    record {
      few = inv.few;
      capacity = inv.capacity;
      rest = ap (λ gaps. take c.args.most (c.loop-ahead.gaps.items ++ gaps))
          (sym (next-covered c.args.stride c.args.worker base known c.args.count c.contiguous_from-first.result c.loop-ahead.ahead
          (omega (arith, c.loop-ahead-test.true, c.saturating_sub-ahead-end.ensures))
          c.loop-ahead.covered c.if-covered-gt0.true)) ∙ inv.rest;
    }

pub returns-in-Ahead-clause-gaps : goal.returns-in-Ahead-clause-gaps
returns-in-Ahead-clause-gaps c =
    let known = known_of c.args.intake.now c.args.worker in
    let base = slice_index c.args.bases.now c.args.worker in
    let seq = c.contiguous_from-first.result + c.loop-ahead.ahead in
    let left = c.args.count - seq in
    let inv = c.loop-ahead.invariant in
    let far = subst (λ t. Told t known base seq) c.in-Ahead.is
    (answer-tells c.args.intake.now c.args.bases.now c.args.worker seq c.would_take.result c.would_take.ensures) in
    let uncovered : c.loop-ahead.covered ≡ 0 = omega (arith, c.if-covered-gt0.false) in
    let small : seq + 1 < 2 ^ 64 = omega (arith, c.loop-ahead-test.true, c.saturating_sub-ahead-end.ensures, c.ranges.count.fits) in
    sym (take-none c.args.most c.loop-ahead.gaps.items
    (gaps_among c.args.stride c.args.worker base known left seq c.loop-ahead.covered) inv.few
    (ap (λ x. gaps_among c.args.stride c.args.worker base known left seq x) uncovered
    ∙ none-ahead c.args.stride c.args.worker base known left seq small far)) ∙ inv.rest

pub loop-ahead-preserved : goal.loop-ahead-preserved
loop-ahead-preserved c =
    let known = known_of c.args.intake.now c.args.worker in
    let base = slice_index c.args.bases.now c.args.worker in
    let first = c.contiguous_from-first.result in
    let ahead = c.loop-ahead.ahead in
    let most = c.args.most in
    let items = c.loop-ahead.gaps.items in
    let inv = c.loop-ahead.invariant in
    let among = gaps_among c.args.stride c.args.worker base known (c.args.count - (first + (ahead + 1))) (first + (ahead + 1)) in
    let tells = answer-tells c.args.intake.now c.args.bases.now c.args.worker (first + ahead) c.would_take.result c.would_take.ensures in
    let there : ahead < c.args.count - first = omega (arith, c.loop-ahead-test.true, c.saturating_sub-ahead-end.ensures) in
    let uncovered : c.loop-ahead.covered ≡ 0 = omega (arith, c.if-covered-gt0.false) in
    let left = gaps_among c.args.stride c.args.worker base known (c.args.count - (first + ahead)) (first + ahead) in
    let before = ap (λ x. take most (items ++ left x)) (sym uncovered) ∙ inv.rest in
    elim c.match-would_take.branch [
      | in-Stored w ↦
          (let e = w.push_reserved.ensures in
          let gap : Gap = record { worker = c.args.worker; seq = first + ahead } in
          let missing = next-missing c.args.stride c.args.worker base known c.args.count first ahead there
          (subst (λ t. Told t known base (first + ahead)) w.in-Stored.is tells) in
          record {
            few = omega (arith, ap (λ g. length g.items) w.gaps-is, e.len, c.len.ensures, c.if-len-most.false);
            capacity = ap vec_capacity w.gaps-is ∙ (e.capacity ∙ inv.capacity);
            rest = ap (λ g. take most (g.items ++ among c.match-would_take.covered)) w.gaps-is
                ∙ (ap (λ x. take most (w.push_reserved.new.self.items ++ among x)) (w.covered-is ∙ w.saturating_sub-covered.ensures)
                ∙ (ap (λ xs. take most (xs ++ among (c.args.stride - 1))) e.items
                ∙ (ap (take most) (append_assoc items (gap ∷ []) (among (c.args.stride - 1)))
                ∙ (ap (λ gaps. take most (items ++ gaps)) (sym missing) ∙ before))));
          })
      | in-Repeat w ↦
          (let none : is_missing known base (first + ahead) ≡ false = elim w.in-Repeat.is [
            | inl repeat ↦ subst (λ t. Told t known base (first + ahead)) repeat tells
            | inr memory ↦ subst (λ t. Told t known base (first + ahead)) memory tells
          ] in
          let other = next-other c.args.stride c.args.worker base known c.args.count first ahead there none in
          record {
            few = omega (arith, ap (λ g. length g.items) w.gaps-is, inv.few);
            capacity = ap vec_capacity w.gaps-is ∙ inv.capacity;
            rest = ap (λ g. take most (g.items ++ among c.match-would_take.covered)) w.gaps-is
                ∙ (ap (λ x. take most (items ++ among x)) (w.covered-is ∙ uncovered)
                ∙ (ap (λ gaps. take most (items ++ gaps)) (sym other) ∙ before));
          })
    ]

pub returns-clause-gaps : goal.returns-clause-gaps
returns-clause-gaps c =
    let known = known_of c.args.intake.now c.args.worker in
    let base = slice_index c.args.bases.now c.args.worker in
    let seq = c.contiguous_from-first.result + c.loop-ahead.ahead in
    let inv = c.loop-ahead.invariant in
    let over : c.args.count - seq ≡ 0 = omega (arith, c.loop-ahead-test.false, c.saturating_sub-ahead-end.ensures) in
    sym (take-none c.args.most c.loop-ahead.gaps.items
    (gaps_among c.args.stride c.args.worker base known (c.args.count - seq) seq c.loop-ahead.covered) inv.few
    (ap (λ x. gaps_among c.args.stride c.args.worker base known x seq c.loop-ahead.covered) over)) ∙ inv.rest
