-- What is answered once is answered for all that are equal.
use Rattle.std.proofs.Common.{◌≡◌, ◌<◌, ℕ, List, Ok, length, map, get_or, sym, ap, subst, ◌∙◌, arith}
use Rattle.std.specs.List.{AllByRecursion}
use Rattle.std.proofs.lemmas.List.{length-map}
use Rattle.rows.specs.Tables.{shape_in}
use Rattle.queries.specs.declared.plan.Plan.{Plan}
use Rattle.queries.specs.Answers.{plain_answer}
use Rattle.queries.specs.Checking.{checked}
use Rattle.plans.specs.Inner.Equals.{AreAt}
use Rattle.plans.proofs.Equal.{checked-once, answers-once}
use Rattle.plans.proofs.answering.answer_batch.Goals as goal

pub answer_each-requires-2-clause-checked : goal.answer_each-requires-2-clause-checked
answer_each-requires-2-clause-checked g c = λ _ _.
    let tables = g.S.Store.tables c.args.store.now in
    subst (AllByRecursion (λ (plan : Plan). checked (shape_in tables) plan ≡ Ok tt)) (sym c.as_slice.ensures.value)
    (checked-once c.args.plans.now c.in_ok-distinct.distinct.plans.items c.in_ok-distinct.distinct.places.items c.in_ok-distinct.ensures
    tables c.requires.checked)

pub answers_at-requires : goal.answers_at-requires
answers_at-requires g c = λ p n lt.
    let tables = g.S.Store.tables c.args.store.now in
    let firsts = c.in_ok-distinct.distinct.plans.items in
    let places = c.as_slice-3.ensures.value in
    let sizes = ap length places ∙ c.in_ok-distinct.ensures.sizes in
    let answered =
    ap length (c.as_slice-2.ensures.value ∙ c.in_ok-answers.ensures)
    ∙ length-map c.as_slice.result.now (plain_answer tables) ∙ ap length c.as_slice.ensures.value in
    subst (λ (count : ℕ). get_or c.as_slice-3.result.now p n < count) (sym answered)
    (subst (λ (list : List ℕ). get_or list p n < length firsts) (sym places)
    (c.in_ok-distinct.ensures.within p n (omega (arith, lt, sizes))))

pub returns : goal.returns
returns g c =
    let tables = g.S.Store.tables c.args.store.now in
    let firsts = c.in_ok-distinct.distinct.plans.items in
    let places = c.in_ok-distinct.distinct.places.items in
    answers-once c.args.plans.now firsts places c.in_ok-distinct.ensures tables c.as_slice-2.result.now c.in_ok-copies.copies.items
    (c.as_slice-2.ensures.value ∙ c.in_ok-answers.ensures ∙ ap (map (plain_answer tables)) c.as_slice.ensures.value)
    (subst (λ (list : List ℕ). AreAt c.as_slice-2.result.now list c.in_ok-copies.copies.items) c.as_slice-3.ensures.value
    c.in_ok-copies.ensures)
