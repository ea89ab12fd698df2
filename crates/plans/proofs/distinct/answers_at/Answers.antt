-- One answer more is copied.
use Rattle.std.proofs.Common.{◌≡◌, ◌+◌, ◌<◌, List, length, get_or, ap, ◌∙◌, arith}
use Rattle.std.proofs.lemmas.List.{length_push, get_or_default}
use Rattle.queries.specs.declared.field.Field.{Field}
use Rattle.plans.proofs.Tallied.{pushed}
use Rattle.plans.proofs.distinct.answers_at.Goals as goal

pub loop-index-preserved : goal.loop-index-preserved
loop-index-preserved c =
    let places = c.args.places.now in
    let answers = c.args.answers.now in
    let items = c.loop-index.copies.items in
    let i = c.loop-index.index in
    let kept = c.loop-index.invariant in
    let copy = c.in_ok-copy.copy in
    let lt : i < length places = c.loop-index-test.true in
    rw c.in_ok-push.ensures.items (record {
      sizes = length_push items copy ∙ ap (λ n. n + 1) kept.sizes;
      each = λ p n d less.
          pushed (λ k (x : List (List Field)). (m : _) → x ≡ get_or answers (get_or places k m) d) items copy i kept.sizes
          (λ k t before m. get_or_default items k t d (omega (arith, before, kept.sizes)) ∙ kept.each k m d before)
          (λ m.
          c.in_ok-copy.ensures ∙ c.index-answers-places.is ∙ get_or_default answers _ _ d (c.requires i 0 lt)
          ∙ ap (λ place. get_or answers place d) (get_or_default places i 0 m lt)) p d less n;
    })

pub returns : goal.returns
returns c = record {
  sizes = let size = c.loop-index.invariant.sizes in omega (arith, size, c.loop-index-test.false, c.loop-index.auto.index-end);
  each = λ p n d lt. c.loop-index.invariant.each p n d (omega (arith, lt, c.loop-index-test.false));
}
