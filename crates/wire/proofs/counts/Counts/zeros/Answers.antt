-- One more 0 each time.
use Rattle.std.proofs.Common.{ℕ, List, [], ◌∷◌, ◌++◌, length, ap, ◌∙◌, arith}
use Rattle.std.proofs.lemmas.List.{length-replicate}
use Rattle.wire.proofs.Lists.{replicate-more}
use Rattle.wire.proofs.counts.Counts.zeros.Goals as goal

pub push-requires : goal.push-requires
push-requires c =
    omega (
      arith,
      ap (λ (l : List ℕ). length l) c.loop.invariant.zeros,
      length-replicate {A = ℕ} c.loop.counter 0,
      c.requires,
      c.loop-test.true,
    )

pub loop-preserved : goal.loop-preserved
loop-preserved c = record {
  zeros = c.push.ensures ∙ ap (λ (l : List ℕ). l ++ 0 ∷ []) c.loop.invariant.zeros ∙ replicate-more c.loop.counter;
  within = omega (arith, c.loop-test.true);
}
