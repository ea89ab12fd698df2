-- The part is what the frames hold first.
use Rattle.std.proofs.Common.{◌≡◌, List, ℕ, ap, length, sym, subst, arith}
use Rattle.std.specs.Vec.{with_items}
use Rattle.std.proofs.lemmas.List.{with_items_is}
use Rattle.ordering.specs.Merging.{HoldFirst, frames_in}
use Rattle.dispatcher.proofs.merge.take_part.Goals as goal

pub returns-in-Ok-clause-begun : goal.returns-in-Ok-clause-begun
returns-in-Ok-clause-begun c =
    let merge = c.args.merge.now in
    let all = c.args.intake.now in
    let counts = c.args.fetched.now.counts in
    let seqs = c.next_commits.new.at in
    let back : (with_items merge.at seqs).items ≡ seqs =
    with_items_is merge.at seqs (omega (
      arith,
      c.next_commits.auto.at,
      ap (λ (l : List ℕ). length l) c.as_mut_slice.ensures.value,
      merge.at.ok.0,
    )) in
    record {
      counted = omega (arith, c.len.ensures);
      held =
          subst (λ (at : List ℕ). HoldFirst merge.version c.next_commits.new.part.items (frames_in all merge.at.items counts)
          (frames_in all at counts)) (sym back)
          (rw (c.as_slice.ensures.counts, c.as_mut_slice.ensures.value) at c.in-Ok.ensures.held);
    }
