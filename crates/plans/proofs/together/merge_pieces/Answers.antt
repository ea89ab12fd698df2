-- One piece more; at the end all were merged.
use Rattle.std.proofs.Common.{◌≡◌, ◌+◌, ◌∷◌, ◌++◌, [], Ok, length, get_or, refl, sym, ap, subst, ◌∙◌, arith, length-append}
use Rattle.std.proofs.lemmas.List.{length_push}
use Rattle.rows.specs.Tables.{Rows, rows_of}
use Rattle.plans.specs.Inner.Pieces.{rows_of_pieces}
use Rattle.plans.specs.Inner.Together.{IsOfPiece}
use Rattle.plans.proofs.MergedPieces.{Merges, merges-init, merges-next, merges-within}
use Rattle.plans.proofs.MergedPieces.{merges-end, one-behind, piece-found, counts-next, counts-few}
use Rattle.plans.proofs.together.merge_pieces.Goals as goal

pub loop-part-init : goal.loop-part-init
loop-part-init g c = record {
  whole = c.into_iter-part-iterator.ensures.into_iter_gives.0;
  sizes = c.requires.sizes;
  rows = refl;
  merges = λ k d e lt. merges-init (g.S.Store.tables c.args.store.now) (get_or c.args.plans.now k d) c.args.table c.args.pieces
      (get_or c.args.groups.now k e);
}

-- what is found of the piece
is-found : (g : _) (c : goal.After-merge_piece-arg-1 g)
    → IsOfPiece (g.S.Store.tables c.args.store.now) c.args.plans.now c.args.table c.args.pieces (length c.loop-part.yielded)
    c.in-Some-2.found
is-found g c =
    piece-found (g.S.Store.tables c.args.store.now) c.args.plans.now c.args.table c.args.pieces c.args.parts.items c.requires.parts
    c.loop-part.yielded c.next.new.self.rest.items c.loop-part.part-iterator.rest.items c.in-Some.part c.in-Some-2.found
    c.in-Some.ensures.steps.0 c.loop-part.invariant.whole (c.in_ok-found.was ∙ ap Ok c.in-Some-2.is)

pub merge_piece-requires-clause-sizes : goal.merge_piece-requires-clause-sizes
merge_piece-requires-clause-sizes g c = c.loop-part.invariant.sizes

pub merge_piece-requires-clause-others_sizes : goal.merge_piece-requires-clause-others_sizes
merge_piece-requires-clause-others_sizes g c = (is-found g c).sizes

pub merge_piece-requires-clause-within : goal.merge_piece-requires-clause-within
merge_piece-requires-clause-within g c = λ k d e lt on.
    merges-within (g.S.Store.tables c.args.store.now) (get_or c.args.plans.now k d) c.args.table c.args.pieces
    (length c.loop-part.yielded) c.loop-part.rows (get_or c.args.groups.now k e) (get_or c.loop-part.groups k e)
    (c.loop-part.invariant.merges k d e lt) (c.requires.opening k d e lt on) on

pub merge_piece-requires-clause-others : goal.merge_piece-requires-clause-others
merge_piece-requires-clause-others g c = λ k d e lt on. ((is-found g c).kept k d e lt on).within

pub merge_piece-requires-clause-few : goal.merge_piece-requires-clause-few
merge_piece-requires-clause-few g c =
    let rows : Rows = rows_of (g.S.Store.tables c.args.store.now) c.args.table in
    let few =
    counts-few rows c.args.pieces (length c.loop-part.yielded) c.loop-part.rows c.in-Some-2.found.rows c.args.most
    c.loop-part.invariant.rows
    (is-found g c).rows c.requires.most in
    omega (arith, few, c.ranges.most)

pub overflow_add-rows : goal.overflow_add-rows
overflow_add-rows g c =
    let rows : Rows = rows_of (g.S.Store.tables c.args.store.now) c.args.table in
    let is =
    piece-found (g.S.Store.tables c.args.store.now) c.args.plans.now c.args.table c.args.pieces c.args.parts.items c.requires.parts
    c.loop-part.yielded c.next.new.self.rest.items c.loop-part.part-iterator.rest.items c.in-Some.part c.in-Some-2.found
    c.in-Some.ensures.steps.0 c.loop-part.invariant.whole (c.in_ok-found.was ∙ ap Ok c.in-Some-2.is) in
    let few =
    counts-few rows c.args.pieces (length c.loop-part.yielded) c.loop-part.rows c.in-Some-2.found.rows c.args.most
    c.loop-part.invariant.rows
    is.rows c.requires.most in
    omega (arith, few, c.ranges.most)

pub loop-part-preserved : goal.loop-part-preserved
loop-part-preserved g c =
    let tables = g.S.Store.tables c.args.store.now in
    let rows : Rows = rows_of tables c.args.table in
    let i = length c.loop-part.yielded in
    let found = c.in-Some-2.found in
    let is =
    piece-found tables c.args.plans.now c.args.table c.args.pieces c.args.parts.items c.requires.parts c.loop-part.yielded
    c.next.new.self.rest.items c.loop-part.part-iterator.rest.items c.in-Some.part found c.in-Some.ensures.steps.0
    c.loop-part.invariant.whole (c.in_ok-found.was ∙ ap Ok c.in-Some-2.is) in
    let more : length (c.loop-part.yielded ++ c.in-Some.part ∷ []) ≡ i + 1 = length_push c.loop-part.yielded c.in-Some.part in
    record {
      whole =
          one-behind c.loop-part.yielded c.in-Some.part c.next.new.self.rest.items c.loop-part.part-iterator.rest.items c.args.parts.items
          c.in-Some.ensures.steps.0 c.loop-part.invariant.whole;
      sizes = c.merge_piece.auto.groups ∙ c.loop-part.invariant.sizes;
      rows =
          counts-next rows c.args.pieces i c.loop-part.rows found.rows c.loop-part.invariant.rows is.rows
          ∙ sym (ap (λ n. length (rows_of_pieces rows c.args.pieces n)) more);
      merges = λ k d e lt.
          subst
          (λ n. Merges tables (get_or c.args.plans.now k d) c.args.table c.args.pieces n (c.loop-part.rows + found.rows)
          (get_or c.args.groups.now k e) (get_or c.merge_piece.new.groups k e))
          (sym more)
          (merges-next tables (get_or c.args.plans.now k d) c.args.table c.args.pieces i c.loop-part.rows found.rows
          (get_or c.args.groups.now k e) (get_or c.loop-part.groups k e) (get_or found.groups.items k e)
          (get_or c.merge_piece.new.groups k e) is.rows (is.kept k d e lt) (c.loop-part.invariant.merges k d e lt)
          (c.in_ok-merge_piece.ensures k d e lt));
    }

pub returns : goal.returns
returns g c = λ all k d e lt.
    let rest = c.loop-part.part-iterator.rest.items in
    let sizes = sym (length-append c.loop-part.yielded rest) ∙ ap length c.loop-part.invariant.whole ∙ c.requires.len in
    let ends : length c.loop-part.yielded ≡ c.args.pieces =
    omega (arith, sizes, c.loop-part.part-iterator.rest.ok, c.in-None.ensures.steps.0) in
    merges-end (g.S.Store.tables c.args.store.now) (get_or c.args.plans.now k d) c.args.table c.args.pieces (length c.loop-part.yielded)
    c.loop-part.rows c.args.most (get_or c.args.groups.now k e) (get_or c.loop-part.groups k e) c.requires.some ends c.requires.most
    (c.loop-part.invariant.merges k d e lt)
