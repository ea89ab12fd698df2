-- What is made so far, and what is left from the place on, is the image of the seat's list. Each part goes on behind the place before it.
use Rattle.std.proofs.Common.{◌≡◌, ◌++◌, true, length, is_some, MatchOption}
use Rattle.rows.specs.Commits.{tables_after}
use Rattle.rows.specs.Image.{image_of}
use Rattle.rows.specs.Shape.{shape_of, AreTables}
use Rattle.mvcc.specs.ImageParts.{image_rest}
use Rattle.published.proofs.Images.{MayBePlace, places_left}
use Rattle.published.proofs.seat.Seat.image.Given as goal

abbrev pub invariant-loop-place : goal.invariant-loop-place
invariant-loop-place g l = record {
  whole : l.image.items
      ++ image_rest (shape_of g.L.Line.schema) (tables_after (shape_of g.L.Line.schema) l.front (length l.front)) l.place
      ≡ image_of (shape_of g.L.Line.schema) (tables_after (shape_of g.L.Line.schema) l.front (length l.front));
  there : is_some l.reader ≡ true;
  within : MayBePlace l.place;
  tables : MatchOption l.place (AreTables (shape_of g.L.Line.schema)) (λ _. Unit {0});
}

abbrev pub decreases-loop-place : goal.decreases-loop-place
decreases-loop-place g l = places_left l.place
