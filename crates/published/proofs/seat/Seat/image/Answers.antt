-- Part by part, until nothing is left; the seat's list stays as it is.
use Rattle.std.proofs.Common.{◌≡◌, ◌<◌, ◌++◌, List, length, Option, None, Some, MatchOption, sym, ap, subst, ◌∙◌, arith, append-nil}
use Rattle.std.specs.List.{AllByRecursion}
use Rattle.rows.specs.declared.commit.Commit.{Commit}
use Rattle.rows.specs.declared.entry.Entry.{Entry}
use Rattle.rows.specs.Commits.{tables_after}
use Rattle.rows.specs.Image.{image_of}
use Rattle.rows.specs.Shape.{Shape, shape_of, AreTables}
use Rattle.rows.specs.Spelling.{HasSpelling}
use Rattle.mvcc.specs.ImageParts.{image_rest}
use Rattle.mvcc.specs.declared.image_place.ImagePlace.{ImagePlace}
use Rattle.published.proofs.Images.{records-spelled, MayBePlace, later-place, places_left, fewer-places}
use Rattle.published.proofs.seat.Seat.image.Given.{Over}
use Rattle.published.proofs.seat.Seat.image.Goals as goal
use Rattle.published.proofs.seat.Seat.image.Goals.{In_default}

pub loop-place-init : goal.loop-place-init
loop-place-init g c =
    let shape = shape_of g.L.Line.schema in
    let tables = tables_after shape c.self.inside.front (length c.self.inside.front) in
    record {
      whole =
          ap (λ (items : List Entry). items ++ image_rest shape tables (Some c.first.result)) c.new-image.ensures.items
          ∙ c.first.ensures.all shape tables;
      there = c.self.invariant.0;
      within = (
        omega (arith, ap (λ (place : ImagePlace). place.table) c.first.ensures.first),
        omega (arith, ap (λ (place : ImagePlace). place.row) c.first.ensures.first),
      );
      tables = tt;
    }

pub push_part-requires-clause-there : goal.push_part-requires-clause-there
push_part-requires-clause-there g c = c.loop-place.invariant.there

pub loop-place-smaller : goal.loop-place-smaller
loop-place-smaller g c =
    let here : MayBePlace (Some c.in-Some.begin) = subst MayBePlace c.in-Some.is c.loop-place.invariant.within in
    subst (λ (place : Option ImagePlace). places_left c.in_ok-place.place < places_left place) (sym c.in-Some.is)
    (fewer-places c.in-Some.begin c.in_ok-place.place here.0 here.1 c.in_ok-place.ensures.later)

pub loop-place-preserved : goal.loop-place-preserved
loop-place-preserved g c =
    let shape = shape_of g.L.Line.schema in
    let tables = tables_after shape c.self.inside.front (length c.self.inside.front) in
    record {
      whole =
          c.in_ok-place.ensures.part
          ∙ ap (λ (place : Option ImagePlace). c.loop-place.image.items ++ image_rest shape tables place) (sym c.in-Some.is)
          ∙ c.loop-place.invariant.whole;
      there = c.push_part.ensures.there;
      within = later-place c.in-Some.begin c.in_ok-place.place c.in_ok-place.ensures.later;
      tables = either shape c.in_ok-place.place c.in_ok-place.ensures.tables;
    }
  where
    either : (shape : Shape) (place : Option ImagePlace) → AreTables shape → MatchOption place (AreTables shape) (λ _. Unit {0})
    either shape None are = are
    either shape (Some at) are = tt

pub invariant_of-self-2 : goal.invariant_of-self-2
invariant_of-self-2 g c = (c.loop-place.invariant.there, c.self.invariant.1)

-- nothing is left
whole-image : (g : Over) (c : In_default g)
    → c.loop-place.image.items
    ≡ image_of (shape_of g.L.Line.schema) (tables_after (shape_of g.L.Line.schema) c.self.inside.front (length c.self.inside.front))
whole-image g c =
    let shape = shape_of g.L.Line.schema in
    let tables = tables_after shape c.self.inside.front (length c.self.inside.front) in
    sym (ap (λ (place : Option ImagePlace). c.loop-place.image.items ++ image_rest shape tables place) c.in_default.is
    ∙ append-nil c.loop-place.image.items)
    ∙ c.loop-place.invariant.whole

pub returns-clause-image : goal.returns-clause-image
returns-clause-image g c =
    whole-image g c
    ∙ ap (λ (list : List Commit). image_of (shape_of g.L.Line.schema) (tables_after (shape_of g.L.Line.schema) list (length list)))
    c.self.view_is

pub returns-clause-spelled : goal.returns-clause-spelled
returns-clause-spelled g c =
    let shape = shape_of g.L.Line.schema in
    let front = c.self.inside.front in
    let tables : AreTables shape =
    subst (λ (place : Option ImagePlace). MatchOption place (AreTables shape) (λ _. Unit {0})) c.in_default.is
    c.loop-place.invariant.tables in
    subst (AllByRecursion HasSpelling) (sym (whole-image g c))
    (c.images_rebuild_tables.ensures.spelled shape front (length front) tables (records-spelled front c.self.invariant.1.records))
