-- Part by part, until nothing is left.
use Rattle.std.proofs.Common.{◌<◌, ◌^◌, ◌++◌, List, Option, None, Some, IfSome, sym, ap, subst, ◌∙◌, arith, append-nil}
use Rattle.rows.specs.declared.entry.Entry.{Entry}
use Rattle.rows.specs.Limits.{tables_max}
use Rattle.rows.specs.Shape.{shape_of}
use Rattle.mvcc.specs.declared.image_place.ImagePlace.{ImagePlace}
use Rattle.mvcc.specs.ImageParts.{image_rest, IsLaterPlace}
use Rattle.mvcc.specs.VersionList.{tables_at}
use Rattle.mvcc.proofs.TableImages.{places_left, fewer-places}
use Rattle.mvcc.proofs.versions.Versions.image.Goals as goal

pub loop-place-init : goal.loop-place-init
loop-place-init c = record {
  whole =
      ap (λ (items : List Entry). items ++ image_rest (shape_of c.args.self.now.schema) (tables_at c.args.self.now c.args.version)
      (Some c.first.result)) c.in_ok-image.ensures.items
      ∙ c.first.ensures.all (shape_of c.args.self.now.schema) (tables_at c.args.self.now c.args.version);
  within = (
    omega (arith, ap (λ (place : ImagePlace). place.table) c.first.ensures.first),
    omega (arith, ap (λ (place : ImagePlace). place.row) c.first.ensures.first),
  );
}

pub loop-place-smaller : goal.loop-place-smaller
loop-place-smaller c =
    let here : IfSome (Some c.in-Some.begin) (λ place. (place.table < tables_max) × (place.row < 2 ^ 64)) =
    subst (λ (place : Option ImagePlace). IfSome place (λ at. (at.table < tables_max) × (at.row < 2 ^ 64))) c.in-Some.is
    c.loop-place.invariant.within in
    subst (λ (place : Option ImagePlace). places_left c.in_ok-place.place < places_left place) (sym c.in-Some.is)
    (fewer-places c.in-Some.begin c.in_ok-place.place here.0 here.1 c.in_ok-place.ensures.later)

pub loop-place-preserved : goal.loop-place-preserved
loop-place-preserved c = record {
  whole =
      c.in_ok-place.ensures.part
      ∙ ap (λ (place : Option ImagePlace). c.loop-place.image.items
      ++ image_rest (shape_of c.args.self.now.schema) (tables_at c.args.self.now c.args.version) place) (sym c.in-Some.is)
      ∙ c.loop-place.invariant.whole;
  within = by c.in_ok-place.place c.in_ok-place.ensures.later;
}
  where
    by : (next : Option ImagePlace) → IfSome next (IsLaterPlace c.in-Some.begin)
        → IfSome next (λ place. (place.table < tables_max) × (place.row < 2 ^ 64))
    by None later = tt
    by (Some place) later = (later.table, later.row)

pub returns : goal.returns
returns c =
    sym (ap (λ (place : Option ImagePlace). c.loop-place.image.items
    ++ image_rest (shape_of c.args.self.now.schema) (tables_at c.args.self.now c.args.version) place) c.in_default.is
    ∙ append-nil c.loop-place.image.items)
    ∙ c.loop-place.invariant.whole
