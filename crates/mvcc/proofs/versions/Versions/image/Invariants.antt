-- What is made so far, and what is left of the image from the place on, is all of it. Each part goes on behind the place before it.
use Rattle.std.proofs.Common.{◌≡◌, ◌<◌, ◌^◌, ◌++◌, IfSome}
use Rattle.rows.specs.Image.{image_of}
use Rattle.rows.specs.Limits.{tables_max}
use Rattle.rows.specs.Shape.{shape_of}
use Rattle.mvcc.specs.VersionList.{tables_at}
use Rattle.mvcc.specs.ImageParts.{image_rest}
use Rattle.mvcc.proofs.TableImages.{places_left}
use Rattle.mvcc.proofs.versions.Versions.image.Given as goal

abbrev pub invariant-loop-place : goal.invariant-loop-place
invariant-loop-place l = record {
  whole : l.image.items ++ image_rest (shape_of l.self.schema) (tables_at l.self l.version) l.place
      ≡ image_of (shape_of l.self.schema) (tables_at l.self l.version);
  within : IfSome l.place (λ place. (place.table < tables_max) × (place.row < 2 ^ 64));
}

abbrev pub decreases-loop-place : goal.decreases-loop-place
decreases-loop-place l = places_left l.place
