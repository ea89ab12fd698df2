-- There are as many tables once the image is applied to none.
use Rattle.std.proofs.Common.{◌≡◌, ℕ, Bool, true, false, cond, List, [], Ok, Err, length, refl, sym, ap, subst, ◌∙◌}
use Rattle.std.specs.Prelude.{IsErr}
use Rattle.std.proofs.lemmas.List.{length-map}
use Rattle.rows.specs.declared.commit.Commit.{Commit}
use Rattle.rows.specs.declared.kind.Kind.{Kind}
use Rattle.rows.specs.Commits.{apply_commits, shape_after_commits}
use Rattle.rows.specs.Shape.{Shape}
use Rattle.rows.specs.Tables.{Table, Tables, opening, shape_in}
use Rattle.intake.specs.Kept.{frames_between}
use Rattle.dispatcher.specs.Images.{image_commits}
use Rattle.dispatcher.specs.Inner.Held.{fetched_of}
use Rattle.dispatcher.specs.Inner.Invariant.{replica_of}
use Rattle.dispatcher.specs.Inner.Merging.{merging_of}
use Rattle.dispatcher.specs.Inner.Parts.{Applies, AppliesImage}
use Rattle.dispatcher.specs.Protocol.{by_image}
use Rattle.dispatcher.specs.declared.faults.CatchUpFault.{CatchUpFault}
use Rattle.store.specs.declared.faults.ApplyFault.TheVariants as applying
use Rattle.dispatcher.specs.State.{Replica, Pieces, no_pieces}
use Rattle.dispatcher.specs.Steps.{broken_of}
use Rattle.dispatcher.proofs.Applying.{image-applies, image-fails}
use Rattle.dispatcher.proofs.Ready.{ready-parts}
use Rattle.dispatcher.proofs.Standing.{seen-pieces}
use Rattle.dispatcher.proofs.Widened.{still-many}
use Rattle.dispatcher.proofs.replica_core.ReplicaCore.apply_image.Goals as goal

pub invariant_of-self : goal.invariant_of-self
invariant_of-self g c =
    let is = c.self.invariant in
    let a = c.self.inside in
    let replica = replica_of g.S.Store.tables g.S.Store.base_shape a in
    let ready = rw (← c.self.view_is) at c.requires.ready in
    let whole : a.broken ≡ false = (ready-parts replica (fetched_of c.args.fetched.now) ready).1.whole in
    let begun : Shape = g.S.Store.base_shape a.store in
    let none : Tables = g.S.Store.tables c.clear.new.self in
    let made : Tables = g.S.Store.tables c.apply_to.new.store in
    let image : List Commit = image_commits (frames_between a.pieces.arrivals 0 0 c.args.fetched.now.pieces) in
    let told : shape_in made ≡ shape_after_commits (shape_in none) image =
    c.changes_tell_kinds.ensures.commits none made image c.in-Ok-apply_to.ensures.ok in
    let opened : none ≡ opening begun = c.clear.ensures.cleared (is.store_whole whole) in
    record {
      few_workers = is.few_workers;
      number_below = is.number_below;
      arrivals_by_worker = is.arrivals_by_worker;
      applied_by_worker = is.applied_by_worker;
      others_kept = is.others_kept;
      store_whole = λ now. c.in-Ok-apply_to.ensures.stays_whole;
      fetched = is.fetched;
      many = λ now.
          sym (length-map made (λ (table : Table). table.kinds))
          ∙ ap (λ (shape : Shape). length shape) told
          ∙ still-many c.changes_tell_kinds.ensures.tables (shape_in none) image
          ∙ length-map none (λ (table : Table). table.kinds)
          ∙ ap (λ (tables : Tables). length tables) opened
          ∙ length-map begun (λ (kinds : List Kind). record { kinds = kinds; rows = [] })
          ∙ is.begun;
      begun = ap (λ (shape : Shape). length shape) (c.apply_to.ensures.base ∙ c.clear.ensures.base) ∙ is.begun;
    }

-- a replica is seen with the base of its pieces, whether it is whole or not
seen-base : (broken : Bool) (pieces : Pieces) → (cond broken (no_pieces pieces.base) pieces).base ≡ pieces.base
seen-base true pieces = refl
seen-base false pieces = refl

pub returns-in-Ok-apply_to : goal.returns-in-Ok-apply_to
returns-in-Ok-apply_to g c =
    let a = c.self.inside in
    let replica = replica_of g.S.Store.tables g.S.Store.base_shape a in
    let fetched = fetched_of c.args.fetched.now in
    let ready = rw (← c.self.view_is) at c.requires.ready in
    let image : by_image a.version fetched ≡ true = rw (← c.self.view_is) at c.requires.by_image in
    let whole : a.broken ≡ false = (ready-parts replica fetched ready).1.whole in
    let made : Tables = g.S.Store.tables c.apply_to.new.store in
    let seen : Tables = cond a.broken [] made in
    let left : Pieces = cond a.broken (no_pieces c.apply_to.new.self.base) c.apply_to.new.self in
    let frames = frames_between replica.pieces.arrivals 0 0 fetched.pieces in
    let kept : List Commit = image_commits (frames_between a.pieces.arrivals 0 0 fetched.pieces) in
    let same : kept ≡ image_commits frames =
    ap (λ (pieces : Pieces). image_commits (frames_between pieces.arrivals 0 0 fetched.pieces))
    (sym (seen-pieces g.S.Store.tables g.S.Store.base_shape a whole)) in
    let ok : apply_commits (opening replica.shape) (image_commits frames) ≡ Ok seen =
    ap (apply_commits (opening replica.shape)) (sym same)
    ∙ ap (λ (tables : Tables). apply_commits tables kept) (sym (c.clear.ensures.cleared (c.self.invariant.store_whole whole)))
    ∙ c.in-Ok-apply_to.ensures.ok
    ∙ sym (ap (λ (broken : Bool). Ok (cond broken [] made)) whole) in
    let base : left.base ≡ replica.pieces.base =
    seen-base a.broken c.apply_to.new.self ∙ ap (λ (pieces : Pieces). pieces.base) c.apply_to.ensures.left
    ∙ sym (seen-base a.broken a.pieces) in
    let merging = merging_of a.intake fetched.counts c.args.merge.now in
    rw (← c.self.view_is) (image-applies replica fetched merging image seen left c.apply.result c.apply.new.self ok base
    (subst (λ (shape : Shape). Applies (record replica { shape = shape; tables = seen; pieces = left }) fetched seen merging
    c.apply.result c.apply.new.self)
    (c.apply_to.ensures.base ∙ c.clear.ensures.base) c.apply.ensures))

pub returns : goal.returns
returns g c =
    let a = c.self.inside in
    let replica = replica_of g.S.Store.tables g.S.Store.base_shape a in
    let fetched = fetched_of c.args.fetched.now in
    let ready = rw (← c.self.view_is) at c.requires.ready in
    let image : by_image a.version fetched ≡ true = rw (← c.self.view_is) at c.requires.by_image in
    let whole : a.broken ≡ false = (ready-parts replica fetched ready).1.whole in
    let frames = frames_between replica.pieces.arrivals 0 0 fetched.pieces in
    let kept : List Commit = image_commits (frames_between a.pieces.arrivals 0 0 fetched.pieces) in
    let same : kept ≡ image_commits frames =
    ap (λ (pieces : Pieces). image_commits (frames_between pieces.arrivals 0 0 fetched.pieces))
    (sym (seen-pieces g.S.Store.tables g.S.Store.base_shape a whole)) in
    let opened = c.clear.ensures.cleared (c.self.invariant.store_whole whole) in
    let base : c.apply_to.new.self.base ≡ replica.pieces.base =
    ap (λ (pieces : Pieces). pieces.base) c.apply_to.ensures.left ∙ sym (seen-base a.broken a.pieces) in
    let shape = c.apply_to.ensures.base ∙ c.clear.ensures.base in
    let fails : c.in-Err.fault ≡ applying.Inconsistent → IsErr (apply_commits (opening replica.shape) (image_commits frames)) =
    λ is.
    subst (λ (tables : Tables). IsErr (apply_commits tables (image_commits frames))) opened
    (subst (λ (commits : List Commit). IsErr (apply_commits (g.S.Store.tables c.clear.new.self) commits)) same
    (c.in-Err.ensures.err is)) in
    let new : Replica =
    record replica {
      shape = g.S.Store.base_shape c.apply_to.new.store;
      tables = [];
      pieces = no_pieces c.apply_to.new.self.base;
      broken = true;
    } in
    let broken : new ≡ broken_of replica =
    ap (λ (shape : Shape). record replica {
      shape = shape;
      tables = [];
      pieces = no_pieces c.apply_to.new.self.base;
      broken = true;
    }) shape
    ∙ ap (λ (base : ℕ). record replica { tables = []; pieces = no_pieces base; broken = true }) base in
    let merging = merging_of a.intake fetched.counts c.args.merge.now in
    subst
    (λ (r : Replica). AppliesImage r fetched (merging_of r.arrivals fetched.counts c.args.merge.now) (Err c.catch_up_fault.result) new)
    c.self.view_is
    (subst (λ (fault : CatchUpFault). AppliesImage replica fetched merging (Err fault) new) (sym c.catch_up_fault.ensures)
    (image-fails replica fetched merging image c.in-Err.fault new broken fails))
