-- There are as many tables once commits are applied.
use Rattle.std.proofs.Common.{◌≡◌, Bool, false, cond, [], List, Ok, length, sym, ap, subst, ◌∙◌}
use Rattle.std.proofs.lemmas.List.{length-map}
use Rattle.rows.specs.declared.commit.Commit.{Commit}
use Rattle.rows.specs.Shape.{Shape}
use Rattle.rows.specs.Tables.{Table, Tables, shape_in}
use Rattle.rows.specs.Commits.{shape_after_commits}
use Rattle.dispatcher.specs.Inner.Held.{fetched_of}
use Rattle.dispatcher.specs.Inner.Invariant.{replica_of}
use Rattle.dispatcher.specs.Inner.Merging.{MergeApplies, merging_of}
use Rattle.dispatcher.specs.Inner.Parts.{Reaches}
use Rattle.dispatcher.proofs.Applying.{reached-applies}
use Rattle.dispatcher.proofs.Widened.{still-many}
use Rattle.dispatcher.proofs.replica_core.ReplicaCore.apply.Goals as goal

pub invariant_of-self : goal.invariant_of-self
invariant_of-self g c =
    let is = c.self.invariant in
    let whole = rw (← c.self.view_is) at c.requires.whole in
    let old : Tables = g.S.Store.tables c.self.inside.store in
    let made : Tables = g.S.Store.tables c.apply_merge.new.store in
    let commits : List Commit = c.in-Ok.ensures.applies.0 in
    let told : shape_in made ≡ shape_after_commits (shape_in old) commits =
    c.changes_tell_kinds.ensures.commits old made commits c.in-Ok.ensures.applies.2 in
    record {
      few_workers = is.few_workers;
      number_below = is.number_below;
      arrivals_by_worker = is.arrivals_by_worker;
      applied_by_worker = is.applied_by_worker;
      others_kept = is.others_kept;
      store_whole = λ now. c.in-Ok.ensures.stays_whole;
      fetched = is.fetched;
      many = λ now.
          sym (length-map made (λ (table : Table). table.kinds))
          ∙ ap (λ (shape : Shape). length shape) told
          ∙ still-many c.changes_tell_kinds.ensures.tables (shape_in old) commits
          ∙ length-map old (λ (table : Table). table.kinds)
          ∙ is.many whole;
      begun = ap (λ (shape : Shape). length shape) c.apply_merge.ensures.base ∙ is.begun;
    }

pub returns-in-Ok : goal.returns-in-Ok
returns-in-Ok g c =
    let a = c.self.inside in
    let replica = replica_of g.S.Store.tables g.S.Store.base_shape a in
    let fetched = fetched_of c.args.fetched.now in
    let merging = merging_of a.intake fetched.counts c.args.merge.now in
    let whole : a.broken ≡ false = rw (← c.self.view_is) at c.requires.whole in
    let old : Tables = g.S.Store.tables a.store in
    let made : Tables = g.S.Store.tables c.apply_merge.new.store in
    let seen : Tables = cond a.broken [] made in
    let applied : MergeApplies merging fetched.version replica.tables (Ok tt) seen =
    subst (λ (broken : Bool). MergeApplies merging fetched.version (cond broken [] old) (Ok tt) (cond broken [] made)) (sym whole)
    c.in-Ok.ensures.applies in
    rw (← c.self.view_is) (reached-applies c.one_merge.ensures.only replica fetched replica.tables seen merging c.reach.result
    c.reach.new.self applied
    (subst (λ (shape : Shape). Reaches (record replica { shape = shape; tables = seen }) fetched c.reach.result c.reach.new.self)
    c.apply_merge.ensures.base c.reach.ensures))
