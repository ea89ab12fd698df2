-- Each test of the code is that of `frame_comes`, in the same order.
use Rattle.std.proofs.Common.{ℕ, Bool, true, not, ◌||◌, List, inl, inr, length, nat_lt, refl, sym, ap, subst, ◌∙◌, lt-ltb}
use Rattle.rows.specs.declared.entry.Entry.{Entry}
use Rattle.update_log.specs.declared.frame.Frame.{Frame}
use Rattle.intake.specs.State.{Arrivals}
use Rattle.intake.specs.Steps.{taken}
use Rattle.dispatcher.specs.Inner.Invariant.{replica_of}
use Rattle.dispatcher.specs.Protocol.{bases_for, fetched_for}
use Rattle.dispatcher.specs.State.{Replica}
use Rattle.dispatcher.specs.Steps.{have_tables}
use Rattle.dispatcher.proofs.Coming.{Takes, the_frame, all_there, unfit-is, comes-unfit, comes-apart, comes-stored, comes-taken}
use Rattle.dispatcher.proofs.Coming.{takes-workers, takes-kept}
use Rattle.dispatcher.proofs.Standing.{seen-many}
use Rattle.dispatcher.proofs.replica_core.ReplicaCore.take_frame.Goals as goal

abbrev put : Replica → List Arrivals → Replica
put r all = record r { arrivals = all }

abbrev unfit : Replica → Frame → Bool
unfit r frame = not (nat_lt frame.worker r.workers) || not (have_tables r frame.entries)

pub returns-then-not-have_table : goal.returns-then-not-have_table
returns-then-not-have_table g c =
    let replica = replica_of g.S.Store.tables g.S.Store.base_shape c.self.inside in
    let frame = the_frame c.args.worker c.args.seq c.args.commit c.args.last c.args.entries.now in
    let seen =
    seen-many g.S.Store.is_whole g.S.Store.tables g.S.Store.base_shape c.self.inside c.self.invariant
    (rw (← c.self.view_is) at c.requires) in
    let is =
    unfit-is replica c.args.entries.now (length c.self.inside.schema) (nat_lt c.args.worker c.self.inside.workers) true _ seen
    (lt-ltb _ _ c.if-worker-self.false)
    (sym (c.have_table.ensures ∙ ap (all_there c.args.entries.now) c.len.ensures) ∙ c.if-not-have_table.true) in
    rw (← c.self.view_is) (inr (comes-unfit replica (put replica) c.self.inside.intake
    (bases_for c.self.inside.version (fetched_for replica.batch)) frame (unfit replica frame) refl is))

pub returns-in_default : goal.returns-in_default
returns-in_default g c =
    let replica = replica_of g.S.Store.tables g.S.Store.base_shape c.self.inside in
    let bases = bases_for c.self.inside.version (fetched_for replica.batch) in
    let frame = the_frame c.args.worker c.args.seq c.args.commit c.args.last c.args.entries.now in
    let seen =
    seen-many g.S.Store.is_whole g.S.Store.tables g.S.Store.base_shape c.self.inside c.self.invariant
    (rw (← c.self.view_is) at c.requires) in
    let is =
    unfit-is replica c.args.entries.now (length c.self.inside.schema) (nat_lt c.args.worker c.self.inside.workers) true _ seen
    (lt-ltb _ _ c.if-worker-self.false)
    (sym (c.have_table.ensures ∙ ap (all_there c.args.entries.now) c.len.ensures) ∙ c.if-not-have_table.false) in
    rw (← c.self.view_is) (inr (comes-apart replica (put replica) c.self.inside.intake bases frame (unfit replica frame) refl is
    c.would_take.result c.got_of.result
    (c.would_take.ensures frame refl refl
    ∙ ap (λ (bases : List ℕ). (taken c.self.inside.intake bases frame).0) c.bases_for-bases.ensures)
    c.in_default.not-Stored c.got_of.ensures))

pub returns-in_default-to_list : goal.returns-in_default-to_list
returns-in_default-to_list g c =
    let replica = replica_of g.S.Store.tables g.S.Store.base_shape c.self.inside in
    let bases = bases_for c.self.inside.version (fetched_for replica.batch) in
    let frame = the_frame c.args.worker c.args.seq c.args.commit c.args.last c.args.entries.now in
    let seen =
    seen-many g.S.Store.is_whole g.S.Store.tables g.S.Store.base_shape c.self.inside c.self.invariant
    (rw (← c.self.view_is) at c.requires) in
    let is =
    unfit-is replica c.args.entries.now (length c.self.inside.schema) (nat_lt c.args.worker c.self.inside.workers) true _ seen
    (lt-ltb _ _ c.if-worker-self.false)
    (sym (c.have_table.ensures ∙ ap (all_there c.args.entries.now) c.len.ensures) ∙ c.if-not-have_table.false) in
    rw (← c.self.view_is) (inl (
      refl,
      refl,
      comes-stored replica (put replica) c.self.inside.intake bases frame (unfit replica frame) refl is
          (c.in-Stored.ensures frame refl refl
          ∙ ap (λ (bases : List ℕ). (taken c.self.inside.intake bases frame).0) c.bases_for-bases.ensures),
    ))

pub invariant_of-self : goal.invariant_of-self
invariant_of-self g c =
    let frame = the_frame c.args.worker c.args.seq c.args.commit c.args.last c.in-Ok.entries in
    let laws = c.known_frames_stay_kept.ensures in
    let is = c.self.invariant in
    record {
      few_workers = is.few_workers;
      number_below = is.number_below;
      arrivals_by_worker =
          takes-workers laws.frames_leave c.self.inside.intake c.bases_for-bases.result.now frame c.take_owned.result c.take_owned.new.self
          c.take_owned.ensures ∙ is.arrivals_by_worker;
      applied_by_worker = is.applied_by_worker;
      others_kept =
          takes-kept laws.kept c.self.inside.intake c.self.inside.applied c.bases_for-bases.result.now frame c.take_owned.result
          c.take_owned.new.self is.others_kept c.take_owned.ensures;
      store_whole = is.store_whole;
      fetched = is.fetched;
      many = is.many;
      begun = is.begun;
    }

pub returns : goal.returns
returns g c =
    let replica = replica_of g.S.Store.tables g.S.Store.base_shape c.self.inside in
    let bases = bases_for c.self.inside.version (fetched_for replica.batch) in
    let frame = λ (entries : List Entry). the_frame c.args.worker c.args.seq c.args.commit c.args.last entries in
    let seen =
    seen-many g.S.Store.is_whole g.S.Store.tables g.S.Store.base_shape c.self.inside c.self.invariant
    (rw (← c.self.view_is) at c.requires) in
    let is =
    unfit-is replica c.args.entries.now (length c.self.inside.schema) (nat_lt c.args.worker c.self.inside.workers) true _ seen
    (lt-ltb _ _ c.if-worker-self.false)
    (sym (c.have_table.ensures ∙ ap (all_there c.args.entries.now) c.len.ensures) ∙ c.if-not-have_table.false) in
    let took =
    subst (λ (entries : List Entry). Takes c.self.inside.intake bases (frame entries) c.take_owned.result c.take_owned.new.self)
    c.in-Ok.ensures
    (subst (λ (bases : List ℕ). Takes c.self.inside.intake bases (frame c.in-Ok.entries) c.take_owned.result c.take_owned.new.self)
    c.bases_for-bases.ensures c.take_owned.ensures) in
    rw (← c.self.view_is) (comes-taken replica (put replica) c.self.inside.intake bases (frame c.args.entries.now)
    (unfit replica (frame c.args.entries.now)) refl is c.take_owned.result c.take_owned.new.self c.got_of-2.result took c.got_of-2.ensures)
