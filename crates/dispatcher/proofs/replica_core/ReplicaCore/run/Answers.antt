-- Nothing is missing where it catches up.
use Rattle.std.proofs.Common.{◌<◌, ℕ, sym, ap, subst, ◌∙◌}
use Rattle.std.specs.Option.{option_map}
use Rattle.intake.specs.Steps.{lacking}
use Rattle.dispatcher.specs.Inner.Held.{batch_held, fetched_of}
use Rattle.dispatcher.specs.Inner.Invariant.{replica_of}
use Rattle.dispatcher.specs.Protocol.{bases_at, lacking_piece}
use Rattle.dispatcher.specs.State.{Fetched, Pieces}
use Rattle.dispatcher.proofs.Ready.{CanAnswer, lack-none}
use Rattle.dispatcher.proofs.Running.{run-answers, run-inconsistent, run-memory, run-broken}
use Rattle.dispatcher.proofs.Standing.{seen-pieces}
use Rattle.dispatcher.proofs.replica_core.ReplicaCore.run.Goals as goal

pub returns-in-Ok : goal.returns-in-Ok
returns-in-Ok g c =
    let a = c.self.inside in
    let replica = replica_of g.S.Store.tables g.S.Store.base_shape a in
    let batch = batch_held c.in-Some.batch in
    let fetched = fetched_of c.in-Some-fetched.fetched in
    let seen = seen-pieces g.S.Store.tables g.S.Store.base_shape a c.if-self.false in
    let can : CanAnswer replica batch fetched =
    record {
      whole = c.if-self.false;
      there = ap (option_map batch_held) c.in-Some.is;
      has = ap (option_map fetched_of) c.in-Some-fetched.is;
      complete =
          lack-none (lacking_piece a.version replica.pieces fetched) (lacking a.intake (bases_at a.version fetched) fetched.counts)
          (ap (λ (pieces : Pieces). option_map (λ (missing : ℕ × ℕ). missing.1) (lacking_piece a.version pieces fetched)) seen
          ∙ sym c.in_default-missing_piece.ensures)
          (sym c.in_default-missing_frame.ensures);
    } in
    let caught = rw (c.copied-fetched.ensures, ← c.self.view_is) at c.in-Ok.ensures in
    rw (← c.self.view_is) (run-answers replica batch fetched can c.catch_up.new.self c.answer.result c.answer.new.self caught
    c.answer.ensures)

pub returns-in-Err-Inconsistent : goal.returns-in-Err-Inconsistent
returns-in-Err-Inconsistent g c =
    let a = c.self.inside in
    let replica = replica_of g.S.Store.tables g.S.Store.base_shape a in
    let batch = batch_held c.in-Some.batch in
    let fetched = fetched_of c.in-Some-fetched.fetched in
    let seen = seen-pieces g.S.Store.tables g.S.Store.base_shape a c.if-self.false in
    let can : CanAnswer replica batch fetched =
    record {
      whole = c.if-self.false;
      there = ap (option_map batch_held) c.in-Some.is;
      has = ap (option_map fetched_of) c.in-Some-fetched.is;
      complete =
          lack-none (lacking_piece a.version replica.pieces fetched) (lacking a.intake (bases_at a.version fetched) fetched.counts)
          (ap (λ (pieces : Pieces). option_map (λ (missing : ℕ × ℕ). missing.1) (lacking_piece a.version pieces fetched)) seen
          ∙ sym c.in_default-missing_piece.ensures)
          (sym c.in_default-missing_frame.ensures);
    } in
    let cannot = rw (c.in-Err-Inconsistent.field-0-is, c.copied-fetched.ensures, ← c.self.view_is) at c.in-Err-Inconsistent.ensures in
    rw (← c.self.view_is) (run-inconsistent replica batch fetched can c.catch_up.new.self cannot)

pub returns-in-Err-Memory : goal.returns-in-Err-Memory
returns-in-Err-Memory g c =
    let a = c.self.inside in
    let replica = replica_of g.S.Store.tables g.S.Store.base_shape a in
    let batch = batch_held c.in-Some.batch in
    let fetched = fetched_of c.in-Some-fetched.fetched in
    let seen = seen-pieces g.S.Store.tables g.S.Store.base_shape a c.if-self.false in
    let can : CanAnswer replica batch fetched =
    record {
      whole = c.if-self.false;
      there = ap (option_map batch_held) c.in-Some.is;
      has = ap (option_map fetched_of) c.in-Some-fetched.is;
      complete =
          lack-none (lacking_piece a.version replica.pieces fetched) (lacking a.intake (bases_at a.version fetched) fetched.counts)
          (ap (λ (pieces : Pieces). option_map (λ (missing : ℕ × ℕ). missing.1) (lacking_piece a.version pieces fetched)) seen
          ∙ sym c.in_default-missing_piece.ensures)
          (sym c.in_default-missing_frame.ensures);
    } in
    let same = rw (c.in-Err-Memory.field-0-is, ← c.self.view_is) at c.in-Err-Memory.ensures in
    rw (← c.self.view_is) (run-memory replica batch fetched can c.catch_up.new.self same)

pub returns-in-Err-Broken : goal.returns-in-Err-Broken
returns-in-Err-Broken g c =
    let a = c.self.inside in
    let replica = replica_of g.S.Store.tables g.S.Store.base_shape a in
    let batch = batch_held c.in-Some.batch in
    let fetched = fetched_of c.in-Some-fetched.fetched in
    let seen = seen-pieces g.S.Store.tables g.S.Store.base_shape a c.if-self.false in
    let can : CanAnswer replica batch fetched =
    record {
      whole = c.if-self.false;
      there = ap (option_map batch_held) c.in-Some.is;
      has = ap (option_map fetched_of) c.in-Some-fetched.is;
      complete =
          lack-none (lacking_piece a.version replica.pieces fetched) (lacking a.intake (bases_at a.version fetched) fetched.counts)
          (ap (λ (pieces : Pieces). option_map (λ (missing : ℕ × ℕ). missing.1) (lacking_piece a.version pieces fetched)) seen
          ∙ sym c.in_default-missing_piece.ensures)
          (sym c.in_default-missing_frame.ensures);
    } in
    let broken = rw (c.in-Err-Broken.field-0-is, ← c.self.view_is) at c.in-Err-Broken.ensures in
    rw (← c.self.view_is) (run-broken replica batch fetched can c.catch_up.new.self
    (broken.0, subst (λ (fetched : Fetched). a.version < fetched.version) c.copied-fetched.ensures broken.1))
