-- Each test of the code is that of `piece_comes`, in the same order.
use Rattle.std.proofs.Common.{◌≡◌, ℕ, Bool, true, false, cond, not, ◌||◌, List, [], inr, length, refl, sym, ap, subst, ◌∙◌}
use Rattle.update_log.specs.declared.frame.Frame.{Frame}
use Rattle.intake.specs.State.{Arrivals}
use Rattle.dispatcher.specs.Images.{piece_frame}
use Rattle.dispatcher.specs.Inner.Invariant.{replica_of}
use Rattle.dispatcher.specs.Protocol.{fetched_for, wants_piece}
use Rattle.dispatcher.specs.State.{Replica, Pieces, no_pieces}
use Rattle.dispatcher.specs.Steps.{have_tables, piece_comes, MayTake}
use Rattle.dispatcher.proofs.Coming.{Takes, all_there, unfit-is, comes-unfit, comes-taken}
use Rattle.dispatcher.proofs.Standing.{seen-many, seen-pieces}
use Rattle.dispatcher.proofs.replica_core.ReplicaCore.take_piece.Goals as goal

abbrev put : Replica → List Arrivals → Replica
put r all = record r { pieces = record r.pieces { arrivals = all } }

abbrev unfit : Replica → Frame → Bool
unfit r piece = not (wants_piece r.version (fetched_for r.batch) piece.commit piece.seq) || not (have_tables r piece.entries)

-- a whole replica is seen with what came of the pieces
pieces-put : (broken : Bool) (old new : Pieces) → broken ≡ false → new.base ≡ old.base
    → record (cond broken (no_pieces old.base) old) { arrivals = new.arrivals } ≡ cond broken (no_pieces new.base) new
pieces-put true old new h same = absurd (cc)
pieces-put false old new h same = ap (λ (base : ℕ). record { base = base; arrivals = new.arrivals }) (sym same)

pub returns-then-not-have_table : goal.returns-then-not-have_table
returns-then-not-have_table g c =
    let replica = replica_of g.S.Store.tables g.S.Store.base_shape c.self.inside in
    let piece = piece_frame c.args.base c.args.number c.args.last c.args.entries.now in
    let whole : c.self.inside.broken ≡ false = rw (← c.self.view_is) at c.requires.whole in
    let seen = seen-many g.S.Store.is_whole g.S.Store.tables g.S.Store.base_shape c.self.inside c.self.invariant whole in
    let is =
    unfit-is replica c.args.entries.now (length c.self.inside.schema)
    (wants_piece c.self.inside.version (fetched_for replica.batch) c.args.base c.args.number) true _ seen
    (sym c.wants_piece.ensures ∙ c.if-not-wants_piece.false)
    (sym (c.have_table.ensures ∙ ap (all_there c.args.entries.now) c.len.ensures) ∙ c.if-not-have_table.true) in
    rw (← c.self.view_is) (inr (comes-unfit replica (put replica) replica.pieces.arrivals [] piece (unfit replica piece) refl is))

pub returns : goal.returns
returns g c =
    let replica = replica_of g.S.Store.tables g.S.Store.base_shape c.self.inside in
    let piece = piece_frame c.args.base c.args.number c.args.last c.args.entries.now in
    let whole : c.self.inside.broken ≡ false = rw (← c.self.view_is) at c.requires.whole in
    let seen = seen-many g.S.Store.is_whole g.S.Store.tables g.S.Store.base_shape c.self.inside c.self.invariant whole in
    let pieces : replica.pieces ≡ c.self.inside.pieces =
    seen-pieces g.S.Store.tables g.S.Store.base_shape c.self.inside whole in
    let is =
    unfit-is replica c.args.entries.now (length c.self.inside.schema)
    (wants_piece c.self.inside.version (fetched_for replica.batch) c.args.base c.args.number) true _ seen
    (sym c.wants_piece.ensures ∙ c.if-not-wants_piece.false)
    (sym (c.have_table.ensures ∙ ap (all_there c.args.entries.now) c.len.ensures) ∙ c.if-not-have_table.false) in
    let took =
    subst (λ (pieces : Pieces). Takes pieces.arrivals [] piece c.take.result c.take.new.self.arrivals) (sym pieces)
    (c.take.ensures.takes c.args.entries.now c.requires.spelled) in
    let put_is =
    pieces-put c.self.inside.broken c.self.inside.pieces c.take.new.self whole c.take.ensures.base in
    rw (← c.self.view_is)
    (subst (λ (pieces : Pieces). MayTake replica (piece_comes replica piece) c.got_of.result (record replica { pieces = pieces })) put_is
    (comes-taken replica (put replica) replica.pieces.arrivals [] piece (unfit replica piece) refl is c.take.result
    c.take.new.self.arrivals c.got_of.result took c.got_of.ensures))
