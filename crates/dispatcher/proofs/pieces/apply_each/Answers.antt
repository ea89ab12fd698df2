-- One piece more is moved, and the part is applied where it is full.
use Rattle.std.proofs.Common.{◌≡◌, ℕ, ◌<◌, List, [], ◌∷◌, ◌++◌, length, vec_capacity, refl, sym, ap, subst, ◌∙◌, arith}
use Rattle.rows.specs.declared.commit.Commit.{Commit}
use Rattle.rows.specs.declared.entry.Entry.{Entry}
use Rattle.update_log.specs.declared.frame.Frame.{Frame}
use Rattle.dispatcher.specs.Inner.Held.{waiting_entries}
use Rattle.dispatcher.proofs.Parting.{applied-begins, applied-more, applied-fails, applied-ends, room-left}
use Rattle.dispatcher.proofs.pieces.apply_each.Goals as goal

-- the entries that came are those that waited
came-so : (more part : List Commit) (entries read : List Entry) (piece : Frame)
    → more ≡ part ++ record { worker = 0; entries = entries } ∷ [] → entries ≡ waiting_entries read → read ≡ piece.entries
    → more ≡ part ++ record { worker = 0; entries = waiting_entries piece.entries } ∷ []
came-so more part entries read piece pushed came is =
    pushed ∙ ap (λ (entries : List Entry). part ++ record { worker = 0; entries = entries } ∷ []) (came ∙ ap waiting_entries is)

pub loop-number-init : goal.loop-number-init
loop-number-init g c = record {
  applied =
      applied-begins c.args.intake.now c.args.pieces (g.S.Store.tables c.args.store.now) c.args.part.now.items c.requires.empty
      c.requires.there;
  whole = c.requires.whole;
  base = refl;
  capacity = refl;
  few =
      subst (λ (commits : List Commit). length commits < vec_capacity c.args.part.now) (sym c.requires.empty) c.requires.room;
}

pub returns-in-Err-clause-err : goal.returns-in-Err-clause-err
returns-in-Err-clause-err g c =
    let laws = c.arrivals_stay_of_a_list.ensures in
    let so = c.loop-number.invariant in
    let pushed =
    came-so c.push_reserved.new.self.items c.loop-number.part.items c.in-Ok.entries c.as_slice.result.now c.in-Some.piece
    c.push_reserved.ensures.items c.in-Ok.ensures c.as_slice.ensures in
    applied-fails laws.released c.args.intake.now c.loop-number.intake c.release.new.self c.args.pieces c.loop-number.number
    (g.S.Store.tables c.args.store.now) (g.S.Store.tables c.loop-number.store) c.loop-number.part.items
    c.push_reserved.new.self.items c.in-Some.piece so.applied c.loop-number-test.true
    (sym c.release.ensures.frame ∙ c.in-Some.is) c.release.ensures.left
    (ap length c.release.ensures.left ∙ laws.workers c.loop-number.intake 0 c.loop-number.number) pushed
    c.in-Err.fault _ _ c.in-Err.ensures.err

pub loop-number-preserved : goal.loop-number-preserved
loop-number-preserved g c =
    let laws = c.arrivals_stay_of_a_list.ensures in
    let so = c.loop-number.invariant in
    let room = c.push_reserved.ensures.capacity ∙ so.capacity in
    let pushed =
    came-so c.push_reserved.new.self.items c.loop-number.part.items c.in-Ok.entries c.as_slice.result.now c.in-Some.piece
    c.push_reserved.ensures.items c.in-Ok.ensures c.as_slice.ensures in
    let workers = ap length c.release.ensures.left ∙ laws.workers c.loop-number.intake 0 c.loop-number.number in
    record {
      applied =
          applied-more laws.released c.args.intake.now c.loop-number.intake c.release.new.self c.args.pieces c.loop-number.number
          (g.S.Store.tables c.args.store.now) (g.S.Store.tables c.loop-number.store) c.loop-number.part.items
          c.push_reserved.new.self.items c.in-Some.piece so.applied c.loop-number-test.true
          (sym c.release.ensures.frame ∙ c.in-Some.is) c.release.ensures.left workers pushed
          _ _ _ _ refl c.in-Ok-apply_part.ensures.ok;
      whole = c.in-Ok-apply_part.ensures.stays_whole;
      base = c.apply_part.ensures.base ∙ so.base;
      capacity = c.apply_part.ensures.capacity ∙ room;
      few =
          subst (λ (capacity : ℕ). length c.apply_part.new.part.items < capacity) room
          (room-left laws.released c.args.intake.now c.loop-number.intake c.release.new.self c.args.pieces c.loop-number.number
          (g.S.Store.tables c.args.store.now) (g.S.Store.tables c.loop-number.store) c.loop-number.part.items
          c.push_reserved.new.self.items c.in-Some.piece so.applied c.loop-number-test.true
          (sym c.release.ensures.frame ∙ c.in-Some.is) c.release.ensures.left workers pushed
          _ _ _ _ (subst (λ (capacity : ℕ). 0 < capacity) (sym room) c.requires.room) c.in-Ok-apply_part.ensures.ok);
    }

pub returns-clause-ok : goal.returns-clause-ok
returns-clause-ok g c =
    let past = c.loop-number-test.false in
    applied-ends c.args.intake.now c.loop-number.intake c.args.pieces c.loop-number.number (g.S.Store.tables c.args.store.now)
    (g.S.Store.tables c.loop-number.store) c.loop-number.part.items c.loop-number.invariant.applied (omega (arith, past))
