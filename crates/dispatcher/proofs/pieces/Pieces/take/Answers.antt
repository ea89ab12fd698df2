-- A piece is kept as it came, and seen as what it comes to; each that is known is kept.
use Rattle.std.proofs.Common.{List, [], inl, inr, refl, sym, ap, subst, ◌∙◌}
use Rattle.rows.specs.declared.entry.Entry.{Entry}
use Rattle.dispatcher.specs.Images.{piece_frame}
use Rattle.dispatcher.specs.Inner.Held.{entries_in, pieces_in}
use Rattle.dispatcher.proofs.Coming.{Takes, not-taken, takes-workers, takes-kept}
use Rattle.dispatcher.proofs.Waiting.{takes-seen}
use Rattle.dispatcher.proofs.pieces.Pieces.take.Goals as goal

pub invariant_of-self : goal.invariant_of-self
invariant_of-self c =
    let laws = c.known_frames_stay_kept.ensures in
    let is = c.self.invariant in
    let piece = piece_frame c.args.base c.args.number c.args.last c.in-Ok.entries in
    record {
      one =
          takes-workers laws.frames_leave c.self.inside.intake [] piece c.take_owned.result c.take_owned.new.self
          c.take_owned.ensures ∙ is.one;
      kept =
          takes-kept laws.kept c.self.inside.intake [] [] piece c.take_owned.result c.take_owned.new.self is.kept
          c.take_owned.ensures;
    }

pub returns-in_default : goal.returns-in_default
returns-in_default c = record {
  base = refl;
  takes = λ entries is.
      let piece = piece_frame c.args.base c.args.number c.args.last entries in
      inr (not-taken c.args.self.now.arrivals [] piece c.would_take.result (c.would_take.ensures piece refl refl) c.in_default.not-Stored);
}

pub returns-in_default-waiting-clause-takes : goal.returns-in_default-waiting-clause-takes
returns-in_default-waiting-clause-takes c = λ entries is.
    let piece = piece_frame c.args.base c.args.number c.args.last entries in
    inl (refl, refl, sym (c.would_take.ensures piece refl refl) ∙ c.in-Stored.is)

pub returns-clause-takes : goal.returns-clause-takes
returns-clause-takes c = λ entries is.
    let piece = λ (entries : List Entry). piece_frame c.args.base c.args.number c.args.last entries in
    rw (← c.self.view_is)
    (subst
    (λ (entries : List Entry). Takes (pieces_in c.self.inside.intake) [] (piece entries) c.take_owned.result
    (pieces_in c.take_owned.new.self))
    (c.in-Ok.ensures ∙ ap entries_in is)
    (takes-seen c.self.inside.intake [] (piece c.in-Ok.entries) c.take_owned.result c.take_owned.new.self c.take_owned.ensures))
