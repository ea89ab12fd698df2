-- The commit can be cut where it stands behind the base, and its frames go behind those of its worker.
use Rattle.std.proofs.Common.{◌≡◌, ◌+◌, ◌-◌, [], ◌∷◌, ◌++◌, length, drop, refl, sym, ap, subst, ◌∙◌, arith}
use Rattle.std.proofs.lemmas.List.{length-drop}
use Rattle.rows.specs.declared.commit.Commit.{Commit}
use Rattle.mvcc.specs.VersionList.{VersionList}
use Rattle.update_log.specs.Frames.{IsCuttable}
use Rattle.update_log.specs.Streams.{AreStreamsOf, stream_at, next_frames}
use Rattle.primary.specs.Inner.Tail.{IsTailOf}
use Rattle.primary.proofs.Behind.{total-at, tail-more}
use Rattle.primary.proofs.keeping.keep.Goals as goal

pub reserve-requires-clause-cuttable : goal.reserve-requires-clause-cuttable
reserve-requires-clause-cuttable c =
    let kept = c.requires.tail in
    let worker = c.args.worker in
    record {
      worker_below = c.requires.there;
      numbered = omega arith;
      spelled = c.requires.spelled;
      seqs_below = omega (
        arith,
        c.requires.countable,
        kept.framed.counted worker,
        total-at c.streams_go_on.ensures c.args.versions.now.commits worker c.args.tail.now.base,
      );
    }

pub returns-clause-tail : goal.returns-clause-tail
returns-clause-tail c =
    let tail = c.args.tail.now in
    let kept = c.requires.tail in
    let worker = c.args.worker in
    let commits = c.args.versions.now.commits in
    let commit : Commit = record { worker = worker; entries = c.args.entries.now } in
    let behind = drop tail.base commits in
    let number : c.len.result - tail.base + 1 ≡ length behind + 1 =
    omega (arith, c.len.ensures, kept.within, length-drop tail.base commits) in
    let was : AreStreamsOf c.reserve.new.self.streams behind =
    subst (λ streams. AreStreamsOf streams behind) (sym c.reserve.ensures.same) kept.framed in
    let cuttable : IsCuttable commit (length behind + 1) (length (stream_at c.reserve.new.self.streams worker)) = record {
      worker_below = c.requires.there;
      numbered = omega arith;
      spelled = c.requires.spelled;
      seqs_below = omega (
        arith,
        c.requires.countable,
        was.counted worker,
        total-at c.streams_go_on.ensures commits worker tail.base,
      );
    } in
    let framed = c.add.ensures.commits behind commit was cuttable (omega (arith, c.requires.numbered, length-drop tail.base commits))
    (c.in_ok-next.ensures.frames ∙ ap (next_frames commit) number) in
    let more : c.absorb.new.self.commits ≡ commits ++ commit ∷ [] = ap (λ (h : VersionList). h.commits) c.in_ok-absorb.ensures.ok in
    subst (IsTailOf _) (sym more) (tail-more tail _ commits commit kept refl refl framed)
