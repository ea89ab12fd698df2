-- The laws, for all lists of commits.
use Rattle.dispatcher.proofs.CatchingUp.{Merges}
use Rattle.dispatcher.proofs.Feeding.{Arriving, fresh-fed, commits-feed, truth-stays, bytes-feed, head-goes-on, open-feeds}
use Rattle.dispatcher.proofs.Feeding.{ask-feeds, renew-feeds, same-tables}
use Rattle.dispatcher.proofs.Taking.{Kinds, frame-taken, piece-taken}
use Rattle.dispatcher.proofs.Dumping.{dump-tables}
use Rattle.dispatcher.proofs.Identities.{bytes-keep, open-keeps, ask-keeps, renew-keeps, run-keeps}
use Rattle.dispatcher.proofs.Reports.{run-feeds, run-consistent, answer-reports, ready-answers}
use Rattle.dispatcher.proofs.laws.fed_replicas_stay_fed.Goals as goal

pub returns-clause-fresh : goal.returns-clause-fresh
returns-clause-fresh c =
    let of = c.arrivals_stay_of_streams.ensures in
    let stay = c.known_frames_stay_kept.ensures in
    let gain = c.frames_are_gained.ensures in
    let list = c.arrivals_stay_of_a_list.ensures in
    let laws : Arriving =
    record {
      nothing_from = of.nothing;
      commits_from = of.commits;
      frames_from = of.frames;
      drops_from = of.drops;
      gains_from = of.gains;
      frames_leave = stay.frames_leave;
      drops_leave = stay.drops_leave;
      gains_leave = gain.workers;
      frames_known = stay.known;
      drops_known = stay.drops_known;
      gains_known = gain.known;
      frames_kept = stay.kept;
      drops_kept = stay.drops_kept;
      gains_kept = gain.kept;
      nothing_of = list.nothing;
      frames_of = list.frames;
    } in
    fresh-fed laws

pub returns-clause-commits : goal.returns-clause-commits
returns-clause-commits c =
    let of = c.arrivals_stay_of_streams.ensures in
    let stay = c.known_frames_stay_kept.ensures in
    let gain = c.frames_are_gained.ensures in
    let list = c.arrivals_stay_of_a_list.ensures in
    let laws : Arriving =
    record {
      nothing_from = of.nothing;
      commits_from = of.commits;
      frames_from = of.frames;
      drops_from = of.drops;
      gains_from = of.gains;
      frames_leave = stay.frames_leave;
      drops_leave = stay.drops_leave;
      gains_leave = gain.workers;
      frames_known = stay.known;
      drops_known = stay.drops_known;
      gains_known = gain.known;
      frames_kept = stay.kept;
      drops_kept = stay.drops_kept;
      gains_kept = gain.kept;
      nothing_of = list.nothing;
      frames_of = list.frames;
    } in
    commits-feed laws

pub returns-clause-truth : goal.returns-clause-truth
returns-clause-truth c = truth-stays

pub returns-clause-bytes : goal.returns-clause-bytes
returns-clause-bytes c =
    let of = c.arrivals_stay_of_streams.ensures in
    let stay = c.known_frames_stay_kept.ensures in
    let gain = c.frames_are_gained.ensures in
    let list = c.arrivals_stay_of_a_list.ensures in
    let laws : Arriving =
    record {
      nothing_from = of.nothing;
      commits_from = of.commits;
      frames_from = of.frames;
      drops_from = of.drops;
      gains_from = of.gains;
      frames_leave = stay.frames_leave;
      drops_leave = stay.drops_leave;
      gains_leave = gain.workers;
      frames_known = stay.known;
      drops_known = stay.drops_known;
      gains_known = gain.known;
      frames_kept = stay.kept;
      drops_kept = stay.drops_kept;
      gains_kept = gain.kept;
      nothing_of = list.nothing;
      frames_of = list.frames;
    } in
    bytes-feed laws

pub returns-clause-head : goal.returns-clause-head
returns-clause-head c = head-goes-on

pub returns-clause-frame : goal.returns-clause-frame
returns-clause-frame c =
    let tell = c.changes_tell_kinds.ensures in
    let kinds : Kinds =
    record {
      have_table = c.commits_are_defined_one_by_one.ensures.tables;
      versions = tell.versions;
      stay = tell.tables;
      replace = c.images_rebuild_tables.ensures.replace;
    } in
    frame-taken kinds

pub returns-clause-piece : goal.returns-clause-piece
returns-clause-piece c =
    let tell = c.changes_tell_kinds.ensures in
    let kinds : Kinds =
    record {
      have_table = c.commits_are_defined_one_by_one.ensures.tables;
      versions = tell.versions;
      stay = tell.tables;
      replace = c.images_rebuild_tables.ensures.replace;
    } in
    piece-taken kinds

pub returns-clause-open : goal.returns-clause-open
returns-clause-open c = open-feeds

pub returns-clause-ask : goal.returns-clause-ask
returns-clause-ask c = ask-feeds

pub returns-clause-renew : goal.returns-clause-renew
returns-clause-renew c = renew-feeds

pub returns-clause-run : goal.returns-clause-run
returns-clause-run c =
    let of = c.arrivals_stay_of_streams.ensures in
    let stay = c.known_frames_stay_kept.ensures in
    let gain = c.frames_are_gained.ensures in
    let list = c.arrivals_stay_of_a_list.ensures in
    let laws : Arriving =
    record {
      nothing_from = of.nothing;
      commits_from = of.commits;
      frames_from = of.frames;
      drops_from = of.drops;
      gains_from = of.gains;
      frames_leave = stay.frames_leave;
      drops_leave = stay.drops_leave;
      gains_leave = gain.workers;
      frames_known = stay.known;
      drops_known = stay.drops_known;
      gains_known = gain.known;
      frames_kept = stay.kept;
      drops_kept = stay.drops_kept;
      gains_kept = gain.kept;
      nothing_of = list.nothing;
      frames_of = list.frames;
    } in
    let merge = c.one_merge.ensures in
    let merges : Merges =
    record {
      complete = c.known_frames_stay_kept.ensures.complete;
      only = merge.only;
      kept = merge.kept;
      kept_of = c.arrivals_stay_of_a_list.ensures.kept;
      replace = c.images_rebuild_tables.ensures.replace;
      versions = c.changes_tell_kinds.ensures.versions;
      still_fit = c.plans_still_fit.ensures;
    } in
    run-feeds laws merges

pub returns-clause-consistent : goal.returns-clause-consistent
returns-clause-consistent c =
    let merge = c.one_merge.ensures in
    let merges : Merges =
    record {
      complete = c.known_frames_stay_kept.ensures.complete;
      only = merge.only;
      kept = merge.kept;
      kept_of = c.arrivals_stay_of_a_list.ensures.kept;
      replace = c.images_rebuild_tables.ensures.replace;
      versions = c.changes_tell_kinds.ensures.versions;
      still_fit = c.plans_still_fit.ensures;
    } in
    run-consistent merges

pub returns-clause-report : goal.returns-clause-report
returns-clause-report c =
    let merge = c.one_merge.ensures in
    let merges : Merges =
    record {
      complete = c.known_frames_stay_kept.ensures.complete;
      only = merge.only;
      kept = merge.kept;
      kept_of = c.arrivals_stay_of_a_list.ensures.kept;
      replace = c.images_rebuild_tables.ensures.replace;
      versions = c.changes_tell_kinds.ensures.versions;
      still_fit = c.plans_still_fit.ensures;
    } in
    answer-reports merges

pub returns-clause-ready : goal.returns-clause-ready
returns-clause-ready c =
    let merge = c.one_merge.ensures in
    let merges : Merges =
    record {
      complete = c.known_frames_stay_kept.ensures.complete;
      only = merge.only;
      kept = merge.kept;
      kept_of = c.arrivals_stay_of_a_list.ensures.kept;
      replace = c.images_rebuild_tables.ensures.replace;
      versions = c.changes_tell_kinds.ensures.versions;
      still_fit = c.plans_still_fit.ensures;
    } in
    ready-answers merges

pub returns-clause-tables : goal.returns-clause-tables
returns-clause-tables c = same-tables

pub returns-clause-dump : goal.returns-clause-dump
returns-clause-dump c = dump-tables

pub returns-clause-identity : goal.returns-clause-identity
returns-clause-identity c =
    record { by_bytes = bytes-keep; by_open = open-keeps; by_ask = ask-keeps; by_renew = renew-keeps; by_run = run-keeps }
