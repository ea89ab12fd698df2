-- Kept frames that are those of a list of commits are the frames that were cut from it.
use Rattle.std.proofs.Common.{◌≡◌, ℕ, ◌-◌, ◌≤◌, List, length, take, drop, sym, ap, subst, ◌∙◌}
use Rattle.std.specs.Prelude.{slice_index}
use Rattle.std.specs.List.{AllByRecursion}
use Rattle.rows.specs.declared.commit.Commit.{Commit}
use Rattle.rows.specs.Commits.{IsCommit}
use Rattle.update_log.specs.Streams.{frame_count, stream_of}
use Rattle.intake.specs.State.{Arrivals}
use Rattle.intake.specs.Kept.{AreAllKept}
use Rattle.intake.specs.Streams.{AreFrom}
use Rattle.intake.specs.Laws.{KeptAreOfStream}
use Rattle.ordering.specs.Merging.{HoldCommits, IsMerge, frames_in}
use Rattle.ordering.specs.Cutting.{AreFrameCounts, commits_between, frames_cut}
use Rattle.ordering.proofs.Cut.{cut-merges}

kept-cut : KeptAreOfStream → (all : List Arrivals) (commits : List Commit) (from to : ℕ) (lows highs : List ℕ) → AreFrom commits all
    → AreAllKept all lows highs → AreFrameCounts commits from lows → AreFrameCounts commits to highs → (worker : ℕ)
    → frames_in all lows highs worker ≡ frames_cut commits from to worker
kept-cut of_stream all commits from to lows highs are kept low_is high_is worker =
    let low = slice_index lows worker in
    let high = slice_index highs worker in
    let stream = stream_of commits worker in
    of_stream commits all worker low high are (kept worker)
    ∙ ap (λ (n : ℕ). take (high - n) (drop n stream)) (low_is worker)
    ∙ ap (λ (n : ℕ). take (n - frame_count commits worker from) (drop (frame_count commits worker from) stream)) (high_is worker)

pub kept-merge : KeptAreOfStream → (workers : ℕ) (all : List Arrivals) (commits : List Commit) (from to : ℕ) (lows highs : List ℕ)
    → AllByRecursion (IsCommit workers) commits → from ≤ to → to ≤ length commits → AreFrom commits all → AreAllKept all lows highs
    → AreFrameCounts commits from lows → AreFrameCounts commits to highs
    → IsMerge (frames_in all lows highs) from to (commits_between commits from to)
kept-merge of_stream workers all commits from to lows highs each upto there are kept low_is high_is =
    let cut = cut-merges workers commits from to each upto there in
    record {
      counted = cut.counted;
      held = λ worker.
          subst (HoldCommits worker from (commits_between commits from to))
          (sym (kept-cut of_stream all commits from to lows highs are kept low_is high_is worker)) (cut.held worker);
    }
