-- An image stands for the commits up to its version.
use Rattle.std.proofs.Common.{◌≡◌, ◌+◌, List, [], ◌∷◌, ◌++◌, take, drop, Result, Ok, Err, refl, sym, ap, ◌∙◌}
use Rattle.std.specs.List.{flat_map}
use Rattle.std.proofs.Math.Seq.{take-add}
use Rattle.rows.specs.declared.commit.Commit.{Commit}
use Rattle.rows.specs.Commits.{apply_commits, tables_after}
use Rattle.rows.specs.ImageLaws.{ImagesReplace}
use Rattle.rows.specs.Tables.{Tables, Refusal, opening, apply_entries, and_then}
use Rattle.rows.proofs.Imaging.{versions-imaged}
use Rattle.rows.proofs.Rebuilding.{image-rebuilds}
use Rattle.rows.proofs.TableLaws.{apply_entries-append, apply_commits-append, apply_commits-first}

-- commits change what all their entries change
commits-flat : (tables : Tables) (commits : List Commit)
    → apply_commits tables commits ≡ apply_entries tables (flat_map (λ (commit : Commit). commit.entries) commits)
commits-flat tables [] = refl
commits-flat tables (commit ∷ commits) =
    by (apply_entries tables commit.entries) (λ after. commits-flat after commits)
    ∙ sym (apply_entries-append tables commit.entries (flat_map (λ (commit : Commit). commit.entries) commits))
  where
    by : (first : Result Tables Refusal)
        → ((after : Tables) → apply_commits after commits ≡ apply_entries after (flat_map (λ (commit : Commit). commit.entries) commits))
        → and_then (λ after. apply_commits after commits) first
        ≡ and_then (λ after. apply_entries after (flat_map (λ (commit : Commit). commit.entries) commits)) first
    by (Ok after) same = same after
    by (Err refusal) same = refl

pub images-replace : ImagesReplace
images-replace shape commits image base more spelled defined are =
    let at = tables_after shape commits base in
    let later = take more (drop base commits) in
    let whole =
    ap (apply_commits (opening shape)) (sym (take-add base more commits)) ∙ apply_commits-first shape commits (base + more) defined in
    let first = apply_commits-first shape commits base defined in
    let rebuilt : apply_commits (opening shape) image ≡ Ok at =
    commits-flat (opening shape) image ∙ ap (apply_entries (opening shape)) are
    ∙ image-rebuilds shape at (versions-imaged shape commits base spelled) in
    let behind : (before : List Commit) → apply_commits (opening shape) before ≡ Ok at
    → apply_commits (opening shape) (before ++ later) ≡ apply_commits at later =
    λ before is. apply_commits-append (opening shape) before later ∙ ap (and_then (λ (after : Tables). apply_commits after later)) is in
    behind image rebuilt ∙ sym (behind (take base commits) first) ∙ whole
