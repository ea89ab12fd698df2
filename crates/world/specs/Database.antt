-- What reports promise, on one page: a list of commits that only grows, and for each replica a version and at most one batch.
-- Reports and dumps are specified by the list alone. How datagrams, journals and memory bring that about is left out here.
use Rattle.std.specs.Prelude.{◌≡◌, ℕ, ◌≤◌, List, [], ◌∷◌, length, replicate, Option, None, Some, slice_get, slice_set, ◌⊎◌}
use Rattle.rows.specs.declared.commit.Commit.{Commit}
use Rattle.rows.specs.declared.kind.Kind.{Kind}
use Rattle.rows.specs.Shape.{shape_of}
use Rattle.rows.specs.Commits.{tables_after}
use Rattle.journal.specs.Recovery.{IsBeginning}
use Rattle.queries.specs.declared.plan.Plan.{Plan}
use Rattle.dispatcher.specs.Report.{report_of}
use Rattle.dispatcher.specs.TableText.{names_of, table_text}
use Rattle.script.specs.declared.output.Output.{Output}
use Rattle.script.specs.declared.output.Output.TheVariants as outputs

-- a replica: its version; and, if it has a batch, the queries of it, how many commits were durable when they asked, and the
-- version that was fetched for them
pub record Reader : Type 0 where
  pub version : ℕ
  pub batch : Option (List Plan × ℕ × Option ℕ)

-- the commits that are durable, and the replicas
pub record Database : Type 0 where
  pub commits : List Commit
  pub readers : List Reader

-- a replica at its start
abbrev pub new_reader : Reader
new_reader = record { version = 0; batch = None }

-- the database at its start, with what is durable then, and with so many replicas
abbrev pub new_database : List Commit → ℕ → Database
new_database commits replicas = record { commits = commits; readers = replicate replicas new_reader }

-- a version at which a batch may be answered: no older than the replica's, at least as new as the list was when the batch asked,
-- and one of the list
abbrev pub MayServe : List Commit → Reader → ℕ → ℕ → Type 0
MayServe commits reader asked_at version = (reader.version ≤ version) × (asked_at ≤ version) × (version ≤ length commits)

-- the queries of a replica ask
abbrev pub HasAsked : List Commit → Reader → Reader → Type 0
HasAsked commits old new =
    (plans : List Plan) × (old.batch ≡ None) × (new ≡ record old { batch = Some (plans, length commits, None) })

-- a version is fetched for a batch
abbrev pub IsFetched : List Commit → ℕ → Reader → Reader → Type 0
IsFetched commits version old new =
    (plans : List Plan) × (asked_at : ℕ) × (old.batch ≡ Some (plans, asked_at, None))
    × MayServe commits old asked_at version × (new ≡ record old { batch = Some (plans, asked_at, Some version) })

-- a replica goes to the version that was fetched for its batch, but the run was out of memory before it reported
abbrev pub IsMoved : List Commit → Reader → Reader → Type 0
IsMoved commits old new =
    (plans : List Plan) × (asked_at version : ℕ) × (old.batch ≡ Some (plans, asked_at, Some version))
    × MayServe commits old asked_at version × (new ≡ record old { version = version })

-- one replica becomes another
abbrev pub Becomes : (Reader → Reader → Type 0) → List Reader → List Reader → Type 0
Becomes May old new =
    (number : ℕ) × (reader changed : Reader) × (slice_get old number ≡ Some reader) × May reader changed
    × (new ≡ slice_set old number changed)

-- a batch is answered: at the version that was fetched for it, by the tables after that many commits
abbrev pub IsAnswered : List (List ℕ × List Kind) → List Commit → List ℕ → Reader → Reader → Type 0
IsAnswered schema commits text old new =
    (plans : List Plan) × (asked_at version : ℕ) × (old.batch ≡ Some (plans, asked_at, Some version))
    × MayServe commits old asked_at version
    × (text ≡ report_of (tables_after (shape_of schema) commits version) version plans)
    × (new ≡ record { version = version; batch = None })

-- a dump is the tables of a replica at its version
abbrev pub IsDumped : List (List ℕ × List Kind) → List Commit → List ℕ → Reader → Type 0
IsDumped schema commits text reader =
    (reader.version ≤ length commits)
    × (text ≡ table_text (names_of schema) reader.version (tables_after (shape_of schema) commits reader.version))

-- what an output says, and what becomes of the replicas: none goes back to an older version, unless it starts anew, which `boot`
-- reports
abbrev pub Says : List (List ℕ × List Kind) → Database → Output → List Reader → Type 0
Says schema old (outputs.Report text) new = Becomes (IsAnswered schema old.commits text) old.readers new
Says schema old (outputs.Dump text) new =
    (number : ℕ) × (reader : Reader) × (slice_get old.readers number ≡ Some reader) × IsDumped schema old.commits text reader
    × (new ≡ old.readers)
Says schema old (outputs.Version version) new =
    (number : ℕ) × (reader : Reader) × (slice_get old.readers number ≡ Some reader) × (version ≡ reader.version) × (new ≡ old.readers)
Says schema old (outputs.Sent sent) new = (new ≡ old.readers) ⊎ Becomes (HasAsked old.commits) old.readers new
Says schema old (outputs.Head version) new = Becomes (IsFetched old.commits version) old.readers new
Says schema old outputs.Memory new = (new ≡ old.readers) ⊎ Becomes (IsMoved old.commits) old.readers new
Says schema old (outputs.Boot boot) new = Becomes (λ old new. new ≡ new_reader) old.readers new
Says schema old other new = new ≡ old.readers

-- one step, whatever the event: the commits that were there are a beginning of those that are
abbrev pub IsDatabaseStep : List (List ℕ × List Kind) → Database → Output → Database → Type 0
IsDatabaseStep schema old output new = IsBeginning old.commits new.commits × Says schema old output new.readers

-- a run: a step for each output, each from the database that the one before it left
abbrev pub IsDatabaseRun : List (List ℕ × List Kind) → Database → List Output → Database → Type 0
IsDatabaseRun schema old [] new = new ≡ old
IsDatabaseRun schema old (output ∷ outputs) new =
    (mid : Database) × IsDatabaseStep schema old output mid × IsDatabaseRun schema mid outputs new

-- the promise: the outputs are those of a run of a database that has these commits at its start, and so many replicas
abbrev pub IsPromised : List (List ℕ × List Kind) → List Commit → ℕ → List Output → Type 0
IsPromised schema commits replicas outputs = (end : Database) × IsDatabaseRun schema (new_database commits replicas) outputs end
