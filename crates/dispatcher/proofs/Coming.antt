-- What comes of a frame or of a piece, test by test.
use Rattle.std.proofs.Common.{◌≡◌, ℕ, Bool, true, false, cond, List, length, not, ◌||◌, nat_lt, refl, sym, ap, subst, ◌∙◌, ◌⊎◌, inl}
use Rattle.std.proofs.Common.{inr}
use Rattle.std.specs.List.{list_all, slice_set, slice_index}
use Rattle.std.proofs.lemmas.Bool.{cond-true, cond-false}
use Rattle.rows.specs.declared.entry.Entry.{Entry}
use Rattle.rows.specs.Entries.{table_of}
use Rattle.update_log.specs.declared.frame.Frame.{Frame}
use Rattle.intake.specs.declared.taken.Taken.{Taken}
use Rattle.intake.specs.declared.taken.Taken.TheVariants.{Repeat, Ahead, Memory, Stored}
use Rattle.intake.specs.Known.{is_known, is_ahead}
use Rattle.intake.specs.Kept.{AreKeptFrom}
use Rattle.intake.specs.Laws.{FramesLeaveWorkers, FramesStayKept}
use Rattle.intake.specs.State.{Arrivals, arrivals_of}
use Rattle.intake.specs.Steps.{with_frame, taken}
use Rattle.dispatcher.specs.declared.outcome.Got.{Got}
use Rattle.dispatcher.specs.declared.outcome.Got.TheVariants as got
use Rattle.dispatcher.specs.State.{Replica}
use Rattle.dispatcher.specs.Steps.{got_of, have_tables, MayTake}

-- a frame with these entries
abbrev pub the_frame : ℕ → ℕ → ℕ → Bool → List Entry → Frame
the_frame worker seq commit last entries = record { worker = worker; seq = seq; commit = commit; last = last; entries = entries }

-- what an intake makes of a frame
abbrev pub Takes : List Arrivals → List ℕ → Frame → Taken → List Arrivals → Type 0
Takes all bases frame answer new =
    ((answer ≡ Memory) × (new ≡ all) × ((taken all bases frame).0 ≡ Stored)) ⊎ (taken all bases frame ≡ (answer, new))

-- one that is not stored leaves all as it is
not-stored : (all : List Arrivals) (bases : List ℕ) (frame : Frame) → ((taken all bases frame).0 ≡ Stored → ⊥)
    → (taken all bases frame).1 ≡ all
not-stored all bases frame apart =
    by (is_known (arrivals_of all frame.worker).known frame.seq)
    (is_ahead (arrivals_of all frame.worker).known (slice_index bases frame.worker) frame.seq) apart
  where
    stored : List Arrivals
    stored = slice_set all frame.worker (with_frame (arrivals_of all frame.worker) frame)

    by : (repeat ahead : Bool)
        → ((cond {A = Taken × List Arrivals} repeat (Repeat, all) (cond ahead (Ahead, all) (Stored, stored))).0 ≡ Stored → ⊥)
        → (cond {A = Taken × List Arrivals} repeat (Repeat, all) (cond ahead (Ahead, all) (Stored, stored))).1 ≡ all
    by true ahead apart = refl
    by false true apart = refl
    by false false apart = absurd (apart refl)

pub not-taken : (all : List Arrivals) (bases : List ℕ) (frame : Frame) (answer : Taken) → answer ≡ (taken all bases frame).0
    → (answer ≡ Stored → ⊥) → taken all bases frame ≡ (answer, all)
not-taken all bases frame answer is apart =
    ap (λ (answer : Taken). (answer, (taken all bases frame).1)) (sym is)
    ∙ ap (λ (all : List Arrivals). (answer, all)) (not-stored all bases frame (λ e. apart (is ∙ e)))

-- what a replica answers, with what an intake made of it put into its place, unless it is not taken
abbrev pub answer_to : Bool → Replica → (List Arrivals → Replica) → Taken × List Arrivals → Got × Replica
answer_to unfit r put told = cond unfit (got.Ignored, r) (got_of told.0, put told.1)

module _ (r : Replica) (put : List Arrivals → Replica) (all : List Arrivals) (bases : List ℕ) (frame : Frame) (unfit : Bool)
    (own : put all ≡ r) where
  -- one that is not taken
  pub comes-unfit : unfit ≡ true → answer_to unfit r put (taken all bases frame) ≡ (got.Ignored, r)
  comes-unfit h =
      cond-true {A = Got × Replica} unfit (got.Ignored, r) (got_of (taken all bases frame).0, put (taken all bases frame).1) h

  module _ (fits : unfit ≡ false) where
    pub comes : answer_to unfit r put (taken all bases frame) ≡ (got_of (taken all bases frame).0, put (taken all bases frame).1)
    comes =
        cond-false {A = Got × Replica} unfit (got.Ignored, r) (got_of (taken all bases frame).0, put (taken all bases frame).1) fits

    -- one that the intake does not store
    pub comes-apart : (answer : Taken) (result : Got) → answer ≡ (taken all bases frame).0 → (answer ≡ Stored → ⊥)
        → result ≡ got_of answer → answer_to unfit r put (taken all bases frame) ≡ (result, r)
    comes-apart answer result is apart same =
        comes
        ∙ ap (λ (answer : Taken). (got_of answer, put (taken all bases frame).1)) (sym is)
        ∙ ap (λ (all : List Arrivals). (got_of answer, put all)) (not-stored all bases frame (λ e. apart (is ∙ e)))
        ∙ ap (λ (r : Replica). (got_of answer, r)) own
        ∙ ap (λ (got : Got). (got, r)) (sym same)

    -- one that it would store
    pub comes-stored : Stored ≡ (taken all bases frame).0 → (answer_to unfit r put (taken all bases frame)).0 ≡ got.Stored
    comes-stored is = ap (λ (answer : Got × Replica). answer.0) comes ∙ ap got_of (sym is)

    -- one that it took, or had no memory for
    pub comes-taken : (answer : Taken) (new : List Arrivals) (result : Got) → Takes all bases frame answer new → result ≡ got_of answer
        → MayTake r (answer_to unfit r put (taken all bases frame)) result (put new)
    comes-taken answer new result (inl memory) same =
        inl (same ∙ ap got_of memory.0, ap put memory.1 ∙ own, comes-stored (sym memory.2))
    comes-taken answer new result (inr took) same =
        inr (comes
        ∙ ap (λ (told : Taken × List Arrivals). (got_of told.0, put told.1)) took
        ∙ ap (λ (got : Got). (got, put new)) (sym same))

-- ---- which are not taken

-- where the tables of all entries are among so many
abbrev pub all_there : List Entry → ℕ → Bool
all_there entries tables = list_all (λ (entry : Entry). nat_lt (table_of entry) tables) entries

-- by whether something else keeps it from being taken, and whether its tables are there
pub unfit-is : (r : Replica) (entries : List Entry) (tables : ℕ) (else there fit : Bool) → length r.tables ≡ tables → else ≡ there
    → all_there entries tables ≡ fit
    → (not else || not (have_tables r entries)) ≡ (not there || not fit)
unfit-is r entries tables else there fit seen here fits =
    ap (λ (n : ℕ). not else || not (all_there entries n)) seen
    ∙ ap (λ (b : Bool). not else || not b) fits
    ∙ ap (λ (b : Bool). not b || not fit) here

-- ---- what is kept

-- there are as many workers
pub takes-workers : FramesLeaveWorkers → (all : List Arrivals) (bases : List ℕ) (frame : Frame) (answer : Taken) (new : List Arrivals)
    → Takes all bases frame answer new → length new ≡ length all
takes-workers law all bases frame answer new (inl memory) = ap length memory.1
takes-workers law all bases frame answer new (inr took) =
    ap (λ (told : Taken × List Arrivals). length told.1) (sym took) ∙ law all bases frame

-- and what was kept stays kept
pub takes-kept : FramesStayKept → (all : List Arrivals) (lows bases : List ℕ) (frame : Frame) (answer : Taken) (new : List Arrivals)
    → AreKeptFrom all lows → Takes all bases frame answer new → AreKeptFrom new lows
takes-kept law all lows bases frame answer new kept (inl memory) =
    subst (λ (all : List Arrivals). AreKeptFrom all lows) (sym memory.1) kept
takes-kept law all lows bases frame answer new kept (inr took) =
    subst (λ (told : Taken × List Arrivals). AreKeptFrom told.1 lows) took (law all lows bases frame kept)
