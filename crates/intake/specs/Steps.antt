-- One step: what each call answers, and what it leaves.
use Rattle.std.specs.Prelude.{ℕ, ◌+◌, List, [], ◌∷◌, Option, None, Some, nat_lt, nat_le, replicate, slice_set, slice_index, if◌then◌else◌}
use Rattle.std.specs.List.{filter}
use Rattle.std.specs.Ordering.{nat_cmp}
use Rattle.std.specs.BTreeMap.{insert_entry, is_at}
use Rattle.std.specs.Map.{remove_entry}
use Rattle.update_log.specs.declared.frame.Frame.{Frame}
use Rattle.intake.specs.declared.taken.Taken.{Taken}
use Rattle.intake.specs.declared.taken.Taken.TheVariants.{Repeat, Ahead, Stored}
use Rattle.intake.specs.Known.{is_known, with_seq, with_below, first_missing_from, is_ahead}
use Rattle.intake.specs.State.{Arrivals, nothing, arrivals_of}

-- so many workers of whom nothing has come
abbrev pub no_arrivals : ℕ → List Arrivals
no_arrivals workers = replicate workers nothing

-- what has come of a worker, and one more frame of it
abbrev pub with_frame : Arrivals → Frame → Arrivals
with_frame arrivals frame = record {
  known = with_seq arrivals.known frame.seq;
  kept = insert_entry nat_cmp arrivals.kept frame.seq frame;
}

-- a frame that comes, with the workers' bases, 0 for a worker without one: what is answered, and what has come then. Being
-- out of memory aside
abbrev pub taken : List Arrivals → List ℕ → Frame → Taken × List Arrivals
taken all bases frame =
    let arrivals : Arrivals = arrivals_of all frame.worker in
    if is_known arrivals.known frame.seq then (Repeat, all) else
    if is_ahead arrivals.known (slice_index bases frame.worker) frame.seq then (Ahead, all) else
    (Stored, slice_set all frame.worker (with_frame arrivals frame))

-- the first seq of a worker that is missing at or above its base, of the bases by worker
abbrev pub missing_at : List ℕ → ℕ → Arrivals → ℕ
missing_at bases worker arrivals = first_missing_from arrivals.known (slice_index bases worker)

-- of the workers from this number on, the least whose first missing seq at or above its base is below its count, with that
-- seq; a worker without a count lacks none. The bases are of all workers
abbrev pub lacking_from : ℕ → List Arrivals → List ℕ → List ℕ → Option (ℕ × ℕ)
lacking_from worker (arrivals ∷ all) bases (count ∷ counts) =
    if nat_lt (missing_at bases worker arrivals) count then Some (worker, missing_at bases worker arrivals)
    else lacking_from (worker + 1) all bases counts
lacking_from worker all bases counts = None

-- the least worker whose first missing seq at or above its base is below its count, with that seq
abbrev pub lacking : List Arrivals → List ℕ → List ℕ → Option (ℕ × ℕ)
lacking all bases counts = lacking_from 0 all bases counts

-- what has come of a worker, if every seq below a base is known besides
abbrev pub known_below : Arrivals → ℕ → Arrivals
known_below arrivals base = record arrivals { known = with_below arrivals.known base }

-- what has come once each worker's frames below its base are known; if there is no base for a worker, nothing of it changes
abbrev pub gained : List Arrivals → List ℕ → List Arrivals
gained all [] = all
gained [] (base ∷ bases) = []
gained (arrivals ∷ all) (base ∷ bases) = known_below arrivals base ∷ gained all bases

-- what has come of a worker once its frames below a seq are forgotten: they stay known
abbrev pub without_below : Arrivals → ℕ → Arrivals
without_below arrivals count = record arrivals { kept = filter (λ entry. nat_le count entry.0) arrivals.kept }

-- what has come once each worker's frames below its count are forgotten; if there is no count for a worker, all of its stay
abbrev pub dropped : List Arrivals → List ℕ → List Arrivals
dropped [] counts = []
dropped (arrivals ∷ all) [] = arrivals ∷ all
dropped (arrivals ∷ all) (count ∷ counts) = without_below arrivals count ∷ dropped all counts

-- what has come of a worker once the frame of a seq is handed out: it stays known
abbrev pub without_frame : Arrivals → ℕ → Arrivals
without_frame arrivals seq = record arrivals { kept = remove_entry (is_at (nat_cmp seq)) arrivals.kept }

-- what has come once the frame of a worker's seq is handed out
abbrev pub released : List Arrivals → ℕ → ℕ → List Arrivals
released all worker seq = slice_set all worker (without_frame (arrivals_of all worker) seq)
