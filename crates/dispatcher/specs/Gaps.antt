-- Where frames and pieces are missing that a batch waits for.
use Rattle.std.specs.Prelude.{ℕ, zero, suc, ◌+◌, ◌-◌, List, [], ◌∷◌, ◌++◌, Bool, not, ◌&&◌, Option, None, Some, slice_index}
use Rattle.std.specs.Prelude.{if◌then◌else◌}
use Rattle.intake.specs.Known.{is_known, is_ahead}
use Rattle.intake.specs.State.{Arrivals}
use Rattle.dispatcher.specs.State.{Replica, Fetched, Pieces}
use Rattle.dispatcher.specs.Protocol.{by_image, bases_at, fetched_for}
use Rattle.dispatcher.specs.declared.gaps.Gap.{Gap}

-- whether a worker's frame of that seq is not known, and would be kept if it came, with the worker's base
abbrev pub is_missing : List ℕ → (base seq : ℕ) → Bool
is_missing known base seq = not (is_known known seq) && not (is_ahead known base seq)

-- the gaps of a worker among so many seqs from one on: each that is missing, but for those that a gap before it covers, of which so
-- many are left; a gap covers `stride` seqs
abbrev pub gaps_among : (stride worker base : ℕ) → List ℕ → (count seq covered : ℕ) → List Gap
gaps_among stride worker base known zero seq covered = []
gaps_among stride worker base known (suc count) seq (suc covered) = gaps_among stride worker base known count (seq + 1) covered
gaps_among stride worker base known (suc count) seq zero =
    if is_missing known base seq
    then record { worker = worker; seq = seq } ∷ gaps_among stride worker base known count (seq + 1) (stride - 1)
    else gaps_among stride worker base known count (seq + 1) zero

-- the gaps of a worker from its base to before its count
abbrev pub gaps_between : (stride worker : ℕ) → List ℕ → (base count : ℕ) → List Gap
gaps_between stride worker known base count = gaps_among stride worker base known (count - base) base 0

-- the gaps from their bases to before their counts of the workers from that number on; a worker without a count has none. The bases
-- are of all workers, 0 for one without a base
abbrev pub gaps_from : (stride worker : ℕ) → List Arrivals → (bases counts : List ℕ) → List Gap
gaps_from stride worker (arrivals ∷ all) bases (count ∷ counts) =
    gaps_between stride worker arrivals.known (slice_index bases worker) count ++ gaps_from stride (worker + 1) all bases counts
gaps_from stride worker all bases counts = []

-- those from the bases that a batch goes by to below the counts that were fetched for it
abbrev pub gaps_below : ℕ → ℕ → List Arrivals → Option Fetched → List Gap
gaps_below stride version all None = []
gaps_below stride version all (Some fetched) = gaps_from stride 0 all (bases_at version fetched) fetched.counts

-- those of a replica, by worker and seq; a broken one has none
abbrev pub gaps_of : ℕ → Replica → List Gap
gaps_of stride r = if r.broken then [] else gaps_below stride r.version r.arrivals (fetched_for r.batch)

-- the gaps in the pieces of the image that a batch goes by, whose worker is 0
abbrev pub piece_gaps_below : ℕ → ℕ → Pieces → Option Fetched → List Gap
piece_gaps_below stride version pieces None = []
piece_gaps_below stride version pieces (Some fetched) =
    if by_image version fetched then gaps_from stride 0 pieces.arrivals [] (fetched.pieces ∷ []) else []

-- those of a replica, by number; a broken one has none
abbrev pub piece_gaps_of : ℕ → Replica → List Gap
piece_gaps_of stride r = if r.broken then [] else piece_gaps_below stride r.version r.pieces (fetched_for r.batch)

-- the base of the image that a batch goes by, if it does
abbrev pub image_base_below : ℕ → Option Fetched → Option ℕ
image_base_below version None = None
image_base_below version (Some fetched) = if by_image version fetched then Some fetched.base else None

-- that of a replica; a broken one goes by none
abbrev pub image_base_of : Replica → Option ℕ
image_base_of r = if r.broken then None else image_base_below r.version (fetched_for r.batch)
