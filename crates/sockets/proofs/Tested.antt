-- What bytes read as, by the tests of their parts.
use Rattle.std.proofs.Common.{Bool, true, false, cond, not, ◌||◌, ◌==◌, ℕ, List, length, drop, Result, Err, nat_lt}
use Rattle.std.specs.List.{slice_index}
use Rattle.std.specs.Option.{ok_or}
use Rattle.byteorder.specs.Endian.{big_number}
use Rattle.rows.specs.declared.limits.TheConstants.{DATAGRAM_MAX}
use Rattle.wire.specs.declared.datagram.Datagram.{Datagram}
use Rattle.wire.specs.declared.faults.WireFault.{WireFault}
use Rattle.wire.specs.declared.faults.WireFault.TheVariants.{Short, Magic, Version, Kind, Length, Body}
use Rattle.wire.specs.Reading.{reading, is_unknown, body_at}

-- what holds of each fault, and of what the body may be, holds of what bytes read as
pub tested : (P : Result Datagram WireFault → Type 0) (bytes : List ℕ) → ((fault : WireFault) → P (Err fault))
    → P (ok_or (body_at (slice_index bytes 3) (drop 6 bytes)) Body) → P (reading bytes)
tested P bytes faults read =
    by (nat_lt (length bytes) 6) (not (big_number 2 bytes == 0x4244)) (not (slice_index bytes 2 == 3)) (is_unknown (slice_index bytes 3))
    (not (big_number 2 (drop 4 bytes) == length bytes) || nat_lt DATAGRAM_MAX (length bytes))
  where
    by : (a b c d e : Bool) → P (cond a (Err Short)
        (cond b (Err Magic) (cond c (Err Version)
        (cond d (Err Kind) (cond e (Err Length) (ok_or (body_at (slice_index bytes 3) (drop 6 bytes)) Body))))))
    by true b c d e = faults Short
    by false true c d e = faults Magic
    by false false true d e = faults Version
    by false false false true e = faults Kind
    by false false false false true = faults Length
    by false false false false false = read
