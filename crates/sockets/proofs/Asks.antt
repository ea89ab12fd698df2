-- What one answer tells of a replica.
use Rattle.std.proofs.Common.{◌≡◌, ℕ, Bool, cond, List, [], ◌∷◌, length, get_or, refl, sym, ap, arith}
use Rattle.std.proofs.lemmas.Bool.{eq-eqb}
use Rattle.wire.specs.declared.out.Out.{Out}
use Rattle.wire.specs.Reading.{reading}
use Rattle.sockets.specs.declared.asked.Asked.{Asked}
use Rattle.sockets.specs.Asking.{noted, noted_if, version_at}
use Rattle.sockets.specs.Primaries.{counts_at, counts_in}

pub noted-one : (asked : List Asked) (bytes : List ℕ) (outs : List Out) (other : Out) → length bytes ≡ 23 → length outs ≡ 1
    → noted_if asked (reading bytes) (version_at (reading (get_or outs 0 other).packet)) ≡ noted asked bytes outs
noted-one asked bytes [] other long one = absurd (omega (arith, one))
noted-one asked bytes (first ∷ second ∷ outs) other long one = absurd (omega (arith, one))
noted-one asked bytes (out ∷ []) other long one =
    ap (λ (test : Bool). cond test (noted_if asked (reading bytes) (version_at (reading out.packet))) asked)
    (sym (eq-eqb (length bytes) 23 long))

-- so it is of the counts that one answer tells
pub counts-one : (outs : List Out) (other : Out) → length outs ≡ 1 → counts_at (reading (get_or outs 0 other).packet) ≡ counts_in outs
counts-one [] other one = absurd (omega (arith, one))
counts-one (out ∷ []) other one = refl
counts-one (first ∷ second ∷ outs) other one = absurd (omega (arith, one))
