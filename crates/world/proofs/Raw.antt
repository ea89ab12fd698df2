-- Bytes that are not forged are no datagram, or those of one that was sent.
use Rattle.std.proofs.Common.{◌≡◌, ℕ, suc, Bool, true, false, not, ◌&&◌, ◌||◌, List, [], ◌∷◌, Some, Result, Ok, Err, refl, sym, ap, subst}
use Rattle.std.proofs.Common.{◌∙◌}
use Rattle.std.specs.List.{slice_get, list_any}
use Rattle.std.specs.Result.{is_ok}
use Rattle.std.specs.Str.{bytes_eq}
use Rattle.std.proofs.lemmas.Bool.{false≢true}
use Rattle.std.proofs.lemmas.Slice.Eq.{bytes_eq-Decides}
use Rattle.wire.specs.declared.datagram.Datagram.{Datagram}
use Rattle.wire.specs.declared.faults.WireFault.{WireFault}
use Rattle.wire.specs.Reading.{reading}
use Rattle.world.specs.Steps.{is_forged}

-- these bytes are those of the first datagram, or of one of the others
one-of : (P : Result Datagram WireFault → Type 0) (other bytes : List ℕ) (same rest : Bool) → bytes_eq other bytes ≡ same
    → P (reading other) → (rest ≡ true → P (reading bytes)) → (same || rest) ≡ true → P (reading bytes)
one-of P other bytes true rest e here later found = subst (λ (b : List ℕ). P (reading b)) ((bytes_eq-Decides other bytes).0 e) here
one-of P other bytes false rest e here later found = later found

-- what holds of each datagram that was sent holds of one of these bytes
sent-one : (P : Result Datagram WireFault → Type 0) (sent : List (List ℕ)) (bytes : List ℕ)
    → ((i : ℕ) (other : List ℕ) → slice_get sent i ≡ Some other → P (reading other))
    → list_any (λ other. bytes_eq other bytes) sent ≡ true → P (reading bytes)
sent-one P [] bytes each found = absurd (false≢true found)
sent-one P (other ∷ sent) bytes each found =
    one-of P other bytes (bytes_eq other bytes) (list_any (λ other. bytes_eq other bytes) sent) refl (each 0 other refl)
    (sent-one P sent bytes (λ i next here. each (suc i) next here)) found

-- what holds of bytes that are no datagram, and of each that was sent, holds of bytes that are not forged
pub unforged : (P : Result Datagram WireFault → Type 0) (sent : List (List ℕ)) (bytes : List ℕ) → ((fault : WireFault) → P (Err fault))
    → ((i : ℕ) (other : List ℕ) → slice_get sent i ≡ Some other → P (reading other)) → is_forged sent bytes ≡ false → P (reading bytes)
unforged P sent bytes none each h = by (reading bytes) refl
  where
    among : Bool
    among = list_any (λ other. bytes_eq other bytes) sent

    by : (read : Result Datagram WireFault) → reading bytes ≡ read → P read
    by (Err fault) e = none fault
    by (Ok datagram) e = subst P e (sent-one P sent bytes each (found among refl))
      where
        found : (b : Bool) → among ≡ b → among ≡ true
        found true is = is
        found false is = absurd (false≢true (sym h ∙ ap (λ (r : Result Datagram WireFault). is_ok r && not among) e ∙ ap not is))
