-- What `starts_with` says of bytes.
use Rattle.std.proofs.Common.{◌≡◌, ℕ, Bool, true, false, List, ◌++◌, length, drop, refl}
use Rattle.std.specs.Bool.{MatchBool}
use Rattle.std.proofs.lemmas.Bool.{false≢true}
use Rattle.std.proofs.lemmas.Bool.Decides.{Decides-eqb}
use Rattle.std.proofs.lemmas.Slice.Eq.{starts_is}
use Rattle.journal.specs.Recovery.{IsBeginning}
use Rattle.journal.proofs.recovery.begins.Goals as goal

begun : (r : Bool) (front bytes : List ℕ) → (r ≡ true → bytes ≡ front ++ drop (length front) bytes)
    → ((rest : List ℕ) → bytes ≡ front ++ rest → r ≡ true)
    → MatchBool r (IsBeginning front bytes) (¬ IsBeginning front bytes)
begun true front bytes is only = (drop (length front) bytes, is refl)
begun false front bytes is only = λ front_is. false≢true (only front_is.0 front_is.1)

pub returns : goal.returns
returns c =
    let is = starts_is Decides-eqb c.args.bytes.now c.args.front.now c.starts_with.result c.starts_with.ensures.value in
    begun c.starts_with.result c.args.front.now c.args.bytes.now is.0 is.1
