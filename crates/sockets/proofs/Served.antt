-- What a node has done while it served, one stretch after another.
use Rattle.std.proofs.Common.{◌≡◌, ℕ, List, [], ◌∷◌, ◌++◌, Bool, sym, subst}
use Rattle.std.proofs.lemmas.Grind.{flat_map-append}
use Rattle.wire.specs.declared.out.Out.{Out}
use Rattle.sockets.specs.Carrying.{Sending, Carried}
use Rattle.sockets.specs.Serving.{Act, DoesAll, heard_in, sendings_in, Serves}
use Rattle.sockets.proofs.Carried.{carried_nothing, carried_then}

module _ {S C : Type 0} (makes : S → C → S → Type 0) (says : C → List Out) where
  pub does_all_then : (first second : List (Act C)) (a b c : S)
      → DoesAll makes says a first b → DoesAll makes says b second c → DoesAll makes says a (first ++ second) c
  does_all_then [] second a b c one two = subst (λ (s : S). DoesAll makes says s second c) one two
  does_all_then (act ∷ acts) second a b c one two =
      (one.0, one.1, one.2, does_all_then acts second one.0 b c one.3 two)

  module _ {P : Type 0} (hears : C → List (List ℕ)) (honest : Bool) (came : P → List (List ℕ)) (sent : P → List Out) (faults : P → ℕ) where
    pub serves_nothing : (a : P) (r s : S) → s ≡ r → Serves makes hears says honest came sent faults a a r s [] 0
    serves_nothing a r s same = record { done = same; carried = carried_nothing honest came sent faults a }

    pub serves_then : (a b c : P) (r s t : S) (first second : List (Act C)) (failures : ℕ)
        → Serves makes hears says honest came sent faults a b r s first 0
        → Serves makes hears says honest came sent faults b c s t second failures
        → Serves makes hears says honest came sent faults a c r t (first ++ second) failures
    serves_then a b c r s t first second failures x y = record {
      done = does_all_then first second r s t x.done y.done;
      carried =
          subst (λ (l : List (List ℕ)). Carried honest came sent faults a c l (sendings_in (first ++ second)) failures)
          (sym (flat_map-append (λ (act : Act C). hears act.call) first second))
          (subst (λ (l : List Sending). Carried honest came sent faults a c (heard_in hears first ++ heard_in hears second) l failures)
          (sym (flat_map-append (λ (act : Act C). act.sendings) first second))
          (carried_then honest came sent faults a b c _ _ _ _ failures x.carried y.carried));
    }
