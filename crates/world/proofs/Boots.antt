-- What a datagram that names a boot says as its replica goes on, and when that starts again.
use Rattle.std.proofs.Common.{◌≡◌, ℕ, List, sym, subst, ◌∙◌}
use Rattle.std.specs.List.{Contains}
use Rattle.world.specs.Inner.Boots.{IsOfBoot}

-- the replica stays in its boot
pub of-boot : (boots : List ℕ) (own boot : ℕ) (Fact Other : Type 0) → (Fact → Other) → IsOfBoot boots own boot Fact
    → IsOfBoot boots own boot Other
of-boot boots own boot Fact Other goes said = record { had = said.had; holds = λ same. goes (said.holds same) }

-- it stays in its boot, as two of its states tell
pub of-boot-stays : (boots boots' : List ℕ) (own own' boot : ℕ) (Fact Other : Type 0) → boots' ≡ boots → own' ≡ own → (Fact → Other)
    → IsOfBoot boots own boot Fact → IsOfBoot boots' own' boot Other
of-boot-stays boots boots' own own' boot Fact Other had is goes said = record {
  had = subst (λ (l : List ℕ). Contains l boot) (sym had) said.had;
  holds = λ same. goes (said.holds (same ∙ is));
}

-- it starts again in a boot that it never had, of which nothing was said
pub of-new-boot : (boots boots' : List ℕ) (own new boot : ℕ) (Fact Other : Type 0) → (Contains boots boot → Contains boots' boot)
    → (Contains boots new → ⊥) → IsOfBoot boots own boot Fact → IsOfBoot boots' new boot Other
of-new-boot boots boots' own new boot Fact Other grows never said =
    record { had = grows said.had; holds = λ same. absurd (never (subst (Contains boots) same said.had)) }
