-- Answers with a text.
use Rattle.std.specs.Prelude.{◌≡◌, ℕ, List, ◌⊎◌}
use Rattle.http_server.specs.declared.response.Response.{Response}

-- an answer with this status and this text; or 503, out of memory
abbrev pub IsAnswered : ℕ → List ℕ → Response → Type 0
IsAnswered status text response = ((response.status ≡ status) × (response.body.items ≡ text)) ⊎ (response.status ≡ 503)
