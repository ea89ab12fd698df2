-- What a replica answers to a request for queries, by what it was told.
use Rattle.std.specs.Prelude.{◌≡◌, ◌⊎◌, ℕ, Bool, true, false, List, codes}
use Rattle.std.specs.String.{string_bytes}
use Rattle.http_server.specs.declared.response.Response.{Response}
use Rattle.queries.specs.declared.field.Field.{Field}
use Rattle.queries.specs.Report.{report_text}
use Rattle.reports.specs.Json.{json_text}
use Rattle.gathering.specs.declared.answer.Answer.{Answer}
use Rattle.gathering.specs.declared.answer.Answer.TheVariants as answers
use Rattle.gateway.specs.Inner.Answering.{IsAnswered}

-- a report as JSON, unless memory is refused
abbrev pub TellsJson : List ℕ → Response → Type 0
TellsJson report response =
    (version : ℕ) (all : List (List (List Field))) → report ≡ report_text version all
    → IsAnswered 200 (json_text version all) response ⊎ IsAnswered 503 (codes "memory\n") response

-- the request's own report, as a text or as JSON, or why there is none
abbrev pub TellsQueries : Answer → Bool → Response → Type 0
TellsQueries (answers.Report report) false response = IsAnswered 200 report.items response
TellsQueries (answers.Report report) true response = TellsJson report.items response
TellsQueries (answers.Unfit why) as_json response = IsAnswered 400 (string_bytes why) response
TellsQueries answers.Late as_json response = IsAnswered 503 (codes "late\n") response
TellsQueries answers.Broken as_json response = IsAnswered 500 (codes "broken\n") response
TellsQueries answers.Memory as_json response = IsAnswered 503 (codes "memory\n") response
