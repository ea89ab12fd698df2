-- The first line of a query's part.
use Rattle.std.proofs.Common.{◌++◌, length, ◌∙◌, arith}
use Rattle.reports.specs.Inner.Pieces.{lines_text}
use Rattle.reports.proofs.Cutting.{there}
use Rattle.reports.proofs.Parts.{query-form, query-within}
use Rattle.reports.proofs.reading.query_head.Goals as goal

pub returns : goal.returns
returns c index lines back is =
    let within = query-within index lines back c.args.text.now is in
    there c.head_of.result _ _ _
    (c.head_of.ensures index (length lines) (lines_text lines ++ back) (omega arith) (is ∙ query-form index lines back))
    (λ none. none) (λ head read. (read.1, read.2))
