-- The report of what is behind the queries before.
use Rattle.std.proofs.Common.{◌+◌, drop, arith}
use Rattle.std.proofs.lemmas.List.{length-drop}
use Rattle.reports.proofs.parting.part_of.Goals as goal

pub returns : goal.returns
returns c = λ version answers is within.
    let head = c.in-Some.ensures version answers is in
    let left = c.in-Some-behind_queries.ensures 0 answers head.2 (omega (arith, within)) in
    let behind = length-drop c.args.from answers in
    c.part_at.ensures version (0 + c.args.from) (drop c.args.from answers) head.0 left (omega (arith, within, behind))
