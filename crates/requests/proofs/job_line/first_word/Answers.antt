-- The word ends at its first space, or where the line does.
use Rattle.std.proofs.Common.{◌∙◌}
use Rattle.requests.proofs.FirstWords.{word-at, word-all}
use Rattle.requests.proofs.job_line.first_word.Goals as goal

pub returns-in-Some-clause-first : goal.returns-in-Some-clause-first
returns-in-Some-clause-first c = c.split_at.ensures.front ∙ (word-at c.args.line.now c.in-Some.end c.in-Some.ensures).0

pub returns-in-Some-clause-rest : goal.returns-in-Some-clause-rest
returns-in-Some-clause-rest c = c.split_at.ensures.back ∙ (word-at c.args.line.now c.in-Some.end c.in-Some.ensures).1

pub returns-in-None-clause-first : goal.returns-in-None-clause-first
returns-in-None-clause-first c =
    c.split_at-in-None.ensures.front ∙ (word-all c.args.line.now c.in-None.ensures).0

pub returns-in-None-clause-rest : goal.returns-in-None-clause-rest
returns-in-None-clause-rest c =
    c.split_at-in-None.ensures.back ∙ (word-all c.args.line.now c.in-None.ensures).1
