-- The lines that answer jobs.
use Rattle.std.specs.Prelude.{ℕ, ◌+◌, List, [], ◌∷◌, ◌++◌, codes}
use Rattle.std.specs.Fmt.{decimal}
use Rattle.sockets.specs.declared.job_answer.JobAnswer.{JobAnswer}
use Rattle.sockets.specs.declared.job_answer.JobAnswer.TheVariants.{Ticket, Conflict, Refused}

-- the line of a job of this number that is refused
abbrev pub refused_line : ℕ → List ℕ
refused_line number = codes "job " ++ (decimal number ++ codes " refused\n")

-- the line of what the job of this number is answered
abbrev pub answer_line : ℕ → JobAnswer → List ℕ
answer_line number (Ticket commit) = codes "job " ++ (decimal number ++ (codes " ticket " ++ (decimal commit ++ codes "\n")))
answer_line number (Conflict commit) = codes "job " ++ (decimal number ++ (codes " conflict " ++ (decimal commit ++ codes "\n")))
answer_line number (Refused refusal) = refused_line number

-- the lines of what jobs are answered whose numbers count from this one
abbrev pub numbered_lines : ℕ → List JobAnswer → List ℕ
numbered_lines number [] = []
numbered_lines number (answer ∷ answers) = answer_line number answer ++ numbered_lines (number + 1) answers
