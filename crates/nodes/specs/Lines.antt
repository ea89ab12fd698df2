-- The lines that answer jobs, by their numbers.
use Rattle.std.specs.Prelude.{ℕ, List, [], ◌∷◌, ◌++◌}
use Rattle.sockets.specs.declared.job.Job.{Job}
use Rattle.sockets.specs.declared.job_answer.JobAnswer.{JobAnswer}
use Rattle.requests.specs.AnswerLines.{answer_line}
use Rattle.nodes.specs.declared.waiting.Place.{Place}
use Rattle.nodes.specs.declared.waiting.Waiting.{Waiting}

-- the lines of what jobs of these numbers are answered, as far as there are answers
abbrev pub answer_lines : List ℕ → List JobAnswer → List ℕ
answer_lines numbers [] = []
answer_lines [] (answer ∷ answers) = []
answer_lines (number ∷ numbers) (answer ∷ answers) = answer_line number answer ++ answer_lines numbers answers

-- the parts of a job that waits, and the number of its place
abbrev pub job_in : Waiting → Job
job_in waiting = waiting.job

abbrev pub place_in : Waiting → Place
place_in waiting = waiting.place

abbrev pub number_of : Place → ℕ
number_of place = place.number
