-- What a line says that is not skipped.
use Rattle.std.proofs.Common.{◌≡◌, ℕ, List, true, drop, length, Some, Result, Ok, Err, IfOk, sym}
use Rattle.script.specs.declared.faults.Reason.{Reason}
use Rattle.script.specs.declared.setup.Setup.{Setup}
use Rattle.script.specs.EventLines.{first_word}
use Rattle.script.specs.Scripts.{is_kept}
use Rattle.requests.specs.declared.dialect.Dialect.{Dialect}
use Rattle.requests.specs.declared.job_line.JobLine.{JobLine}
use Rattle.requests.specs.declared.word.Word.{Word}
use Rattle.requests.specs.JobLines.{word_of, Reads, ReadsLike}

-- a line whose first word is this one
pub reads-as : {E : Type 0} (setup : Setup) (dialect : Dialect) (line first rest : List ℕ) (word : Word)
    (read : Result (Result JobLine Reason) E) → is_kept line ≡ true → first ≡ first_word line
    → rest ≡ drop (length (first_word line)) line → Some word ≡ word_of dialect first → IfOk read (ReadsLike setup rest word)
    → IfOk read (Reads setup dialect line)
reads-as setup dialect line first rest word (Err fault) kept is-first is-rest is like = tt
reads-as setup dialect line first rest word (Ok read) kept is-first is-rest is like =
    rw kept (rw (sym is-first) (rw (sym is) (rw (sym is-rest) like)))
