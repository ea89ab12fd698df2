-- The words for the faults of a line.
use Rattle.std.specs.Prelude.{ℕ, List, codes}
use Rattle.script.specs.declared.faults.Reason.{Reason}
use Rattle.script.specs.declared.faults.Reason.TheVariants.{NotText, BadSetting, UnknownEvent, BadWords, NoTable}

-- why a line does not read, in words
abbrev pub reason_text : Reason → List ℕ
reason_text NotText = codes "not text"
reason_text BadSetting = codes "bad setting"
reason_text UnknownEvent = codes "unknown event"
reason_text BadWords = codes "bad words"
reason_text NoTable = codes "no table"
