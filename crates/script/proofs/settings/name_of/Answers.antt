-- A name is text.
use Rattle.std.proofs.Common.{sym, ◌∙◌}
use Rattle.script.proofs.Plain.{name-text}
use Rattle.script.proofs.settings.name_of.Goals as goal

pub returns-in-Err : goal.returns-in-Err
returns-in-Err c =
    absurd (c.in-Err.ensures.cases.0 (name-text c.args.word.now (sym c.is_name.ensures ∙ c.if-not-is_name.false)))
