-- The words into which the line falls say what it sets.
use Rattle.std.proofs.Common.{◌≡◌, refl, ap, ◌∙◌}
use Rattle.std.specs.List.{slice_split}
use Rattle.rows.specs.Limits.{workers_max, replicas_max}
use Rattle.script.specs.Settings.{IsCount, IsSetup}
use Rattle.script.specs.Inner.SettingWords.{texts}
use Rattle.script.proofs.WordSplitting.{parts_words}
use Rattle.script.proofs.SettingSteps.{workers-next, workers-none, replicas-next, replicas-none, first-next, no-first, table-next, no-table}
use Rattle.script.proofs.settings.read_setting.Goals as goal

pub returns-in-Some : goal.returns-in-Some
returns-in-Some c =
    let words = texts c.as_slice-words.result.now in
    let falls : words ≡ slice_split parts_words c.args.line.now = ap texts c.as_slice-words.ensures.value ∙ c.in-Ok.ensures in
    rw c.in-Nothing.is (workers-next c.args.line.now words falls c.in-Some.workers c.in-Some.ensures.0 c.in-Some.ensures.1)

pub returns-in-Nothing : goal.returns-in-Nothing
returns-in-Nothing c =
    let words = texts c.as_slice-words.result.now in
    let falls : words ≡ slice_split parts_words c.args.line.now = ap texts c.as_slice-words.ensures.value ∙ c.in-Ok.ensures in
    rw c.in-Nothing.is (refl, workers-none c.args.line.now words falls c.in-None.ensures)

pub returns-in-Some-count_of : goal.returns-in-Some-count_of
returns-in-Some-count_of c =
    let words = texts c.as_slice-words.result.now in
    let falls : words ≡ slice_split parts_words c.args.line.now = ap texts c.as_slice-words.ensures.value ∙ c.in-Ok.ensures in
    let so_far : IsCount workers_max c.in-Workers.workers = rw c.in-Workers.is at c.requires in
    rw c.in-Workers.is
    (replicas-next c.args.line.now words falls c.in-Workers.workers c.in-Some-count_of.replicas so_far c.in-Some-count_of.ensures.0
    c.in-Some-count_of.ensures.1)

pub returns-in-Workers : goal.returns-in-Workers
returns-in-Workers c =
    let words = texts c.as_slice-words.result.now in
    let falls : words ≡ slice_split parts_words c.args.line.now = ap texts c.as_slice-words.ensures.value ∙ c.in-Ok.ensures in
    rw c.in-Workers.is (refl, replicas-none c.args.line.now words falls c.in-Workers.workers c.in-None-count_of.ensures)

pub returns-in-Ok-first_table : goal.returns-in-Ok-first_table
returns-in-Ok-first_table c =
    let words = texts c.as_slice-words.result.now in
    let falls : words ≡ slice_split parts_words c.args.line.now = ap texts c.as_slice-words.ensures.value ∙ c.in-Ok.ensures in
    let workers = c.in-Replicas.workers in
    let replicas = c.in-Replicas.replicas in
    let so_far : IsCount workers_max workers × IsCount replicas_max replicas = rw c.in-Replicas.is at c.requires in
    rw c.in-Replicas.is
    (first-next c.args.line.now words falls workers replicas c.in-Ok-first_table.schema so_far.0 so_far.1 c.in-Ok-first_table.ensures)

pub returns-in-Replicas : goal.returns-in-Replicas
returns-in-Replicas c =
    let words = texts c.as_slice-words.result.now in
    let falls : words ≡ slice_split parts_words c.args.line.now = ap texts c.as_slice-words.ensures.value ∙ c.in-Ok.ensures in
    rw c.in-Replicas.is
    (no-first c.args.line.now words falls c.in-Replicas.workers c.in-Replicas.replicas c.in-Err.fault c.in-Err.ensures)

pub returns-in-Ok-next_table : goal.returns-in-Ok-next_table
returns-in-Ok-next_table c =
    let words = texts c.as_slice-words.result.now in
    let falls : words ≡ slice_split parts_words c.args.line.now = ap texts c.as_slice-words.ensures.value ∙ c.in-Ok.ensures in
    let so_far : IsSetup c.in-Ready.setup = rw c.in-Ready.is at c.requires in
    rw c.in-Ready.is
    (table-next c.args.line.now words falls c.in-Ready.setup c.in-Ok-next_table.schema so_far c.in-Ok-next_table.ensures)

pub returns : goal.returns
returns c =
    let words = texts c.as_slice-words.result.now in
    let falls : words ≡ slice_split parts_words c.args.line.now = ap texts c.as_slice-words.ensures.value ∙ c.in-Ok.ensures in
    let so_far : IsSetup c.in-Ready.setup = rw c.in-Ready.is at c.requires in
    rw c.in-Ready.is
    (no-table c.args.line.now words falls c.in-Ready.setup c.in-Err-next_table.fault so_far c.in-Err-next_table.ensures)
