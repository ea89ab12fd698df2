-- The laws, for all bytes.
use Rattle.journal.proofs.Determined.{is_recovered_once, form_stays, is_not_refused, is_refused_once}
use Rattle.journal.proofs.Stops.{stops_are_recovered}
use Rattle.journal.proofs.laws.stops_are_recovered.Goals as goal

pub returns-clause-stops : goal.returns-clause-stops
returns-clause-stops c = stops_are_recovered c.entries_are_read_as_spelled.ensures.spelled

pub returns-clause-form : goal.returns-clause-form
returns-clause-form c = form_stays c.entries_are_read_as_spelled.ensures.spelled

pub returns-clause-once : goal.returns-clause-once
returns-clause-once c = is_recovered_once c.entries_are_read_as_spelled.ensures.spelled

pub returns-clause-not_refused : goal.returns-clause-not_refused
returns-clause-not_refused c = is_not_refused c.entries_are_read_as_spelled.ensures.spelled

pub returns-clause-refused_once : goal.returns-clause-refused_once
returns-clause-refused_once c = is_refused_once c.entries_are_read_as_spelled.ensures.spelled
