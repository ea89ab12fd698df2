-- The laws, for all datagrams.
use Rattle.wire.proofs.OneSpelling.{is_one_to_one, is_prefix_free}
use Rattle.wire.proofs.SpelledIsRead.{reading-again}
use Rattle.wire.proofs.laws.one_spelling.Goals as goal

pub returns-clause-one_to_one : goal.returns-clause-one_to_one
returns-clause-one_to_one c = is_one_to_one c.entries_are_read_as_spelled.ensures.spelled

pub returns-clause-prefix_free : goal.returns-clause-prefix_free
returns-clause-prefix_free c = is_prefix_free c.entries_are_read_as_spelled.ensures.spelled

pub returns-clause-read : goal.returns-clause-read
returns-clause-read c = reading-again c.entries_are_read_as_spelled.ensures.spelled
