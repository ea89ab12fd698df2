-- The law, for all rows.
use Rattle.mvcc.proofs.RowBytes.{rows-have_bytes}
use Rattle.mvcc.proofs.laws.rows_have_their_bytes.Goals as goal

pub returns : goal.returns
returns c =
    rows-have_bytes c.columns_are_of_their_width.ensures.value c.commits_are_defined_one_by_one.ensures.beginnings
    c.commits_are_defined_one_by_one.ensures.fits c.rows_are_as_entries_leave_them.ensures.left c.changes_tell_kinds.ensures.versions
