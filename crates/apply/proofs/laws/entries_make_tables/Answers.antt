-- Each is one of them.
use Rattle.apply.proofs.laws.entries_make_tables.Goals as goal

pub returns : goal.returns
returns c = record {
  made = c.entries_are_made_where_they_fit.ensures.made;
  within = c.entries_are_made_where_they_fit.ensures.within;
  kinds = c.changes_tell_kinds.ensures.entry;
  rows = c.entries_are_made_where_they_fit.ensures.rows;
  replaced = c.entries_are_made_where_they_fit.ensures.replaced;
  others = c.entries_are_made_where_they_fit.ensures.others;
}
