-- The laws, for all lists of commits.
use Rattle.rows.proofs.TableLaws.{apply_commits-first, each-defined, each-fits, each-has-table, apply_commits-push}
use Rattle.rows.proofs.laws.commits_are_defined_one_by_one.Goals as goal

pub returns-clause-beginnings : goal.returns-clause-beginnings
returns-clause-beginnings c = apply_commits-first

pub returns-clause-each : goal.returns-clause-each
returns-clause-each c = each-defined

pub returns-clause-tables : goal.returns-clause-tables
returns-clause-tables c = each-has-table

pub returns-clause-longer : goal.returns-clause-longer
returns-clause-longer c = apply_commits-push

pub returns-clause-fits : goal.returns-clause-fits
returns-clause-fits c = each-fits
