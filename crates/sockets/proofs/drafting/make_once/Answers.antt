-- Each call of the seat answers as its change does.
use Rattle.sockets.proofs.drafting.make_once.Goals as goal

pub returns-in-Insert-clause-answer : goal.returns-in-Insert-clause-answer
returns-in-Insert-clause-answer g c = rw c.in-Insert.is (rw c.as_slice.ensures at c.insert.ensures.answer)

pub returns-in-Set-clause-answer : goal.returns-in-Set-clause-answer
returns-in-Set-clause-answer g c = rw c.in-Set.is c.set.ensures.answer

pub returns-in-Delete-clause-answer : goal.returns-in-Delete-clause-answer
returns-in-Delete-clause-answer g c = rw c.in-Delete.is c.delete.ensures.answer

pub returns-in-AddColumn-clause-answer : goal.returns-in-AddColumn-clause-answer
returns-in-AddColumn-clause-answer g c = rw c.in-AddColumn.is c.add_column.ensures.answer
