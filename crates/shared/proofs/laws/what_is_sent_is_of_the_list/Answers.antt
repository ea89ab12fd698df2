-- The laws, for all lists.
use Rattle.shared.proofs.Sent.{pushed_is_of_list, answered_is_of_list, of_list_stays}
use Rattle.shared.proofs.laws.what_is_sent_is_of_the_list.Goals as goal

pub returns-clause-pushed : goal.returns-clause-pushed
returns-clause-pushed c = pushed_is_of_list

pub returns-clause-answered : goal.returns-clause-answered
returns-clause-answered c = answered_is_of_list

pub returns-clause-stays : goal.returns-clause-stays
returns-clause-stays c = of_list_stays
