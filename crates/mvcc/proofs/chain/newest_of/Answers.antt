-- The last link stands at the end.
use Rattle.std.proofs.Common.{sym}
use Rattle.mvcc.proofs.Links.{newest-last}
use Rattle.mvcc.proofs.chain.newest_of.Goals as goal

pub returns-in-Some : goal.returns-in-Some
returns-in-Some c = sym (newest-last c.args.links.now c.in-Some.link.now 0 (sym c.in-Some.ensures.value))
