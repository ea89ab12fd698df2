-- A true datagram keeps a replica fed.
use Rattle.sockets.proofs.Sent.{sent-keeps}
use Rattle.sockets.proofs.laws.what_is_sent_keeps_replicas_fed.Goals as goal

pub returns : goal.returns
returns c = sent-keeps c.one_spelling.ensures.read c.fed_replicas_stay_fed.ensures.truth c.fed_replicas_stay_fed.ensures.bytes
