-- How much went through a node's port.
use Rattle.std.specs.Prelude.{ℕ, List, [], length, Bool, true, false}
use Rattle.sockets.specs.declared.traffic.Traffic.{Traffic}
use Rattle.sockets.specs.declared.traffic.Counted.{Counted}
use Rattle.sockets.specs.declared.traffic.Counted.TheVariants.{Stored, Ignored, Other}
use Rattle.sockets.specs.Carrying.{Sending, losses_of, counted}

abbrev pub no_traffic : Traffic
no_traffic = record { received = 0; stored = 0; ignored = 0; sent = 0; lost = 0 }

-- after so many datagrams more arrived, of which so many were stored and so many ignored, and these were to be sent
abbrev pub with_more : Traffic → ℕ → ℕ → ℕ → List Sending → Traffic
with_more traffic received stored ignored sendings = record {
  received = counted traffic.received received;
  stored = counted traffic.stored stored;
  ignored = counted traffic.ignored ignored;
  sent = counted traffic.sent (length sendings);
  lost = counted traffic.lost (losses_of sendings);
}

-- 1 for a datagram that is counted as stored, and for one that is counted as ignored
abbrev pub stored_as : Counted → ℕ
stored_as Stored = 1
stored_as Ignored = 0
stored_as Other = 0

abbrev pub ignored_as : Counted → ℕ
ignored_as Stored = 0
ignored_as Ignored = 1
ignored_as Other = 0

-- after one datagram more arrived
abbrev pub with_heard : Traffic → Counted → Traffic
with_heard traffic as_this = with_more traffic 1 (stored_as as_this) (ignored_as as_this) []

-- after one datagram more was to be sent
abbrev pub with_sent : Traffic → Bool → Traffic
with_sent traffic true = record traffic { sent = counted traffic.sent 1; lost = counted traffic.lost 1 }
with_sent traffic false = record traffic { sent = counted traffic.sent 1 }
