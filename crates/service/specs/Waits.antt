-- How long connections wait, and for what.
use Rattle.std.specs.Prelude.{◌≡◌, ◌⊎◌, ℕ, ◌+◌, ◌-◌, ◌^◌, min, max, nat_lt, Bool, true, false, not, ◌||◌, ◌&&◌, if◌then◌else◌}
use Rattle.std.specs.Prelude.{List, length, map, sum_by, Option, Some, None, is_none}
use Rattle.http_server.specs.Connection.{history}
use Rattle.service.specs.declared.guest.Guest.{Guest}
use Rattle.service.specs.declared.guest.Leaving.{Leaving}
use Rattle.service.specs.declared.limits.Limits.{Limits}
use Rattle.service.specs.declared.listening_time.ListeningTime.{ListeningTime}

-- more than so many milliseconds have passed since then; they have not, if that time is not noted yet
abbrev pub has_passed : ℕ → Option ℕ → ℕ → Bool
has_passed limit None now = false
has_passed limit (Some since) now = nat_lt limit (now - since)

-- Since when a connection waits whose requests were answered: from a time that is not noted yet, if its answers begin to wait by it. Of
-- these, whether answers waited before, and what waits now.
abbrev pub since_answered : Bool → List ℕ → Option ℕ → Option ℕ
since_answered waited pending since = if waited then since else if nat_lt 0 (length pending) then None else since

-- and one that was written to: the same, if its socket took bytes; otherwise nothing was sent, and it waits on
abbrev pub IsTold : Guest → Guest → Type 0
IsTold old new =
    (((history new.connection).sent ≡ (history old.connection).sent) × (new.since ≡ old.since)) ⊎ (new.since ≡ None)

-- of a connection all of whose answers were read: its request, if one has begun, takes too long, or it has been without one for too long
abbrev pub is_late_at : Limits → ℕ → Option ℕ → Option ℕ → Bool
is_late_at limits now since (Some begun) = has_passed limits.request_millis (Some begun) now
is_late_at limits now since None = has_passed limits.idle_millis since now

-- of a connection that is not leaving: its client reads nothing of an answer for too long, or the above
abbrev pub is_late_with : Limits → ℕ → Guest → Option Leaving → Bool
is_late_with limits now guest (Some leaving) = has_passed limits.leaving_millis leaving.since now
is_late_with limits now guest None =
    if nat_lt 0 (length (history guest.connection).pending) then has_passed limits.answer_millis guest.since now
    else is_late_at limits now guest.since guest.begun

-- the connection has waited for longer than it may
abbrev pub is_late : Limits → ℕ → Guest → Bool
is_late limits now guest = is_late_with limits now guest guest.leaving

-- what is left at a place: nothing, if its connection is gone, or has waited for longer than it may
abbrev pub left_at : Limits → ℕ → Option Guest → Option Guest
left_at limits now None = None
left_at limits now (Some guest) = if guest.is_gone || is_late limits now guest then None else Some guest

-- how many bytes of requests a connection held at once, at most
abbrev pub most_at : Option Guest → ℕ
most_at None = 0
most_at (Some guest) = guest.most

-- the same of all connections, in all; numbers end at 2^64 - 1
abbrev pub held_by : List (Option Guest) → ℕ
held_by guests = min (sum_by most_at guests) (2 ^ 64 - 1)

-- a connection without a request and without an answer that waits, which held more bytes than are kept for one
abbrev pub holds_spare : Guest → Bool
holds_spare guest = is_none guest.begun && (nat_lt 65536 guest.most && not (nat_lt 0 (length (history guest.connection).pending)))

-- what it is once its bytes are to be released: gone
abbrev pub released_at : Option Guest → Option Guest
released_at None = None
released_at (Some guest) = if holds_spare guest then Some (record guest { is_gone = true }) else Some guest

-- all connections, of which each that holds bytes to spare is gone, if they hold so many in all
abbrev pub released : ℕ → List (Option Guest) → List (Option Guest)
released held_max guests = if nat_lt (held_by guests) held_max then guests else map released_at guests

-- what is left at each place: nothing, if its connection is gone, holds bytes to spare while all hold too many, or has waited for longer
-- than it may
abbrev pub cleared : Limits → ℕ → List (Option Guest) → List (Option Guest)
cleared limits now guests = map (left_at limits now) (released limits.held_bytes guests)

-- How long connections were listened to after a turn that took until the clock shows so much: 250 ms more, at most, so that the time of
-- answering others does not count. A clock that goes back counts nothing; numbers end at 2^64 - 1.
abbrev pub after_turn : ListeningTime → ℕ → ListeningTime
after_turn time shown = record {
  shown = max time.shown shown;
  listened = min (time.listened + min (shown - time.shown) 250) (2 ^ 64 - 1);
}
