-- What the replicas of a primary asked for last, and were told.
use Rattle.std.specs.Prelude.{ℕ, ◌==◌, ◌&&◌, ◌||◌, not, if◌then◌else◌, List, [], ◌∷◌, length, replicate, false, Option, None, Some}
use Rattle.std.specs.Prelude.{Result, Ok, slice_index_or, slice_set}
use Rattle.rows.specs.Limits.{replicas_max}
use Rattle.wire.specs.declared.datagram.Datagram.{Datagram}
use Rattle.wire.specs.declared.datagram.Datagram.TheVariants.{Ask, Head}
use Rattle.wire.specs.declared.faults.WireFault.{WireFault}
use Rattle.wire.specs.declared.out.Out.{Out}
use Rattle.wire.specs.Reading.{reading}
use Rattle.wire.specs.Spelling.{ask_len}
use Rattle.sockets.specs.declared.asked.Asked.{Asked}

abbrev pub nothing_asked : Asked
nothing_asked = record { boot = 0; request = 0; version = 0; is_news = false }

-- of each replica
abbrev pub nothing_asked_yet : List Asked
nothing_asked_yet = replicate replicas_max nothing_asked

-- after the replica asked, and was told a version: that is news if its boot or its request is another
abbrev pub told : Asked → ℕ → ℕ → ℕ → Asked
told asked boot request version = record {
  boot = boot;
  request = request;
  version = version;
  is_news = asked.is_news || not ((asked.boot == boot) && (asked.request == request));
}

-- the version that a Head tells
abbrev pub version_at : Result Datagram WireFault → Option ℕ
version_at (Ok (Head head)) = Some head.version
version_at other = None

-- after bytes that read so, if they are an Ask whose replica was told this version
abbrev pub noted_as : List Asked → Result Datagram WireFault → ℕ → List Asked
noted_as asked (Ok (Ask replica boot request)) version =
    slice_set asked replica (told (slice_index_or asked replica nothing_asked) boot request version)
noted_as asked other version = asked

abbrev pub noted_if : List Asked → Result Datagram WireFault → Option ℕ → List Asked
noted_if asked read None = asked
noted_if asked read (Some version) = noted_as asked read version

-- after these bytes, which were answered so
abbrev pub noted : List Asked → List ℕ → List Out → List Asked
noted asked bytes (out ∷ []) =
    if length bytes == ask_len then noted_if asked (reading bytes) (version_at (reading out.packet)) else asked
noted asked bytes other = asked

-- the version that a replica was told, if that is news
abbrev pub news_of : Asked → Option ℕ
news_of asked = if asked.is_news then Some asked.version else None

-- after that was looked up
abbrev pub without_news : List Asked → ℕ → List Asked
without_news asked replica = slice_set asked replica (record (slice_index_or asked replica nothing_asked) { is_news = false })
