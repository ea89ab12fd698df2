-- How much answers a request, as a number.
use Rattle.std.specs.Prelude.{ℕ}

-- frames that answer one Want, or pieces that answer one Pull
abbrev pub want_frames_max : ℕ
want_frames_max = 16
