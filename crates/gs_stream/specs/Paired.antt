-- What joins a host's history and what its client was given, without a clock.
use Rattle.std.specs.Prelude.{ℕ, List, [], ◌∷◌, ◌++◌}
use Rattle.std.specs.List.{All, Contains}
use Rattle.gs_bytes.specs.Prefix.{IsPrefixOf}
use Rattle.gs_tape.specs.Tick.{Tick}
use Rattle.gs_refs.specs.declared.entry.Entry.{Entry}
use Rattle.gs_refs.specs.declared.entry.Entry.TheVariants.{Sent, Invalid, IdrAsked, Ended}
use Rattle.gs_frames.specs.declared.range.Range.{Range}
use Rattle.gs_frames.specs.Client.{ClientSettings, Arrival, Datagram, Reset}
use Rattle.gs_frames.specs.Asks.{asks}
use Rattle.gs_stream.specs.Video.{video_stream}

-- the ranges that a history has as invalid, in their order
abbrev pub invalid_ranges : List Entry → List Range
invalid_ranges [] = []
invalid_ranges (Sent tick kind reference ∷ h) = invalid_ranges h
invalid_ranges (Invalid first last ∷ h) = invalid_ranges h ++ record { first = first; last = last } ∷ []
invalid_ranges (IdrAsked ∷ h) = invalid_ranges h
invalid_ranges (Ended first last ∷ h) = invalid_ranges h

-- what a client was given is a datagram of this stream, or a reset
abbrev pub IsOfStream : List (List ℕ) → Arrival → Type 0
IsOfStream stream (Datagram bytes) = Contains stream bytes
IsOfStream stream Reset = Unit {0}

-- each of them is: however often they came, in whatever order, and whichever didn't
abbrev pub AreOfHistory : ClientSettings → List Tick → List Entry → List Arrival → Type 0
AreOfHistory client ticks h came = All (IsOfStream (video_stream client.stream ticks h)) came

-- Each datagram that came was sent, and what the host took as invalid is a prefix of what was asked for.
pub record IsPaired (client : ClientSettings) (ticks : List Tick) (h : List Entry) (came : List Arrival) : Type 0 where
  pub sent : AreOfHistory client ticks h came
  pub asked : IsPrefixOf (invalid_ranges h) (asks client came)
