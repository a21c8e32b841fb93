-- A history's video: the unit of each frame, and the datagrams of all of them. Histories have the newest
-- entry first.
use Rattle.std.specs.Prelude.{ℕ, ◌+◌, List, [], ◌∷◌, ◌++◌, length, Option, Some, None, ◌==◌}
use Rattle.std.specs.List.{find}
use Rattle.gs_rtp.specs.Stream.{StreamSettings}
use Rattle.gs_tape.specs.Tick.{Tick, Delta, tick_numbered}
use Rattle.gs_refs.specs.declared.entry.Entry.{Entry}
use Rattle.gs_refs.specs.declared.entry.Entry.TheVariants.{Sent, Invalid, IdrAsked, Ended}
use Rattle.gs_refs.specs.History.{frames, SentFrame, sent_as, sent_frame, tick_of}
use Rattle.gs_frames.specs.Datagrams.{OutgoingFrame, frame_datagrams}

abbrev pub unit_or_none : Option Delta → List ℕ
unit_or_none None = []
unit_or_none (Some d) = d.unit

-- an IDR unit, or the delta against that tick
abbrev pub sent_unit : Option Tick → Option ℕ → List ℕ
sent_unit None against = []
sent_unit (Some t) None = t.idr
sent_unit (Some t) (Some number) = unit_or_none (find (λ d. d.named == number) t.deltas)

abbrev pub time_of : Option Tick → ℕ
time_of None = 0
time_of (Some t) = t.time

abbrev pub unit_or_empty : List Tick → Option SentFrame → List ℕ
unit_or_empty ticks None = []
unit_or_empty ticks (Some f) = sent_unit (tick_numbered ticks f.tick) f.against

-- the unit of frame f, a captured one: the IDR unit of its tick, or its tick's delta against the tick of the frame that
-- it refers to
abbrev pub unit_of : List Tick → List Entry → ℕ → List ℕ
unit_of ticks h f = unit_or_empty ticks (sent_frame h f)

-- the frame of this number as it goes out, `count` datagrams having gone before
abbrev pub outgoing : List Tick → ℕ → ℕ → SentFrame → OutgoingFrame
outgoing ticks count number f = record {
  count = count;
  frame = number;
  kind = f.kind;
  time = time_of (tick_numbered ticks f.tick);
  unit = sent_unit (tick_numbered ticks f.tick) f.against;
}

-- its datagrams
abbrev pub sent_datagrams : StreamSettings → List Tick → ℕ → ℕ → SentFrame → List (List ℕ)
sent_datagrams settings ticks count number f = frame_datagrams settings (outgoing ticks count number f)

-- all video datagrams of a history, in the order in which they went out
unfoldable pub video_stream : StreamSettings → List Tick → List Entry → List (List ℕ)
video_stream settings ticks [] = []
video_stream settings ticks (Sent tick kind reference ∷ h) =
    video_stream settings ticks h
    ++ sent_datagrams settings ticks (length (video_stream settings ticks h)) (frames h + 1)
    (sent_as tick kind reference (tick_of h reference))
video_stream settings ticks (Invalid first last ∷ h) = video_stream settings ticks h
video_stream settings ticks (IdrAsked ∷ h) = video_stream settings ticks h
video_stream settings ticks (Ended first last ∷ h) = video_stream settings ticks h
