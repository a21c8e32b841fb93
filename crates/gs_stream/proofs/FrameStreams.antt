-- How each frame of a history went out, and what is received of its datagrams.
use Rattle.std.specs.Prelude.{ℕ, ◌≤◌, ◌+◌, List, [], ◌∷◌, length, Option, ◌==◌, if◌then◌else◌}
use Rattle.std.specs.List.{Contains}
use Rattle.gs_rtp.specs.Stream.{StreamSettings}
use Rattle.gs_tape.specs.Tick.{Tick, tick_numbered}
use Rattle.gs_refs.specs.declared.entry.Entry.{Entry}
use Rattle.gs_refs.specs.declared.entry.Entry.TheVariants.{Sent, Invalid, IdrAsked, Ended}
use Rattle.gs_refs.specs.History.{frames, SentFrame, sent_frame, tick_or_zero, kind_or_zero}
use Rattle.gs_frames.specs.Datagrams.{OutgoingFrame, frame_shards, frame_datagrams}
use Rattle.gs_frames.specs.Received.{Received}
use Rattle.gs_stream.specs.Video.{time_of, unit_or_empty, video_stream}

-- how many datagrams went before frame f, 0 where it wasn't sent
abbrev pub count_before : StreamSettings → List Tick → List Entry → ℕ → ℕ
count_before settings ticks [] f = 0
count_before settings ticks (Sent tick kind reference ∷ h) f =
    if f == frames h + 1 then length (video_stream settings ticks h) else count_before settings ticks h f
count_before settings ticks (Invalid first last ∷ h) f = count_before settings ticks h f
count_before settings ticks (IdrAsked ∷ h) f = count_before settings ticks h f
count_before settings ticks (Ended first last ∷ h) f = count_before settings ticks h f

-- frame f as it goes out, where it was sent so
abbrev pub outgoing_by : List Tick → ℕ → ℕ → Option SentFrame → OutgoingFrame
outgoing_by ticks f count sent = record {
  count = count;
  frame = f;
  kind = kind_or_zero sent;
  time = time_of (tick_numbered ticks (tick_or_zero sent));
  unit = unit_or_empty ticks sent;
}

-- as it went out
abbrev pub sent_out : StreamSettings → List Tick → List Entry → ℕ → OutgoingFrame
sent_out settings ticks h f = outgoing_by ticks f (count_before settings ticks h f) (sent_frame h f)

-- its datagrams
abbrev pub datagrams_by : StreamSettings → List Tick → ℕ → ℕ → Option SentFrame → List (List ℕ)
datagrams_by settings ticks f count sent = frame_datagrams settings (outgoing_by ticks f count sent)

abbrev pub datagrams_of_frame : StreamSettings → List Tick → List Entry → ℕ → List (List ℕ)
datagrams_of_frame settings ticks h f = datagrams_by settings ticks f (count_before settings ticks h f) (sent_frame h f)

-- what is received of each of them
abbrev pub received_of : StreamSettings → List Tick → List Entry → ℕ → List Received
received_of settings ticks h f = frame_shards settings (sent_out settings ticks h f)

-- a datagram of one of the frames that were sent
pub record IsOfSentFrame (settings : StreamSettings) (ticks : List Tick) (h : List Entry) (datagram : List ℕ) : Type 0 where
  pub frame : ℕ
  pub least : 1 ≤ frame
  pub greatest : frame ≤ frames h
  pub among : Contains (datagrams_of_frame settings ticks h frame) datagram

-- what is received of a datagram of the frame that its head says, which was sent
pub record IsReceivedOfSentFrame (settings : StreamSettings) (ticks : List Tick) (h : List Entry) (r : Received) : Type 0 where
  pub least : 1 ≤ r.head.frame
  pub greatest : r.head.frame ≤ frames h
  pub among : Contains (received_of settings ticks h r.head.frame) r
