-- What a client is handed of a history's datagrams.
use Rattle.std.specs.Prelude.{ℕ, ◌≡◌, ◌+◌, ◌<◌, ◌≤◌, true, List, ◌++◌, Some}
use Rattle.std.specs.List.{All, Contains, slice_get}
use Rattle.gs_rtp.specs.Stream.{StreamSettings, AreSettingsWithinLimits}
use Rattle.gs_tape.specs.Tick.{Tick}
use Rattle.gs_tape.specs.Limits.{HoldsBytes, AreWithinLimits as AreTicksWithinLimits}
use Rattle.gs_refs.specs.declared.entry.Entry.{Entry}
use Rattle.gs_refs.specs.History.{frames, frame_kind}
use Rattle.gs_refs.specs.Choice.{IsLegal}
use Rattle.gs_frames.specs.Plan.{BlockPlan}
use Rattle.gs_frames.specs.Datagrams.{unit_plan}
use Rattle.gs_frames.specs.Client.{ClientSettings, Arrival}
use Rattle.gs_frames.specs.Received.{taken}
use Rattle.gs_frames.specs.Complete.{IsComplete}
use Rattle.gs_frames.specs.CompleteLaws.{HasEnough}
use Rattle.gs_frames.specs.Settled.{settled}
use Rattle.gs_frames.specs.Handed.{Handed, settled_at_resets, is_handed, handed}
use Rattle.gs_frames.specs.HandedLaws.{handed_below}
use Rattle.gs_stream.specs.Video.{unit_of}
use Rattle.gs_stream.specs.Paired.{AreOfHistory}

-- a history that a host may have over the ticks of a capture file
pub record IsHostHistory (settings : StreamSettings) (ticks : List Tick) (h : List Entry) : Type 0 where
  pub limits : AreSettingsWithinLimits settings
  pub capture : AreTicksWithinLimits settings.audio 1 0 ticks
  pub bytes : All HoldsBytes ticks
  pub legal : IsLegal ticks h

-- a frame that was sent, with its kind and, byte for byte, the unit that was captured
pub record IsSentFrame (ticks : List Tick) (h : List Entry) (frame : Handed) : Type 0 where
  pub least : 1 ≤ frame.frame
  pub greatest : frame.frame ≤ frames h
  pub kind : frame.kind ≡ frame_kind h frame.frame
  pub unit : frame.unit ≡ unit_of ticks h frame.frame

-- However a history's datagrams were lost, repeated or reordered, and whenever the decoder was reset, each frame that
-- is handed was sent.
abbrev pub HandedFramesWereSent : Type 0
HandedFramesWereSent =
    (client : ClientSettings) (ticks : List Tick) (h : List Entry) (came : List Arrival)
    → IsHostHistory client.stream ticks h → AreOfHistory client ticks h came
    → All (IsSentFrame ticks h) (handed client came)

-- What came of a history's datagrams, where it is enough for frame f: the frame was sent, of each of its blocks as
-- many of its datagrams came as it has data shards, no two of one number, and none came by which the frame was left.
pub record CameWhole (client : ClientSettings) (ticks : List Tick) (h : List Entry)
    (came : List Arrival) (f : ℕ) : Type 0 where
  pub sent : AreOfHistory client ticks h came
  pub least : 1 ≤ f
  pub greatest : f ≤ frames h
  pub not_left : All (λ r. r.head.frame < f + client.window) (taken client came)
  pub enough : (block : ℕ) (plan : BlockPlan)
      → slice_get (unit_plan client.stream (unit_of ticks h f)) block ≡ Some plan
      → HasEnough (taken client came) f block plan.data_shards

-- Whichever datagrams were lost and in whatever order the others came: a frame of which enough came before any by
-- which it is left is complete from then on, whatever comes behind, and holds what was sent.
abbrev pub FramesThatCameAreComplete : Type 0
FramesThatCameAreComplete =
    (client : ClientSettings) (ticks : List Tick) (h : List Entry) (before after : List Arrival) (f : ℕ)
    → IsHostHistory client.stream ticks h → CameWhole client ticks h before f
    → IsComplete client (taken client (after ++ before)) f (record { kind = frame_kind h f; unit = unit_of ticks h f })

-- And once it is settled it is handed, where it isn't barred and is a re-entry frame or follows a handed one.
abbrev pub FramesThatCameAreHanded : Type 0
FramesThatCameAreHanded =
    (client : ClientSettings) (ticks : List Tick) (h : List Entry) (before after : List Arrival) (f : ℕ)
    → IsHostHistory client.stream ticks h → CameWhole client ticks h before f
    → f ≤ settled client (taken client (after ++ before))
    → is_handed (settled_at_resets client (after ++ before)) (handed_below client (after ++ before) f) f
    (frame_kind h f) ≡ true
    → Contains (handed client (after ++ before)) (record { frame = f; kind = frame_kind h f; unit = unit_of ticks h f })

-- An IDR frame is never barred.
abbrev pub IdrFramesThatCameAreHanded : Type 0
IdrFramesThatCameAreHanded =
    (client : ClientSettings) (ticks : List Tick) (h : List Entry) (before after : List Arrival) (f : ℕ)
    → IsHostHistory client.stream ticks h → CameWhole client ticks h before f
    → f ≤ settled client (taken client (after ++ before)) → frame_kind h f ≡ 2
    → Contains (handed client (after ++ before)) (record { frame = f; kind = 2; unit = unit_of ticks h f })
