-- What a splitter holds, and which frame it has loaded.
use Rattle.std.specs.Prelude.{ℕ, ◌≡◌, ◌+◌, ◌*◌, ◌%◌, ◌^◌, Bool, true, List, map, length, take}
use Rattle.std.specs.List.{concat}
use Rattle.gs_rtp.specs.Stream.{StreamSettings}
use Rattle.gs_frames.specs.Image.{packets}
use Rattle.gs_frames.specs.Plan.{has_parity}
use Rattle.gs_frames.specs.Shards.{payload_of}
use Rattle.gs_frames.specs.Datagrams.{OutgoingFrame, frame_shards, frame_datagrams}

-- The stream's settings; of the loaded frame the number of datagrams before it, modulo 2^32, the number of its own,
-- 0 where no frame is loaded, its number, kind, time and the length of its unit; and the bytes that are kept of it.
pub record Splitting : Type 0 where
  pub settings : StreamSettings
  pub count : ℕ
  pub datagrams : ℕ
  pub frame : ℕ
  pub kind : ℕ
  pub time : ℕ
  pub unit_length : ℕ
  pub kept : List ℕ

-- the number of datagrams up to the end of the loaded frame, modulo 2^32
abbrev pub next_count : Splitting → ℕ
next_count s = (s.count + s.datagrams) % 2 ^ 32

-- a splitter that has loaded nothing
pub record IsFresh (settings : StreamSettings) (s : Splitting) : Type 0 where
  pub settings_are : s.settings ≡ settings
  pub count : s.count ≡ 0
  pub datagrams : s.datagrams ≡ 0

-- a frame with this number, kind, time and unit, before which so many datagrams went out
abbrev pub frame_behind : ℕ → ℕ → ℕ → ℕ → List ℕ → OutgoingFrame
frame_behind count frame kind time unit = record { count = count; frame = frame; kind = kind; time = time; unit = unit }

-- whether a frame with a unit of this length has parity
abbrev pub has_parity_at : StreamSettings → ℕ → Bool
has_parity_at s unit_length = has_parity (packets unit_length (payload_of s)) s.percentage

-- the bytes begin with the shards of a frame, laid end to end
abbrev pub KeepsShards : StreamSettings → OutgoingFrame → List ℕ → Type 0
KeepsShards s out kept =
    take (length (frame_shards s out) * s.packet) kept ≡ concat (map (λ r. r.shard) (frame_shards s out))

-- the frame is the one that is loaded; where it has parity its shards are kept
pub record IsLoaded (s : Splitting) (out : OutgoingFrame) : Type 0 where
  pub count_agrees : out.count % 2 ^ 32 ≡ s.count
  pub frame_is : s.frame ≡ out.frame
  pub kind_is : s.kind ≡ out.kind
  pub time_is : s.time ≡ out.time
  pub unit_length_is : s.unit_length ≡ length out.unit
  pub datagrams_are : s.datagrams ≡ length (frame_datagrams s.settings out)
  pub keeps : has_parity_at s.settings (length out.unit) ≡ true → KeepsShards s.settings out s.kept
