-- Which datagrams a pump delivers, and in which order.
use Rattle.std.specs.Prelude.{ℕ, ◌+◌, ◌-◌, ◌%◌, Bool, true, false, ◌||◌, not, length, Option, Some, None, find}
use Rattle.std.specs.Prelude.{unwrap_or, nat_lt, ◌==◌, if◌then◌else◌}
use Rattle.std.specs.List.{range_with_len}
use Rattle.std.specs.Option.{option_map}
use Rattle.gs_run.specs.Session.{PartMarks, Part, video_of, audio_of}
use Rattle.gs_run.specs.Scene.{Scene}
use Rattle.gs_run.specs.Deed.{SessionDeed, TakeVideo, TakeAudio, TakeUp, TakeDown, Mark}

-- how many datagrams there are of each kind
abbrev pub ends_of : Scene → Part → PartMarks
ends_of scene part = record {
  video = length (video_of scene.ticks part);
  audio = length (audio_of scene.ticks part);
  up = length part.client.wrote;
  down = length part.host.wrote;
}

-- the marks move to the end
unfoldable pub marked : Scene → Part → Part
marked scene part = record part { marks = ends_of scene part }

-- up to which datagram of each kind a pump is, and whether it is the turn of one of the host's control datagrams
pub record Pumping : Type 0 where
  pub at : PartMarks
  pub down_is_next : Bool

-- a number that isn't a multiple of `every`, where that isn't 0
abbrev pub is_kept : ℕ → ℕ → Bool
is_kept every k = every == 0 || not (k % every == 0)

-- the first kept number above one, up to another
abbrev pub next_kept : (every above to : ℕ) → Option ℕ
next_kept every above to = find (is_kept every) (range_with_len (above + 1) (to - above))

abbrev pub next_above : (above to : ℕ) → Option ℕ
next_above above to = if nat_lt above to then Some (above + 1) else None

abbrev pub or_else : Option SessionDeed → Option SessionDeed → Option SessionDeed
or_else None second = second
or_else (Some first) second = Some first

-- one of the client's and one of the host's in turn; one that has none is passed over
abbrev pub next_control : Pumping → PartMarks → Option SessionDeed
next_control pumping ends =
    let up = option_map TakeUp (next_above pumping.at.up ends.up) in
    let down = option_map TakeDown (next_above pumping.at.down ends.down) in
    if pumping.down_is_next then or_else down up else or_else up down

-- The next delivery: a video datagram, else an audio datagram, else one of the control datagrams. Once there is none
-- the marks move.
abbrev pub next_pumped : ℕ → Pumping → PartMarks → SessionDeed
next_pumped every pumping ends =
    unwrap_or
    (or_else (option_map TakeVideo (next_kept every pumping.at.video ends.video))
    (or_else (option_map TakeAudio (next_kept every pumping.at.audio ends.audio))
    (next_control pumping ends)))
    Mark

abbrev pub moved : SessionDeed → Pumping → Pumping
moved (TakeVideo k) pumping = record pumping { at = record (pumping.at) { video = k } }
moved (TakeAudio k) pumping = record pumping { at = record (pumping.at) { audio = k } }
moved (TakeUp k) pumping = record { at = record (pumping.at) { up = k }; down_is_next = true }
moved (TakeDown k) pumping = record { at = record (pumping.at) { down = k }; down_is_next = false }
moved _ pumping = pumping
