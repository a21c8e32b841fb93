-- Cited by private contracts alone: what the steps of a queue do to its frames.
use Rattle.std.specs.Prelude.{ℕ, ◌≡◌, ◌≢◌, ◌-◌, ◌%◌, ◌⊎◌, List, length, Option, Some, None, nat_lt, ◌==◌, if◌then◌else◌}
use Rattle.std.specs.Prelude.{Result, Ok, Err}
use Rattle.std.specs.List.{slice_get}
use Rattle.gs_rtp.specs.declared.video.VideoHead.{VideoHead}
use Rattle.gs_frames.specs.declared.verdict.Why.{Why}
use Rattle.gs_frames.specs.declared.verdict.Why.TheVariants.{Grammar, Ssrc}
use Rattle.gs_fecqueue.specs.declared.frame.Frame.{Frame}
use Rattle.gs_fecqueue.specs.declared.queue.Queue.{Queue}
use Rattle.gs_fecqueue.specs.FrameHolding.{IsBegun}

-- the head of a datagram of the session, or why it is foreign
abbrev pub head_or_why : ℕ → Option VideoHead → Result VideoHead Why
head_or_why ssrc None = Err Grammar
head_or_why ssrc (Some head) = if head.ssrc == ssrc then Ok head else Err (Ssrc head.ssrc)

-- what the queue is beside its frames, and their number
pub record HasSettingsOf (before after : Queue) : Type 0 where
  pub packet : after.packet ≡ before.packet
  pub ssrc : after.ssrc ≡ before.ssrc
  pub window : after.window ≡ before.window
  pub count : length after.frames.items ≡ length before.frames.items

-- where what stands at a place came from, when what stands at i and j changed places
abbrev pub swapped : ℕ → ℕ → ℕ → ℕ
swapped i j k = if k == i then j else (if k == j then i else k)

-- a greater frame is the greatest, and the last place has what stood at its own
pub record IsAdvanced (before after : Queue) (to : ℕ) : Type 0 where
  pub settings : HasSettingsOf before after
  pub is_greatest : after.greatest ≡ (if nat_lt before.greatest to then to else before.greatest)
  pub frames :
      (k : ℕ) → slice_get after.frames.items k
      ≡ slice_get before.frames.items
      (if nat_lt before.greatest to then swapped (to % before.window) (length before.frames.items - 1) k else k)

-- the frame stands at its place, where it stood or began
pub record IsOpened (before after : Queue) (number last_block : ℕ) : Type 0 where
  pub settings : HasSettingsOf before after
  pub is_greatest : after.greatest ≡ before.greatest
  pub frame : Frame
  pub here : slice_get after.frames.items (number % before.window) ≡ Some frame
  pub stood_or_began :
      ((slice_get before.frames.items (number % before.window) ≡ Some frame) × (frame.number ≡ number))
      ⊎ (IsBegun frame number last_block
      × ((old : Frame) → slice_get before.frames.items (number % before.window) ≡ Some old → old.number ≢ number))
  pub others :
      (k : ℕ) → k ≢ number % before.window → slice_get after.frames.items k ≡ slice_get before.frames.items k
