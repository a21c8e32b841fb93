-- What a queue stands for: all that its client was given.
use Rattle.std.specs.Prelude.{ℕ, ◌≡◌, ◌≢◌, ◌+◌, ◌-◌, ◌%◌, ◌<◌, ◌≤◌, Bool, true, ◌&&◌, ◌||◌, not, List, [], ◌∷◌, length}
use Rattle.std.specs.Prelude.{Option, Some, None, nat_lt, ◌==◌, if◌then◌else◌}
use Rattle.std.specs.List.{slice_get}
use Rattle.gs_frames.specs.Client.{ClientSettings, Arrival}
use Rattle.gs_frames.specs.Received.{Received, taken, greatest, is_left, oldest, is_of_frame}
use Rattle.gs_frames.specs.Verdict.{counting}
use Rattle.gs_fecqueue.specs.declared.frame.Frame.{Frame}
use Rattle.gs_fecqueue.specs.declared.queue.Queue.{Queue}
use Rattle.gs_fecqueue.specs.FrameHolding.{HoldsFrame, IsBegun}

-- The image of a frame is at hand while it is open or, in a window of several frames, if it was before the last
-- arrival.
abbrev pub is_at_hand : ℕ → List Received → List Received → ℕ → Bool
is_at_hand window before now frame =
    not (is_left window now frame) || (nat_lt 1 window && not (is_left window before frame))

-- all that was given but for the last arrival
abbrev pub all_but_last : List Arrival → List Arrival
all_but_last [] = []
all_but_last (arrival ∷ came) = came

-- something came of the frame
abbrev pub HasFrameCome : List Received → ℕ → Type 0
HasFrameCome rs frame = oldest (is_of_frame frame) rs ≢ None

-- what counts of the frame is held
pub record IsHeld (client : ClientSettings) (rs : List Received) (frame : Frame) : Type 0 where
  pub first : Received
  pub first_is : oldest (is_of_frame frame.number) rs ≡ Some first
  pub holds : HoldsFrame client.stream frame (counting client.window rs) first

-- a frame of this number stands at this place
pub record IsAt (frames : List Frame) (place number : ℕ) : Type 0 where
  pub frame : Frame
  pub here : slice_get frames place ≡ Some frame
  pub number_is : frame.number ≡ number

-- one of them has this number
pub record IsAmong (frames : List Frame) (number : ℕ) : Type 0 where
  pub place : ℕ
  pub at : IsAt frames place number

-- how many frames have room: one that was left stands beside those of a window of several
abbrev pub rooms : ℕ → ℕ
rooms window = if nat_lt 1 window then window + 1 else 1

-- Of what was taken, the queue holds each frame that it has, and it has those that are open, at their numbers modulo
-- the window, and those whose image is at hand.
pub record IsStanding (q : Queue) (client : ClientSettings) (before now : List Received) : Type 0 where
  pub packet : q.packet ≡ client.stream.packet
  pub ssrc : q.ssrc ≡ client.stream.ssrc
  pub window : q.window ≡ client.window
  pub count : length q.frames.items ≡ rooms client.window
  pub is_greatest : q.greatest ≡ greatest now
  pub least : (f : ℕ) → HasFrameCome now f → 1 ≤ f
  pub each :
      (i : ℕ) (frame : Frame) → slice_get q.frames.items i ≡ Some frame → 0 < frame.number
      → IsHeld client now frame
  pub apart :
      (i j : ℕ) (a b : Frame) → slice_get q.frames.items i ≡ Some a → slice_get q.frames.items j ≡ Some b → i ≢ j
      → 0 < a.number → a.number ≢ b.number
  pub open_frames :
      (f : ℕ) → greatest now < f + client.window → HasFrameCome now f → IsAt q.frames.items (f % client.window) f
  pub at_hand :
      (f : ℕ) → is_at_hand client.window before now f ≡ true → HasFrameCome now f → IsAmong q.frames.items f

-- It stands for all that the client was given.
abbrev pub IsQueueOf : Queue → ClientSettings → List Arrival → Type 0
IsQueueOf q client came = IsStanding q client (taken client (all_but_last came)) (taken client came)
