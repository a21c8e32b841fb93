-- What is done in a run, one thing at a time.
use Rattle.std.specs.Prelude.{ℕ}
use Rattle.gs_input.specs.declared.event.Event.{Event}

-- What is done in a session. A datagram is named by its number among those of its kind, from 1.
pub data SessionDeed : Type 0 where
  -- the host sends the newest tick
  Turn : SessionDeed
  -- the client is given a video or an audio datagram
  TakeVideo : (k : ℕ) → SessionDeed
  TakeAudio : (k : ℕ) → SessionDeed
  -- the host is given a control datagram of the client, or the client one of the host
  TakeUp : (k : ℕ) → SessionDeed
  TakeDown : (k : ℕ) → SessionDeed
  -- the user does something at the client
  Give : (event : Event) → SessionDeed
  -- the client asks for a frame that needs no other
  AskIdr : SessionDeed
  -- the client closes
  Close : SessionDeed
  -- the client's decoder loses its state
  Reset : SessionDeed
  -- the marks of all kinds move to the end
  Mark : SessionDeed

pub data Deed : Type 0 where
  -- the next session is opened: the packet size, the percentage and the least number of parity shards, the window
  Open : (packet percentage minimum window : ℕ) → Deed
  -- the capture gains the file's next tick
  Capture : Deed
  -- so many milliseconds pass
  Pass : (by : ℕ) → Deed
  In : (session : ℕ) → (deed : SessionDeed) → Deed
