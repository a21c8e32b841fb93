-- What a client is, and what it was given.
use Rattle.std.specs.Prelude.{ℕ, ◌≤◌, List, map}
use Rattle.gs_rtp.specs.Stream.{StreamSettings}
use Rattle.gs_frames.specs.declared.window.TheConstants.{WINDOW_GREATEST, WINDOW_LEAST}

-- a window has one frame at least, and at most four
abbrev pub least_window : ℕ
least_window = WINDOW_LEAST

abbrev pub most_window : ℕ
most_window = WINDOW_GREATEST

-- the settings of its stream, and how many frames, the newest, it keeps open: its window, of 1 to 4
pub record ClientSettings : Type 0 where
  pub stream : StreamSettings
  pub window : ℕ

-- its window is one of these
pub record HasWindow (client : ClientSettings) : Type 0 where
  pub least : least_window ≤ client.window
  pub greatest : client.window ≤ most_window

-- What a client is given: the bytes of a datagram, or a reset of its decoder, which then needs an IDR frame.
-- A list of these has the newest first.
pub data Arrival : Type 0 where
  Datagram : List ℕ → Arrival
  Reset : Arrival

-- given these datagrams, and no reset
abbrev pub datagrams : List (List ℕ) → List Arrival
datagrams came = map (λ bytes. Datagram bytes) came
