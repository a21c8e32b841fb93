-- What a client gives that was just made.
use Rattle.std.specs.Prelude.{ℕ, List, [], ◌∷◌}
use Rattle.gs_rtp.specs.Stream.{StreamSettings}
use Rattle.gs_frames.specs.Client.{ClientSettings, Datagram}
use Rattle.gs_frames.specs.Handed.{Handed, newly_handed}
use Rattle.gsbench.specs.Checksum.{fnv_1a}

-- a client of a stream with a window of so many frames
abbrev pub with_window : StreamSettings → ℕ → ClientSettings
with_window stream window = record { stream = stream; window = window }

-- the unit of the first frame, no bytes where there is none
abbrev pub first_unit : List Handed → List ℕ
first_unit [] = []
first_unit (h ∷ hs) = h.unit

-- the checksum of what a client hands first whose first datagram this is
abbrev pub sum_of_new : ClientSettings → List ℕ → ℕ
sum_of_new client datagram = fnv_1a (first_unit (newly_handed client (Datagram datagram) []))
