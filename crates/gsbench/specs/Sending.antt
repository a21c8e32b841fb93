-- Datagrams that are sent again as those of many frames, of which some are lost.
use Rattle.std.specs.Prelude.{ℕ, zero, suc, ◌+◌, ◌%◌, ◌==◌, ◌&&◌, Bool, not, nat_le, if◌then◌else◌}
use Rattle.std.specs.Prelude.{List, [], ◌∷◌, ◌++◌, length, map, take, drop, reverse}
use Rattle.byteorder.specs.Endian.{little_bytes}
use Rattle.gs_frames.specs.Client.{Arrival, datagrams}

-- a datagram with the number of its frame set, in the four bytes from place 20 on; the same where its header isn't
-- whole
abbrev pub numbered_bytes : ℕ → List ℕ → List ℕ
numbered_bytes frame bytes =
    if nat_le 32 (length bytes) then take 20 bytes ++ little_bytes 4 frame ++ drop 24 bytes else bytes

-- those of the frames 1 to COUNT, in the order in which they are sent
abbrev pub sent_of : ℕ → List (List ℕ) → List (List ℕ)
sent_of zero all = []
sent_of (suc count) all = sent_of count all ++ map (numbered_bytes (suc count)) all

-- each EVERY-th is lost, by its number from 1; none at 0
abbrev pub is_dropped : ℕ → ℕ → Bool
is_dropped every number = not (every == 0) && number % every == 0

-- those that aren't lost, where so many were sent before
abbrev pub arriving : ℕ → ℕ → List (List ℕ) → List (List ℕ)
arriving every before [] = []
arriving every before (bytes ∷ rest) =
    if is_dropped every (before + 1) then arriving every (before + 1) rest else bytes ∷ arriving every (before + 1) rest

-- all that arrives of COUNT frames, the newest first
abbrev pub arrivals_of : ℕ → ℕ → List (List ℕ) → List Arrival
arrivals_of every count all = datagrams (reverse (arriving every 0 (sent_of count all)))
