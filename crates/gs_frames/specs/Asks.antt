-- Which frames a client asks its host to make good.
use Rattle.std.specs.Prelude.{ℕ, ◌+◌, ◌-◌, not, List, [], ◌∷◌, ◌++◌, Option, Some, None, is_some}
use Rattle.std.specs.List.{find, range_with_len}
use Rattle.gs_frames.specs.declared.range.Range.{Range}
use Rattle.gs_frames.specs.Client.{ClientSettings, Arrival}
use Rattle.gs_frames.specs.Received.{Received, taken_one, taken, greatest}
use Rattle.gs_frames.specs.Complete.{complete}

-- Where frame `now` comes and `before` was the greatest, the frames from 1 on that are newly left: those above
-- before - window and at most now - window. There is none where `now` isn't greater.
abbrev pub newly_left : ℕ → ℕ → ℕ → List ℕ
newly_left window before now = range_with_len ((before - window) + 1) ((now - window) - (before - window))

abbrev pub lost_to : ℕ → Option ℕ → Option Range
lost_to last None = None
lost_to last (Some first) = Some (record { first = first; last = last })

-- The range that r makes the client ask for, where r comes behind rs: from the least newly left frame that isn't
-- complete to the last newly left one.
abbrev pub lost_by : ClientSettings → Received → List Received → Option Range
lost_by client r rs =
    lost_to (r.head.frame - client.window)
    (find (λ frame. not (is_some (complete client rs frame))) (newly_left client.window (greatest rs) r.head.frame))

abbrev pub as_list : {A : Type 0} → Option A → List A
as_list None = []
as_list (Some x) = x ∷ []

unfoldable pub asks_of : ClientSettings → List Received → List Range
asks_of client [] = []
asks_of client (r ∷ rs) = asks_of client rs ++ as_list (lost_by client r rs)

-- the ranges asked for, of all that the client was given, in the order of the asks
unfoldable pub asks : ClientSettings → List Arrival → List Range
asks client came = asks_of client (taken client came)

abbrev pub asked_by : ClientSettings → List Received → Option Received → Option Range
asked_by client rs None = None
asked_by client rs (Some r) = lost_by client r rs

-- the range that one more arrival asks for
abbrev pub newly_asked : ClientSettings → Arrival → List Arrival → Option Range
newly_asked client arrival came = asked_by client (taken client came) (taken_one client arrival)
