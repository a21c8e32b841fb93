-- The units that a client gives, as the frames that are handed.
use Rattle.std.specs.Prelude.{ℕ, ◌≡◌, ◌-◌, ◌++◌, List, length, map, replicate, Option, Some, None}
use Rattle.std.specs.List.{filter_map}
use Rattle.gs_frames.specs.Client.{most_window}
use Rattle.gs_frames.specs.Handed.{Handed}
use Rattle.gs_client_core.specs.declared.given.Given.{Given}

abbrev pub frames_of : List Handed → List ℕ
frames_of hs = map (λ h. h.frame) hs

-- the frame that a unit is
abbrev pub handed_as : Given → Handed
handed_as g = record { frame = g.frame; kind = g.kind; unit = g.bytes.now }

abbrev pub handed_at : Option Given → Option Handed
handed_at None = None
handed_at (Some g) = Some (handed_as g)

-- the frames that are given, in their order
abbrev pub given_frames : List (Option Given) → List Handed
given_frames units = filter_map handed_at units

-- so many places, of which the first have these, in their order, and the others nothing
abbrev pub in_some : {A : Type 0} → ℕ → List A → List (Option A)
in_some n xs = map (λ x. Some x) xs ++ replicate (n - length xs) None

-- as many places as a window can have frames
abbrev pub in_places : {A : Type 0} → List A → List (Option A)
in_places xs = in_some most_window xs

-- The units given are these frames, in their order, each with its index, its kind and, byte for byte, its unit.
abbrev pub AreGiven : List (Option Given) → List Handed → Type 0
AreGiven units hs = map handed_at units ≡ in_places hs
