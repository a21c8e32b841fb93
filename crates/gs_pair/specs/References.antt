-- What a client is handed can be decoded: each frame that refers to another comes after that other.
use Rattle.std.specs.Prelude.{ℕ, ◌≡◌, ◌<◌, ◌≤◌, List, [], ◌∷◌, ◌++◌, length, map, slice_index, Some}
use Rattle.std.specs.List.{All}
use Rattle.std.specs.List.Sorted.{IsNonDecreasing}
use Rattle.gs_tape.specs.Tick.{Tick}
use Rattle.gs_refs.specs.declared.entry.Entry.{Entry}
use Rattle.gs_refs.specs.History.{reference_of}
use Rattle.gs_frames.specs.Client.{ClientSettings, HasWindow, Arrival, Datagram, Reset, datagrams}
use Rattle.gs_frames.specs.Handed.{handed}
use Rattle.gs_stream.specs.HandedLaws.{IsHostHistory}
use Rattle.gs_stream.specs.Paired.{IsPaired}

-- No cut parts the two places: each one at or below the later place is at or below the earlier one too. A cut is the
-- place of the first member behind it.
abbrev pub AreTogether : List ℕ → ℕ → ℕ → Type 0
AreTogether cuts earlier later = All (λ cut. cut ≤ later → cut ≤ earlier) cuts

-- the frame stands at a place before this one, and no cut parts the two
pub record StandsBefore (handed cuts : List ℕ) (place frame : ℕ) : Type 0 where
  pub at : ℕ
  pub earlier : at < place
  pub there : slice_index handed at ≡ frame
  pub together : AreTogether cuts at place

-- where one of these frames refers to another, that other stands before it, and not before the last cut at or below it
abbrev pub ReferencesHeldSince : List Entry → List ℕ → List ℕ → Type 0
ReferencesHeldSince h handed cuts =
    (place reference : ℕ) → place < length handed → reference_of h (slice_index handed place) ≡ Some reference
    → StandsBefore handed cuts place reference

-- where one of these frames refers to another, that other stands before it
abbrev pub ReferencesHeld : List Entry → List ℕ → Type 0
ReferencesHeld h handed = ReferencesHeldSince h handed []

-- the frames that a client is handed, in order
abbrev pub handed_frames : ClientSettings → List Arrival → List ℕ
handed_frames client came = map (λ f. f.frame) (handed client came)

-- how many of them were handed before each reset, the first reset first: a frame is handed by the arrival that settles
-- it, so the frames at or behind this place are those settled behind the reset
abbrev pub reset_cuts : ClientSettings → List Arrival → List ℕ
reset_cuts client [] = []
reset_cuts client (Datagram bytes ∷ came) = reset_cuts client came
reset_cuts client (Reset ∷ came) = reset_cuts client came ++ length (handed client came) ∷ []

-- However a history's datagrams were lost, repeated or reordered, and whenever the decoder was reset, each frame that a
-- client is handed and that refers to another has that other handed earlier, and behind the last reset before it.
abbrev pub ReferencesWereHanded : Type 0
ReferencesWereHanded =
    (client : ClientSettings) (ticks : List Tick) (h : List Entry) (came : List Arrival)
    → HasWindow client → IsHostHistory client.stream ticks h → IsPaired client ticks h came
    → ReferencesHeldSince h (handed_frames client came) (reset_cuts client came)

-- Where it was never reset, that other is handed earlier.
abbrev pub ReferencesWereHandedWithoutResets : Type 0
ReferencesWereHandedWithoutResets =
    (client : ClientSettings) (ticks : List Tick) (h : List Entry) (came : List (List ℕ))
    → HasWindow client → IsHostHistory client.stream ticks h → IsPaired client ticks h (datagrams came)
    → ReferencesHeld h (handed_frames client (datagrams came))

-- The cuts of a client rise or stay equal, and are places among its frames.
abbrev pub CutsAreInOrder : Type 0
CutsAreInOrder =
    (client : ClientSettings) (came : List Arrival)
    → IsNonDecreasing (reset_cuts client came)
    × All (λ cut. cut ≤ length (handed_frames client came)) (reset_cuts client came)
