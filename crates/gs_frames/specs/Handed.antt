-- Which frames a client hands to its decoder.
use Rattle.std.specs.Prelude.{ℕ, zero, suc, ◌+◌, Bool, true, ◌&&◌, ◌||◌, not, List, [], ◌∷◌, ◌++◌, Option, Some, None}
use Rattle.std.specs.Prelude.{nat_lt, ◌==◌, if◌then◌else◌}
use Rattle.std.specs.List.{filter, find, list_any}
use Rattle.gs_frames.specs.Client.{ClientSettings, Arrival, Datagram, Reset}
use Rattle.gs_frames.specs.Image.{Frame}
use Rattle.gs_frames.specs.Received.{Received, taken}
use Rattle.gs_frames.specs.Complete.{complete}
use Rattle.gs_frames.specs.Settled.{settled}

-- a frame that can be decoded whatever was lost before it
abbrev pub is_re_entry : ℕ → Bool
is_re_entry kind = kind == 2 || kind == 5

-- a frame that was handed: its index, its kind and its unit
pub record Handed : Type 0 where
  pub frame : ℕ
  pub kind : ℕ
  pub unit : List ℕ

-- up to which frame it was settled at each reset, the newest reset first
abbrev pub settled_at_resets : ClientSettings → List Arrival → List ℕ
settled_at_resets client [] = []
settled_at_resets client (Datagram bytes ∷ came) = settled_at_resets client came
settled_at_resets client (Reset ∷ came) = settled client (taken client came) ∷ settled_at_resets client came

-- the last reset before what settled the frame, where there was one: at an earlier reset the frame wasn't settled
abbrev pub last_reset_before : List ℕ → ℕ → Option ℕ
last_reset_before resets frame = find (λ reset. nat_lt reset frame) resets

-- an IDR frame was handed behind that reset
abbrev pub has_idr_since : List Handed → Option ℕ → Bool
has_idr_since below None = true
has_idr_since below (Some reset) = list_any (λ h. h.kind == 2 && nat_lt reset h.frame) below

-- A frame that refers to another is barred from a reset on, until an IDR frame below it was handed.
abbrev pub is_barred : List ℕ → List Handed → ℕ → ℕ → Bool
is_barred resets below frame kind = not (kind == 2) && not (has_idr_since below (last_reset_before resets frame))

-- A frame of this kind is handed, behind those of the frames below it that are: it isn't barred, and it is a re-entry
-- frame or follows a handed one.
abbrev pub is_handed : List ℕ → List Handed → ℕ → ℕ → Bool
is_handed resets below frame kind =
    not (is_barred resets below frame kind) && (is_re_entry kind || list_any (λ h. h.frame + 1 == frame) below)

abbrev pub hand_on : List ℕ → List Handed → ℕ → Option Frame → List Handed
hand_on resets below frame None = below
hand_on resets below frame (Some held) =
    if is_handed resets below frame held.kind
    then below ++ record { frame = frame; kind = held.kind; unit = held.unit } ∷ []
    else below

-- of the first n frames those that are handed, by rising index
unfoldable pub handed_through : ClientSettings → List Received → List ℕ → ℕ → List Handed
handed_through client rs resets zero = []
handed_through client rs resets (suc f) =
    hand_on resets (handed_through client rs resets f) (suc f) (complete client rs (suc f))

-- the frames handed, of all that the client was given: complete and settled ones, by rising index
unfoldable pub handed : ClientSettings → List Arrival → List Handed
handed client came =
    handed_through client (taken client came) (settled_at_resets client came) (settled client (taken client came))

-- the frames that one more arrival hands: those that it settles
abbrev pub newly_handed : ClientSettings → Arrival → List Arrival → List Handed
newly_handed client arrival came =
    filter (λ h. nat_lt (settled client (taken client came)) h.frame) (handed client (arrival ∷ came))
