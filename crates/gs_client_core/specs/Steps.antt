-- Cited by private contracts alone: what the steps of a client's call make of one more datagram.
use Rattle.std.specs.Prelude.{ℕ, ◌≡◌, true, List, ◌∷◌, ◌++◌, length, All, Option, Some, None}
use Rattle.gs_frames.specs.Client.{ClientSettings, Arrival, Datagram}
use Rattle.gs_frames.specs.Received.{Received, taken}
use Rattle.gs_frames.specs.Complete.{complete, IsComplete}
use Rattle.gs_frames.specs.Handed.{Handed, handed}
use Rattle.gs_fecqueue.specs.declared.moved.Moved.{Moved}
use Rattle.gs_fecqueue.specs.Moves.{moved_by}
use Rattle.gs_fecqueue.specs.Standing.{is_at_hand, all_but_last}
use Rattle.gs_fecqueue.specs.QueueLaws.{HasImageAtHand}
use Rattle.gs_depack.specs.declared.depack.Depack.{Depack}
use Rattle.gs_depack.specs.Depack.{Handing, IsMove, IsDepackOf}
use Rattle.gs_client_core.specs.declared.given.Given.{Given}
use Rattle.gs_client_core.specs.Given.{frames_of, handed_at, in_some}

-- the depack was told what the datagram moved, and may be told that its frame became complete
pub record IsMovedOn (d : Depack) (c : ClientSettings) (came : List Arrival) (bytes : List ℕ) (moved : Moved)
    : Type 0 where
  pub r : Received
  pub is_move : IsMove moved c came bytes r
  pub handing : Handing d c (Datagram bytes ∷ came) (Some r.head.frame) (handed c came)

-- or it wasn't told of it, since it moved nothing
pub record IsAsBefore (d : Depack) (c : ClientSettings) (came : List Arrival) (bytes : List ℕ) : Type 0 where
  pub nothing : moved_by c came bytes ≡ None
  pub stands : IsDepackOf d c came

abbrev pub IsArrivalTold : Depack → ClientSettings → List Arrival → List ℕ → Option Moved → Type 0
IsArrivalTold d c came bytes None = IsAsBefore d c came bytes
IsArrivalTold d c came bytes (Some moved) = IsMovedOn d c came bytes moved

-- a frame that is whole with this datagram, and wasn't complete
pub record IsNowWhole (c : ClientSettings) (came : List Arrival) (bytes : List ℕ) : Type 0 where
  pub at : HasImageAtHand c came bytes
  pub none_before : complete c (taken c came) at.r.head.frame ≡ None

-- Behind these frames the rest was handed too: its indices stand in the places.
pub record HandsRest (d : Depack) (c : ClientSettings) (came : List Arrival) (given : List Handed)
    (places : List (Option ℕ)) : Type 0 where
  pub rest : List Handed
  pub all : given ++ rest ≡ handed c came
  pub places_are : places ≡ in_some (length places) (frames_of rest)
  pub stands : IsDepackOf d c came

-- a complete frame whose image is at hand
pub record IsHandReady (c : ClientSettings) (came : List Arrival) (h : Handed) : Type 0 where
  pub at_hand : is_at_hand c.window (taken c (all_but_last came)) (taken c came) h.frame ≡ true
  pub is_complete : IsComplete c (taken c came) h.frame (record { kind = h.kind; unit = h.unit })

abbrev pub AreReady : ClientSettings → List Arrival → List Handed → Type 0
AreReady c came hs = All (IsHandReady c came) hs

-- What is given in a place: such a frame, where the place has its index, and else nothing.
pub record PlaceGives (c : ClientSettings) (came : List Arrival) (place : Option ℕ) (unit : Option Given)
    : Type 0 where
  pub none : place ≡ None → unit ≡ None
  pub some : (h : Handed) → IsHandReady c came h → place ≡ Some h.frame → handed_at unit ≡ Some h
