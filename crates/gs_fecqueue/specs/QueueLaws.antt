-- What a queue stands for with a reset of the decoder, and the image of a frame that becomes whole.
use Rattle.std.specs.Prelude.{ℕ, ◌≡◌, ◌≤◌, true, List, ◌∷◌, Some}
use Rattle.gs_frames.specs.declared.verdict.Added.TheVariants.{FrameWhole}
use Rattle.gs_frames.specs.Client.{ClientSettings, HasWindow, Arrival, Datagram, Reset}
use Rattle.gs_frames.specs.Received.{Received, IsReceived, taken}
use Rattle.gs_frames.specs.Verdict.{verdict}
use Rattle.gs_frames.specs.VerdictLaws.{image_of}
use Rattle.gs_fecqueue.specs.declared.queue.Queue.{Queue}
use Rattle.gs_fecqueue.specs.Standing.{is_at_hand, IsQueueOf}

-- A reset changes nothing for it.
abbrev pub ResetChangesNothing : Type 0
ResetChangesNothing =
    (q : Queue) (client : ClientSettings) (came : List Arrival) → IsQueueOf q client came
    → IsQueueOf q client (Reset ∷ came)

-- the frame of this datagram has an image, which is at hand
pub record HasImageAtHand (client : ClientSettings) (came : List Arrival) (bytes : List ℕ) : Type 0 where
  pub r : Received
  pub is_received : IsReceived client.stream bytes r
  pub least : 1 ≤ r.head.frame
  pub image : List ℕ
  pub image_is : image_of client (Datagram bytes ∷ came) r.head.frame ≡ Some image
  pub at_hand :
      is_at_hand client.window (taken client came) (taken client (Datagram bytes ∷ came)) r.head.frame ≡ true

-- Where the verdict says that a frame became whole, its image is at hand.
abbrev pub WholeFrameIsAtHand : Type 0
WholeFrameIsAtHand =
    (client : ClientSettings) (came : List Arrival) (bytes : List ℕ) → HasWindow client
    → verdict client came bytes ≡ FrameWhole → HasImageAtHand client came bytes
