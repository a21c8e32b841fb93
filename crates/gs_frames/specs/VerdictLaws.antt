-- What the verdict on a datagram says of the frames.
use Rattle.std.specs.Prelude.{ℕ, ◌≡◌, ◌≢◌, ◌↔◌, Bool, true, false, List, ◌∷◌, Option, Some, None, is_some}
use Rattle.gs_frames.specs.declared.verdict.Added.TheVariants.{FrameWhole}
use Rattle.gs_frames.specs.Client.{ClientSettings, Arrival, Datagram}
use Rattle.gs_frames.specs.Received.{Received, IsReceived, taken, oldest, is_of_frame}
use Rattle.gs_frames.specs.Verdict.{is_counting, counting, is_frame_whole, verdict}
use Rattle.gs_frames.specs.Complete.{complete, image_behind}

-- what counts, of all that the client was given
abbrev pub counting_of : ClientSettings → List Arrival → List Received
counting_of client came = counting client.window (taken client came)

-- with this datagram one more counts: what is received of it
pub record CountsOneMore (client : ClientSettings) (came : List Arrival) (bytes : List ℕ) : Type 0 where
  pub r : Received
  pub is_received : IsReceived client.stream bytes r
  pub counted : counting_of client (Datagram bytes ∷ came) ≡ r ∷ counting_of client came

-- A datagram counts where its verdict says so.
abbrev pub VerdictSaysWhatCounts : Type 0
VerdictSaysWhatCounts =
    (client : ClientSettings) (came : List Arrival) (bytes : List ℕ)
    → is_counting (verdict client came bytes) ≡ true → CountsOneMore client came bytes

-- No other counts.
abbrev pub NoOtherCounts : Type 0
NoOtherCounts =
    (client : ClientSettings) (came : List Arrival) (bytes : List ℕ)
    → is_counting (verdict client came bytes) ≡ false
    → counting_of client (Datagram bytes ∷ came) ≡ counting_of client came

abbrev pub are_whole : List Received → ℕ → Option Received → Bool
are_whole counted frame None = false
are_whole counted frame (Some first) = is_frame_whole counted frame first.head.last_block

-- each block of the frame is whole, up to the one that is its last by the first datagram of it
abbrev pub has_whole_blocks : ClientSettings → List Arrival → ℕ → Bool
has_whole_blocks client came frame =
    are_whole (counting_of client came) frame (oldest (is_of_frame frame) (taken client came))

-- the frame of this datagram became whole with it
pub record MakesFrameWhole (client : ClientSettings) (came : List Arrival) (bytes : List ℕ) : Type 0 where
  pub r : Received
  pub is_received : IsReceived client.stream bytes r
  pub not_before : has_whole_blocks client came r.head.frame ≡ false
  pub now : has_whole_blocks client (Datagram bytes ∷ came) r.head.frame ≡ true

-- The verdict says that a frame became whole exactly where its blocks did.
abbrev pub FrameWholeIsExactly : Type 0
FrameWholeIsExactly =
    (client : ClientSettings) (came : List Arrival) (bytes : List ℕ)
    → verdict client came bytes ≡ FrameWhole ↔ MakesFrameWhole client came bytes

-- the joined payloads of the frame's blocks, where each is whole
abbrev pub image_of : ClientSettings → List Arrival → ℕ → Option (List ℕ)
image_of client came frame =
    image_behind client.stream (counting_of client came) frame (oldest (is_of_frame frame) (taken client came))

-- A frame of which each block is whole has an image, and no other does.
abbrev pub WholeBlocksHaveImage : Type 0
WholeBlocksHaveImage =
    (client : ClientSettings) (came : List Arrival) (frame : ℕ)
    → is_some (image_of client came frame) ≡ has_whole_blocks client came frame

-- A frame becomes complete only with a datagram whose verdict says that a frame became whole.
abbrev pub OnlyFrameWholeCompletes : Type 0
OnlyFrameWholeCompletes =
    (client : ClientSettings) (came : List Arrival) (bytes : List ℕ) (frame : ℕ)
    → (verdict client came bytes ≡ FrameWhole → ⊥)
    → complete client (taken client (Datagram bytes ∷ came)) frame ≡ complete client (taken client came) frame

-- It is the datagram's own frame.
abbrev pub OnlyOwnFrameCompletes : Type 0
OnlyOwnFrameCompletes =
    (client : ClientSettings) (came : List Arrival) (bytes : List ℕ) (r : Received) (frame : ℕ)
    → IsReceived client.stream bytes r → frame ≢ r.head.frame
    → complete client (taken client (Datagram bytes ∷ came)) frame ≡ complete client (taken client came) frame
