-- A frame of whose blocks enough datagrams came before any by which it is left is complete from then on.
use Rattle.std.proofs.Common.{◌≡◌, ℕ, true, List, [], ◌∷◌, ◌++◌, Some, ap, subst, ◌∙◌}
use Rattle.std.specs.List.{Contains}
use Rattle.std.proofs.lemmas.List.Elements.{filter_map-append}
use Rattle.gs_refs.specs.History.{frame_kind}
use Rattle.gs_frames.specs.Client.{ClientSettings}
use Rattle.gs_frames.specs.Image.{Frame}
use Rattle.gs_frames.specs.Received.{Received, taken_one, taken}
use Rattle.gs_frames.specs.Complete.{complete}
use Rattle.gs_frames.specs.Handed.{Handed, settled_at_resets, is_handed, handed}
use Rattle.gs_frames.specs.HandedLaws.{handed_below}
use Rattle.gs_frames.proofs.CompleteStays.{complete_stays}
use Rattle.gs_frames.proofs.EnoughCame.{enough_complete}
use Rattle.gs_frames.proofs.HandedGrows.{handed_exactly}
use Rattle.gs_stream.specs.Video.{unit_of}
use Rattle.gs_stream.specs.HandedLaws.{FramesThatCameAreComplete, FramesThatCameAreHanded, IdrFramesThatCameAreHanded}
use Rattle.gs_stream.proofs.FrameStreams.{sent_out}
use Rattle.gs_stream.proofs.SentFrames.{frame_is_sent}
use Rattle.gs_stream.proofs.StreamFrames.{taken_were_sent, frames_come_from}

-- a complete frame stays so, and holds the same, whatever comes behind
complete_stays_behind : (client : ClientSettings) (more rs : List Received) (f : ℕ) (held : Frame) → complete client rs f ≡ Some held
    → complete client (more ++ rs) f ≡ Some held
complete_stays_behind client [] rs f held e = e
complete_stays_behind client (r ∷ more) rs f held e = complete_stays client r (more ++ rs) f held (complete_stays_behind client more rs f held e)

-- the first law
pub came_complete : FramesThatCameAreComplete
came_complete client ticks h before after f host whole =
    let rs = taken client before in
    let held : Frame = record { kind = frame_kind h f; unit = unit_of ticks h f } in
    let at_that_time : complete client rs f ≡ Some held =
    enough_complete client (sent_out client.stream ticks h f) rs (frame_is_sent client.stream ticks h f host whole.least whole.greatest)
    (frames_come_from client.stream ticks h f rs (taken_were_sent client ticks h before host whole.sent)) whole.not_left whole.enough in
    ap (λ (l : List Received). complete client l f) (filter_map-append (taken_one client) after before)
    ∙ complete_stays_behind client (taken client after) rs f held at_that_time

-- the second law
pub came_handed : FramesThatCameAreHanded
came_handed client ticks h before after f host whole is_settled is_to_hand =
    let one : Handed = record { frame = f; kind = frame_kind h f; unit = unit_of ticks h f } in
    (handed_exactly client (after ++ before) one).1 (record {
      least = whole.least;
      is_settled = is_settled;
      is_complete = came_complete client ticks h before after f host whole;
      is_to_hand = is_to_hand;
    })

-- an IDR frame is handed behind any frames
pub idr_is_handed : (resets : List ℕ) (below : List Handed) (f kind : ℕ) → kind ≡ 2 → is_handed resets below f kind ≡ true
idr_is_handed resets below f kind idr = ap (is_handed resets below f) idr

-- the third law
pub idr_came_handed : IdrFramesThatCameAreHanded
idr_came_handed client ticks h before after f host whole is_settled idr =
    let came = after ++ before in
    let Among : ℕ → Type 0 = λ k. Contains (handed client came) (record { frame = f; kind = k; unit = unit_of ticks h f }) in
    subst Among idr
    (came_handed client ticks h before after f host whole is_settled
    (idr_is_handed (settled_at_resets client came) (handed_below client came f) f (frame_kind h f) idr))
