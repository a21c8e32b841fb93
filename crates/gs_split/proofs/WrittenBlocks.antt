-- A block of a frame, as it is written.
use Rattle.std.proofs.Common.{◌≡◌, ◌≤◌, ◌+◌, ◌*◌, ◌++◌, ℕ, List, length, ap, ◌∙◌, subst, arith}
use Rattle.std.specs.List.{All, concat}
use Rattle.std.proofs.lemmas.List.Elements.{All-drop}
use Rattle.gs_gf256.specs.Field.{IsByte}
use Rattle.gs_rs.specs.declared.shape.CodeShape.{CodeShape}
use Rattle.gs_rs.specs.Shape.{video_code}
use Rattle.gs_rs.specs.Codeword.{IsBlock}
use Rattle.gs_rs.proofs.Points.{IsCode-video}
use Rattle.gs_rtp.specs.Stream.{StreamSettings}
use Rattle.gs_frames.specs.Image.{frame_image, packets}
use Rattle.gs_frames.specs.ImageLaws.{IsWrittenKind}
use Rattle.gs_frames.specs.Shards.{payload_of}
use Rattle.gs_frames.proofs.ShardForms.{frame_image-bytes, are_data_shards}
use Rattle.gs_split.specs.declared.frame.LoadedFrame.{LoadedFrame}
use Rattle.gs_split.specs.declared.placed.PlacedBlock.{PlacedBlock}
use Rattle.gs_split.specs.Places.{placed_plan}
use Rattle.gs_split.specs.Loaded.{block_image, block_data, placed_shards}
use Rattle.gs_rs.proofs.LaidShards.{block-is}
use Rattle.gs_split.proofs.DataShards.{block_image-room}

-- its image is bytes
pub block_image-bytes : (s : StreamSettings) (f : LoadedFrame) (b : PlacedBlock) (unit : List ℕ) → IsWrittenKind f.kind → All IsByte unit
    → All IsByte (block_image s f b unit)
block_image-bytes s f b unit written bytes =
    All-drop IsByte (b.first_packet * payload_of s) (frame_image f.kind unit (payload_of s)) (frame_image-bytes f.kind unit (payload_of s) written bytes)

-- data shards in order, with a code's parity behind them
pub written-block : (s : StreamSettings) (f : LoadedFrame) (b : PlacedBlock) (unit : List ℕ) (code : CodeShape) (size : ℕ) (written parity : List ℕ)
    → 17 ≤ s.packet → 1 ≤ b.shards → b.shards + b.parity ≤ 255 → IsWrittenKind f.kind → All IsByte unit
    → b.first_packet + b.shards ≤ packets (length unit) (payload_of s) → code ≡ video_code b.shards b.parity → size ≡ s.packet
    → written ≡ concat (block_data s f b unit) → IsBlock code size (written ++ parity)
    → written ++ parity ≡ concat (placed_shards s f b unit)
written-block s f b unit code size written parity least some few kind bytes within code_is size_is written_is block =
    let shape = video_code b.shards b.parity in
    let shards = block_data s f b unit in
    let sized : IsBlock code s.packet (written ++ parity) = subst (λ n. IsBlock code n (written ++ parity)) size_is block in
    let coded : IsBlock shape s.packet (written ++ parity) = subst (λ c. IsBlock c s.packet (written ++ parity)) code_is sized in
    let laid : IsBlock shape s.packet (concat shards ++ parity) = subst (λ l. IsBlock shape s.packet (l ++ parity)) written_is coded in
    ap (λ (l : List ℕ). l ++ parity) written_is
    ∙ block-is shape s.packet shards parity (IsCode-video b.shards b.parity some few)
    (are_data_shards s (placed_plan b) (f.count + b.first_datagram) (block_image s f b unit) (omega arith)
    (block_image-room s f b unit (omega arith) within) (block_image-bytes s f b unit kind bytes))
    laid
