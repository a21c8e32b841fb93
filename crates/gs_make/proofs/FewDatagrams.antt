-- A frame has few datagrams, whatever its unit is.
use Rattle.std.proofs.Common.{◌≡◌, ◌≤◌, ◌+◌, ℕ, List, ◌∷◌, length, Some, refl, ap, subst, arith}
use Rattle.std.specs.List.{All}
use Rattle.std.proofs.lemmas.List.{length-append, length-map}
use Rattle.std.proofs.lemmas.List.Elements.{All-weaker}
use Rattle.gs_rtp.specs.Stream.{StreamSettings}
use Rattle.gs_tape.specs.Tick.{Tick}
use Rattle.gs_refs.specs.declared.entry.Entry.{Entry}
use Rattle.gs_refs.specs.declared.entry.Entry.TheVariants.{Sent}
use Rattle.gs_refs.specs.History.{frames}
use Rattle.gs_refs.proofs.Lookups.{sent_behind, sent_frame-sent}
use Rattle.gs_frames.specs.Image.{frame_image, packets}
use Rattle.gs_frames.specs.Plan.{BlockPlan}
use Rattle.gs_frames.specs.Shards.{payload_of}
use Rattle.gs_frames.specs.Datagrams.{datagram_of, first_place, unit_plan, OutgoingFrame, frame_shards, frame_datagrams}
use Rattle.gs_frames.proofs.FramesReceived.{packets-within}
use Rattle.gs_frames.proofs.PlanLimits.{IsWithinGrammar, shards-lt, fec_plan-within}
use Rattle.gs_split.proofs.FrameShards.{length-blocks}
use Rattle.gs_split.proofs.PlannedFrames.{datagrams_before-most}
use Rattle.gs_stream.specs.Video.{unit_or_empty, unit_of, outgoing, sent_datagrams, video_stream}
use Rattle.gs_stream.specs.HandedLaws.{IsHostHistory}
use Rattle.gs_stream.proofs.SentFrames.{frame_is_sent}

-- four blocks of fewer than 1,024 shards
pub frame_has_few : (settings : StreamSettings) (out : OutgoingFrame) → 1024 ≤ settings.packet → settings.percentage ≤ 100 → settings.minimum ≤ 2
    → length out.unit ≤ 4000000 → length (frame_datagrams settings out) ≤ 4092
unfolding frame_datagrams frame_shards
frame_has_few settings out packet percentage minimum unit =
    let plans : List BlockPlan = unit_plan settings out.unit in
    let bounds = packets-within (length out.unit) (payload_of settings) (omega (arith, packet)) unit in
    let are = fec_plan-within (packets (length out.unit) (payload_of settings)) settings.percentage settings.minimum bounds.0 bounds.1 percentage minimum in
    let few : All (λ (b : BlockPlan). b.data_shards + b.parity_shards ≤ 1023) plans =
    All-weaker IsWithinGrammar (λ (b : BlockPlan). b.data_shards + b.parity_shards ≤ 1023)
    (λ b is. let less = shards-lt b is in omega (arith, less)) plans are.each in
    let most = datagrams_before-most 1023 (length plans) plans few in
    let blocks : length plans ≤ 4 = are.few in
    let image = frame_image out.kind out.unit (payload_of settings) in
    let all = length-blocks settings (first_place out plans) out.count plans image in
    omega (arith, most, blocks, all, length-map (frame_shards settings out) datagram_of)

-- the unit of the frame that a history sent last
last_unit : (settings : StreamSettings) (ticks : List Tick) (h : List Entry) (tick kind reference : ℕ)
    → IsHostHistory settings ticks (Sent tick kind reference ∷ h)
    → length (outgoing ticks (length (video_stream settings ticks h)) (frames h + 1) (sent_behind h tick kind reference)).unit ≤ 4000000
last_unit settings ticks h tick kind reference host =
    let sent = frame_is_sent settings ticks (Sent tick kind reference ∷ h) (frames h + 1) host (omega arith) (omega arith) in
    let same : unit_of ticks (Sent tick kind reference ∷ h) (frames h + 1) ≡ unit_or_empty ticks (Some (sent_behind h tick kind reference)) =
    ap (unit_or_empty ticks) (sent_frame-sent h tick kind reference (frames h + 1) refl) in
    subst (λ (unit : List ℕ). length unit ≤ 4000000) same sent.unit_greatest

-- what one more frame adds to a stream
pub sends_few : (settings : StreamSettings) (ticks : List Tick) (h : List Entry) (tick kind reference : ℕ)
    → IsHostHistory settings ticks (Sent tick kind reference ∷ h)
    → length (video_stream settings ticks (Sent tick kind reference ∷ h)) ≤ length (video_stream settings ticks h) + 4092
unfolding video_stream
sends_few settings ticks h tick kind reference host =
    let count = length (video_stream settings ticks h) in
    let more = sent_datagrams settings ticks count (frames h + 1) (sent_behind h tick kind reference) in
    let few = frame_has_few settings (outgoing ticks count (frames h + 1) (sent_behind h tick kind reference)) host.limits.packet_least
    host.limits.percentage_greatest host.limits.minimum_greatest (last_unit settings ticks h tick kind reference host) in
    omega (arith, few, length-append (video_stream settings ticks h) more)
