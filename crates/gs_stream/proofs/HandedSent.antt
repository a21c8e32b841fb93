-- The frames that a client is handed of a host's history were sent.
use Rattle.std.proofs.Common.{◌≡◌, ◌≤◌, ℕ, List, [], ◌∷◌, Some, sym, ap, subst, arith, inl, inr}
use Rattle.std.specs.Prelude.{nat_lt}
use Rattle.std.specs.List.{All, Contains}
use Rattle.std.proofs.lemmas.Bool.{cond-true, cond-false, cases_Bool}
use Rattle.std.proofs.lemmas.List.Elements.{All-head, All-tail, All-weaker, All-contains_itself}
use Rattle.gs_tape.specs.Tick.{Tick}
use Rattle.gs_rtp.specs.Stream.{StreamSettings}
use Rattle.gs_refs.specs.declared.entry.Entry.{Entry}
use Rattle.gs_refs.specs.History.{frames, frame_kind}
use Rattle.gs_frames.specs.Client.{ClientSettings, Arrival}
use Rattle.gs_frames.specs.Image.{Frame}
use Rattle.gs_frames.specs.Received.{Received, taken, greatest}
use Rattle.gs_frames.specs.Complete.{complete}
use Rattle.gs_frames.specs.Settled.{settled}
use Rattle.gs_frames.specs.Handed.{handed}
use Rattle.gs_frames.proofs.CompleteSent.{complete_is_sent}
use Rattle.gs_frames.proofs.HandedGrows.{handed_exactly}
use Rattle.gs_frames.proofs.SettledUp.{settled-within}
use Rattle.gs_stream.specs.Video.{unit_of}
use Rattle.gs_stream.specs.Paired.{AreOfHistory}
use Rattle.gs_stream.specs.HandedLaws.{IsHostHistory, IsSentFrame, HandedFramesWereSent}
use Rattle.gs_stream.proofs.FrameStreams.{IsReceivedOfSentFrame, sent_out}
use Rattle.gs_stream.proofs.SentFrames.{frame_is_sent}
use Rattle.gs_stream.proofs.StreamFrames.{taken_were_sent, frames_come_from}

-- no frame came that wasn't sent
pub greatest_was_sent : (settings : StreamSettings) (ticks : List Tick) (h : List Entry) (rs : List Received)
    → All (IsReceivedOfSentFrame settings ticks h) rs → greatest rs ≤ frames h
greatest_was_sent settings ticks h [] sent = omega arith
greatest_was_sent settings ticks h (r ∷ rs) sent =
    let first : r.head.frame ≤ frames h = (All-head (IsReceivedOfSentFrame settings ticks h) r rs sent).greatest in
    let Within : ℕ → Type 0 = λ n. n ≤ frames h in
    let rest = greatest_was_sent settings ticks h rs (All-tail (IsReceivedOfSentFrame settings ticks h) r rs sent) in
    elim (cases_Bool (nat_lt (greatest rs) r.head.frame)) [
      | inl above ↦ subst Within (sym (cond-true (nat_lt (greatest rs) r.head.frame) r.head.frame (greatest rs) above)) first
      | inr other ↦ subst Within (sym (cond-false (nat_lt (greatest rs) r.head.frame) r.head.frame (greatest rs) other)) rest
    ]

-- A complete frame is the one that was sent.
pub complete_was_sent : (client : ClientSettings) (ticks : List Tick) (h : List Entry) (rs : List Received) (f : ℕ) (held : Frame)
    → IsHostHistory client.stream ticks h → All (IsReceivedOfSentFrame client.stream ticks h) rs → 1 ≤ f → f ≤ frames h
    → complete client rs f ≡ Some held → held ≡ record { kind = frame_kind h f; unit = unit_of ticks h f }
complete_was_sent client ticks h rs f held host sent least most whole =
    complete_is_sent client (sent_out client.stream ticks h f) rs held
    (frame_is_sent client.stream ticks h f host least most) (frames_come_from client.stream ticks h f rs sent) whole

-- a settled frame was sent
pub settled_was_sent : (client : ClientSettings) (ticks : List Tick) (h : List Entry) (came : List Arrival) → IsHostHistory client.stream ticks h
    → AreOfHistory client ticks h came → (f : ℕ) → f ≤ settled client (taken client came) → f ≤ frames h
settled_was_sent client ticks h came host sent f most =
    let rs = taken client came in
    let within = settled-within client rs in
    let were = greatest_was_sent client.stream ticks h rs (taken_were_sent client ticks h came host sent) in
    omega arith

-- the law
pub handed_were_sent : HandedFramesWereSent
handed_were_sent client ticks h came host sent =
    let rs = taken client came in
    let were = taken_were_sent client ticks h came host sent in
    All-weaker (Contains (handed client came)) (IsSentFrame ticks h) (λ g among.
    let is = (handed_exactly client came g).0 among in
    let most = settled_was_sent client ticks h came host sent g.frame is.is_settled in
    let same = complete_was_sent client ticks h rs g.frame (record { kind = g.kind; unit = g.unit }) host were is.least most is.is_complete in
    record { least = is.least; greatest = most; kind = ap (λ (x : Frame). x.kind) same; unit = ap (λ (x : Frame). x.unit) same })
    (handed client came) (All-contains_itself (handed client came))
