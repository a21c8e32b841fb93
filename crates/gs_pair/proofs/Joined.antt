-- Each handed frame's reference stands earlier among the handed ones, and behind the last reset before the frame.
use Rattle.std.proofs.Common.{◌≡◌, ◌<◌, ◌≤◌, ℕ, List, [], ◌∷◌, Some, length, refl, ap, subst, ◌∙◌, arith, inl, inr}
use Rattle.std.specs.List.{Contains}
use Rattle.std.proofs.lemmas.Bool.{cases_lt}
use Rattle.std.proofs.lemmas.List.{length-map}
use Rattle.std.proofs.lemmas.List.Elements.{All-weaker, Contains-get_or}
use Rattle.gs_tape.specs.Tick.{Tick}
use Rattle.gs_refs.specs.declared.entry.Entry.{Entry}
use Rattle.gs_refs.specs.History.{reference_of}
use Rattle.gs_frames.specs.Client.{ClientSettings, Arrival, datagrams}
use Rattle.gs_frames.specs.Image.{Frame}
use Rattle.gs_frames.specs.Received.{taken}
use Rattle.gs_frames.specs.Handed.{Handed, settled_at_resets, handed}
use Rattle.gs_frames.proofs.HandedGrows.{handed_rise, handed_exactly}
use Rattle.gs_stream.specs.HandedLaws.{IsHostHistory}
use Rattle.gs_stream.specs.Paired.{IsPaired}
use Rattle.gs_stream.proofs.SentFrames.{frame_is_sent}
use Rattle.gs_stream.proofs.HandedSent.{complete_was_sent}
use Rattle.gs_stream.proofs.StreamFrames.{taken_were_sent}
use Rattle.gs_pair.specs.References.{AreTogether, ReferencesHeldSince, handed_frames, reset_cuts, ReferencesWereHanded, ReferencesWereHandedWithoutResets}
use Rattle.gs_pair.proofs.Descent.{Agrees, reference_is_handed}
use Rattle.gs_pair.proofs.HandedLists.{at, frame_at, stands_at, smaller_before, IsResetCut, cuts_are}

-- a history agrees with what came of it
came_agrees : (client : ClientSettings) (ticks : List Tick) (h : List Entry) (came : List Arrival) → IsHostHistory client.stream ticks h
    → IsPaired client ticks h came → Agrees client came h
came_agrees client ticks h came host paired =
    let were = taken_were_sent client ticks h came host paired.sent in
    record {
      written = λ f least most. (frame_is_sent client.stream ticks h f host least most).written;
      kinds = λ f held least most done.
          ap (λ (x : Frame). x.kind) (complete_was_sent client ticks h (taken client came) f held host were least most done);
      asked = paired.asked;
    }

-- frames that no reset parts stand at places that no cut parts
together : (client : ClientSettings) (came : List Arrival) (i j : ℕ) → i < length (handed client came) → j < length (handed client came)
    → ((s : ℕ) → Contains (settled_at_resets client came) s → s < (at (handed client came) i).frame → s < (at (handed client came) j).frame)
    → AreTogether (reset_cuts client came) j i
together client came i j within inside since =
    All-weaker (IsResetCut client came) (λ cut. cut ≤ i → cut ≤ j) (λ cut is below. elim (cases_lt j cut) [
      | inr from ↦ from
      | inl before ↦
          let above = since is.reset is.is_reset (is.is_cut.behind i below within) in
          let most = is.is_cut.before j before in
          absurd (omega arith)
    ]) (reset_cuts client came) (cuts_are client came)

pub references_were_handed : ReferencesWereHanded
references_were_handed client ticks h came window host paired place reference within refers =
    let hs = handed client came in
    let inside : place < length hs = omega (arith, length-map hs (λ (f : Handed). f.frame)) in
    let next = at hs place in
    let to_hand = (handed_exactly client came next).0 (Contains-get_or hs place _ inside) in
    let number = frame_at hs place inside in
    let Refers : ℕ → Type 0 = λ f. reference_of h f ≡ Some reference in
    let agrees = came_agrees client ticks h came host paired in
    let before = reference_is_handed client ticks came h next reference window host.legal agrees to_hand (subst Refers number refers) in
    let stands = stands_at hs before.one before.is.among in
    let j = stands.0 in
    let its : (at hs j).frame ≡ reference = ap (λ (f : Handed). f.frame) stands.1.is ∙ before.is.number in
    let less : reference < next.frame = before.earlier in
    record {
      at = j;
      earlier = smaller_before hs place j (handed_rise client came) inside stands.1.within (omega arith);
      there = frame_at hs j stands.1.within ∙ its;
      together = together client came place j inside stands.1.within (λ s reset below.
          let above : s < reference = before.since s reset below in omega arith);
    }

-- ---- without resets

no_cuts : (client : ClientSettings) (came : List (List ℕ)) → reset_cuts client (datagrams came) ≡ []
no_cuts client [] = refl
no_cuts client (bytes ∷ came) = no_cuts client came

pub references_without_resets : ReferencesWereHandedWithoutResets
references_without_resets client ticks h came window host paired =
    let Held : List ℕ → Type 0 = ReferencesHeldSince h (handed_frames client (datagrams came)) in
    subst Held (no_cuts client came) (references_were_handed client ticks h (datagrams came) window host paired)
