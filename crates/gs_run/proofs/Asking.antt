-- What a host took as invalid is a prefix of what its client asked for.
use Rattle.std.proofs.Common.{◌≡◌, ◌<◌, ◌≤◌, ◌+◌, ◌^◌, ℕ, Bool, true, false, cond, List, [], ◌∷◌, ◌++◌, map, Some, refl, sym, ap, ◌∙◌, arith}
use Rattle.std.specs.Prelude.{◌==◌}
use Rattle.std.proofs.lemmas.Bool.{eqb-false}
use Rattle.std.proofs.lemmas.List.{append_assoc}
use Rattle.gs_bytes.specs.Prefix.{IsPrefixOf}
use Rattle.gs_rtp.specs.Stream.{StreamSettings}
use Rattle.gs_tape.specs.Tick.{Tick}
use Rattle.gs_tape.specs.Limits.{AreWithinLimits, most_ticks}
use Rattle.gs_tape.proofs.Ticks.{tick_of_number}
use Rattle.gs_refs.specs.declared.entry.Entry.{Entry}
use Rattle.gs_refs.specs.declared.entry.Entry.TheVariants.{Sent, Invalid, IdrAsked, Ended}
use Rattle.gs_refs.specs.History.{frames, last_tick}
use Rattle.gs_refs.specs.Choice.{IsRange, IsLegal}
use Rattle.gs_refs.proofs.Lookups.{tick_of-sent}
use Rattle.gs_frames.specs.declared.range.Range.{Range}
use Rattle.gs_frames.specs.Client.{ClientSettings, HasWindow, Arrival}
use Rattle.gs_frames.specs.Received.{taken}
use Rattle.gs_frames.specs.Asks.{newly_asked}
use Rattle.gs_frames.proofs.AsksGrow.{arrival_asks_for_lost}
use Rattle.gs_frames.proofs.SettledUp.{left-says}
use Rattle.gs_stream.specs.HandedLaws.{IsHostHistory}
use Rattle.gs_stream.specs.Paired.{AreOfHistory}
use Rattle.gs_stream.proofs.HandedSent.{greatest_was_sent}
use Rattle.gs_stream.proofs.StreamFrames.{taken_were_sent}
use Rattle.gs_enet.specs.declared.event.PeerEvent.{PeerEvent}
use Rattle.gs_enet.specs.declared.event.PeerEvent.TheVariants as event
use Rattle.gs_enet.specs.Record.{messages_on}
use Rattle.gs_enet.proofs.Lists.{Each}
use Rattle.gs_client_core.specs.declared.asker.Owed.TheVariants.{Lost, Idr}
use Rattle.gs_client_core.specs.declared.asker.Owed.{Owed}
use Rattle.gs_run.specs.Message.{Act, Invalidate, AskIdr, Input, Nothing, act_of}
use Rattle.gs_client_core.specs.Owed.{owed_message}
use Rattle.gs_run.proofs.Acts.{IsOfUser, range_is_told, idr_is_told}
use Rattle.gs_run.proofs.Heard.{act_ranges, ranges_in, ranges_told, ranges_in-append, IsFitting}

-- ---- frames

-- no more frames than ticks
pub frames_and_ticks : (audio : ℕ) (ticks : List Tick) (h : List Entry) → AreWithinLimits audio 1 0 ticks → IsLegal ticks h
    → (frames h ≤ last_tick h) × (last_tick h ≤ most_ticks)
frames_and_ticks audio ticks [] within legal = (omega arith, omega arith)
frames_and_ticks audio ticks (Sent tick kind reference ∷ h) within legal =
    let before = frames_and_ticks audio ticks h within legal.0 in
    let last : last_tick (Sent tick kind reference ∷ h) ≡ tick = tick_of-sent h tick kind reference (frames h + 1) refl in
    let newer = legal.2.0 in
    let is = tick_of_number audio tick ticks legal.2.1 within legal.2.2 in
    let most = is.within.number_most in
    (omega (arith, last, newer, before.0), omega (arith, last, most))
frames_and_ticks audio ticks (Invalid first last ∷ h) within legal = frames_and_ticks audio ticks h within legal.0
frames_and_ticks audio ticks (IdrAsked ∷ h) within legal = frames_and_ticks audio ticks h within legal.0
frames_and_ticks audio ticks (Ended first last ∷ h) within legal = frames_and_ticks audio ticks h within legal.0

pub frames_few : (settings : StreamSettings) (ticks : List Tick) (h : List Entry) → IsHostHistory settings ticks h → frames h < 2 ^ 63
frames_few settings ticks h is =
    let k = frames_and_ticks settings.audio ticks h is.capture is.legal in omega (arith, k.0, k.1)

-- a range that is asked for was sent
pub asked_is_sent : (client : ClientSettings) (ticks : List Tick) (h : List Entry) (arrival : Arrival) (came : List Arrival) (range : Range)
    → HasWindow client
    → IsHostHistory client.stream ticks h → AreOfHistory client ticks h (arrival ∷ came) → newly_asked client arrival came ≡ Some range
    → IsRange (frames h) range.first range.last
asked_is_sent client ticks h arrival came range window host sent e =
    let is = (arrival_asks_for_lost client arrival came range window).0 e in
    let now = taken client (arrival ∷ came) in
    let least = is.first_lost.least in
    let left = left-says client.window now range.first is.first_lost.is_left_now in
    let last = is.last_left in
    let most = greatest_was_sent client.stream ticks h now (taken_were_sent client ticks h (arrival ∷ came) host sent) in
    (omega (arith, least), omega (arith, left, last), omega (arith, last, most))

-- ---- ranges on one channel

-- a message that no act but a user's comes of
abbrev pub IsOther : List ℕ → Type 0
IsOther bytes = IsOfUser (act_of bytes)

none_of_user : (a : Act) → IsOfUser a → act_ranges a ≡ []
none_of_user (Input event) of = refl
none_of_user Nothing of = refl
none_of_user AskIdr of = absurd of
none_of_user (Invalidate first last) of = absurd of

-- where the messages of the other channels are a user's, the ranges told are those of the one channel
pub ranges_on_one : (es : List PeerEvent) → ((c : ℕ) → (c ≡ 1 → ⊥) → Each IsOther (messages_on c es)) → ranges_told es ≡ ranges_in (messages_on 1 es)
ranges_on_one [] other = refl
ranges_on_one (event.Message d n bytes ∷ es) other =
    here (d == 1) refl (ranges_on_one es (λ c apart. rest c (d == c) (other c apart)))
  where
    rest : (c : ℕ) (b : Bool) → Each IsOther (cond b (bytes ∷ messages_on c es) (messages_on c es)) → Each IsOther (messages_on c es)
    rest c true h = h.1
    rest c false h = h

    own : (b : Bool) → (d == d) ≡ b → Each IsOther (cond b (bytes ∷ messages_on d es) (messages_on d es)) → IsOther bytes
    own true e h = h.0
    own false e h = absurd (eqb-false d d e refl)

    here : (b : Bool) → (d == 1) ≡ b → ranges_told es ≡ ranges_in (messages_on 1 es)
        → act_ranges (act_of bytes) ++ ranges_told es ≡ ranges_in (cond b (bytes ∷ messages_on 1 es) (messages_on 1 es))
    here true e more = ap (λ (l : List Range). act_ranges (act_of bytes) ++ l) more
    here false e more =
        ap (λ (l : List Range). l ++ ranges_told es) (none_of_user (act_of bytes) (own (d == d) refl (other d (eqb-false d 1 e)))) ∙ more
ranges_on_one (event.Connected ∷ es) other = ranges_on_one es other
ranges_on_one (event.Closed ∷ es) other = ranges_on_one es other
ranges_on_one (event.PeerClosed ∷ es) other = ranges_on_one es other
ranges_on_one (event.Lost c n ∷ es) other = ranges_on_one es other

-- ---- what is owed

abbrev pub lost_of : List Owed → List Range
lost_of [] = []
lost_of (Lost range ∷ os) = range ∷ lost_of os
lost_of (Idr ∷ os) = lost_of os

pub lost_of-append : (os ps : List Owed) → lost_of (os ++ ps) ≡ lost_of os ++ lost_of ps
lost_of-append [] ps = refl
lost_of-append (Lost range ∷ os) ps = ap (λ (l : List Range). range ∷ l) (lost_of-append os ps)
lost_of-append (Idr ∷ os) ps = lost_of-append os ps

-- the ranges of the messages that ask for it
pub ranges_of_owed : (sent : ℕ) (os : List Owed) → sent < 2 ^ 63 → Each (IsFitting sent) os → ranges_in (map owed_message os) ≡ lost_of os
ranges_of_owed sent [] few fits = refl
ranges_of_owed sent (Lost range ∷ os) few fits =
    let small_last : range.last < 2 ^ 63 = omega (arith, few, fits.0.2) in
    let small_first : range.first < 2 ^ 63 = omega (arith, few, fits.0.1, fits.0.2) in
    ap (λ (a : Act). act_ranges a ++ ranges_in (map owed_message os)) (range_is_told range.first range.last small_first small_last)
    ∙ ap (λ (l : List Range). range ∷ l) (ranges_of_owed sent os few fits.1)
ranges_of_owed sent (Idr ∷ os) few fits =
    ap (λ (a : Act). act_ranges a ++ ranges_in (map owed_message os)) idr_is_told ∙ ranges_of_owed sent os few fits.1

-- ---- the prefix

pub is_prefix : (sent : ℕ) (told : List PeerEvent) (given rest : List (List ℕ)) (asked owed : List Owed) (all : List Range) → sent < 2 ^ 63
    → ((c : ℕ) → (c ≡ 1 → ⊥) → Each IsOther (messages_on c told)) → given ≡ messages_on 1 told ++ rest → given ≡ map owed_message asked
    → Each (IsFitting sent) asked → lost_of (asked ++ owed) ≡ all → IsPrefixOf (ranges_told told) all
is_prefix sent told given rest asked owed all few other front is_asked fits is_all =
    let one : ranges_told told ≡ ranges_in (messages_on 1 told) = ranges_on_one told other in
    let parts : lost_of asked ≡ ranges_in (messages_on 1 told) ++ ranges_in rest =
    sym (ranges_of_owed sent asked few fits) ∙ ap ranges_in (sym is_asked ∙ front) ∙ ranges_in-append (messages_on 1 told) rest in (
      ranges_in rest ++ lost_of owed,
      sym is_all ∙ lost_of-append asked owed
          ∙ ap (λ (l : List Range). l ++ lost_of owed) (parts ∙ ap (λ (l : List Range). l ++ ranges_in rest) (sym one))
          ∙ append_assoc (ranges_told told) (ranges_in rest) (lost_of owed),
    )
