-- Each deed of a session keeps its part.
use Rattle.std.proofs.Common.{◌≡◌, ◌<◌, ◌+◌, ◌-◌, ℕ, Bool, true, false, not, cond, ◌&&◌, List, [], ◌∷◌, ◌++◌, length, map, Option, Some, None, refl, sym, ap}
use Rattle.std.proofs.Common.{subst, ◌∙◌, arith, inl, inr}
use Rattle.std.specs.Prelude.{nat_lt, slice_get}
use Rattle.std.specs.List.{All, Contains}
use Rattle.std.proofs.lemmas.Bool.{and_parts, ltb-true, cases_eq}
use Rattle.std.proofs.lemmas.List.{append-nil}
use Rattle.std.proofs.lemmas.List.Elements.{All-weaker, Contains-append_left}
use Rattle.gs_tape.specs.Tick.{Tick, tick_numbered}
use Rattle.gs_refs.specs.declared.entry.Entry.{Entry}
use Rattle.gs_refs.specs.History.{frames, last_tick, has_ended}
use Rattle.gs_refs.specs.Choice.{choice}
use Rattle.gs_frames.specs.declared.range.Range.{Range}
use Rattle.gs_frames.specs.Client.{Arrival, Datagram, Reset}
use Rattle.gs_stream.specs.Video.{video_stream}
use Rattle.gs_stream.specs.Audio.{audio_stream}
use Rattle.gs_stream.specs.Paired.{IsOfStream}
use Rattle.gs_stream.proofs.Growth.{streams_only_grow}
use Rattle.gs_stream.proofs.AudioGrowth.{audio_only_grows}
use Rattle.gs_enet.specs.declared.event.PeerEvent.{PeerEvent}
use Rattle.gs_enet.specs.Record.{given_on, heard, messages_on}
use Rattle.gs_enet.specs.World.{Time, acted, came}
use Rattle.gs_enet.proofs.Lists.{Each, each_weaker, each_map}
use Rattle.gs_enet.proofs.Kept.{messages_on-append}
use Rattle.gs_enet.proofs.Acts.{act_both}
use Rattle.gs_run.specs.Session.{Part}
use Rattle.gs_client_core.specs.declared.asker.Owed.TheVariants.{Lost, Idr}
use Rattle.gs_client_core.specs.declared.asker.Owed.{Owed}
use Rattle.gs_run.specs.Message.{act_of}
use Rattle.gs_enet.specs.Sides.{all_told}
use Rattle.gs_client_core.specs.Owed.{owed_message}
use Rattle.gs_run.specs.Hearing.{all_heard, host_hears, up_taken, down_taken, timed_part, entered}
use Rattle.gs_run.specs.Streaming.{newest_sent, turned, turn_entry}
use Rattle.gs_run.specs.Scene.{Scene}
use Rattle.gs_run.proofs.Calm.{IsCalm}
use Rattle.gs_run.proofs.TwoSides.{swapped, told_both, taken_both}
use Rattle.gs_run.proofs.Uses.{kept_came, calm_came, kept_timed, calm_timed}
use Rattle.gs_run.proofs.Heard.{OfMessage, of_each_message, IsGoodMessage, IsFitting, heard_gains, good_of_user, good_owed, ranges_told, ranges_told-append}
use Rattle.gs_run.proofs.Asking.{frames_few, IsOther}
use Rattle.gs_run.proofs.Standing.{IsKeptPart, client_moves, host_moves, client_told_keeps}

-- ---- lists

pub each_front : {X : Type 0} (P : X → Type 0) (xs ys : List X) → Each P (xs ++ ys) → Each P xs
each_front P [] ys all = tt
each_front P (x ∷ xs) ys all = (all.0, each_front P xs ys all.1)

pub each_back : {X : Type 0} (P : X → Type 0) (xs ys : List X) → Each P (xs ++ ys) → Each P ys
each_back P [] ys all = all
each_back P (x ∷ xs) ys all = each_back P xs ys all.1

-- ---- what the host hears

-- each message that a client gave is good
good_given : (ticks : List Tick) (part : Part) → IsKeptPart ticks part → (c : ℕ)
    → Each (IsGoodMessage (frames part.history) c) (given_on c part.client.peer.given)
good_given ticks part k c = elim (cases_eq c 1) [
  | inl same ↦
      let owed : Each (IsFitting (frames part.history)) k.asked = each_front (IsFitting (frames part.history)) k.asked part.owed k.fitting in
      let good : Each (IsGoodMessage (frames part.history) 1) (map owed_message k.asked) =
      each_map (IsGoodMessage (frames part.history) 1) owed_message k.asked
      (each_weaker (IsFitting (frames part.history)) (λ o. IsGoodMessage (frames part.history) 1 (owed_message o))
      (λ o fits. good_owed (frames part.history) o (frames_few part.settings.stream ticks part.history k.history) fits) k.asked owed) in
      subst (λ (x : ℕ). Each (IsGoodMessage (frames part.history) x) (given_on x part.client.peer.given)) (sym same)
      (subst (Each (IsGoodMessage (frames part.history) 1)) (sym k.on_channel) good)
  | inr apart ↦
      each_weaker IsOther (IsGoodMessage (frames part.history) c) (λ bytes of. good_of_user (frames part.history) (act_of bytes) of)
      (given_on c part.client.peer.given) (k.others c apart)
]

-- each event that waits at the host is good
good_waiting : (ticks : List Tick) (part : Part) → IsKeptPart ticks part → Each (OfMessage (IsGoodMessage (frames part.history))) part.host.peer.waiting
good_waiting ticks part k = of_each_message (IsGoodMessage (frames part.history)) part.host.peer.waiting here where
  here : (c : ℕ) → Each (IsGoodMessage (frames part.history) c) (messages_on c part.host.peer.waiting)
  here c =
      let P : List ℕ → Type 0 = IsGoodMessage (frames part.history) c in
      let told = messages_on c part.host.peer.told in
      let waiting = messages_on c part.host.peer.waiting in
      let front = k.both.0.in_order c in
      let all : Each P ((told ++ waiting) ++ front.0) =
      subst (Each P) (front.1 ∙ ap (λ (l : List (List ℕ)). l ++ front.0) (messages_on-append c part.host.peer.told part.host.peer.waiting))
      (good_given ticks part k c) in
      each_back P told waiting (each_front P (told ++ waiting) front.0 all)

calm_told : (r : _) → IsCalm r → IsCalm (all_told r)
calm_told r calm = record {
  heard_few = λ c. let few = calm.heard_few c in omega (arith, few, ap (λ (l : List PeerEvent). length (messages_on c l)) (append-nil (heard r)));
  given_few = calm.given_few;
}

pub host_hears_keeps : (ticks : List Tick) (session : ℕ) (part : Part) → IsKeptPart ticks part → IsKeptPart ticks (host_hears session part).value
host_hears_keeps ticks session part k =
    let es = part.host.peer.waiting in
    let new = (all_heard session es part.history).value in
    let gains = heard_gains part.settings.stream ticks session es part.history k.history.legal k.goes_on (good_waiting ticks part k) in
    let host = record (part.host) { peer = all_told part.host.peer } in
    let same : frames part.history ≡ frames new = sym gains.frames_same in
    record {
      window = k.window;
      history = record { limits = k.history.limits; capture = k.history.capture; bytes = k.history.bytes; legal = gains.legal };
      goes_on = gains.goes_on;
      sent = subst (λ (stream : List (List ℕ)). All (IsOfStream stream) part.came) (sym gains.stream_same) k.sent;
      sound_sent = subst (λ (stream : List (List ℕ)). All (Contains stream) part.sound) (sym gains.sound_same) k.sound_sent;
      both = swapped host part.client (told_both part.host part.client (swapped part.client part.host k.both));
      calm_client = k.calm_client;
      calm_host = calm_told part.host.peer k.calm_host;
      few = k.few;
      asked = k.asked;
      on_channel = k.on_channel;
      others = k.others;
      lost = k.lost;
      fitting = subst (λ (n : ℕ). Each (IsFitting n) (k.asked ++ part.owed)) same k.fitting;
      acted = gains.invalid ∙ ap (λ (l : List Range). l ++ ranges_told es) k.acted ∙ sym (ranges_told-append part.host.peer.told es);
    }

-- ---- control datagrams and time

pub up_keeps : (ticks : List Tick) (session now n : ℕ) (part : Part) → IsKeptPart ticks part → IsKeptPart ticks (up_taken session now n part).value
unfolding up_taken
up_keeps ticks session now n part k =
    let w = slice_get part.client.wrote (n - 1) in
    let host = came w now part.host in
    let both = swapped host part.client (taken_both (n - 1) now part.host part.client k.calm_host.given_few k.calm_client.given_few
    (swapped part.client part.host k.both)) in
    host_hears_keeps ticks session (record part { host = host })
    (host_moves host both (calm_came (n - 1) now part.host part.client k.calm_host k.calm_client (swapped part.client part.host k.both))
    (kept_came w now part.host).told k)

pub down_keeps : (ticks : List Tick) (session now n : ℕ) (part : Part) → IsKeptPart ticks part → IsKeptPart ticks (down_taken session now n part).value
unfolding down_taken
down_keeps ticks session now n part k =
    let w = slice_get part.host.wrote (n - 1) in
    let client = came w now part.client in
    let both = taken_both (n - 1) now part.client part.host k.calm_client.given_few k.calm_host.given_few k.both in
    client_told_keeps ticks (record part { client = client })
    (client_moves client both (calm_came (n - 1) now part.client part.host k.calm_client k.calm_host k.both) (kept_came w now part.client).given k)

pub timed_keeps : (ticks : List Tick) (session now : ℕ) (part : Part) → IsKeptPart ticks part → IsKeptPart ticks (timed_part session now part).value
unfolding timed_part
timed_keeps ticks session now part k =
    let client = acted (Time now) part.client in
    let first = client_told_keeps ticks (record part { client = client })
    (client_moves client (act_both (Time now) part.client part.host k.both) (calm_timed now part.client.peer k.calm_client)
    (kept_timed now part.client.peer).given k) in
    let told = record client { peer = all_told client.peer } in
    let host = acted (Time now) part.host in
    host_hears_keeps ticks session (record part { client = told; host = host })
    (host_moves host (swapped host told (act_both (Time now) part.host told (swapped told part.host first.both)))
    (calm_timed now part.host.peer first.calm_host)
    (kept_timed now part.host.peer).told first)

-- ---- the host's turn

of_longer : (before more : List (List ℕ)) (arrival : Arrival) → IsOfStream before arrival → IsOfStream (before ++ more) arrival
of_longer before more (Datagram bytes) among = Contains-append_left before more bytes among
of_longer before more Reset among = tt

more_fitting : (n : ℕ) (o : Owed) → IsFitting n o → IsFitting (n + 1) o
more_fitting n (Lost range) is = (is.0, is.1, omega (arith, is.2))
more_fitting n Idr is = tt

sends : (ticks : List Tick) (part : Part) (captured : ℕ) (t : Tick) → IsKeptPart ticks part → last_tick part.history < captured
    → tick_numbered ticks captured ≡ Some t
    → IsKeptPart ticks (record part { history = turn_entry captured (choice part.history t) ∷ part.history })
sends ticks part captured t k newer there =
    let e : Entry = turn_entry captured (choice part.history t) in
    let before = video_stream part.settings.stream ticks part.history in
    let grown = streams_only_grow part.settings.stream ticks e part.history in
    let sounds = audio_stream part.settings.stream ticks part.history in
    let louder = audio_only_grows part.settings.stream ticks e part.history in
    record {
      window = k.window;
      history = record {
        limits = k.history.limits;
        capture = k.history.capture;
        bytes = k.history.bytes;
        legal = (k.history.legal, k.goes_on, (newer, t, there, refl));
      };
      goes_on = k.goes_on;
      sent = subst (λ (stream : List (List ℕ)). All (IsOfStream stream) part.came) (sym grown.1)
          (All-weaker (IsOfStream before) (IsOfStream (before ++ grown.0)) (of_longer before grown.0) part.came k.sent);
      sound_sent = subst (λ (stream : List (List ℕ)). All (Contains stream) part.sound) (sym louder.1)
          (All-weaker (Contains sounds) (Contains (sounds ++ louder.0))
          (λ bytes among. Contains-append_left sounds louder.0 bytes among) part.sound k.sound_sent);
      both = k.both;
      calm_client = k.calm_client;
      calm_host = k.calm_host;
      few = k.few;
      asked = k.asked;
      on_channel = k.on_channel;
      others = k.others;
      lost = k.lost;
      fitting = each_weaker (IsFitting (frames part.history)) (IsFitting (frames part.history + 1)) (more_fitting (frames part.history))
          (k.asked ++ part.owed) k.fitting;
      acted = k.acted;
    }

newest_keeps : (ticks : List Tick) (scene : Scene) (part : Part) (o : Option Tick) → tick_numbered ticks scene.captured ≡ o → IsKeptPart ticks part
    → IsKeptPart ticks (record part { history = (newest_sent scene o part.history).value })
newest_keeps ticks scene part None there k = k
newest_keeps ticks scene part (Some t) there k = by (nat_lt (last_tick part.history) scene.captured && not (has_ended part.history)) refl where
  e : Entry
  e = turn_entry scene.captured (choice part.history t)

  by : (b : Bool) → (nat_lt (last_tick part.history) scene.captured && not (has_ended part.history)) ≡ b
      → IsKeptPart ticks (record part {
        history = (cond b (entered scene.session (turn_entry scene.captured (choice part.history t)) part.history)
            (record { value = part.history; reports = [] })).value;
      })
  by true test =
      let parts = and_parts (nat_lt (last_tick part.history) scene.captured) (not (has_ended part.history)) test in
      sends ticks part scene.captured t k (ltb-true (last_tick part.history) scene.captured parts.0) there
  by false test = k

pub turn_keeps : (scene : Scene) (part : Part) → IsKeptPart scene.ticks part → IsKeptPart scene.ticks (turned scene part).value
unfolding turned
turn_keeps scene part k = newest_keeps scene.ticks scene part (tick_numbered scene.ticks scene.captured) refl k
