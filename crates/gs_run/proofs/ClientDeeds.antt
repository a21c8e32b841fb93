-- What the client's deeds keep of a part.
use Rattle.std.proofs.Common.{◌≡◌, ◌⊎◌, ◌<◌, ◌≤◌, ◌+◌, ◌-◌, ℕ, zero, suc, Bool, true, false, not, cond, ◌&&◌, ◌||◌, List, [], ◌∷◌, ◌++◌, length, map}
use Rattle.std.proofs.Common.{Option, Some, None, refl, sym, ap, subst, ◌∙◌, arith, inl, inr}
use Rattle.std.specs.Prelude.{◌==◌, nat_lt, slice_get, is_some}
use Rattle.std.specs.List.{Contains}
use Rattle.std.proofs.lemmas.Bool.{and_parts, and_from, eqb-true, eqb-false, leb-false, not_from_false, false≢true}
use Rattle.std.proofs.lemmas.List.{append_assoc, append-nil, length-append, map-append}
use Rattle.std.proofs.lemmas.List.Elements.{All-cons}
use Rattle.gs_tape.specs.Tick.{Tick}
use Rattle.gs_refs.specs.History.{frames}
use Rattle.gs_frames.specs.declared.range.Range.{Range}
use Rattle.gs_frames.specs.Client.{Datagram, Reset}
use Rattle.gs_frames.specs.Asks.{asks, as_list, newly_asked}
use Rattle.gs_frames.proofs.AsksGrow.{arrival_asks}
use Rattle.gs_input.specs.declared.event.Event.{Event}
use Rattle.gs_input.specs.declared.event.Event.TheVariants as event
use Rattle.gs_control.specs.declared.message.Message.TheVariants as message
use Rattle.gs_control.specs.Message.{bytes_of}
use Rattle.gs_stream.specs.Paired.{AreOfHistory, IsOfStream}
use Rattle.gs_enet.specs.Record.{GivenMessage, channels, given_on, given_count}
use Rattle.gs_enet.specs.Steps.{is_open, is_full, can_send}
use Rattle.gs_enet.specs.World.{Send, Close, acted}
use Rattle.gs_enet.proofs.Lists.{Each, each_push, each_append}
use Rattle.gs_enet.proofs.Kept.{giving, given_on-own, given_on-apart}
use Rattle.gs_enet.proofs.Acts.{act_both}
use Rattle.gs_run.specs.Session.{Part, made_on, video_of, audio_of}
use Rattle.gs_client_core.specs.Owed.{request_channel, owed_message}
use Rattle.gs_client_core.specs.declared.asker.Owed.TheVariants.{Lost, Idr}
use Rattle.gs_client_core.specs.declared.asker.Owed.{Owed}
use Rattle.gs_schedule.specs.declared.output.Output.TheVariants as output
use Rattle.gs_run.specs.Report.{Acted, quietly, reporting}
use Rattle.gs_run.specs.Message.{event_channel}
use Rattle.gs_run.specs.Streaming.{with_video, with_video_if, video_taken, with_audio_if, audio_taken, reset}
use Rattle.gs_run.specs.Giving.{given, event_given, idr_asked, closed_part}
use Rattle.gs_run.specs.Refusal.{has_made_most, may_give, makes_ask, may_take_video, is_client_open}
use Rattle.gs_store.specs.Named.{is_nameable}
use Rattle.gs_run.specs.Scene.{Scene}
use Rattle.gs_run.proofs.Acts.{input_is_of_user}
use Rattle.gs_run.proofs.Uses.{kept_close, calm_kept}
use Rattle.gs_run.proofs.Heard.{IsFitting}
use Rattle.gs_run.proofs.Asking.{IsOther, asked_is_sent, lost_of, lost_of-append}
use Rattle.gs_run.proofs.Standing.{IsKeptPart, client_moves, given_more, heard_same, count_more, calm_sent}

-- ---- video

lost_of-lost : (rs : List Range) → lost_of (map Lost rs) ≡ rs
lost_of-lost [] = refl
lost_of-lost (r ∷ rs) = ap (λ (l : List Range). r ∷ l) (lost_of-lost rs)

room_for : (given : ℕ) (owed : List Owed) (o : Option Range) → given + length owed ≤ 30000 → (is_some o ≡ true → given + length owed < 30000)
    → given + length (owed ++ map Lost (as_list o)) ≤ 30000
room_for given owed None few room = omega (arith, few, length-append owed (map Lost (as_list {A = Range} None)))
room_for given owed (Some r) few room =
    let more = room refl in omega (arith, more, length-append owed (map Lost (as_list (Some r))))

pub video_is_given : (ticks : List Tick) (part : Part) (bytes : List ℕ) (session : ℕ) → IsKeptPart ticks part → Contains (video_of ticks part) bytes
    → (is_some (newly_asked part.settings (Datagram bytes) part.came) ≡ true → made_on request_channel part < 30000)
    → IsKeptPart ticks (with_video session bytes part).value
video_is_given ticks part bytes session k among room =
    let arrival = Datagram bytes in
    let newly = newly_asked part.settings arrival part.came in
    let more = map Lost (as_list newly) in
    let sent : AreOfHistory part.settings ticks part.history (arrival ∷ part.came) = All-cons (IsOfStream
    (video_of ticks part)) arrival part.came among k.sent in
    let front : k.asked ++ (part.owed ++ more) ≡ (k.asked ++ part.owed) ++ more = sym (append_assoc k.asked part.owed more) in
    record {
      window = k.window;
      history = k.history;
      goes_on = k.goes_on;
      sent = sent;
      sound_sent = k.sound_sent;
      both = k.both;
      calm_client = k.calm_client;
      calm_host = k.calm_host;
      few = room_for (given_count part.client.peer request_channel) part.owed newly k.few room;
      asked = k.asked;
      on_channel = k.on_channel;
      others = k.others;
      lost = ap lost_of front ∙ lost_of-append (k.asked ++ part.owed) more
          ∙ ap (λ (l : List Range). l ++ lost_of more) k.lost
          ∙ ap (λ (l : List Range). asks part.settings part.came ++ l) (lost_of-lost (as_list newly))
          ∙ sym (arrival_asks part.settings arrival part.came);
      fitting = subst (Each (IsFitting (frames part.history))) (sym front)
          (each_append (IsFitting (frames part.history)) (k.asked ++ part.owed) more k.fitting (fits newly refl sent));
      acted = k.acted;
    }
  where
    fits : (o : Option Range) → newly_asked part.settings (Datagram bytes) part.came ≡ o
        → AreOfHistory part.settings ticks part.history (Datagram bytes ∷ part.came)
        → Each (IsFitting (frames part.history)) (map Lost (as_list o))
    fits None e sent = tt
    fits (Some range) e sent = (asked_is_sent part.settings ticks part.history (Datagram bytes) part.came range k.window k.history sent e, tt)

contains_at : (xs : List (List ℕ)) (n : ℕ) (x : List ℕ) → slice_get xs n ≡ Some x → Contains xs x
contains_at [] n x e = absurd cc
contains_at (y ∷ xs) zero x e = (zero, omega arith, same y x e) where
  same : (a b : List ℕ) → Some a ≡ Some b → a ≡ b
  same a b e = cc
contains_at (y ∷ xs) (suc n) x e = (let at = contains_at xs n x e in (suc at.0, omega (arith, at.1), at.2))

pub video_keeps : (scene : Scene) (n : ℕ) (part : Part) → may_take_video (video_of scene.ticks part) n part ≡ true → IsKeptPart scene.ticks part
    → IsKeptPart scene.ticks (video_taken scene n part).value
unfolding video_taken
video_keeps scene n part test k = by (slice_get (video_of scene.ticks part) (n - 1)) refl where
  asks_less : (b c : Bool) → not (b && c) ≡ true → b ≡ true → c ≡ false
  asks_less true true e is = absurd (false≢true e)
  asks_less true false e is = refl
  asks_less false c e is = absurd (false≢true is)

  by : (o : Option (List ℕ)) → slice_get (video_of scene.ticks part) (n - 1) ≡ o → IsKeptPart scene.ticks (with_video_if scene.session o part).value
  by None e = k
  by (Some bytes) e =
      let parts = and_parts (is_nameable (video_of scene.ticks part) n)
      (not (makes_ask (slice_get (video_of scene.ticks part) (n - 1)) part && has_made_most request_channel part)) test in
      let less : not (makes_ask (Some bytes) part && has_made_most request_channel part) ≡ true =
      subst (λ (o : Option (List ℕ)). not (makes_ask o part && has_made_most request_channel part) ≡ true) e parts.1 in
      video_is_given scene.ticks part bytes scene.session k (contains_at (video_of scene.ticks part) (n - 1) bytes e)
      (λ is. leb-false 30000 (made_on request_channel part) (asks_less (makes_ask (Some bytes) part) (has_made_most request_channel part) less is))

-- ---- audio

audio_is_given : (ticks : List Tick) (part : Part) (bytes : List ℕ) → Contains (audio_of ticks part) bytes → IsKeptPart ticks part
    → IsKeptPart ticks (record part { sound = bytes ∷ part.sound })
audio_is_given ticks part bytes among k = record {
  window = k.window;
  history = k.history;
  goes_on = k.goes_on;
  sent = k.sent;
  sound_sent = All-cons (Contains (audio_of ticks part)) bytes part.sound among k.sound_sent;
  both = k.both;
  calm_client = k.calm_client;
  calm_host = k.calm_host;
  few = k.few;
  asked = k.asked;
  on_channel = k.on_channel;
  others = k.others;
  lost = k.lost;
  fitting = k.fitting;
  acted = k.acted;
}

pub audio_keeps : (scene : Scene) (n : ℕ) (part : Part) → IsKeptPart scene.ticks part → IsKeptPart scene.ticks (audio_taken scene n part).value
unfolding audio_taken
audio_keeps scene n part k = by (slice_get (audio_of scene.ticks part) (n - 1)) refl where
  by : (o : Option (List ℕ)) → slice_get (audio_of scene.ticks part) (n - 1) ≡ o → IsKeptPart scene.ticks (with_audio_if scene.session o part).value
  by None e = k
  by (Some bytes) e = audio_is_given scene.ticks part bytes (contains_at (audio_of scene.ticks part) (n - 1) bytes e) k

-- ---- a reset

pub reset_keeps : (ticks : List Tick) (session : ℕ) (part : Part) → has_made_most request_channel part ≡ false → IsKeptPart ticks part
    → IsKeptPart ticks (reset session part).value
unfolding reset
reset_keeps ticks session part room k =
    let more = Idr ∷ [] in
    let front : k.asked ++ (part.owed ++ more) ≡ (k.asked ++ part.owed) ++ more = sym (append_assoc k.asked part.owed more) in
    let below : made_on request_channel part < 30000 = leb-false 30000 (made_on request_channel part) room in
    record {
      window = k.window;
      history = k.history;
      goes_on = k.goes_on;
      sent = All-cons (IsOfStream (video_of ticks part)) Reset part.came tt k.sent;
      sound_sent = k.sound_sent;
      both = k.both;
      calm_client = k.calm_client;
      calm_host = k.calm_host;
      few = omega (arith, below, length-append part.owed more);
      asked = k.asked;
      on_channel = k.on_channel;
      others = k.others;
      lost = ap lost_of front ∙ lost_of-append (k.asked ++ part.owed) more ∙ ap (λ (l : List Range). l ++ []) k.lost
          ∙ sym (arrival_asks part.settings Reset part.came);
      fitting = subst (Each (IsFitting (frames part.history))) (sym front)
          (each_append (IsFitting (frames part.history)) (k.asked ++ part.owed) more k.fitting (tt, tt));
      acted = k.acted;
    }

-- ---- what the user does

may_send : (part : Part) (c : ℕ) → is_client_open part ≡ true → is_full part.client.peer c ≡ false → can_send part.client.peer c ≡ true
may_send part c open' room = and_from (is_open part.client.peer.state) (not (is_full part.client.peer c)) open' (not_from_false
    (is_full part.client.peer c) room)

-- a message of the user, on a channel that isn't that of requests
user_gives : (ticks : List Tick) (part : Part) (c : ℕ) (bytes : List ℕ) → nat_lt c channels ≡ true → (c ≡ 1 → ⊥) → can_send part.client.peer c ≡ true
    → given_count part.client.peer c < 30000 → IsOther bytes → IsKeptPart ticks part
    → IsKeptPart ticks (record part { client = acted (Send c bytes) part.client })
user_gives ticks part c bytes below apart can room other k =
    let moved = acted (Send c bytes) part.client in
    let old = part.client.peer in
    let more : moved.peer.given ≡ old.given ++ giving c bytes = given_more c bytes part.client below can in
    let one : given_on request_channel moved.peer.given ≡ given_on request_channel old.given =
    ap (given_on request_channel) more ∙ given_on-apart request_channel c bytes old.given apart in
    let few = k.few in
    record {
      window = k.window;
      history = k.history;
      goes_on = k.goes_on;
      sent = k.sent;
      sound_sent = k.sound_sent;
      both = act_both (Send c bytes) part.client part.host k.both;
      calm_client = calm_sent c bytes old moved.peer more (heard_same c bytes part.client) (omega (arith, room)) k.calm_client;
      calm_host = k.calm_host;
      few = omega (arith, few, ap (λ (l : List (List ℕ)). length l) one);
      asked = k.asked;
      on_channel = one ∙ k.on_channel;
      others = λ d far. subst (λ (g : List GivenMessage). Each IsOther (given_on d g)) (sym more) (on d far (c == d) refl);
      lost = k.lost;
      fitting = k.fitting;
      acted = k.acted;
    }
  where
    on : (d : ℕ) → (d ≡ 1 → ⊥) → (b : Bool) → (c == d) ≡ b → Each IsOther (given_on d (part.client.peer.given ++ giving c bytes))
    on d far true e =
        subst (λ (x : ℕ). Each IsOther (given_on x (part.client.peer.given ++ giving c bytes))) (eqb-true c d e)
        (subst (Each IsOther) (sym (given_on-own c bytes part.client.peer.given)) (each_push IsOther (given_on c part.client.peer.given) bytes
        (k.others c apart) other))
    on d far false e =
        subst (Each IsOther) (sym (given_on-apart d c bytes part.client.peer.given (eqb-false c d e))) (k.others d far)

-- an IDR request
idr_gives : (ticks : List Tick) (part : Part) → can_send part.client.peer request_channel ≡ true → made_on request_channel part < 30000
    → IsKeptPart ticks part
    → IsKeptPart ticks (record part { client = acted (Send request_channel (owed_message Idr)) part.client })
idr_gives ticks part can room k =
    let bytes = owed_message Idr in
    let moved = acted (Send request_channel bytes) part.client in
    let old = part.client.peer in
    let more : moved.peer.given ≡ old.given ++ giving request_channel bytes = given_more request_channel bytes part.client refl can in
    let lost : lost_of ((k.asked ++ Idr ∷ []) ++ part.owed) ≡ lost_of (k.asked ++ part.owed) =
    lost_of-append (k.asked ++ Idr ∷ []) part.owed ∙ ap (λ (l : List Range). l ++ lost_of part.owed) (lost_of-append k.asked (Idr ∷ [])
    ∙ append-nil (lost_of k.asked))
    ∙ sym (lost_of-append k.asked part.owed) in
    record {
      window = k.window;
      history = k.history;
      goes_on = k.goes_on;
      sent = k.sent;
      sound_sent = k.sound_sent;
      both = act_both (Send request_channel bytes) part.client part.host k.both;
      calm_client = calm_sent request_channel bytes old moved.peer more (heard_same request_channel bytes part.client) (omega (arith, room)) k.calm_client;
      calm_host = k.calm_host;
      few = omega (arith, room, ap (λ (g : List GivenMessage). length (given_on request_channel g)) more, count_more request_channel bytes old.given);
      asked = k.asked ++ Idr ∷ [];
      on_channel = ap (given_on request_channel) more ∙ given_on-own request_channel bytes old.given
          ∙ ap (λ (l : List (List ℕ)). l ++ bytes ∷ []) k.on_channel ∙ sym (map-append owed_message k.asked (Idr ∷ []));
      others = λ c apart. subst (Each IsOther)
          (sym (ap (given_on c) more ∙ given_on-apart c request_channel bytes old.given (λ e. apart (sym e)))) (k.others c apart);
      lost = lost ∙ k.lost;
      fitting = each_append (IsFitting (frames part.history)) (k.asked ++ Idr ∷ []) part.owed
          (each_push (IsFitting (frames part.history)) k.asked Idr (each_of k.asked part.owed k.fitting) tt) (rest_of k.asked part.owed k.fitting);
      acted = k.acted;
    }
  where
    each_of : (xs ys : List Owed) → Each (IsFitting (frames part.history)) (xs ++ ys) → Each (IsFitting (frames part.history)) xs
    each_of [] ys all = tt
    each_of (x ∷ xs) ys all = (all.0, each_of xs ys all.1)

    rest_of : (xs ys : List Owed) → Each (IsFitting (frames part.history)) (xs ++ ys) → Each (IsFitting (frames part.history)) ys
    rest_of [] ys all = all
    rest_of (x ∷ xs) ys all = rest_of xs ys all.1

not_full : (full made : Bool) → (full || not made) ≡ true → full ≡ false → made ≡ false
not_full true made test no_room = absurd (false≢true (sym no_room))
not_full false true test no_room = absurd (false≢true test)
not_full false false test no_room = refl

-- a channel of events
is_event_channel : (e : Event) → (event_channel e ≡ 2) ⊎ (event_channel e ≡ 3)
is_event_channel (event.KeyDown code modifiers) = inl refl
is_event_channel (event.KeyUp code modifiers) = inl refl
is_event_channel (event.Move dx dy) = inr refl
is_event_channel (event.At x y width height) = inr refl
is_event_channel (event.Press button) = inr refl
is_event_channel (event.Release button) = inr refl
is_event_channel (event.Scroll amount) = inr refl
is_event_channel (event.Unknown magic) = inr refl

on_channel_keeps : (ticks : List Tick) (session : ℕ) (part : Part) (c : ℕ) (bytes : List ℕ) → nat_lt c channels ≡ true → (c ≡ 1 → ⊥)
    → made_on c part ≡ given_count part.client.peer c
    → may_give c part ≡ true → IsOther bytes → IsKeptPart ticks part → IsKeptPart ticks (given session c bytes part).value
unfolding given
on_channel_keeps ticks session part c bytes below apart count test other k = by (is_full part.client.peer c) refl where
  by : (b : Bool) → is_full part.client.peer c ≡ b
      → IsKeptPart ticks (cond {A = Acted Part} b (reporting (output.Full session c) part) (quietly (record part {
        client = acted
            (Send c bytes) part.client;
      }))).value
  by true full = k
  by false room =
      let parts = and_parts (is_client_open part) (is_full part.client.peer c || not (has_made_most c part)) test in
      let made = leb-false 30000 (made_on c part) (not_full (is_full part.client.peer c) (has_made_most c part) parts.1 room) in
      user_gives ticks part c bytes below apart (may_send part c parts.0 room) (omega (arith, made, count)) other k

pub event_keeps : (ticks : List Tick) (session : ℕ) (e : Event) (part : Part) → may_give (event_channel e) part ≡ true → IsKeptPart ticks part
    → IsKeptPart ticks (event_given session e part).value
event_keeps ticks session e part test k = elim (is_event_channel e) [
  | inl two ↦ on 2 two refl
      (λ same. absurd cc) refl
  | inr three ↦ on 3 three refl (λ same. absurd cc) refl
] where
  none_owed : {x : ℕ} (n : ℕ) → n ≡ 0 → x + n ≡ x
  none_owed n e = omega (arith, e)

  on : (c : ℕ) → event_channel e ≡ c → nat_lt c channels ≡ true → (c ≡ 1 → ⊥) → (c == request_channel) ≡ false
      → IsKeptPart ticks (event_given session e part).value
  on c is below apart not_one =
      subst (λ (x : ℕ). IsKeptPart ticks (given session x (bytes_of (message.Input e)) part).value) (sym is)
      (on_channel_keeps ticks session part c (bytes_of (message.Input e)) below apart
      (none_owed (cond (c == request_channel) (length part.owed) 0) (ap (λ (b : Bool). cond b (length part.owed) 0) not_one))
      (subst (λ (x : ℕ). may_give x part ≡ true) is test) (input_is_of_user e) k)

pub idr_keeps : (ticks : List Tick) (session : ℕ) (part : Part) → may_give request_channel part ≡ true → IsKeptPart ticks part
    → IsKeptPart ticks (idr_asked session part).value
unfolding given
idr_keeps ticks session part test k = by (is_full part.client.peer request_channel) refl where
  by : (b : Bool) → is_full part.client.peer request_channel ≡ b
      → IsKeptPart ticks (cond {A = Acted Part} b (reporting (output.Full session request_channel) part)
      (quietly (record part { client = acted (Send request_channel (owed_message Idr)) part.client }))).value
  by true full = k
  by false room =
      let parts = and_parts (is_client_open part) (is_full part.client.peer request_channel || not (has_made_most request_channel part)) test in
      idr_gives ticks part (may_send part request_channel parts.0 room)
      (leb-false 30000 (made_on request_channel part) (not_full (is_full part.client.peer request_channel)
      (has_made_most request_channel part) parts.1 room)) k

pub close_keeps : (ticks : List Tick) (part : Part) → IsKeptPart ticks part → IsKeptPart ticks (closed_part part).value
unfolding closed_part
close_keeps ticks part k =
    let client = acted Close part.client in
    let kept = kept_close part.client.peer in
    client_moves client (act_both Close part.client part.host k.both) (calm_kept part.client.peer client.peer kept k.calm_client) kept.given k
