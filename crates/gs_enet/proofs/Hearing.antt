-- What a step keeps of one side, seen from the messages that it hears on one channel.
use Rattle.gs_bytes.proofs.Lists.{contains_behind}
use Rattle.std.proofs.Common.{◌≡◌, ◌⊎◌, ◌<◌, ◌≤◌, ◌+◌, ℕ, Bool, true, false, not, cond, List, [], ◌∷◌, ◌++◌, map, Option, Some, None, refl, sym, ap, subst}
use Rattle.std.proofs.Common.{◌∙◌, arith, inl, inr}
use Rattle.std.specs.Prelude.{◌==◌, Contains}
use Rattle.std.specs.List.{filter}
use Rattle.std.proofs.lemmas.Bool.{ne_eqb, false≢true}
use Rattle.std.proofs.lemmas.List.{append_assoc}
use Rattle.std.proofs.lemmas.List.Elements.{Contains-push_cases}
use Rattle.gs_enet.specs.declared.event.PeerEvent.{PeerEvent}
use Rattle.gs_enet.specs.declared.event.PeerEvent.TheVariants as event
use Rattle.gs_enet.specs.declared.state.PeerState.{PeerState}
use Rattle.gs_enet.specs.declared.state.PeerState.TheVariants as state
use Rattle.gs_enet.specs.declared.answer.Answer.{Answer}
use Rattle.gs_enet.specs.Record.{PeerRecord, Unacknowledged, Content, Connect, VerifyConnect, Disconnect, Message, channels, control, messages_on}
use Rattle.gs_enet.specs.Record.{heard, shut, happened, owing}
use Rattle.gs_enet.specs.Receive.{takes_messages, message_if, verified, verify_if, disconnect_if, leave_if, connected, acknowledged, is_named, acknowledged_if}
use Rattle.gs_enet.specs.Receive.{owed_answer}
use Rattle.gs_enet.specs.Steps.{close_if, telling, timed_if, with_message}
use Rattle.gs_enet.specs.Write.{Answers}
use Rattle.gs_enet.specs.World.{sent_if}
use Rattle.gs_enet.proofs.Kept.{IsShut, IsNoMessage, IsLast, NothingAfter, messages_on-other, messages_on-apart}
use Rattle.gs_enet.proofs.WrittenMessages.{one_if, item_answers}

-- how many answers on that channel are owed
abbrev pub owed_on : ℕ → PeerRecord → ℕ
owed_on c r = item_answers c (map Answers r.pending)

-- From the one record to the other no message is told on the channel, and no answer is owed on it that wasn't. G holds where the
-- other side's disconnect is new.
pub record Quiet (c : ℕ) (G : Type 0) (r s : PeerRecord) : Type 0 where
  pub same : messages_on c (heard s) ≡ messages_on c (heard r)
  pub owed : c < channels → owed_on c s ≤ owed_on c r
  pub shut : IsShut r.state → IsShut s.state
  pub closed : Contains (heard s) event.PeerClosed → Contains (heard r) event.PeerClosed ⊎ (IsShut s.state × G)
  pub last : (Contains (heard r) event.PeerClosed → IsShut r.state) → IsLast (heard r) → IsLast (heard s)

-- nothing that is looked at changes
pub quiet_still : (c : ℕ) (G : Type 0) (r s : PeerRecord) → heard s ≡ heard r → owed_on c s ≤ owed_on c r → (IsShut r.state → IsShut s.state) → Quiet c G r s
quiet_still c G r s same owed shuts =
    record {
      same = ap (messages_on c) same;
      owed = λ _. owed;
      shut = shuts;
      closed = λ has. inl (subst (λ (x : List PeerEvent). Contains x event.PeerClosed) same has);
      last = λ _ h. subst IsLast (sym same) h;
    }

pub quiet_then : (c : ℕ) (G : Type 0) (r s t : PeerRecord) → Quiet c G r s → Quiet c G s t → Quiet c G r t
quiet_then c G r s t k l =
    record {
      same = l.same ∙ k.same;
      owed = λ below. omega (arith, k.owed below, l.owed below);
      shut = λ h. l.shut (k.shut h);
      closed = λ has. elim (l.closed has) [
        | inl before ↦ elim (k.closed before) [ inl first ↦ inl first | inr now ↦ inr (l.shut now.0, now.1) ]
        | inr now ↦ inr now
      ];
      last = λ shuts h. l.last (λ has. elim (k.closed has) [ inl first ↦ k.shut (shuts first) | inr now ↦ now.0 ]) (k.last shuts h);
    }

-- ---- events

-- behind the other side's disconnect only what is no message may arise
pub last_event : (es : List PeerEvent) (e : PeerEvent) → (Contains es event.PeerClosed → IsNoMessage e) → IsLast es → IsLast (es ++ e ∷ [])
last_event [] e quiet h = (nothing_after e, tt) where
  nothing_after : (e : PeerEvent) → NothingAfter e []
  nothing_after event.PeerClosed = λ c. refl
  nothing_after event.Connected = tt
  nothing_after event.Closed = tt
  nothing_after (event.Message c n bytes) = tt
  nothing_after (event.Lost c n) = tt
last_event (event.PeerClosed ∷ es) e quiet h =
    let none : IsNoMessage e = quiet (0, omega arith, refl) in
    (λ c. messages_on-other c es e none ∙ h.0 c, last_event es e (λ _. none) h.1)
last_event (event.Connected ∷ es) e quiet h = (tt, last_event es e (λ has. quiet (contains_behind event.Connected es event.PeerClosed has)) h.1)
last_event (event.Closed ∷ es) e quiet h = (tt, last_event es e (λ has. quiet (contains_behind event.Closed es event.PeerClosed has)) h.1)
last_event (event.Message c n bytes ∷ es) e quiet h =
    (tt, last_event es e (λ has. quiet (contains_behind (event.Message c n bytes) es event.PeerClosed has)) h.1)
last_event (event.Lost c n ∷ es) e quiet h = (tt, last_event es e (λ has. quiet (contains_behind (event.Lost c n) es event.PeerClosed has)) h.1)

-- what is heard once an event has arisen
pub heard_more : (e : PeerEvent) (r : PeerRecord) → heard (happened e r) ≡ heard r ++ e ∷ []
heard_more e r = sym (append_assoc r.told r.waiting (e ∷ []))

heard_closed : (e : PeerEvent) (r : PeerRecord) → Contains (heard (happened e r)) event.PeerClosed → Contains (heard r) event.PeerClosed
    ⊎ (e ≡ event.PeerClosed)
heard_closed e r has = Contains-push_cases (heard r) e event.PeerClosed (subst (λ (x : List PeerEvent). Contains x event.PeerClosed) (heard_more e r) has)

-- an event that is no message arises, and the state changes
quiet_event : (c : ℕ) (G : Type 0) (st : PeerState) (e : PeerEvent) (r : PeerRecord) → IsNoMessage e → (IsShut r.state → IsShut st)
    → (e ≡ event.PeerClosed → IsShut st × G) → Quiet c G r (record (happened e r) { state = st })
quiet_event c G st e r quiet shuts now =
    record {
      same = ap (messages_on c) (heard_more e r) ∙ messages_on-other c (heard r) e quiet;
      owed = λ _. omega arith;
      shut = shuts;
      closed = λ has. elim (heard_closed e r has) [ inl before ↦ inl before | inr last ↦ inr (now last) ];
      last = λ _ h. subst IsLast (sym (heard_more e r)) (last_event (heard r) e (λ _. quiet) h);
    }

-- a message of another channel is told
quiet_apart : (c : ℕ) (G : Type 0) (d n : ℕ) (bytes : List ℕ) (r : PeerRecord) → (d ≡ c → ⊥) → (IsShut r.state → ⊥)
    → Quiet c G r (happened (event.Message d n bytes) r)
quiet_apart c G d n bytes r apart going =
    record {
      same = ap (messages_on c) (heard_more (event.Message d n bytes) r) ∙ messages_on-apart c d n bytes (heard r) apart;
      owed = λ _. omega arith;
      shut = λ h. h;
      closed = λ has. elim (heard_closed (event.Message d n bytes) r has) [ inl before ↦ inl before | inr last ↦ absurd cc ];
      last = λ shuts h. subst IsLast (sym (heard_more (event.Message d n bytes) r)) (last_event (heard r) (event.Message d n bytes)
          (λ has. absurd (going (shuts has))) h);
    }

-- ---- answers

pub owed_more : (c : ℕ) (a : Answer) (as' : List Answer) → item_answers c (map Answers (as' ++ a ∷ [])) ≡ item_answers c (map Answers as')
    + one_if (a.channel == c)
owed_more c a [] = omega arith
owed_more c a (b ∷ bs) = omega (arith, owed_more c a bs)

none_if_apart : (d c : ℕ) → (d ≡ c → ⊥) → one_if (d == c) ≡ 0
none_if_apart d c apart = ap one_if (ne_eqb d c apart)

quiet_owing : (c : ℕ) (G : Type 0) (a : Answer) (r : PeerRecord) → (c < channels → a.channel ≡ c → ⊥) → Quiet c G r (owing a r)
quiet_owing c G a r apart =
    record {
      same = refl;
      owed = λ below. omega (arith, owed_more c a r.pending, none_if_apart a.channel c (apart below));
      shut = λ h. h;
      closed = λ has. inl has;
      last = λ _ h. h;
    }

-- the control channel is none of those with messages
not_control : (c : ℕ) → c < channels → control ≡ c → ⊥
not_control c below same = omega (arith, below, same)

owed_fewer : (c : ℕ) (test : Answer → Bool) (as' : List Answer) → item_answers c (map Answers (filter test as')) ≤ item_answers c (map Answers as')
owed_fewer c test [] = omega arith
owed_fewer c test (a ∷ as') = here (test a) (owed_fewer c test as') where
  here : (b : Bool) → item_answers c (map Answers (filter test as')) ≤ item_answers c (map Answers as')
      → item_answers c (map Answers (cond b (a ∷ filter test as') (filter test as'))) ≤ item_answers c (map Answers (a ∷ as'))
  here true fewer = omega (arith, fewer)
  here false fewer = omega (arith, fewer)

-- an event that is no message ends the connection
pub quiet_shut : (c : ℕ) (G : Type 0) (e : PeerEvent) (r : PeerRecord) → IsNoMessage e → (e ≡ event.PeerClosed → G) → Quiet c G r (shut (happened e r))
quiet_shut c G e r quiet now =
    let over : PeerRecord = record (happened e r) { state = state.Shut } in
    quiet_then c G r over (shut (happened e r)) (quiet_event c G state.Shut e r quiet (λ _. tt) (λ last. (tt, now last)))
    (quiet_still c G over (shut (happened e r)) refl (owed_fewer c (λ (a : Answer). a.to_disconnect) r.pending) (λ h. h))

-- ---- a user's calls

pub quiet_sent : (c : ℕ) (G : Type 0) (b : Bool) (d : ℕ) (bytes : List ℕ) (r : PeerRecord) → Quiet c G r (sent_if b d bytes r)
unfolding with_message
quiet_sent c G true d bytes r = quiet_still c G r (with_message d bytes r) refl (omega arith) (λ h. h)
quiet_sent c G false d bytes r = quiet_still c G r r refl (omega arith) (λ h. h)

pub quiet_leave : (c : ℕ) (G : Type 0) (st : PeerState) (us : List Unacknowledged) (r : PeerRecord) → Quiet c G r (leave_if st us r)
quiet_leave c G state.Closing [] r = quiet_still c G r (leave_if state.Closing [] r) refl (omega arith) (λ h. h)
quiet_leave c G state.Closing (u ∷ us) r = quiet_still c G r r refl (omega arith) (λ h. h)
quiet_leave c G state.Connecting us r = quiet_still c G r r refl (omega arith) (λ h. h)
quiet_leave c G state.Accepting us r = quiet_still c G r r refl (omega arith) (λ h. h)
quiet_leave c G state.Connected us r = quiet_still c G r r refl (omega arith) (λ h. h)
quiet_leave c G state.Shut us r = quiet_still c G r r refl (omega arith) (λ h. h)

pub quiet_close : (c : ℕ) (G : Type 0) (st : PeerState) (r : PeerRecord) → r.state ≡ st → Quiet c G r (close_if st r)
quiet_close c G state.Connected r is =
    let closing : PeerRecord = record r { state = state.Closing } in
    quiet_then c G r closing (close_if state.Connected r) (quiet_still c G r closing refl (omega arith) (λ over. absurd (subst IsShut is over)))
    (quiet_leave c G state.Closing r.unacknowledged closing)
quiet_close c G state.Connecting r is = quiet_still c G r r refl (omega arith) (λ h. h)
quiet_close c G state.Accepting r is = quiet_still c G r r refl (omega arith) (λ h. h)
quiet_close c G state.Closing r is = quiet_still c G r r refl (omega arith) (λ h. h)
quiet_close c G state.Shut r is = quiet_still c G r r refl (omega arith) (λ h. h)

pub quiet_told : (c : ℕ) (G : Type 0) (es : List PeerEvent) (r : PeerRecord) → r.waiting ≡ es → Quiet c G r (telling es r)
quiet_told c G [] r is = quiet_still c G r r refl (omega arith) (λ h. h)
quiet_told c G (e ∷ es) r is =
    quiet_still c G r (telling (e ∷ es) r) (append_assoc r.told (e ∷ []) es ∙ ap (λ (x : List PeerEvent). r.told ++ x) (sym is)) (omega arith) (λ h. h)

pub quiet_timed : (c : ℕ) (G : Type 0) (over : Bool) (lost : Option Unacknowledged) (r : PeerRecord) → Quiet c G r (timed_if over lost r)
quiet_timed c G true lost r = quiet_still c G r r refl (omega arith) (λ h. h)
quiet_timed c G false None r = quiet_still c G r (timed_if false None r) refl (omega arith) (λ h. h)
quiet_timed c G false (Some u) r = quiet_shut c G (event.Lost u.order.channel u.order.number) r tt (λ clash. absurd cc)

-- ---- what is read and is no message

pub quiet_verified : (c : ℕ) (G : Type 0) (st : PeerState) (peer sent number : ℕ) (r : PeerRecord) → r.state ≡ st
    → Quiet c G r (verified st peer (owed_answer sent control number) r)
quiet_verified c G state.Connected peer sent number r is = quiet_owing c G (owed_answer sent control number) r (not_control c)
quiet_verified c G state.Closing peer sent number r is = quiet_owing c G (owed_answer sent control number) r (not_control c)
quiet_verified c G state.Accepting peer sent number r is = quiet_still c G r r refl (omega arith) (λ h. h)
quiet_verified c G state.Shut peer sent number r is = quiet_still c G r r refl (omega arith) (λ h. h)
quiet_verified c G state.Connecting peer sent number r is =
    let a : Answer = owed_answer sent control number in
    let up : PeerRecord = record (happened event.Connected r) { state = state.Connected } in
    quiet_then c G r up (verified state.Connecting peer a r)
    (quiet_event c G state.Connected event.Connected r tt (λ over. absurd (subst IsShut is over)) (λ clash. absurd cc))
    (quiet_then c G up (owing a up) (verified state.Connecting peer a r) (quiet_owing c G a up (not_control c))
    (quiet_still c G (owing a up) (verified state.Connecting peer a r) refl (omega arith) (λ h. h)))

pub quiet_verify_if : (c : ℕ) (G : Type 0) (own : Bool) (peer sent number : ℕ) (r : PeerRecord)
    → Quiet c G r (verify_if own peer (owed_answer sent control number) r)
quiet_verify_if c G true peer sent number r = quiet_verified c G r.state peer sent number r refl
quiet_verify_if c G false peer sent number r = quiet_still c G r r refl (omega arith) (λ h. h)

pub quiet_disconnect : (c : ℕ) (G : Type 0) (again : Bool) (sent number : ℕ) (r : PeerRecord) → G
    → Quiet c G r (disconnect_if again (record (owed_answer sent control number) { to_disconnect = true }) r)
quiet_disconnect c G true sent number r g = quiet_owing c G (record (owed_answer sent control number) { to_disconnect = true }) r (not_control c)
quiet_disconnect c G false sent number r g =
    let a : Answer = record (owed_answer sent control number) { to_disconnect = true } in
    let over : PeerRecord = shut (happened event.PeerClosed r) in
    quiet_then c G r over (disconnect_if false a r) (quiet_shut c G event.PeerClosed r tt (λ _. g))
    (quiet_then c G over (owing a over) (disconnect_if false a r) (quiet_owing c G a over (not_control c))
    (quiet_still c G (owing a over) (disconnect_if false a r) refl (omega arith) (λ h. h)))

quiet_connected : (c : ℕ) (G : Type 0) (st : PeerState) (r : PeerRecord) → r.state ≡ st → Quiet c G r (connected st r)
quiet_connected c G state.Accepting r is = quiet_event c G state.Connected event.Connected r tt (λ over. absurd (subst IsShut is over)) (λ clash. absurd cc)
quiet_connected c G state.Connecting r is = quiet_still c G r r refl (omega arith) (λ h. h)
quiet_connected c G state.Connected r is = quiet_still c G r r refl (omega arith) (λ h. h)
quiet_connected c G state.Closing r is = quiet_still c G r r refl (omega arith) (λ h. h)
quiet_connected c G state.Shut r is = quiet_still c G r r refl (omega arith) (λ h. h)

quiet_acknowledged : (c : ℕ) (G : Type 0) (content : Content) (r : PeerRecord) → Quiet c G r (acknowledged content r)
quiet_acknowledged c G Connect r = quiet_still c G r r refl (omega arith) (λ h. h)
quiet_acknowledged c G VerifyConnect r = quiet_connected c G r.state r refl
quiet_acknowledged c G (Message bytes) r = quiet_leave c G r.state r.unacknowledged r
quiet_acknowledged c G Disconnect r = quiet_shut c G event.Closed r tt (λ clash. absurd cc)

pub quiet_acknowledge : (c : ℕ) (G : Type 0) (found : Option Unacknowledged) (d number : ℕ) (r : PeerRecord) → Quiet c G r (acknowledged_if found d number r)
quiet_acknowledge c G None d number r = quiet_still c G r r refl (omega arith) (λ h. h)
quiet_acknowledge c G (Some u) d number r =
    let less : PeerRecord = record r { unacknowledged = filter (λ (v : Unacknowledged). not (is_named d number v)) r.unacknowledged } in
    quiet_then c G r less (acknowledged u.order.content less) (quiet_still c G r less refl (omega arith) (λ h. h)) (quiet_acknowledged c G u.order.content less)

-- ---- a message of another channel

pub taking_is_not_shut : (s : PeerState) → takes_messages s ≡ true → IsShut s → ⊥
taking_is_not_shut state.Shut e h = absurd (false≢true e)
taking_is_not_shut state.Connected e h = h
taking_is_not_shut state.Closing e h = h
taking_is_not_shut state.Connecting e h = h
taking_is_not_shut state.Accepting e h = h

pub quiet_message : (c : ℕ) (G : Type 0) (next behind : Bool) (d n : ℕ) (bytes : List ℕ) (sent number : ℕ) (r : PeerRecord) → (d ≡ c → ⊥) → (IsShut r.state → ⊥)
    → Quiet c G r (message_if next behind d n bytes (owed_answer sent d number) r)
quiet_message c G true behind d n bytes sent number r apart going =
    let e : PeerEvent = event.Message d n bytes in
    quiet_then c G r (happened e r) (owing (owed_answer sent d number) (happened e r)) (quiet_apart c G d n bytes r apart going)
    (quiet_owing c G (owed_answer sent d number) (happened e r) (λ _. apart))
quiet_message c G false true d n bytes sent number r apart going = quiet_owing c G (owed_answer sent d number) r (λ _. apart)
quiet_message c G false false d n bytes sent number r apart going = quiet_still c G r r refl (omega arith) (λ h. h)
