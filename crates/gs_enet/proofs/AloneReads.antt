-- What one side keeps with what it reads, and with all its calls.
use Rattle.std.proofs.Common.{◌≡◌, ◌<◌, ◌≤◌, ◌+◌, ℕ, max, Bool, true, false, not, cond, List, [], ◌∷◌, length, map, Option}
use Rattle.std.proofs.Common.{Some, None, refl, sym, ap, subst, arith, inl, inr}
use Rattle.std.specs.Prelude.{◌==◌, ◌&&◌, nat_lt, is_some, unwrap_or}
use Rattle.std.specs.List.{filter, find}
use Rattle.std.proofs.lemmas.Bool.{false≢true, eq-eqb}
use Rattle.std.proofs.lemmas.Bool.{eqb-true, cases_lt, cases_eq}
use Rattle.gs_enet_wire.specs.declared.command.Command.{Command}
use Rattle.gs_enet_wire.specs.declared.command.Command.TheVariants as command
use Rattle.gs_enet_wire.specs.declared.datagram.Datagram.{Datagram}
use Rattle.gs_enet.specs.declared.event.PeerEvent.TheVariants as event
use Rattle.gs_enet.specs.declared.state.PeerState.{PeerState}
use Rattle.gs_enet.specs.declared.state.PeerState.TheVariants as state
use Rattle.gs_enet.specs.declared.answer.Answer.{Answer}
use Rattle.gs_enet.specs.Record.{PeerRecord, Unacknowledged, Content, Connect, VerifyConnect, Disconnect, Message, Order, channels}
use Rattle.gs_enet.specs.Record.{given_on, is_shut, at_moment}
use Rattle.gs_enet.specs.Receive.{takes_messages, expected, message_if, is_next, is_behind, taken_if, is_connect, verified, verify_if, disconnect_if, answer_if}
use Rattle.gs_enet.specs.Receive.{connected, acknowledged, is_named, acknowledged_if, owed_answer, command_received, all_received}
use Rattle.gs_enet.specs.Steps.{can_send, closed, told_next}
use Rattle.gs_enet.specs.World.{Written, Side, WorldOpening, Client, Host, opened_by}
use Rattle.gs_enet.specs.Apart.{SideCall, Sends, Takes, Tells, Times, Writes, Closes, called, all_called, taken_by}
use Rattle.gs_enet.proofs.Lists.{Each, each_unmap, each_append, each_find}
use Rattle.gs_enet.proofs.Kept.{IsOver}
use Rattle.gs_enet.proofs.Rising.{numbered, Rising, none_of_none, one_dropped, IsRecent, few_recent}
use Rattle.gs_enet.proofs.HeldMessages.{message_of, held_on, gather, gather_kept, gather_other, gather_named}
use Rattle.gs_enet.proofs.WrittenMessages.{one_if}
use Rattle.gs_enet.proofs.Alone.{Gone, IsLeave, IsNearOwn, alone_more, alone_drops}
use Rattle.gs_enet.proofs.AloneCalls.{Giver, giver_sent, giver_leaves, giver_closed, giver_told, giver_hears, giver_at, giver_timed, giver_wrote}
use Rattle.gs_enet.proofs.Giving.{order_of}

-- ---- what is read: messages

giver_message : (c now m acks : ℕ) (next behind : Bool) (d n : ℕ) (bytes : List ℕ) (a : Answer) (r : PeerRecord) (ws : List Written)
    → Giver c now m acks r ws → Giver c now m acks (message_if next behind d n bytes a r) ws
giver_message c now m acks true behind d n bytes a r ws k = giver_hears c now m acks r.state (event.Message d n bytes) r ws k (λ h. h) (λ clash. absurd cc)
giver_message c now m acks false true d n bytes a r ws k = k
giver_message c now m acks false false d n bytes a r ws k = k

giver_taken_if : (c now m acks : ℕ) (taking : Bool) (d n : ℕ) (bytes : List ℕ) (a : Answer) (r : PeerRecord) (ws : List Written)
    → Giver c now m acks r ws → Giver c now m acks (taken_if taking d n bytes a r) ws
giver_taken_if c now m acks true d n bytes a r ws k =
    giver_message c now m acks (is_next n (expected r d)) (is_behind n (expected r d)) d (expected r d) bytes a r ws k
giver_taken_if c now m acks false d n bytes a r ws k = k

-- ---- the answer to a connect, a disconnect, and others

connect_is_no_message : (c : ℕ) (u : Unacknowledged) → not (is_connect u.order) ≡ false → held_on c u ≡ []
connect_is_no_message c u e = here u.order.content u.order.channel u.order.number e where
  here : (content : Content) (d n : ℕ) → not (is_connect (record { content = content; channel = d; number = n })) ≡ false → message_of c content d n ≡ []
  here Connect d n e = refl
  here VerifyConnect d n e = refl
  here Disconnect d n e = refl
  here (Message bytes) d n e = absurd (false≢true (sym e))

giver_verified : (c now m acks : ℕ) (st : PeerState) (peer : ℕ) (a : Answer) (r : PeerRecord) (ws : List Written)
    → r.state ≡ st → Giver c now m acks r ws → Giver c now m acks (verified st peer a r) ws
giver_verified c now m acks state.Connected peer a r ws is k = k
giver_verified c now m acks state.Closing peer a r ws is k = k
giver_verified c now m acks state.Accepting peer a r ws is k = k
giver_verified c now m acks state.Shut peer a r ws is k = k
giver_verified c now m acks state.Connecting peer a r ws is k =
    let test : Unacknowledged → Bool = λ (u : Unacknowledged). not (is_connect u.order) in
    let us : List Unacknowledged = filter test r.unacknowledged in
    giver_hears c now m acks state.Connected event.Connected (record r { other = Some peer; unacknowledged = us }) ws
    (alone_drops acks test k (omega arith)
    (omega (arith, ap length (gather_kept (held_on c) test r.unacknowledged (λ u e. connect_is_no_message c u e)))))
    (λ over. absurd (subst IsOver is over)) (λ clash. absurd cc)

giver_verify_if : (c now m acks : ℕ) (own : Bool) (peer : ℕ) (a : Answer) (r : PeerRecord) (ws : List Written)
    → Giver c now m acks r ws → Giver c now m acks (verify_if own peer a r) ws
giver_verify_if c now m acks true peer a r ws k = giver_verified c now m acks r.state peer a r ws refl k
giver_verify_if c now m acks false peer a r ws k = k

giver_disconnect : (c now m acks : ℕ) (again : Bool) (a : Answer) (r : PeerRecord) (ws : List Written)
    → Giver c now m acks r ws → Giver c now m acks (disconnect_if again a r) ws
giver_disconnect c now m acks true a r ws k = k
giver_disconnect c now m acks false a r ws k = giver_hears c now m acks state.Shut event.PeerClosed r ws k (λ _. tt) (λ clash. absurd cc)

giver_answer_if : (c now m acks : ℕ) (answered : Bool) (a : Answer) (r : PeerRecord) (ws : List Written)
    → Giver c now m acks r ws → Giver c now m acks (answer_if answered a r) ws
giver_answer_if c now m acks true a r ws k = k
giver_answer_if c now m acks false a r ws k = k

-- ---- acknowledgements

giver_connected : (c now m acks : ℕ) (st : PeerState) (r : PeerRecord) (ws : List Written)
    → r.state ≡ st → Giver c now m acks r ws → Giver c now m acks (connected st r) ws
giver_connected c now m acks state.Accepting r ws is k =
    giver_hears c now m acks state.Connected event.Connected r ws k (λ over. absurd (subst IsOver is over)) (λ clash. absurd cc)
giver_connected c now m acks state.Connecting r ws is k = k
giver_connected c now m acks state.Connected r ws is k = k
giver_connected c now m acks state.Closing r ws is k = k
giver_connected c now m acks state.Shut r ws is k = k

giver_acknowledged : (c now m acks : ℕ) (content : Content) (r : PeerRecord) (ws : List Written)
    → (IsLeave content → Gone c acks r.given r.state) → Giver c now m acks r ws → Giver c now m acks (acknowledged content r) ws
giver_acknowledged c now m acks Connect r ws left k = k
giver_acknowledged c now m acks VerifyConnect r ws left k = giver_connected c now m acks r.state r ws refl k
giver_acknowledged c now m acks (Message bytes) r ws left k = giver_leaves c now m acks r.state r.unacknowledged r ws refl refl k
giver_acknowledged c now m acks Disconnect r ws left k = giver_hears c now m acks state.Shut event.Closed r ws k (λ _. tt) (λ _. (tt, (left tt).1))

message_recent : (c size : ℕ) (content : Content) (d n : ℕ) → (d ≡ c → (n ≤ size) × (size < n + 256)) → Each (IsRecent size) (message_of c content d n)
message_recent c size (Message bytes) d n near = here (d == c) refl where
  here : (b : Bool) → (d == c) ≡ b → Each (IsRecent size) (cond b (numbered n bytes) [])
  here true e = ((near (eqb-true d c e)).1, tt)
  here false e = tt
message_recent c size Connect d n near = tt
message_recent c size VerifyConnect d n near = tt
message_recent c size Disconnect d n near = tt

gather_recent : (c size : ℕ) (us : List Unacknowledged) → Each (IsNearOwn c size) (map order_of us) → Each (IsRecent size) (gather (held_on c) us)
gather_recent c size [] h = tt
gather_recent c size (u ∷ us) h =
    each_append (IsRecent size) (held_on c u) (gather (held_on c) us) (message_recent c size u.order.content u.order.channel u.order.number h.0)
    (gather_recent c size us h.1)

-- what is held of a channel is among the last 256 given there
recent : (c now m acks : ℕ) (r : PeerRecord) (ws : List Written) → Giver c now m acks r ws
    → Each (IsRecent (length (given_on c r.given))) (gather (held_on c) r.unacknowledged)
recent c now m acks r ws k = elim (cases_lt c channels) [
  | inl below ↦ gather_recent c (length (given_on c r.given)) r.unacknowledged (k.near below)
  | inr above ↦ subst (Each (IsRecent (length (given_on c r.given))))
      (sym (none_of_none 0 (gather (held_on c) r.unacknowledged) (subst (λ (x : List (List ℕ)). Rising x 0 (gather (held_on c) r.unacknowledged))
      (k.outside above) k.held))) tt
]

one_fewer : (c now m acks : ℕ) (d number : ℕ) (r : PeerRecord) (ws : List Written) → Giver c now m acks r ws
    → length (gather (held_on c) r.unacknowledged)
    ≤ length (gather (held_on c) (filter (λ (v : Unacknowledged). not (is_named d number v)) r.unacknowledged)) + one_if (d == c)
one_fewer c now m acks d number r ws k = elim (cases_eq d c) [
  | inl same ↦ (
      let own : length (gather (held_on c) r.unacknowledged)
      ≤ length (gather (held_on c) (filter (λ (v : Unacknowledged). not (is_named c number v)) r.unacknowledged)) + 1 =
      omega (
        arith,
        one_dropped (given_on c r.given) number 0 (gather (held_on c) r.unacknowledged) (recent c now m acks r ws k) k.held,
        ap length
            (gather_named c number r.unacknowledged),
      ) in
      omega (
        arith,
        subst (λ (x : ℕ). length (gather (held_on c) r.unacknowledged)
            ≤ length (gather (held_on c) (filter (λ (v : Unacknowledged). not (is_named x number v)) r.unacknowledged)) + 1) (sym same) own,
        ap one_if (eq-eqb d c same),
      )
      )
  | inr apart ↦ omega (arith, ap length (gather_other c d number r.unacknowledged apart))
]

giver_acknowledge : (c now m acks : ℕ) (found : Option Unacknowledged) (d number : ℕ) (r : PeerRecord) (ws : List Written)
    → find (is_named d number) r.unacknowledged ≡ found → Giver c now m acks r ws → Giver c now m (acks + one_if (d == c)) (acknowledged_if found d number r) ws
giver_acknowledge c now m acks None d number r ws e k = alone_more (acks + one_if (d == c)) k (omega arith)
giver_acknowledge c now m acks (Some u) d number r ws e k =
    let test : Unacknowledged → Bool = λ (v : Unacknowledged). not (is_named d number v) in
    let more : ℕ = acks + one_if (d == c) in
    let held : Each (λ (v : Unacknowledged). IsLeave v.order.content → Gone c more r.given r.state) r.unacknowledged =
    each_unmap (λ (o : Order). IsLeave o.content → Gone c more r.given r.state) order_of r.unacknowledged
    (alone_more more k (omega arith)).left_held in
    let found = each_find (λ (v : Unacknowledged). IsLeave v.order.content → Gone c more r.given r.state) (is_named d number) r.unacknowledged u held e in
    giver_acknowledged c now m more u.order.content (record r { unacknowledged = filter test r.unacknowledged }) ws found.0
    (alone_drops more test k (omega arith) (omega (arith, one_fewer c now m acks d number r ws k)))

-- ---- a command, a datagram

-- how many acknowledgements of a channel
abbrev pub acks_of : ℕ → Command → ℕ
acks_of c (command.Acknowledge channel number asks named named_sent) = one_if (channel == c)
acks_of c _ = 0

abbrev pub acks_in : ℕ → List Command → ℕ
acks_in c [] = 0
acks_in c (x ∷ xs) = acks_of c x + acks_in c xs

abbrev pub acks_taken : ℕ → List Datagram → ℕ
acks_taken c [] = 0
acks_taken c (d ∷ ds) = acks_in c d.commands + acks_taken c ds

giver_received : (c now m acks sent : ℕ) (x : Command) (r : PeerRecord) (ws : List Written)
    → Giver c now m acks r ws → Giver c now m (acks + acks_of c x) (command_received sent x r) ws
unfolding command_received
giver_received c now m acks sent (command.Acknowledge channel number asks named named_sent) r ws k =
    giver_acknowledge c now m acks (find (is_named channel named) r.unacknowledged) channel named r ws refl k
giver_received c now m acks sent (command.VerifyConnect channel number asks peer incoming outgoing mtu window most ib ob interval up down connect_id) r ws k =
    giver_verify_if c now m (acks + 0) (is_some r.extra && (connect_id == r.connect_id)) peer (owed_answer sent channel number) r ws
    (alone_more (acks + 0) k (omega arith))
giver_received c now m acks sent (command.Disconnect channel number asks extra) r ws k =
    giver_disconnect c now m (acks + 0) r.disconnected (record (owed_answer sent channel number) { to_disconnect = true }) r ws
    (alone_more (acks + 0) k (omega arith))
giver_received c now m acks sent (command.Ping channel number asks) r ws k =
    giver_answer_if c now m (acks + 0) (asks && not (is_shut r.state)) (owed_answer sent channel number) r ws (alone_more (acks + 0) k (omega arith))
giver_received c now m acks sent (command.Bandwidth channel number asks incoming outgoing) r ws k =
    giver_answer_if c now m (acks + 0) (asks && not (is_shut r.state)) (owed_answer sent channel number) r ws (alone_more (acks + 0) k (omega arith))
giver_received c now m acks sent (command.Throttle channel number asks interval up down) r ws k =
    giver_answer_if c now m (acks + 0) (asks && not (is_shut r.state)) (owed_answer sent channel number) r ws (alone_more (acks + 0) k (omega arith))
giver_received c now m acks sent (command.Reliable channel number asks bytes) r ws k =
    giver_taken_if c now m (acks + 0) (nat_lt channel channels && takes_messages r.state) channel number bytes (owed_answer sent channel number) r ws
    (alone_more (acks + 0) k (omega arith))
giver_received c now m acks sent (command.Connect x) r ws k = alone_more (acks + 0) k (omega arith)
giver_received c now m acks sent (command.Unreliable channel number asks unreliable bytes) r ws k = alone_more (acks + 0) k (omega arith)
giver_received c now m acks sent (command.Fragment channel number asks first count fragment total offset bytes) r ws k = alone_more (acks + 0) k (omega arith)
giver_received c now m acks sent (command.Unsequenced channel number asks group bytes) r ws k = alone_more (acks + 0) k (omega arith)
giver_received c now m acks sent (command.UnreliableFragment channel number asks first count fragment total offset bytes) r ws k =
    alone_more (acks + 0) k (omega arith)

giver_all_received : (c now m acks sent : ℕ) (xs : List Command) (r : PeerRecord) (ws : List Written)
    → Giver c now m acks r ws → Giver c now m (acks + acks_in c xs) (all_received sent xs r) ws
giver_all_received c now m acks sent [] r ws k = alone_more (acks + 0) k (omega arith)
giver_all_received c now m acks sent (x ∷ xs) r ws k =
    alone_more (acks + (acks_of c x + acks_in c xs))
    (giver_all_received c now m (acks + acks_of c x) sent xs (command_received sent x r) ws (giver_received c now m acks sent x r ws k)) (omega arith)

-- all but the last 256 were acknowledged
pub giver_few : (c now m acks : ℕ) (r : PeerRecord) (ws : List Written) → Giver c now m acks r ws → length (given_on c r.given) ≤ 256 + acks
giver_few c now m acks r ws k =
    omega (arith, k.counted, few_recent (given_on c r.given) (gather (held_on c) r.unacknowledged) (recent c now m acks r ws k) k.held)

-- ---- all calls

pub giver_called : (c now m acks : ℕ) (calls : List SideCall) (s : Side) → Giver c now m acks s.peer s.wrote
    → Giver c now m (acks + acks_taken c (taken_by calls)) (all_called now calls s).peer (all_called now calls s).wrote
unfolding closed told_next
giver_called c now m acks [] s k = alone_more (acks + 0) k (omega arith)
giver_called c now m acks (Sends channel bytes ∷ cs) s k =
    giver_called c now m acks cs (called now (Sends channel bytes) s)
    (giver_sent c now m acks (nat_lt channel channels && can_send s.peer channel) channel bytes s.peer s.wrote refl k)
giver_called c now m acks (Takes d ∷ cs) s k =
    alone_more (acks + (acks_in c d.commands + acks_taken c (taken_by cs)))
    (giver_called c now m (acks + acks_in c d.commands) cs (called now (Takes d) s)
    (giver_all_received c now m acks (unwrap_or d.sent 0) d.commands (at_moment now s.peer) s.wrote (giver_at c now m acks s.peer s.wrote k))) (omega arith)
giver_called c now m acks (Tells ∷ cs) s k = giver_called c now m acks cs (called now Tells s) (giver_told c now m acks s.peer.waiting s.peer s.wrote refl k)
giver_called c now m acks (Times ∷ cs) s k = giver_called c now m acks cs (called now Times s) (giver_timed c now m acks s.peer s.wrote k)
giver_called c now m acks (Writes ∷ cs) s k = giver_called c now m acks cs (called now Writes s) (giver_wrote c now m acks s.peer s.wrote k)
giver_called c now m acks (Closes ∷ cs) s k = giver_called c now m acks cs (called now Closes s) (giver_closed c now m acks s.peer.state s.peer s.wrote refl k)

pub giver_opened : (c now : ℕ) (o : WorldOpening) → Giver c now (max (opened_by o).now now) 0 (opened_by o) []
giver_opened c now (Client own connect_id extra at) =
    record {
      outside = λ above. refl;
      clock = refl;
      out = tt;
      held = tt;
      near = λ below. ((λ same. absurd (omega (arith, same, below))), tt);
      sorted = (tt, tt);
      timed = (inl refl, tt);
      counted = omega arith;
      left_held = ((λ is. absurd is), tt);
      left_put = tt;
      left_heard = λ has. absurd (omega (arith, has.1));
    }
giver_opened c now (Host own other connect_id at) =
    record {
      outside = λ above. refl;
      clock = refl;
      out = tt;
      held = tt;
      near = λ below. ((λ same. absurd (omega (arith, same, below))), tt);
      sorted = (tt, tt);
      timed = (inl refl, tt);
      counted = omega arith;
      left_held = ((λ is. absurd is), tt);
      left_put = tt;
      left_heard = λ has. absurd (omega (arith, has.1));
    }
