-- A connection of which neither side disconnects stays up.
use Rattle.std.proofs.Common.{◌≡◌, ◌-◌, ◌%◌, ℕ, zero, suc, Bool, true, false, not, cond, ◌&&◌, List, [], ◌∷◌, length, map, Option, Some, None}
use Rattle.std.proofs.Common.{refl, sym, subst}
use Rattle.std.specs.Prelude.{◌==◌, nat_lt, nat_le, is_some, slice_get}
use Rattle.std.specs.List.{filter, find}
use Rattle.gs_enet_wire.specs.Grammar.{command_spelling}
use Rattle.gs_enet.specs.declared.answer.Answer.{Answer}
use Rattle.gs_enet.specs.declared.state.PeerState.{PeerState}
use Rattle.gs_enet.specs.declared.state.PeerState.TheVariants as state
use Rattle.gs_enet.specs.Record.{PeerRecord, Content, Connect, VerifyConnect, Disconnect, Message, Unacknowledged, channels, control, datagram_room, is_shut}
use Rattle.gs_enet.specs.Record.{at_moment, fresh}
use Rattle.gs_enet.specs.Receive.{takes_messages, expected, message_if, is_next, is_behind, taken_if, verified, verify_if, leave_if, connected, acknowledged}
use Rattle.gs_enet.specs.Receive.{is_named, acknowledged_if, owed_answer, command_received, all_received}
use Rattle.gs_enet.specs.Steps.{can_send, comes_before, placed, next_number, with_message}
use Rattle.gs_enet.specs.Write.{Item, Answers, Orders, item_command, order_command, due_if, fitting, going_out, header_room, next_items, written_once}
use Rattle.gs_enet.specs.Write.{is_due, first_written, wrote_next}
use Rattle.gs_enet.specs.World.{Side, Written, Send, Write, sent_if, one_written, acted, came}
use Rattle.gs_enet.specs.Sides.{writing_within, written_out, all_told}
use Rattle.gs_enet.proofs.Lists.{Each, each_append, each_filter, each_find, each_map}
use Rattle.gs_run.proofs.TwoSides.{each_at}

-- ---- what isn't a disconnect

abbrev Stays : Content → Type 0
Stays Disconnect = ⊥
Stays Connect = Unit {0}
Stays VerifyConnect = Unit {0}
Stays (Message bytes) = Unit {0}

abbrev IsStaying : Unacknowledged → Type 0
IsStaying u = Stays u.order.content

abbrev IsStayingItem : Item → Type 0
IsStayingItem (Answers answer) = Unit {0}
IsStayingItem (Orders order) = Stays order.content

-- The side is connected, and it neither holds nor wrote a disconnect.
pub record IsUp (s : Side) : Type 0 where
  pub up : s.peer.state ≡ state.Connected
  pub holds : Each IsStaying s.peer.unacknowledged
  pub wrote : Each (λ (w : Written). Each IsStayingItem w.items) s.wrote

-- ---- a message is given

each_placed : (u : Unacknowledged) (us : List Unacknowledged) → IsStaying u → Each IsStaying us → Each IsStaying (placed u us)
each_placed u [] is all = (is, tt)
each_placed u (v ∷ vs) is all = by (comes_before u.order v.order) (each_placed u vs is all.1) where
  by : (b : Bool) → Each IsStaying (placed u vs) → Each IsStaying (cond b (u ∷ v ∷ vs) (v ∷ placed u vs))
  by true rest = (is, all)
  by false rest = (all.0, rest)

pub sent_is_up : (channel : ℕ) (bytes : List ℕ) (s : Side) → IsUp s → IsUp (acted (Send channel bytes) s)
unfolding with_message
sent_is_up channel bytes s k = by (nat_lt channel channels && can_send s.peer channel) where
  by : (b : Bool) → IsUp (record s { peer = sent_if b channel bytes s.peer })
  by true = record {
    up = k.up;
    holds = each_placed (fresh (Message bytes) channel (next_number s.peer channel)) s.peer.unacknowledged tt k.holds;
    wrote = k.wrote;
  }
  by false = record { up = k.up; holds = k.holds; wrote = k.wrote }

-- ---- writing

each_fitting : (by : PeerRecord) (room : ℕ) (items : List Item) → Each IsStayingItem items → Each IsStayingItem (fitting by room items)
each_fitting by room [] all = tt
each_fitting by room (x ∷ xs) all =
    here (length (command_spelling (item_command by x))) (each_fitting by (room - length (command_spelling (item_command by x))) xs all.1)
  where
    one : (b : Bool) (items : List Item) → Each IsStayingItem items → Each IsStayingItem (cond b (x ∷ items) [])
    one true items rest = (all.0, rest)
    one false items rest = tt

    here : (n : ℕ) → Each IsStayingItem (fitting by (room - n) xs) → Each IsStayingItem (cond (nat_le n room) (x ∷ fitting by (room - n) xs) [])
    here n rest = one (nat_le n room) (fitting by (room - n) xs) rest

each_answer : (answers : List Answer) → Each IsStayingItem (map Answers answers)
each_answer [] = tt
each_answer (answer ∷ answers) = (tt, each_answer answers)

each_due : (over : Bool) (us : List Unacknowledged) → Each IsStaying us → Each IsStaying (due_if over us)
each_due true us all = tt
each_due false us all = each_filter IsStaying is_due us all

each_next : (r : PeerRecord) → Each IsStaying r.unacknowledged → Each IsStayingItem (next_items r)
unfolding next_items
each_next r all =
    each_fitting r (datagram_room - header_room) (going_out r)
    (each_append IsStayingItem (map Answers r.pending) (map (λ (u : Unacknowledged). Orders u.order) (due_if (is_shut r.state) r.unacknowledged))
    (each_answer r.pending)
    (each_map IsStayingItem (λ (u : Unacknowledged). Orders u.order) (due_if (is_shut r.state) r.unacknowledged)
    (each_due (is_shut r.state) r.unacknowledged all)))

each_first : (now n : ℕ) (us : List Unacknowledged) → Each IsStaying us → Each IsStaying (first_written now n us)
each_first now n [] all = tt
each_first now zero (u ∷ us) all = all
each_first now (suc n) (u ∷ us) all = by u.due (each_first now n us all.1) (each_first now (suc n) us all.1) where
  by : (b : Bool) → Each IsStaying (first_written now n us) → Each IsStaying (first_written now (suc n) us)
      → Each IsStaying (cond b (written_once now u ∷ first_written now n us) (u ∷ first_written now (suc n) us))
  by true one other = (all.0, one)
  by false one other = (all.0, other)

each_one_written : (by : PeerRecord) (items : List Item) → Each IsStayingItem items
    → Each (λ (w : Written). Each IsStayingItem w.items) (one_written by items)
each_one_written by [] all = tt
each_one_written by (x ∷ xs) all = (all, tt)

wrote_is_up : (now : ℕ) (s : Side) → IsUp s → IsUp (acted (Write now) s)
unfolding wrote_next
wrote_is_up now s k =
    let t : PeerRecord = at_moment now s.peer in
    record {
      up = k.up;
      holds = each_first t.now (length (next_items t) - length t.pending) t.unacknowledged k.holds;
      wrote = each_append (λ (w : Written). Each IsStayingItem w.items) s.wrote (one_written t (next_items t)) k.wrote
          (each_one_written t (next_items t) (each_next t k.holds));
    }

within_is_up : (n now : ℕ) (s : Side) → IsUp s → IsUp (writing_within n now s)
within_is_up zero now s k = k
within_is_up (suc n) now s k = within_is_up n now (acted (Write now) s) (wrote_is_up now s k)

pub written_out_is_up : (now : ℕ) (s : Side) → IsUp s → IsUp (written_out now s)
unfolding written_out
written_out_is_up now s k = within_is_up (suc (length (going_out (at_moment now s.peer)))) now s k

-- ---- reading

-- the record is connected, and holds no disconnect
record IsPeerUp (r : PeerRecord) : Type 0 where
  up : r.state ≡ state.Connected
  holds : Each IsStaying r.unacknowledged

message_up : (next behind : Bool) (channel number : ℕ) (bytes : List ℕ) (answer : Answer) (r : PeerRecord) → IsPeerUp r
    → IsPeerUp (message_if next behind channel number bytes answer r)
message_up true behind channel number bytes answer r k = record { up = k.up; holds = k.holds }
message_up false true channel number bytes answer r k = record { up = k.up; holds = k.holds }
message_up false false channel number bytes answer r k = k

taken_up : (takes : Bool) (channel number : ℕ) (bytes : List ℕ) (answer : Answer) (r : PeerRecord) → IsPeerUp r
    → IsPeerUp (taken_if takes channel number bytes answer r)
taken_up true channel number bytes answer r k =
    message_up (is_next number (expected r channel)) (is_behind number (expected r channel)) channel (expected r channel) bytes answer r k
taken_up false channel number bytes answer r k = k

verify_up : (own : Bool) (peer : ℕ) (answer : Answer) (r : PeerRecord) → IsPeerUp r → IsPeerUp (verify_if own peer answer r)
verify_up true peer answer r k =
    subst (λ (s : PeerState). IsPeerUp (verified s peer answer r)) (sym k.up) (record { up = k.up; holds = k.holds })
verify_up false peer answer r k = k

acknowledged_up : (content : Content) (r : PeerRecord) → Stays content → IsPeerUp r → IsPeerUp (acknowledged content r)
acknowledged_up Connect r is k = k
acknowledged_up VerifyConnect r is k = subst (λ (s : PeerState). IsPeerUp (connected s r)) (sym k.up) k
acknowledged_up (Message bytes) r is k = subst (λ (s : PeerState). IsPeerUp (leave_if s r.unacknowledged r)) (sym k.up) k
acknowledged_up Disconnect r is k = absurd is

acknowledge_up : (channel number : ℕ) (r : PeerRecord) (o : Option Unacknowledged) → find (is_named channel number) r.unacknowledged ≡ o → IsPeerUp r
    → IsPeerUp (acknowledged_if o channel number r)
acknowledge_up channel number r None e k = k
acknowledge_up channel number r (Some u) e k =
    let found = each_find IsStaying (is_named channel number) r.unacknowledged u k.holds e in
    acknowledged_up u.order.content (record r { unacknowledged = filter (λ v. not (is_named channel number v)) r.unacknowledged }) found.0
    (record { up = k.up; holds = each_filter IsStaying (λ v. not (is_named channel number v)) r.unacknowledged k.holds })

order_up : (sent : ℕ) (by r : PeerRecord) (content : Content) (channel number : ℕ) → Stays content → IsPeerUp r
    → IsPeerUp (command_received sent (order_command content channel number by) r)
unfolding command_received
order_up sent by r Connect channel number is k = k
order_up sent by r VerifyConnect channel number is k =
    verify_up (is_some r.extra && (by.connect_id == r.connect_id)) by.own (owed_answer sent control (number % 65536)) r k
order_up sent by r Disconnect channel number is k = absurd is
order_up sent by r (Message bytes) channel number is k =
    taken_up (nat_lt channel channels && takes_messages r.state) channel (number % 65536) bytes (owed_answer sent channel (number % 65536)) r k

item_up : (sent : ℕ) (by r : PeerRecord) (x : Item) → IsStayingItem x → IsPeerUp r → IsPeerUp (command_received sent (item_command by x) r)
unfolding command_received
item_up sent by r (Answers answer) is k =
    acknowledge_up answer.channel answer.number r (find (is_named answer.channel answer.number) r.unacknowledged) refl k
item_up sent by r (Orders order) is k = order_up sent by r order.content order.channel order.number is k

all_up : (sent : ℕ) (by : PeerRecord) (items : List Item) (r : PeerRecord) → Each IsStayingItem items → IsPeerUp r
    → IsPeerUp (all_received sent (map (item_command by) items) r)
all_up sent by [] r all k = k
all_up sent by (x ∷ xs) r all k = all_up sent by xs (command_received sent (item_command by x) r) all.1 (item_up sent by r x all.0 k)

-- one of the datagrams of the other side comes
pub came_is_up : (which now : ℕ) (s other : Side) → IsUp s → IsUp other → IsUp (came (slice_get other.wrote which) now s)
came_is_up which now s other k o = by (slice_get other.wrote which) refl where
  by : (w : Option Written) → slice_get other.wrote which ≡ w → IsUp (came w now s)
  by None e = k
  by (Some w) e =
      let items = each_at (λ (v : Written). Each IsStayingItem v.items) other.wrote which w o.wrote e in
      let all = all_up (w.by.now % 65536) w.by w.items (at_moment now s.peer) items (record { up = k.up; holds = k.holds }) in
      record { up = all.up; holds = all.holds; wrote = k.wrote }

pub told_is_up : (s : Side) → IsUp s → IsUp (record s { peer = all_told s.peer })
told_is_up s k = record { up = k.up; holds = k.holds; wrote = k.wrote }
