-- What a side does at one moment leaves no more deliveries than were left before.
use Rattle.std.proofs.Common.{◌≡◌, ◌≤◌, ◌+◌, ◌-◌, ◌*◌, ℕ, zero, suc, Bool, true, false, not, cond, List, [], ◌∷◌, ◌++◌, length, map, drop, Option, Some, None}
use Rattle.std.proofs.Common.{refl, ap, ◌∙◌, arith}
use Rattle.std.specs.Prelude.{◌==◌, ◌&&◌, ◌%◌, nat_lt, nat_le, is_some, slice_get}
use Rattle.std.specs.List.{filter, find}
use Rattle.std.proofs.lemmas.List.{length-append, length-drop}
use Rattle.gs_enet_wire.specs.Grammar.{command_spelling}
use Rattle.gs_enet.specs.declared.answer.Answer.{Answer}
use Rattle.gs_enet.specs.declared.state.PeerState.{PeerState}
use Rattle.gs_enet.specs.declared.state.PeerState.TheVariants as state
use Rattle.gs_enet.specs.Record.{PeerRecord, Content, Connect, VerifyConnect, Disconnect, Message, Unacknowledged, channels, control, datagram_room, is_shut}
use Rattle.gs_enet.specs.Record.{at_moment, fresh}
use Rattle.gs_enet.specs.Receive.{takes_messages, expected, message_if, is_next, is_behind, taken_if, is_connect, verified, verify_if, disconnect_if, leave_if}
use Rattle.gs_enet.specs.Receive.{connected, acknowledged, is_named, acknowledged_if, owed_answer, command_received, all_received}
use Rattle.gs_enet.specs.Steps.{comes_before, placed, next_number, with_message}
use Rattle.gs_enet.specs.Write.{Item, Answers, Orders, item_command, order_command, wire_number, is_due, due_if, fitting, going_out, header_room, next_items}
use Rattle.gs_enet.specs.Write.{written_once, first_written, wrote_next}
use Rattle.gs_enet.specs.World.{Side, Written, Write, sent_if, one_written, acted, came}
use Rattle.gs_enet.proofs.Due.{due_after}
use Rattle.gs_enet.specs.Sides.{writing_within, written_out}
use Rattle.gs_run.specs.Deliveries.{is_order, deliveries_of, all_deliveries, is_message_content, carries_message, deliveries_by}

-- ---- counts of members

-- one member more in both lists, if it counts
kept : {X : Type 0} (n : ℕ) (c : Bool) (x y : X) (xs ys : List X) → length xs ≤ n + length ys
    → length (cond c (x ∷ xs) xs) ≤ n + length (cond c (y ∷ ys) ys)
kept n true x y xs ys h = omega (arith, h)
kept n false x y xs ys h = h

-- one member more, if it counts
more : {X : Type 0} (c : Bool) (x : X) (xs : List X)
    → (length xs ≤ length (cond c (x ∷ xs) xs)) × (length (cond c (x ∷ xs) xs) ≤ 1 + length xs)
more true x xs = (omega arith, omega arith)
more false x xs = (omega arith, omega arith)

counts : {X : Type 0} (c : Bool) (x : X) (xs : List X) → c ≡ true → 1 + length xs ≤ length (cond c (x ∷ xs) xs)
counts true x xs e = omega arith
counts false x xs e = absurd cc

fewer : {X : Type 0} (p : X → Bool) (xs : List X) → length (filter p xs) ≤ length xs
fewer p [] = omega arith
fewer p (x ∷ xs) = let rest = fewer p xs in let one = more (p x) x (filter p xs) in omega (arith, rest, one.1)

-- those that pass one test are no more among those that pass another
fewer_both : {X : Type 0} (p q : X → Bool) (xs : List X) → length (filter p (filter q xs)) ≤ length (filter p xs)
fewer_both p q [] = omega arith
fewer_both {X} p q (x ∷ xs) = by (q x) (fewer_both p q xs) where
  by : (b : Bool) → length (filter p (filter q xs)) ≤ length (filter p xs)
      → length (filter p (cond b (x ∷ filter q xs) (filter q xs))) ≤ length (cond (p x) (x ∷ filter p xs) (filter p xs))
  by true rest = let both = kept 0 (p x) x x (filter p (filter q xs)) (filter p xs) (omega (arith, rest)) in omega (arith, both)
  by false rest = let one = more (p x) x (filter p xs) in omega (arith, rest, one.0)

-- a member was found that passes another test, and all like it were taken out
found_less : {X : Type 0} (p q : X → Bool) (xs : List X) (x : X) → find p xs ≡ Some x → q x ≡ true
    → 1 + length (filter q (filter (λ y. not (p y)) xs)) ≤ length (filter q xs)
found_less p q [] x e is = absurd cc
found_less {X} p q (y ∷ ys) x e is = by (p y) e (found_less p q ys x) where
  by : (b : Bool) → cond b (Some y) (find p ys) ≡ Some x
      → (find p ys ≡ Some x → q x ≡ true → 1 + length (filter q (filter (λ z. not (p z)) ys)) ≤ length (filter q ys))
      → 1 + length (filter q (cond (not b) (y ∷ filter (λ z. not (p z)) ys) (filter (λ z. not (p z)) ys)))
      ≤ length (cond (q y) (y ∷ filter q ys) (filter q ys))
  by true same rest =
      let here : y ≡ x = cc in
      let one = counts (q y) y (filter q ys) (ap q here ∙ is) in
      let both = fewer_both q (λ z. not (p z)) ys in
      omega (arith, one, both)
  by false later rest = grow (q y) (filter q (filter (λ z. not (p z)) ys)) (filter q ys) (rest later is) where
    grow : (c : Bool) (xs zs : List X) → 1 + length xs ≤ length zs → 1 + length (cond c (y ∷ xs) xs) ≤ length (cond c (y ∷ zs) zs)
    grow true xs zs h = omega (arith, h)
    grow false xs zs h = h

-- ---- a message is given

placed_more : (p : Unacknowledged → Bool) (u : Unacknowledged) (us : List Unacknowledged) → length (filter p (placed u us)) ≤ 1 + length (filter p us)
placed_more p u [] = let one = more (p u) u [] in omega (arith, one.1)
placed_more p u (v ∷ vs) = by (comes_before u.order v.order) (placed_more p u vs) where
  by : (b : Bool) → length (filter p (placed u vs)) ≤ 1 + length (filter p vs)
      → length (filter p (cond b (u ∷ v ∷ vs) (v ∷ placed u vs))) ≤ 1 + length (cond (p v) (v ∷ filter p vs) (filter p vs))
  by true rest = (more (p u) u (cond (p v) (v ∷ filter p vs) (filter p vs))).1
  by false rest = kept 1 (p v) v v (filter p (placed u vs)) (filter p vs) rest

pub sent_leaves : (b : Bool) (channel : ℕ) (bytes : List ℕ) (r : PeerRecord) → deliveries_by (sent_if b channel bytes r) ≤ deliveries_by r + 4
unfolding with_message
sent_leaves false channel bytes r = omega arith
sent_leaves true channel bytes r =
    let u : Unacknowledged = fresh (Message bytes) channel (next_number r channel) in
    let due = placed_more is_due u r.unacknowledged in
    let messages = placed_more carries_message u r.unacknowledged in
    omega (arith, due, messages)

-- ---- a command that comes

connected_leaves : (s : PeerState) (r : PeerRecord) → deliveries_by (connected s r) ≤ deliveries_by r
connected_leaves state.Connecting r = omega arith
connected_leaves state.Accepting r = omega arith
connected_leaves state.Connected r = omega arith
connected_leaves state.Closing r = omega arith
connected_leaves state.Shut r = omega arith

leave_leaves : (s : PeerState) (us : List Unacknowledged) (r : PeerRecord) → deliveries_by (leave_if s us r) ≤ deliveries_by r + 2
leave_leaves state.Closing [] r = omega arith
leave_leaves state.Closing (u ∷ us) r = omega arith
leave_leaves state.Connecting us r = omega arith
leave_leaves state.Accepting us r = omega arith
leave_leaves state.Connected us r = omega arith
leave_leaves state.Shut us r = omega arith

-- behind an acknowledged command of this content, which is no longer held
content_leaves : (content : Content) (r : PeerRecord)
    → deliveries_by (acknowledged content r) ≤ deliveries_by r + cond (is_message_content content) 2 0
content_leaves Connect r = omega arith
content_leaves VerifyConnect r = omega (arith, connected_leaves r.state r)
content_leaves (Message bytes) r = leave_leaves r.state r.unacknowledged r
content_leaves Disconnect r = let answers = fewer (λ (a : Answer). a.to_disconnect) r.pending in omega (arith, answers)

acknowledged_leaves : (channel number : ℕ) (r : PeerRecord) (o : Option Unacknowledged) → find (is_named channel number) r.unacknowledged ≡ o
    → deliveries_by (acknowledged_if o channel number r) ≤ deliveries_by r
acknowledged_leaves channel number r None e = omega arith
acknowledged_leaves channel number r (Some u) e =
    by (carries_message u) refl
    (content_leaves u.order.content (record r { unacknowledged = filter (λ v. not (is_named channel number v)) r.unacknowledged }))
  where
    due : length (filter is_due (filter (λ v. not (is_named channel number v)) r.unacknowledged)) ≤ length (filter is_due r.unacknowledged)
    due = fewer_both is_due (λ v. not (is_named channel number v)) r.unacknowledged

    by : (b : Bool) → carries_message u ≡ b
        → deliveries_by (acknowledged u.order.content (record r { unacknowledged = filter (λ v. not (is_named channel number v)) r.unacknowledged }))
        ≤ deliveries_by (record r { unacknowledged = filter (λ v. not (is_named channel number v)) r.unacknowledged }) + cond b 2 0
        → deliveries_by (acknowledged u.order.content (record r { unacknowledged = filter (λ v. not (is_named channel number v)) r.unacknowledged }))
        ≤ deliveries_by r
    by true is after =
        let less = found_less (is_named channel number) carries_message r.unacknowledged u e is in
        omega (arith, after, due, less)
    by false is after =
        let messages = fewer_both carries_message (λ v. not (is_named channel number v)) r.unacknowledged in
        omega (arith, after, due, messages)

owing_leaves : (pending : List Answer) (answer : Answer) → length (pending ++ answer ∷ []) ≤ length pending + 1
owing_leaves pending answer = omega (arith, length-append pending (answer ∷ []))

verified_leaves : (s : PeerState) (peer : ℕ) (answer : Answer) (r : PeerRecord) → deliveries_by (verified s peer answer r) ≤ deliveries_by r + 1
verified_leaves state.Connecting peer answer r =
    let owed = owing_leaves r.pending answer in
    let due = fewer_both is_due (λ (u : Unacknowledged). not (is_connect u.order)) r.unacknowledged in
    let messages = fewer_both carries_message (λ (u : Unacknowledged). not (is_connect u.order)) r.unacknowledged in
    omega (arith, owed, due, messages)
verified_leaves state.Connected peer answer r = let owed = owing_leaves r.pending answer in omega (arith, owed)
verified_leaves state.Closing peer answer r = let owed = owing_leaves r.pending answer in omega (arith, owed)
verified_leaves state.Accepting peer answer r = omega arith
verified_leaves state.Shut peer answer r = omega arith

verify_leaves : (own : Bool) (peer : ℕ) (answer : Answer) (r : PeerRecord) → deliveries_by (verify_if own peer answer r) ≤ deliveries_by r + 1
verify_leaves true peer answer r = verified_leaves r.state peer answer r
verify_leaves false peer answer r = omega arith

disconnect_leaves : (again : Bool) (answer : Answer) (r : PeerRecord) → deliveries_by (disconnect_if again answer r) ≤ deliveries_by r + 1
disconnect_leaves true answer r = let owed = owing_leaves r.pending answer in omega (arith, owed)
disconnect_leaves false answer r =
    let kept_answers = filter (λ (a : Answer). a.to_disconnect) r.pending in
    let owed = owing_leaves kept_answers answer in
    let answers = fewer (λ (a : Answer). a.to_disconnect) r.pending in
    omega (arith, owed, answers)

message_leaves : (next behind : Bool) (channel number : ℕ) (bytes : List ℕ) (answer : Answer) (r : PeerRecord)
    → deliveries_by (message_if next behind channel number bytes answer r) ≤ deliveries_by r + 1
message_leaves true behind channel number bytes answer r = let owed = owing_leaves r.pending answer in omega (arith, owed)
message_leaves false true channel number bytes answer r = let owed = owing_leaves r.pending answer in omega (arith, owed)
message_leaves false false channel number bytes answer r = omega arith

taken_leaves : (takes : Bool) (channel number : ℕ) (bytes : List ℕ) (answer : Answer) (r : PeerRecord)
    → deliveries_by (taken_if takes channel number bytes answer r) ≤ deliveries_by r + 1
taken_leaves true channel number bytes answer r =
    message_leaves (is_next number (expected r channel)) (is_behind number (expected r channel)) channel (expected r channel) bytes answer r
taken_leaves false channel number bytes answer r = omega arith

order_leaves : (sent : ℕ) (by r : PeerRecord) (content : Content) (channel number : ℕ)
    → deliveries_by (command_received sent (order_command content channel number by) r) ≤ deliveries_by r + 1
unfolding command_received
order_leaves sent by r Connect channel number = omega arith
order_leaves sent by r VerifyConnect channel number =
    verify_leaves (is_some r.extra && (by.connect_id == r.connect_id)) by.own (owed_answer sent control (wire_number number)) r
order_leaves sent by r Disconnect channel number =
    disconnect_leaves r.disconnected (record (owed_answer sent control (wire_number number)) { to_disconnect = true }) r
order_leaves sent by r (Message bytes) channel number =
    taken_leaves (nat_lt channel channels && takes_messages r.state) channel (wire_number number) bytes
    (owed_answer sent channel (wire_number number)) r

-- ---- a datagram that comes

answer_leaves : (sent : ℕ) (by r : PeerRecord) (answer : Answer) → deliveries_by (command_received sent (item_command by (Answers answer)) r) ≤ deliveries_by r
unfolding command_received
answer_leaves sent by r answer = acknowledged_leaves answer.channel answer.number r (find (is_named answer.channel answer.number) r.unacknowledged) refl

all_leave : (sent : ℕ) (by : PeerRecord) (items : List Item) (r : PeerRecord)
    → deliveries_by (all_received sent (map (item_command by) items) r) ≤ deliveries_by r + length (filter is_order items)
all_leave sent by [] r = omega arith
all_leave sent by (Answers answer ∷ items) r =
    let one = answer_leaves sent by r answer in
    let rest = all_leave sent by items (command_received sent (item_command by (Answers answer)) r) in
    omega (arith, one, rest)
all_leave sent by (Orders order ∷ items) r =
    let one = order_leaves sent by r order.content order.channel order.number in
    let rest = all_leave sent by items (command_received sent (item_command by (Orders order)) r) in
    omega (arith, one, rest)

pub came_leaves : (w : Written) (now : ℕ) (s : Side) → deliveries_by (came (Some w) now s).peer + 1 ≤ deliveries_by s.peer + deliveries_of w
came_leaves w now s =
    let all = all_leave (w.by.now % 65536) w.by w.items (at_moment now s.peer) in
    omega (arith, all)

-- ---- a datagram that is written

-- a front of so many answers and then so many commands
record IsFront (items : List Item) (answers orders : ℕ) : Type 0 where
  counts : length (filter is_order items) ≡ length items - answers
  within : length items ≤ answers + orders

no_front : (answers orders : ℕ) → IsFront [] answers orders
no_front answers orders = record { counts = omega arith; within = omega arith }

front_orders : (by : PeerRecord) (room : ℕ) (us : List Unacknowledged)
    → IsFront (fitting by room (map (λ (u : Unacknowledged). Orders u.order) us)) 0 (length us)
front_orders by room [] = no_front 0 0
front_orders by room (u ∷ us) =
    here (length (command_spelling (item_command by (Orders u.order))))
    (front_orders by (room - length (command_spelling (item_command by (Orders u.order)))) us)
  where
    more_of : List Item → Bool → List Item
    more_of items b = cond b (Orders u.order ∷ items) []

    one : (b : Bool) (items : List Item) → IsFront items 0 (length us) → IsFront (cond b (Orders u.order ∷ items) []) 0 (suc (length us))
    one true items rest = record { counts = omega (arith, rest.counts); within = omega (arith, rest.within) }
    one false items rest = no_front 0 (suc (length us))

    here : (n : ℕ) → IsFront (fitting by (room - n) (map (λ (v : Unacknowledged). Orders v.order) us)) 0 (length us)
        → IsFront (cond (nat_le n room) (Orders u.order ∷ fitting by (room - n) (map (λ (v : Unacknowledged). Orders v.order) us)) [])
        0 (suc (length us))
    here n rest = one (nat_le n room) (fitting by (room - n) (map (λ (v : Unacknowledged). Orders v.order) us)) rest

front_both : (by : PeerRecord) (room : ℕ) (answers : List Answer) (us : List Unacknowledged)
    → IsFront (fitting by room (map Answers answers ++ map (λ (u : Unacknowledged). Orders u.order) us)) (length answers) (length us)
front_both by room [] us = front_orders by room us
front_both by room (answer ∷ answers) us =
    here (length (command_spelling (item_command by (Answers answer))))
    (front_both by (room - length (command_spelling (item_command by (Answers answer)))) answers us)
  where
    one : (b : Bool) (items : List Item) → IsFront items (length answers) (length us)
        → IsFront (cond b (Answers answer ∷ items) []) (suc (length answers)) (length us)
    one true items rest = record { counts = omega (arith, rest.counts); within = omega (arith, rest.within) }
    one false items rest = no_front (suc (length answers)) (length us)

    here : (n : ℕ) → IsFront (fitting by (room - n) (map Answers answers ++ map (λ (v : Unacknowledged). Orders v.order) us)) (length answers) (length us)
        → IsFront (cond (nat_le n room)
        (Answers answer ∷ fitting by (room - n) (map Answers answers ++ map (λ (v : Unacknowledged). Orders v.order) us)) [])
        (suc (length answers)) (length us)
    here n rest = one (nat_le n room) (fitting by (room - n) (map Answers answers ++ map (λ (v : Unacknowledged). Orders v.order) us)) rest

due_at_most : (over : Bool) (us : List Unacknowledged) → length (due_if over us) ≤ length (filter is_due us)
due_at_most true us = omega arith
due_at_most false us = omega arith

next_front : (r : PeerRecord) → IsFront (next_items r) (length r.pending) (length (filter is_due r.unacknowledged))
unfolding next_items
next_front r =
    let front = front_both r (datagram_room - header_room) r.pending (due_if (is_shut r.state) r.unacknowledged) in
    let due = due_at_most (is_shut r.state) r.unacknowledged in
    record { counts = front.counts; within = omega (arith, front.within, due) }

-- the messages stay, written or not
messages_stay : (now n : ℕ) (us : List Unacknowledged) → length (filter carries_message (first_written now n us)) ≡ length (filter carries_message us)
messages_stay now n [] = refl
messages_stay now zero (u ∷ us) = refl
messages_stay now (suc n) (u ∷ us) = here u.due (messages_stay now n us) (messages_stay now (suc n) us) where
  both : (b : Bool) (v : Unacknowledged) (vs ws : List Unacknowledged) → length vs ≡ length ws
      → length (cond b (v ∷ vs) vs) ≡ length (cond b (u ∷ ws) ws)
  both true v vs ws same = ap (λ (n : ℕ). suc n) same
  both false v vs ws same = same

  here : (b : Bool) → length (filter carries_message (first_written now n us)) ≡ length (filter carries_message us)
      → length (filter carries_message (first_written now (suc n) us)) ≡ length (filter carries_message us)
      → length (filter carries_message (cond b (written_once now u ∷ first_written now n us) (u ∷ first_written now (suc n) us)))
      ≡ length (filter carries_message (u ∷ us))
  here true one other = both (carries_message u) (written_once now u) (filter carries_message (first_written now n us)) (filter carries_message us) one
  here false one other = both (carries_message u) u (filter carries_message (first_written now (suc n) us)) (filter carries_message us) other

all_append : (xs ys : List Written) → all_deliveries (xs ++ ys) ≡ all_deliveries xs + all_deliveries ys
all_append [] ys = omega arith
all_append (x ∷ xs) ys = let rest = all_append xs ys in omega (arith, rest)

later_fewer : (n : ℕ) (xs : List Written) → all_deliveries (drop n xs) ≤ all_deliveries xs
later_fewer zero xs = omega arith
later_fewer (suc n) [] = omega arith
later_fewer (suc n) (x ∷ xs) = let rest = later_fewer n xs in omega (arith, rest)

later_append : (n : ℕ) (xs ys : List Written) → all_deliveries (drop n (xs ++ ys)) ≤ all_deliveries (drop n xs) + all_deliveries ys
later_append zero xs ys = omega (arith, all_append xs ys)
later_append (suc n) [] ys = omega (arith, later_fewer (suc n) ys)
later_append (suc n) (x ∷ xs) ys = later_append n xs ys

written_leaves : (items : List Item) (by : PeerRecord) (answers orders : ℕ) → IsFront items answers orders
    → (answers - length items) + 2 * (orders - (length items - answers)) + all_deliveries (one_written by items) ≤ answers + 2 * orders
written_leaves [] by answers orders front = omega arith
written_leaves (x ∷ xs) by answers orders front = omega (arith, front.counts, front.within)

pub wrote_leaves : (now n : ℕ) (s : Side)
    → deliveries_by (acted (Write now) s).peer + all_deliveries (drop n (acted (Write now) s).wrote) ≤ deliveries_by s.peer + all_deliveries (drop n s.wrote)
unfolding wrote_next
wrote_leaves now n s =
    let t : PeerRecord = at_moment now s.peer in
    let items : List Item = next_items t in
    let k : ℕ = length items - length t.pending in
    let answers : length (drop (length items) t.pending) ≡ length t.pending - length items = length-drop (length items) t.pending in
    let due : length (filter is_due (first_written t.now k t.unacknowledged)) ≡ length (filter is_due t.unacknowledged) - k =
    ap (λ (us : List Unacknowledged). length us) (due_after t.now k t.unacknowledged) ∙ length-drop k (filter is_due t.unacknowledged) in
    let messages = messages_stay t.now k t.unacknowledged in
    let later = later_append n s.wrote (one_written t items) in
    let new = written_leaves items t (length t.pending) (length (filter is_due t.unacknowledged)) (next_front t) in
    omega (arith, answers, due, messages, later, new)

within_leaves : (m now n : ℕ) (s : Side)
    → deliveries_by (writing_within m now s).peer + all_deliveries (drop n (writing_within m now s).wrote)
    ≤ deliveries_by s.peer + all_deliveries (drop n s.wrote)
within_leaves zero now n s = omega arith
within_leaves (suc m) now n s =
    let one = wrote_leaves now n s in
    let rest = within_leaves m now n (acted (Write now) s) in
    omega (arith, one, rest)

pub written_out_leaves : (now n : ℕ) (s : Side)
    → deliveries_by (written_out now s).peer + all_deliveries (drop n (written_out now s).wrote) ≤ deliveries_by s.peer + all_deliveries (drop n s.wrote)
unfolding written_out
written_out_leaves now n s = within_leaves (suc (length (going_out (at_moment now s.peer)))) now n s

-- the next datagram that is to be delivered
pub next_of_later : (n : ℕ) (xs : List Written) (x : Written) → slice_get xs n ≡ Some x
    → all_deliveries (drop n xs) ≡ deliveries_of x + all_deliveries (drop (suc n) xs)
next_of_later n [] x e = absurd cc
next_of_later zero (y ∷ ys) x e = (let same : y ≡ x = cc in ap (λ (w : Written). deliveries_of w + all_deliveries ys) same)
next_of_later (suc n) (y ∷ ys) x e = next_of_later n ys x e
