-- Two sides apart: what the one wrote in its calls, and what the other read in its own.
use Rattle.std.proofs.Common.{◌≡◌, ◌≤◌, ◌+◌, ℕ, max, List, [], ◌∷◌, ◌++◌, length, map, refl, sym, ap, subst, ◌∙◌, arith, inl, inr}
use Rattle.std.proofs.lemmas.Bool.{cases_lt}
use Rattle.std.proofs.lemmas.List.{append_assoc, append-nil}
use Rattle.std.proofs.lemmas.List.Elements.{Contains-append_left}
use Rattle.gs_enet_wire.specs.declared.datagram.Datagram.{Datagram}
use Rattle.gs_enet.specs.declared.event.PeerEvent.TheVariants as event
use Rattle.gs_enet.specs.Record.{PeerRecord, Content, Connect, VerifyConnect, Disconnect, Message, channels, given_on, messages_on, told, heard}
use Rattle.gs_enet.specs.Write.{Item, Answers, Orders, item_command, order_command}
use Rattle.gs_enet.specs.World.{Written, opened_by}
use Rattle.gs_enet.specs.Laws.{AreInOrder}
use Rattle.gs_enet.specs.Apart.{Course, ended, taken_by, TookFront, MessagesInOrderApart}
use Rattle.gs_enet.proofs.Lists.{Each}
use Rattle.gs_enet.proofs.Kept.{messages_on-append}
use Rattle.gs_enet.proofs.TwoSides.{whole_prefix, none_waits}
use Rattle.gs_enet.proofs.Rising.{Rising, rising_front}
use Rattle.gs_enet.proofs.HeldMessages.{due_on, gather}
use Rattle.gs_enet.proofs.WrittenMessages.{item_answers, put_messages, put_answers, put_messages-append, put_answers-append}
use Rattle.gs_enet.proofs.Alone.{Gone, LeaveOnly, left_weaker}
use Rattle.gs_enet.proofs.AloneCalls.{Giver}
use Rattle.gs_enet.proofs.AloneReads.{acks_of, acks_in, acks_taken, giver_few, giver_called, giver_opened}
use Rattle.gs_enet.proofs.Hears.{answered_on}
use Rattle.gs_enet.proofs.FrontRead.{sent_by, Heard, reads_front, hears_opened}

-- ---- a front of what was written

record FrontOf (ds : List Datagram) (ws : List Written) : Type 0 where
  pub front : List Written
  pub rest : List Written
  pub same : ds ≡ map sent_by front
  pub parts : front ++ rest ≡ ws

front_of : (ds rest : List Datagram) (ws : List Written) → ds ++ rest ≡ map sent_by ws → FrontOf ds ws
front_of [] rest ws e = record { front = []; rest = ws; same = refl; parts = refl }
front_of (d ∷ ds) rest [] e = absurd cc
front_of (d ∷ ds) rest (w ∷ ws) e =
    let head : d ≡ sent_by w = cc in
    let tail : ds ++ rest ≡ map sent_by ws = cc in
    let others : FrontOf ds ws = front_of ds rest ws tail in
    record {
      front = w ∷ others.front;
      rest = others.rest;
      same = ap (λ (x : Datagram). x ∷ ds) head ∙ ap (λ (x : List Datagram). sent_by w ∷ x) others.same;
      parts = ap (λ (x : List Written). w ∷ x) others.parts;
    }

each_front : (P : Written → Type 0) (xs ys : List Written) → Each P (xs ++ ys) → Each P xs
each_front P [] ys h = tt
each_front P (x ∷ xs) ys h = (h.0, each_front P xs ys h.1)

-- ---- acknowledgements that are read were written as answers

order_acks : (c : ℕ) (content : Content) (d n : ℕ) (by : PeerRecord) → acks_of c (order_command content d n by) ≡ 0
order_acks c Connect d n by = refl
order_acks c VerifyConnect d n by = refl
order_acks c Disconnect d n by = refl
order_acks c (Message bytes) d n by = refl

item_acks : (c : ℕ) (by : PeerRecord) (xs : List Item) → acks_in c (map (item_command by) xs) ≡ item_answers c xs
item_acks c by [] = refl
item_acks c by (Answers a ∷ xs) = omega (arith, item_acks c by xs)
item_acks c by (Orders o ∷ xs) = omega (arith, item_acks c by xs, order_acks c o.content o.channel o.number by)

put_acks : (c : ℕ) (ws : List Written) → acks_taken c (map sent_by ws) ≡ put_answers c ws
put_acks c [] = refl
put_acks c (w ∷ ws) = omega (arith, item_acks c w.by w.items, put_acks c ws)

-- no more than were written
acks_most : (c : ℕ) (ds rest : List Datagram) (ws : List Written) → ds ++ rest ≡ map sent_by ws → acks_taken c ds ≤ put_answers c ws
acks_most c ds rest ws e =
    let f : FrontOf ds ws = front_of ds rest ws e in
    omega (arith, ap (acks_taken c) f.same, put_acks c f.front, put_answers-append c f.front f.rest, ap (put_answers c) f.parts)

-- ---- one way

abbrev gave : Course → ℕ → List (List ℕ)
gave x c = given_on c (ended x).peer.given

-- how many acknowledgements of the channel it read
abbrev acks : Course → ℕ → ℕ
acks x c = 0 + acks_taken c (taken_by x.calls)

giving : (x : Course) (c : ℕ) → Giver c x.now (max (opened_by x.opening).now x.now) (acks x c) (ended x).peer (ended x).wrote
giving x c = giver_called c x.now (max (opened_by x.opening).now x.now) 0 x.calls (record { peer = opened_by x.opening; wrote = [] })
    (giver_opened c x.now x.opening)

-- each acknowledgement that the one read was an answer of the other
acks_answered : (x y : Course) (c : ℕ) → TookFront x y → acks x c ≤ answered_on c (ended y).peer (ended y).wrote
acks_answered x y c took = omega (arith, acks_most c (taken_by x.calls) took.0 (ended y).wrote took.1)

hearing : (x y : Course) (c : ℕ) → TookFront y x → TookFront x y → Heard c (gave x c) (length (gave x c) ≤ acks x c) (ended y)
hearing x y c took back =
    let k = giving x c in
    let f : FrontOf (taken_by y.calls) (ended x).wrote = front_of (taken_by y.calls) took.0 (ended x).wrote took.1 in
    let G : Type 0 = length (gave x c) ≤ acks x c in
    let put : put_messages c (ended x).wrote ≡ put_messages c f.front ++ put_messages c f.rest =
    ap (put_messages c) (sym f.parts) ∙ put_messages-append c f.front f.rest in
    let rising : Rising (gave x c) 0 (put_messages c f.front) =
    rising_front (gave x c) 0 (put_messages c f.front) (put_messages c f.rest) (subst (Rising (gave x c) 0) put
    (rising_front (gave x c) 0 (put_messages c (ended x).wrote) (gather (due_on c) (ended x).peer.unacknowledged) k.out)) in
    let left : Each (λ (w : Written). Each (LeaveOnly (length (gave x c) ≤ acks x c)) w.items) f.front =
    each_front (λ (w : Written). Each (LeaveOnly (length (gave x c) ≤ acks x c)) w.items) f.front f.rest
    (subst (Each (λ (w : Written). Each (LeaveOnly (length (gave x c) ≤ acks x c)) w.items)) (sym f.parts)
    (left_weaker (Gone c (acks x c) (ended x).peer.given (ended x).peer.state) (length (gave x c) ≤ acks x c) (λ g. g.1) (ended x).wrote k.left_put)) in
    reads_front c (gave x c) (length (gave x c) ≤ acks x c) 0 y.now y.calls (record { peer = opened_by y.opening; wrote = [] }) f.front f.same k.outside left
    rising
    (λ below. omega (arith, giver_few c x.now (max (opened_by x.opening).now x.now) (acks x c) (ended x).peer (ended x).wrote k, acks_answered x y c back))
    (hears_opened c (gave x c) (length (gave x c) ≤ acks x c) y.opening)

-- where as many acknowledgements were read as messages given, all are heard
all_heard : (x y : Course) (c : ℕ) → TookFront y x → TookFront x y → length (gave x c) ≤ acks x c → messages_on c (heard (ended y).peer) ≡ gave x c
all_heard x y c took back all =
    let h : Heard c (gave x c) (length (gave x c) ≤ acks x c) (ended y) = hearing x y c took back in
    whole_prefix (messages_on c (heard (ended y).peer)) h.hears.in_order.0 (gave x c) h.hears.in_order.1 (elim (cases_lt c channels) [
      | inl below ↦ omega (arith, all, acks_answered x y c back, h.hears.fewer below)
      | inr above ↦ omega (arith, ap length ((giving x c).outside above))
    ])

one_way : (x y : Course) → TookFront y x → TookFront x y → AreInOrder (ended x).peer (ended y).peer
one_way x y took back =
    let r : PeerRecord = (ended y).peer in
    record {
      prefix = λ c. (
          let h : Heard c (gave x c) (length (gave x c) ≤ acks x c) (ended y) = hearing x y c took back in (
            messages_on c (ended y).peer.waiting ++ h.hears.in_order.0,
            h.hears.in_order.1
                ∙ ap (λ (w : List (List ℕ)). w ++ h.hears.in_order.0) (messages_on-append c (ended y).peer.told (ended y).peer.waiting)
                ∙ append_assoc (told (ended y).peer c) (messages_on c (ended y).peer.waiting) h.hears.in_order.0,
          )
          );
      whole = λ has c.
          let h : Heard c (gave x c) (length (gave x c) ≤ acks x c) (ended y) = hearing x y c took back in
          let over = h.hears.closed (Contains-append_left (ended y).peer.told (ended y).peer.waiting event.PeerClosed has) in
          sym (messages_on-append c (ended y).peer.told (ended y).peer.waiting
          ∙ ap (λ (w : List (List ℕ)). told (ended y).peer c ++ w) (none_waits (ended y).peer.told (ended y).peer.waiting h.hears.last has c)
          ∙ append-nil (told (ended y).peer c)) ∙ all_heard x y c took back over.1;
      arrived = λ has c. all_heard x y c took back ((giving x c).left_heard has).1;
    }

pub messages_in_order_apart_lem : MessagesInOrderApart
messages_in_order_apart_lem left right to_left to_right = (one_way left right to_right to_left, one_way right left to_left to_right)
