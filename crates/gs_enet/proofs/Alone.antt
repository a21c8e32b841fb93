-- What every call keeps of one side, seen from the messages that it was given on one channel. Nothing is assumed of what it reads.
use Rattle.std.proofs.Common.{◌≡◌, ◌⊎◌, ◌<◌, ◌≤◌, ◌+◌, ℕ, max, Bool, true, List, [], ◌∷◌, ◌++◌, length, map, refl, sym, ap, subst, ◌∙◌, arith, inl, inr}
use Rattle.std.specs.Prelude.{◌==◌, Contains}
use Rattle.std.specs.List.{filter}
use Rattle.std.proofs.lemmas.Bool.{cases_eq, eq-eqb, cond-true}
use Rattle.std.proofs.lemmas.List.{append_assoc, append-nil, length-append}
use Rattle.gs_enet.specs.declared.event.PeerEvent.{PeerEvent}
use Rattle.gs_enet.specs.declared.event.PeerEvent.TheVariants as event
use Rattle.gs_enet.specs.declared.state.PeerState.{PeerState}
use Rattle.gs_enet.specs.Record.{PeerRecord, Unacknowledged, Content, Connect, VerifyConnect, Disconnect, Message, Order, GivenMessage, channels, control}
use Rattle.gs_enet.specs.Record.{fresh}
use Rattle.gs_enet.specs.Record.{given_on}
use Rattle.gs_enet.specs.Steps.{placed}
use Rattle.gs_enet.specs.Write.{Item, Answers, Orders}
use Rattle.gs_enet.specs.World.{Written, one_written}
use Rattle.gs_enet.proofs.Lists.{Each, each_weaker, each_push, each_filter, each_both}
use Rattle.gs_enet.proofs.Kept.{IsOver, giving, given_on-own, given_on-apart}
use Rattle.gs_enet.proofs.Rising.{Numbered, numbered, Rising, rising_after, rising_push}
use Rattle.gs_enet.proofs.HeldMessages.{message_of, held_on, due_on, gather, held_apart, due_apart, Sorted, each_placed, each_kept}
use Rattle.gs_enet.proofs.HeldMessages.{sorted_placed}
use Rattle.gs_enet.proofs.HeldMessages.{sorted_kept, gather_placed, gather_placed_apart, gather_same, rising_kept}
use Rattle.gs_enet.proofs.WrittenMessages.{item_messages, put_messages, put_messages-push}
use Rattle.gs_enet.proofs.Giving.{each_put, order_of}

-- the side is closing or shut, and each message of the channel was acknowledged
abbrev pub Gone : ℕ → ℕ → List GivenMessage → PeerState → Type 0
Gone c acks gv st = IsOver st × (length (given_on c gv) ≤ acks)

abbrev pub IsLeave : Content → Type 0
IsLeave Disconnect = Unit {0}
IsLeave Connect = ⊥
IsLeave VerifyConnect = ⊥
IsLeave (Message bytes) = ⊥

abbrev pub LeaveOnly : Type 0 → Item → Type 0
LeaveOnly G (Orders o) = IsLeave o.content → G
LeaveOnly G (Answers a) = Unit {0}

-- on that channel, a number among the last 256
abbrev pub IsNearOwn : ℕ → ℕ → Order → Type 0
IsNearOwn c size o = o.channel ≡ c → (o.number ≤ size) × (size < o.number + 256)

abbrev pub IsTimed : ℕ → Unacknowledged → Type 0
IsTimed m u = (u.due ≡ true) ⊎ (u.written ≡ m)

-- Of one channel, with so many acknowledgements of it read, and with m the one moment: what was given, the commands that are held,
-- the state, what was heard, what was written, and the last moment.
pub record Alone (c now m acks : ℕ) (gv : List GivenMessage) (us : List Unacknowledged) (st : PeerState) (hd : List PeerEvent) (ws : List Written)
    (at : ℕ) : Type 0
  where
    pub outside : channels ≤ c → given_on c gv ≡ []
    pub clock : max at now ≡ m
    pub out : Rising (given_on c gv) 0 (put_messages c ws ++ gather (due_on c) us)
    pub held : Rising (given_on c gv) 0 (gather (held_on c) us)
    pub near : c < channels → Each (IsNearOwn c (length (given_on c gv))) (map order_of us)
    pub sorted : Sorted (map order_of us)
    pub timed : Each (IsTimed m) us
    pub counted : length (given_on c gv) ≤ length (gather (held_on c) us) + acks
    pub left_held : Each (λ (o : Order). IsLeave o.content → Gone c acks gv st) (map order_of us)
    pub left_put : Each (λ (w : Written). Each (LeaveOnly (Gone c acks gv st)) w.items) ws
    pub left_heard : Contains hd event.Closed → Gone c acks gv st

leave_weaker : (G H : Type 0) → (G → H) → (x : Item) → LeaveOnly G x → LeaveOnly H x
leave_weaker G H f (Orders o) h = λ is. f (h is)
leave_weaker G H f (Answers a) h = tt

pub left_weaker : (G H : Type 0) → (G → H) → (ws : List Written) → Each (λ (w : Written). Each (LeaveOnly G) w.items) ws
    → Each (λ (w : Written). Each (LeaveOnly H) w.items) ws
left_weaker G H f ws =
    each_weaker (λ (w : Written). Each (LeaveOnly G) w.items) (λ (w : Written). Each (LeaveOnly H) w.items)
    (λ w. each_weaker (LeaveOnly G) (LeaveOnly H) (leave_weaker G H f) w.items) ws

held_weaker : (G H : Type 0) → (G → H) → (os : List Order) → Each (λ (o : Order). IsLeave o.content → G) os → Each (λ (o : Order). IsLeave o.content → H) os
held_weaker G H f os = each_weaker (λ (o : Order). IsLeave o.content → G) (λ (o : Order). IsLeave o.content → H) (λ o h is. f (h is)) os

-- ---- another state, more acknowledgements, other events

pub alone_turns : {c now m acks : ℕ} {gv : List GivenMessage} {us : List Unacknowledged} {st : PeerState} {hd : List PeerEvent} {ws : List Written} {at : ℕ}
    (acks' : ℕ) (st' : PeerState) (hd' : List PeerEvent) → Alone c now m acks gv us st hd ws at → acks ≤ acks' → (IsOver st → IsOver st')
    → (Contains hd' event.Closed → Contains hd event.Closed ⊎ Gone c acks' gv st')
    → Alone c now m acks' gv us st' hd' ws at
alone_turns {c = c} {acks = acks} {gv = gv} {us = us} {st = st} {ws = ws} acks' st' hd' k more over heard =
    let gone : Gone c acks gv st → Gone c acks' gv st' = λ g. (over g.0, omega (arith, g.1, more)) in
    record {
      outside = k.outside;
      clock = k.clock;
      out = k.out;
      held = k.held;
      near = k.near;
      sorted = k.sorted;
      timed = k.timed;
      counted = omega (arith, k.counted, more);
      left_held = held_weaker (Gone c acks gv st) (Gone c acks' gv st') gone (map order_of us) k.left_held;
      left_put = left_weaker (Gone c acks gv st) (Gone c acks' gv st') gone ws k.left_put;
      left_heard = λ has. elim (heard has) [ inl before ↦ gone (k.left_heard before) | inr now ↦ now ];
    }

-- more acknowledgements
pub alone_more : {c now m acks : ℕ} {gv : List GivenMessage} {us : List Unacknowledged} {st : PeerState} {hd : List PeerEvent} {ws : List Written} {at : ℕ}
    (acks' : ℕ) → Alone c now m acks gv us st hd ws at → acks ≤ acks' → Alone c now m acks' gv us st hd ws at
alone_more {st = st} {hd = hd} acks' k more = alone_turns acks' st hd k more (λ h. h) (λ has. inl has)

-- another moment
pub alone_at : {c now m acks : ℕ} {gv : List GivenMessage} {us : List Unacknowledged} {st : PeerState} {hd : List PeerEvent} {ws : List Written} {at : ℕ}
    (at' : ℕ) → max at' now ≡ m → Alone c now m acks gv us st hd ws at → Alone c now m acks gv us st hd ws at'
alone_at at' clock k =
    record {
      outside = k.outside;
      clock = clock;
      out = k.out;
      held = k.held;
      near = k.near;
      sorted = k.sorted;
      timed = k.timed;
      counted = k.counted;
      left_held = k.left_held;
      left_put = k.left_put;
      left_heard = k.left_heard;
    }

-- ---- commands are dropped

pub alone_drops : {c now m acks : ℕ} {gv : List GivenMessage} {us : List Unacknowledged} {st : PeerState} {hd : List PeerEvent} {ws : List Written} {at : ℕ}
    (acks' : ℕ) (test : Unacknowledged → Bool) → Alone c now m acks gv us st hd ws at → acks ≤ acks'
    → length (gather (held_on c) us) + acks ≤ length (gather (held_on c) (filter test us)) + acks'
    → Alone c now m acks' gv (filter test us) st hd ws at
alone_drops {c = c} {acks = acks} {gv = gv} {us = us} {st = st} {hd = hd} {ws = ws} acks' test k more few =
    let r : Alone c _ _ acks' gv us st hd ws _ = alone_more acks' k more in
    record {
      outside = k.outside;
      clock = k.clock;
      out = rising_after (given_on c gv) 0 (put_messages c ws) (gather (due_on c) us) (gather (due_on c) (filter test us))
          (λ l. rising_kept (given_on c gv) (due_on c) test us l) k.out;
      held = rising_kept (given_on c gv) (held_on c) test us 0 k.held;
      near = λ below. each_kept (IsNearOwn c (length (given_on c gv))) test us (k.near below);
      sorted = sorted_kept test us k.sorted;
      timed = each_filter (IsTimed _) test us k.timed;
      counted = omega (arith, k.counted, few);
      left_held = each_kept (λ (o : Order). IsLeave o.content → Gone c acks' gv st) test us r.left_held;
      left_put = r.left_put;
      left_heard = r.left_heard;
    }

-- ---- the disconnect

pub alone_leaves : {c now m acks : ℕ} {gv : List GivenMessage} {us : List Unacknowledged} {st : PeerState} {hd : List PeerEvent} {ws : List Written} {at : ℕ}
    (n : ℕ) → us ≡ [] → IsOver st → Alone c now m acks gv us st hd ws at → Alone c now m acks gv (fresh Disconnect control n ∷ []) st hd ws at
alone_leaves {c = c} {acks = acks} {gv = gv} {us = us} {st = st} {ws = ws} n none over k =
    let all : length (given_on c gv) ≤ acks = omega (arith, k.counted, ap (λ (x : List Unacknowledged). length (gather (held_on c) x)) none) in
    record {
      outside = k.outside;
      clock = k.clock;
      out = subst (λ (x : List Unacknowledged). Rising (given_on c gv) 0 (put_messages c ws ++ gather (due_on c) x)) none k.out;
      held = tt;
      near = λ below. ((λ same. absurd (omega (arith, same, below))), tt);
      sorted = (tt, tt);
      timed = (inl refl, tt);
      counted = omega (arith, all);
      left_held = ((λ is. (over, all)), tt);
      left_put = k.left_put;
      left_heard = k.left_heard;
    }

-- ---- a message is given

pub own_message : (c n : ℕ) (bytes : List ℕ) → message_of c (Message bytes) c n ≡ numbered n bytes
own_message c n bytes = cond-true (c == c) (numbered n bytes) [] (eq-eqb c c refl)

near_more : (c size : ℕ) (os : List Order) → Each (λ (o : Order). IsNearOwn c size o × (o.channel ≡ c → size + 1 < o.number + 256)) os
    → Each (IsNearOwn c (size + 1)) os
near_more c size os =
    each_weaker (λ (o : Order). IsNearOwn c size o × (o.channel ≡ c → size + 1 < o.number + 256)) (IsNearOwn c (size + 1))
    (λ o h same. (omega (arith, (h.0 same).0), omega (arith, h.1 same))) os

gives_own : {c now m acks : ℕ} {gv : List GivenMessage} {us : List Unacknowledged} {st : PeerState} {hd : List PeerEvent} {ws : List Written} {at : ℕ}
    (bytes : List ℕ) → Alone c now m acks gv us st hd ws at → (IsOver st → ⊥) → c < channels
    → Each (λ (o : Order). o.channel ≡ c → length (given_on c gv) + 1 < o.number + 256) (map order_of us)
    → Alone c now m acks (gv ++ giving c bytes) (placed (fresh (Message bytes) c (length (given_on c gv) + 1)) us) st hd ws at
gives_own {c = c} {m = m} {acks = acks} {gv = gv} {us = us} {st = st} {ws = ws} bytes k up below room =
    let ms : List (List ℕ) = given_on c gv in
    let n : ℕ = length ms + 1 in
    let u : Unacknowledged = fresh (Message bytes) c n in
    let own : given_on c (gv ++ giving c bytes) ≡ ms ++ bytes ∷ [] = given_on-own c bytes gv in
    let size : length (given_on c (gv ++ giving c bytes)) ≡ n = ap length own ∙ length-append ms (bytes ∷ []) in
    let newest : Each (λ (o : Order). o.channel ≡ c → o.number < n) (map order_of us) =
    each_weaker (IsNearOwn c (length ms)) (λ (o : Order). o.channel ≡ c → o.number < n) (λ o h same. omega (arith, (h same).0)) (map order_of us)
    (k.near below) in
    let due : gather (due_on c) (placed u us) ≡ gather (due_on c) us ++ numbered n bytes =
    gather_placed (due_on c) u us (λ v apart. due_apart c v apart) newest k.sorted
    ∙ ap (λ (x : List Numbered). gather (due_on c) us ++ x) (own_message c n bytes) in
    let all : gather (held_on c) (placed u us) ≡ gather (held_on c) us ++ numbered n bytes =
    gather_placed (held_on c) u us (λ v apart. held_apart c v apart) newest k.sorted
    ∙ ap (λ (x : List Numbered). gather (held_on c) us ++ x) (own_message c n bytes) in
    record {
      outside = λ above. absurd (omega (arith, above, below));
      clock = k.clock;
      out = subst (λ (x : List (List ℕ)). Rising x 0 (put_messages c ws ++ gather (due_on c) (placed u us))) (sym own)
          (subst (Rising (ms ++ bytes ∷ []) 0)
          (append_assoc (put_messages c ws) (gather (due_on c) us) (numbered n bytes) ∙ ap (λ (x : List Numbered). put_messages c ws ++ x) (sym due))
          (rising_push ms 0 (put_messages c ws ++ gather (due_on c) us) bytes (omega arith) k.out));
      held = subst (λ (x : List (List ℕ)). Rising x 0 (gather (held_on c) (placed u us))) (sym own)
          (subst (Rising (ms ++ bytes ∷ []) 0) (sym all) (rising_push ms 0 (gather (held_on c) us) bytes (omega arith) k.held));
      near = λ _. subst (λ (x : ℕ). Each (IsNearOwn c x) (map order_of (placed u us))) (sym size)
          (each_placed (IsNearOwn c n) u us (λ same. (omega arith, omega arith))
          (near_more c (length ms) (map order_of us) (each_both (IsNearOwn c (length ms)) (λ (o : Order). o.channel ≡ c → n < o.number + 256)
          (map order_of us) (k.near below) room)));
      sorted = sorted_placed u us k.sorted;
      timed = each_put (IsTimed m) u us (inl refl) k.timed;
      counted = omega (arith, size, k.counted, ap length all, length-append (gather (held_on c) us) (numbered n bytes));
      left_held = each_placed (λ (o : Order). IsLeave o.content → Gone c acks (gv ++ giving c bytes) st) u us (λ is. absurd is)
          (held_weaker (Gone c acks gv st) (Gone c acks (gv ++ giving c bytes) st) (λ g. absurd (up g.0)) (map order_of us) k.left_held);
      left_put = left_weaker (Gone c acks gv st) (Gone c acks (gv ++ giving c bytes) st) (λ g. absurd (up g.0)) ws k.left_put;
      left_heard = λ has. absurd (up (k.left_heard has).0);
    }

gives_apart : {c now m acks : ℕ} {gv : List GivenMessage} {us : List Unacknowledged} {st : PeerState} {hd : List PeerEvent} {ws : List Written} {at : ℕ}
    (d n : ℕ) (bytes : List ℕ) → Alone c now m acks gv us st hd ws at → (d ≡ c → ⊥)
    → Alone c now m acks (gv ++ giving d bytes) (placed (fresh (Message bytes) d n) us) st hd ws at
gives_apart {c = c} {m = m} {acks = acks} {gv = gv} {us = us} {st = st} {ws = ws} d n bytes k apart =
    let u : Unacknowledged = fresh (Message bytes) d n in
    let same : given_on c (gv ++ giving d bytes) ≡ given_on c gv = given_on-apart c d bytes gv apart in
    let gone : Gone c acks gv st → Gone c acks (gv ++ giving d bytes) st = λ g. (g.0, omega (arith, g.1, ap length same)) in
    let due : gather (due_on c) (placed u us) ≡ gather (due_on c) us = gather_placed_apart (due_on c) u us (due_apart c u apart) in
    let all : gather (held_on c) (placed u us) ≡ gather (held_on c) us = gather_placed_apart (held_on c) u us (held_apart c u apart) in
    record {
      outside = λ above. same ∙ k.outside above;
      clock = k.clock;
      out = subst (λ (x : List (List ℕ)). Rising x 0 (put_messages c ws ++ gather (due_on c) (placed u us))) (sym same)
          (subst (λ (x : List Numbered). Rising (given_on c gv) 0 (put_messages c ws ++ x)) (sym due) k.out);
      held = subst (λ (x : List (List ℕ)). Rising x 0 (gather (held_on c) (placed u us))) (sym same)
          (subst (Rising (given_on c gv) 0) (sym all) k.held);
      near = λ below. each_placed (IsNearOwn c (length (given_on c (gv ++ giving d bytes)))) u us (λ own. absurd (apart own))
          (subst (λ (x : List (List ℕ)). Each (IsNearOwn c (length x)) (map order_of us)) (sym same) (k.near below));
      sorted = sorted_placed u us k.sorted;
      timed = each_put (IsTimed m) u us (inl refl) k.timed;
      counted = omega (arith, k.counted, ap length same, ap length all);
      left_held = each_placed (λ (o : Order). IsLeave o.content → Gone c acks (gv ++ giving d bytes) st) u us (λ is. absurd is)
          (held_weaker (Gone c acks gv st) (Gone c acks (gv ++ giving d bytes) st) gone (map order_of us) k.left_held);
      left_put = left_weaker (Gone c acks gv st) (Gone c acks (gv ++ giving d bytes) st) gone ws k.left_put;
      left_heard = λ has. gone (k.left_heard has);
    }

-- a message on a channel whose held commands are all among the last 255
pub alone_gives : {c now m acks : ℕ} {gv : List GivenMessage} {us : List Unacknowledged} {st : PeerState} {hd : List PeerEvent} {ws : List Written} {at : ℕ}
    (d : ℕ) (bytes : List ℕ) → Alone c now m acks gv us st hd ws at → (IsOver st → ⊥) → d < channels
    → Each (λ (o : Order). o.channel ≡ d → length (given_on d gv) + 1 < o.number + 256) (map order_of us)
    → Alone c now m acks (gv ++ giving d bytes) (placed (fresh (Message bytes) d (length (given_on d gv) + 1)) us) st hd ws at
alone_gives {c = c} {now = now} {m = m} {acks = acks} {gv = gv} {us = us} {st = st} {hd = hd} {ws = ws} {at = at} d bytes k up below room =
    elim (cases_eq d c) [
      | inl same ↦ subst (λ (x : ℕ). (x < channels) → Each (λ (o : Order). o.channel ≡ x → length (given_on x gv) + 1 < o.number + 256) (map order_of us)
          → Alone c now m acks (gv ++ giving x bytes) (placed (fresh (Message bytes) x (length (given_on x gv) + 1)) us) st hd ws at) (sym same)
          (λ low near. gives_own bytes k up low near) below room
      | inr apart ↦ gives_apart d (length (given_on d gv) + 1) bytes k apart
    ]

-- ---- the same commands, due as before

pub alone_keeps : {c now m acks : ℕ} {gv : List GivenMessage} {us : List Unacknowledged} {st : PeerState} {hd : List PeerEvent} {ws : List Written} {at : ℕ}
    (us' : List Unacknowledged) (by : PeerRecord) (xs : List Item) (at' : ℕ) → Alone c now m acks gv us st hd ws at → max at' now ≡ m
    → map order_of us' ≡ map order_of us
    → Each (IsTimed m) us' → item_messages c xs ++ gather (due_on c) us' ≡ gather (due_on c) us
    → Each (LeaveOnly (Gone c acks gv st)) xs
    → Alone c now m acks gv us' st hd (ws ++ one_written by xs) at'
alone_keeps {c = c} {acks = acks} {gv = gv} {us = us} {st = st} {ws = ws} us' by xs at' k clock same timed due left =
    record {
      outside = k.outside;
      clock = clock;
      out = subst (Rising (given_on c gv) 0)
          (ap (λ (x : List Numbered). put_messages c ws ++ x) (sym due) ∙ sym (append_assoc (put_messages c ws) (item_messages c xs) (gather (due_on c) us'))
          ∙ ap (λ (x : List Numbered). x ++ gather (due_on c) us') (sym (put_messages-push c by xs ws))) k.out;
      held = subst (Rising (given_on c gv) 0) (gather_same c us us' (sym same)) k.held;
      near = λ below. subst (Each (IsNearOwn c (length (given_on c gv)))) (sym same) (k.near below);
      sorted = subst Sorted (sym same) k.sorted;
      timed = timed;
      counted = omega (arith, k.counted, ap length (gather_same c us us' (sym same)));
      left_held = subst (Each (λ (o : Order). IsLeave o.content → Gone c acks gv st)) (sym same) k.left_held;
      left_put = pushed xs left;
      left_heard = k.left_heard;
    }
  where
    pushed : (xs : List Item) → Each (LeaveOnly (Gone c acks gv st)) xs → Each (λ (w : Written). Each (LeaveOnly (Gone c acks gv st)) w.items)
        (ws ++ one_written by xs)
    pushed [] h = subst (Each (λ (w : Written). Each (LeaveOnly (Gone c acks gv st)) w.items)) (sym (append-nil ws)) k.left_put
    pushed (x ∷ xs) h = each_push (λ (w : Written). Each (LeaveOnly (Gone c acks gv st)) w.items) ws (record { by = by; items = x ∷ xs }) k.left_put h
