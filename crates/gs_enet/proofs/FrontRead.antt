-- A side reads a front of what another wrote, by its own calls.
use Rattle.std.proofs.Common.{◌≡◌, ◌<◌, ◌≤◌, ◌+◌, ◌%◌, ℕ, max, Bool, true, false, List, [], ◌∷◌, ◌++◌, length, map, refl, sym, ap, subst, arith, inl, inr}
use Rattle.std.specs.Prelude.{◌==◌, ◌&&◌, nat_lt, is_some}
use Rattle.std.specs.List.{find}
use Rattle.std.proofs.lemmas.Bool.{and_parts, cases_eq, cases_lt}
use Rattle.std.proofs.lemmas.List.{append_assoc, length-append}
use Rattle.gs_enet_wire.specs.declared.datagram.Datagram.{Datagram}
use Rattle.gs_enet.specs.declared.answer.Answer.{Answer}
use Rattle.gs_enet.specs.Record.{PeerRecord, Content, Connect, VerifyConnect, Disconnect, Message, channels, is_shut, at_moment}
use Rattle.gs_enet.specs.Receive.{takes_messages, expected, is_next, is_behind, taken_if, is_named, owed_answer, command_received, all_received}
use Rattle.gs_enet.specs.Steps.{can_send, closed, told_next, had_last_wait, timed}
use Rattle.gs_enet.specs.Write.{Item, Answers, Orders, item_command, order_command, next_items, wrote_next, items_datagram}
use Rattle.gs_enet.specs.World.{Written, Side, WorldOpening, Client, Host, opened_by, one_written}
use Rattle.gs_enet.specs.Apart.{SideCall, Sends, Takes, Tells, Times, Writes, Closes, called, all_called, taken_by}
use Rattle.gs_enet.proofs.Lists.{Each}
use Rattle.gs_enet.proofs.Rising.{Numbered, numbered, Rising, rising_length, at_below}
use Rattle.gs_enet.proofs.HeldMessages.{message_of, message_apart}
use Rattle.gs_enet.proofs.WrittenMessages.{item_message, item_messages, put_messages, put_answers-push, next_answers}
use Rattle.gs_enet.proofs.Alone.{IsLeave, LeaveOnly, own_message}
use Rattle.gs_enet.proofs.Hearing.{owed_on, Quiet, quiet_still, quiet_then, quiet_sent, quiet_close, quiet_told, quiet_timed, quiet_verify_if, quiet_disconnect}
use Rattle.gs_enet.proofs.Hearing.{quiet_acknowledge, taking_is_not_shut, quiet_message}
use Rattle.gs_enet.proofs.Hears.{answered_on, Hears, hears_quiet, hears_own, owed_own}

-- ---- an item

-- a message of another channel
quiet_other : (c : ℕ) (G : Type 0) (taking : Bool) (d number : ℕ) (bytes : List ℕ) (sent : ℕ) (r : PeerRecord)
    → (nat_lt d channels && takes_messages r.state) ≡ taking → (d ≡ c → ⊥) → Quiet c G r (taken_if taking d number bytes (owed_answer sent d number) r)
quiet_other c G true d number bytes sent r e apart =
    quiet_message c G (is_next number (expected r d)) (is_behind number (expected r d)) d (expected r d) bytes sent number r apart
    (taking_is_not_shut r.state (and_parts (nat_lt d channels) (takes_messages r.state) e).1)
quiet_other c G false d number bytes sent r e apart = quiet_still c G r r refl (omega arith) (λ h. h)

-- any command but a message of the channel
quiet_order : (c : ℕ) (G : Type 0) (content : Content) (d n sent : ℕ) (by r : PeerRecord) → (IsLeave content → G)
    → ((bytes : List ℕ) → content ≡ Message bytes → d ≡ c → ⊥) → Quiet c G r (command_received sent (order_command content d n by) r)
unfolding command_received
quiet_order c G Connect d n sent by r left apart = quiet_still c G r r refl (omega arith) (λ h. h)
quiet_order c G VerifyConnect d n sent by r left apart = quiet_verify_if c G (is_some r.extra && (by.connect_id == r.connect_id)) by.own sent (n % 65536) r
quiet_order c G Disconnect d n sent by r left apart = quiet_disconnect c G r.disconnected sent (n % 65536) r (left tt)
quiet_order c G (Message bytes) d n sent by r left apart =
    quiet_other c G (nat_lt d channels && takes_messages r.state) d (n % 65536) bytes sent r refl (apart bytes refl)

-- What was read, where the messages that are still to come rise from the last.
record Reads (c : ℕ) (ms : List (List ℕ)) (G : Type 0) (r : PeerRecord) (ws : List Written) (rest : List Numbered) : Type 0 where
  pub low : ℕ
  pub hears : Hears c ms G low r ws
  pub rising : Rising ms low rest

-- all but the last 256 of the list are answered, or will be
abbrev IsOwed : ℕ → List (List ℕ) → ℕ → Type 0
IsOwed c ms n = c < channels → length ms ≤ 256 + n

reads_own : (c : ℕ) (ms : List (List ℕ)) (G : Type 0) (low n : ℕ) (bytes : List ℕ) (sent : ℕ) (by r : PeerRecord) (ws : List Written) (rest : List Numbered)
    → (channels ≤ c → ms ≡ []) → Rising ms low (message_of c (Message bytes) c n ++ rest)
    → IsOwed c ms (answered_on c r ws + (length (message_of c (Message bytes) c n) + length rest)) → Hears c ms G low r ws
    → Reads c ms G (command_received sent (order_command (Message bytes) c n by) r) ws rest
unfolding command_received
reads_own c ms G low n bytes sent by r ws rest outside rising owed k =
    let own : message_of c (Message bytes) c n ≡ numbered n bytes = own_message c n bytes in
    let here : Rising ms low (numbered n bytes ++ rest) = subst (λ (x : List Numbered). Rising ms low (x ++ rest)) own rising in
    let most : n + length rest ≤ length ms = rising_length ms n rest (at_below ms n bytes here.1) here.2 in
    let below : c < channels = elim (cases_lt c channels) [
      | inl less ↦ less
      | inr above ↦ absurd (omega (arith, here.0, at_below ms n bytes here.1, ap length (outside above)))
    ] in
    record {
      low = n;
      hears = hears_own c ms G low n (nat_lt c channels && takes_messages r.state) bytes sent r ws refl here.1 here.0
          (omega (arith, owed below, ap length own, most, k.fewer below)) k;
      rising = here.2;
    }

reads_order : (c : ℕ) (ms : List (List ℕ)) (G : Type 0) (low : ℕ) (content : Content) (d n sent : ℕ) (by r : PeerRecord) (ws : List Written)
    (rest : List Numbered)
    → (channels ≤ c → ms ≡ []) → (IsLeave content → G) → Rising ms low (message_of c content d n ++ rest)
    → IsOwed c ms (answered_on c r ws + (length (message_of c content d n) + length rest)) → Hears c ms G low r ws
    → Reads c ms G (command_received sent (order_command content d n by) r) ws rest
reads_order c ms G low Connect d n sent by r ws rest outside left rising owed k =
    record { low = low; hears = hears_quiet c ms G low r _ ws (quiet_order c G Connect d n sent by r left (λ bytes clash. absurd cc)) k; rising = rising }
reads_order c ms G low VerifyConnect d n sent by r ws rest outside left rising owed k =
    record { low = low; hears = hears_quiet c ms G low r _ ws (quiet_order c G VerifyConnect d n sent by r left (λ bytes clash. absurd cc)) k; rising = rising }
reads_order c ms G low Disconnect d n sent by r ws rest outside left rising owed k =
    record { low = low; hears = hears_quiet c ms G low r _ ws (quiet_order c G Disconnect d n sent by r left (λ bytes clash. absurd cc)) k; rising = rising }
reads_order c ms G low (Message bytes) d n sent by r ws rest outside left rising owed k = elim (cases_eq c d) [
  | inl same ↦ subst (λ (x : ℕ). Rising ms low (message_of c (Message bytes) x n ++ rest)
      → IsOwed c ms (answered_on c r ws + (length (message_of c (Message bytes) x n) + length rest))
      → Reads c ms G (command_received sent (order_command (Message bytes) x n by) r) ws rest) same
      (λ up budget. reads_own c ms G low n bytes sent by r ws rest outside up budget k) rising owed
  | inr other ↦ (
      let apart : d ≡ c → ⊥ = λ is. other (sym is) in
      record {
        low = low;
        hears = hears_quiet c ms G low r _ ws (quiet_order c G (Message bytes) d n sent by r left (λ _ _ is. apart is)) k;
        rising = subst (λ (x : List Numbered). Rising ms low (x ++ rest)) (message_apart c (Message bytes) d n apart) rising;
      }
      )
]

quiet_answer : (c : ℕ) (G : Type 0) (a : Answer) (sent : ℕ) (by r : PeerRecord) → Quiet c G r (command_received sent (item_command by (Answers a)) r)
unfolding command_received
quiet_answer c G a sent by r = quiet_acknowledge c G (find (is_named a.channel a.number) r.unacknowledged) a.channel a.number r

reads_item : (c : ℕ) (ms : List (List ℕ)) (G : Type 0) (low : ℕ) (x : Item) (sent : ℕ) (by r : PeerRecord) (ws : List Written) (rest : List Numbered)
    → (channels ≤ c → ms ≡ []) → LeaveOnly G x → Rising ms low (item_message c x ++ rest)
    → IsOwed c ms (answered_on c r ws + (length (item_message c x) + length rest)) → Hears c ms G low r ws
    → Reads c ms G (command_received sent (item_command by x) r) ws rest
reads_item c ms G low (Orders o) sent by r ws rest outside left rising owed k =
    reads_order c ms G low o.content o.channel o.number sent by r ws rest outside left rising owed k
reads_item c ms G low (Answers a) sent by r ws rest outside left rising owed k =
    record { low = low; hears = hears_quiet c ms G low r _ ws (quiet_answer c G a sent by r) k; rising = rising }

-- ---- how many answers arise at most

own_grows : (c n : ℕ) (bytes : List ℕ) (sent : ℕ) (by r : PeerRecord)
    → owed_on c (command_received sent (order_command (Message bytes) c n by) r) ≤ owed_on c r + length (message_of c (Message bytes) c n)
unfolding command_received
own_grows c n bytes sent by r =
    omega (arith, owed_own c (nat_lt c channels && takes_messages r.state) bytes sent (n % 65536) r, ap length (own_message c n bytes))

order_grows : (c : ℕ) (content : Content) (d n sent : ℕ) (by r : PeerRecord) → c < channels
    → owed_on c (command_received sent (order_command content d n by) r) ≤ owed_on c r + length (message_of c content d n)
order_grows c Connect d n sent by r below = omega (arith, (quiet_order c (Unit {0}) Connect d n sent by r (λ _. tt) (λ bytes clash. absurd cc)).owed below)
order_grows c VerifyConnect d n sent by r below =
    omega (arith, (quiet_order c (Unit {0}) VerifyConnect d n sent by r (λ _. tt) (λ bytes clash. absurd cc)).owed below)
order_grows c Disconnect d n sent by r below =
    omega (arith, (quiet_order c (Unit {0}) Disconnect d n sent by r (λ _. tt) (λ bytes clash. absurd cc)).owed below)
order_grows c (Message bytes) d n sent by r below = elim (cases_eq c d) [
  | inl same ↦ subst
      (λ (x : ℕ). owed_on c (command_received sent (order_command (Message bytes) x n by) r) ≤ owed_on c r + length (message_of c (Message bytes) x n))
      same
      (own_grows c n bytes sent by r)
  | inr other ↦ omega (arith, (quiet_order c (Unit {0}) (Message bytes) d n sent by r (λ _. tt) (λ _ _ is. other (sym is))).owed below)
]

item_grows : (c : ℕ) (x : Item) (sent : ℕ) (by r : PeerRecord) → c < channels → owed_on c (command_received sent (item_command by x) r) ≤ owed_on c r
    + length (item_message c x)
item_grows c (Orders o) sent by r below = order_grows c o.content o.channel o.number sent by r below
item_grows c (Answers a) sent by r below = omega (arith, (quiet_answer c (Unit {0}) a sent by r).owed below)

items_grow : (c : ℕ) (xs : List Item) (sent : ℕ) (by r : PeerRecord) → c < channels
    → owed_on c (all_received sent (map (item_command by) xs) r) ≤ owed_on c r + length (item_messages c xs)
items_grow c [] sent by r below = omega arith
items_grow c (x ∷ xs) sent by r below =
    omega (
      arith,
      items_grow c xs sent by (command_received sent (item_command by x) r) below,
      item_grows c x sent by r below,
      length-append (item_message c x) (item_messages c xs),
    )

-- ---- a datagram

reads_items : (c : ℕ) (ms : List (List ℕ)) (G : Type 0) (low : ℕ) (xs : List Item) (sent : ℕ) (by r : PeerRecord) (ws : List Written) (rest : List Numbered)
    → (channels ≤ c → ms ≡ []) → Each (LeaveOnly G) xs → Rising ms low (item_messages c xs ++ rest)
    → IsOwed c ms (answered_on c (all_received sent (map (item_command by) xs) r) ws + length rest) → Hears c ms G low r ws
    → Reads c ms G (all_received sent (map (item_command by) xs) r) ws rest
reads_items c ms G low [] sent by r ws rest outside left rising owed k = record { low = low; hears = k; rising = rising }
reads_items c ms G low (x ∷ xs) sent by r ws rest outside left rising owed k =
    let first : Reads c ms G (command_received sent (item_command by x) r) ws (item_messages c xs ++ rest) =
    reads_item c ms G low x sent by r ws (item_messages c xs ++ rest) outside left.0
    (subst (Rising ms low) (append_assoc (item_message c x) (item_messages c xs) rest) rising)
    (λ below. omega (
      arith,
      owed below,
      items_grow c (x ∷ xs) sent by r below,
      length-append (item_message c x) (item_messages c xs),
      length-append (item_messages c xs) rest,
    )) k in
    reads_items c ms G first.low xs sent by (command_received sent (item_command by x) r) ws rest outside left.1 first.rising owed first.hears

-- ---- a user's calls

quiet_timer : (c now : ℕ) (G : Type 0) (r : PeerRecord) → Quiet c G r (timed now r)
unfolding timed
quiet_timer c now G r =
    quiet_then c G r (at_moment now r) (timed now r) (quiet_still c G r (at_moment now r) refl (omega arith) (λ h. h))
    (quiet_timed c G (is_shut r.state) (find (had_last_wait (max r.now now)) r.unacknowledged) (at_moment now r))

quiet_closing : (c : ℕ) (G : Type 0) (r : PeerRecord) → Quiet c G r (closed r)
unfolding closed
quiet_closing c G r = quiet_close c G r.state r refl

quiet_telling : (c : ℕ) (G : Type 0) (r : PeerRecord) → Quiet c G r (told_next r)
unfolding told_next
quiet_telling c G r = quiet_told c G r.waiting r refl

-- of what is owed on a channel some is written
wrote_owed : (c now : ℕ) (r : PeerRecord) (ws : List Written)
    → answered_on c (wrote_next now r) (ws ++ one_written (at_moment now r) (next_items (at_moment now r))) ≡ answered_on c r ws
unfolding wrote_next
wrote_owed c now r ws =
    let t : PeerRecord = at_moment now r in
    omega (arith, put_answers-push c t (next_items t) ws, next_answers c t)

hears_wrote : (c : ℕ) (ms : List (List ℕ)) (G : Type 0) (low now : ℕ) (r : PeerRecord) (ws : List Written) → Hears c ms G low r ws
    → Hears c ms G low (wrote_next now r) (ws ++ one_written (at_moment now r) (next_items (at_moment now r)))
unfolding wrote_next
hears_wrote c ms G low now r ws k =
    record {
      in_order = k.in_order;
      fewer = λ below. omega (arith, k.fewer below, wrote_owed c now r ws);
      most = k.most;
      closed = k.closed;
      last = k.last;
    }

-- ---- all calls

abbrev pub sent_by : Written → Datagram
sent_by w = items_datagram w.by w.items

calls_grow : (c now : ℕ) (calls : List SideCall) (s : Side) (vs : List Written) → taken_by calls ≡ map sent_by vs → c < channels
    → answered_on c (all_called now calls s).peer (all_called now calls s).wrote ≤ answered_on c s.peer s.wrote + length (put_messages c vs)
calls_grow c now [] s vs took below = omega arith
calls_grow c now (Sends channel bytes ∷ cs) s vs took below =
    omega (
      arith,
      calls_grow c now cs (called now (Sends channel bytes) s) vs took below,
      (quiet_sent c (Unit {0}) (nat_lt channel channels && can_send s.peer channel) channel bytes s.peer).owed below,
    )
calls_grow c now (Takes d ∷ cs) s [] took below = absurd cc
calls_grow c now (Takes d ∷ cs) s (v ∷ vs) took below =
    let same : d ≡ sent_by v = cc in
    let after : taken_by cs ≡ map sent_by vs = cc in
    let first : owed_on c (called now (Takes (sent_by v)) s).peer ≤ owed_on c s.peer + length (item_messages c v.items) =
    items_grow c v.items (v.by.now % 65536) v.by (at_moment now s.peer) below in
    subst (λ (x : Datagram). answered_on c (all_called now cs (called now (Takes x) s)).peer (all_called now cs (called now (Takes x) s)).wrote
    ≤ answered_on c s.peer s.wrote + length (put_messages c (v ∷ vs))) (sym same)
    (omega (arith, calls_grow c now cs (called now (Takes (sent_by v)) s) vs after below, first, length-append (item_messages c v.items) (put_messages c vs)))
calls_grow c now (Tells ∷ cs) s vs took below =
    omega (arith, calls_grow c now cs (called now Tells s) vs took below, (quiet_telling c (Unit {0}) s.peer).owed below)
calls_grow c now (Times ∷ cs) s vs took below =
    omega (arith, calls_grow c now cs (called now Times s) vs took below, (quiet_timer c now (Unit {0}) s.peer).owed below)
calls_grow c now (Writes ∷ cs) s vs took below =
    omega (arith, calls_grow c now cs (called now Writes s) vs took below, wrote_owed c now s.peer s.wrote)
calls_grow c now (Closes ∷ cs) s vs took below =
    omega (arith, calls_grow c now cs (called now Closes s) vs took below, (quiet_closing c (Unit {0}) s.peer).owed below)

pub record Heard (c : ℕ) (ms : List (List ℕ)) (G : Type 0) (s : Side) : Type 0 where
  pub low : ℕ
  pub hears : Hears c ms G low s.peer s.wrote

pub reads_front : (c : ℕ) (ms : List (List ℕ)) (G : Type 0) (low now : ℕ) (calls : List SideCall) (s : Side) (vs : List Written)
    → taken_by calls ≡ map sent_by vs → (channels ≤ c → ms ≡ []) → Each (λ (w : Written). Each (LeaveOnly G) w.items) vs → Rising ms low (put_messages c vs)
    → IsOwed c ms (answered_on c (all_called now calls s).peer (all_called now calls s).wrote) → Hears c ms G low s.peer s.wrote
    → Heard c ms G (all_called now calls s)
reads_front c ms G low now [] s vs took outside left rising owed k = record { low = low; hears = k }
reads_front c ms G low now (Sends channel bytes ∷ cs) s vs took outside left rising owed k =
    reads_front c ms G low now cs (called now (Sends channel bytes) s) vs took outside left rising owed
    (hears_quiet c ms G low s.peer _ s.wrote (quiet_sent c G (nat_lt channel channels && can_send s.peer channel) channel bytes s.peer) k)
reads_front c ms G low now (Takes d ∷ cs) s [] took outside left rising owed k = absurd cc
reads_front c ms G low now (Takes d ∷ cs) s (v ∷ vs) took outside left rising owed k =
    let same : d ≡ sent_by v = cc in
    let after : taken_by cs ≡ map sent_by vs = cc in
    let t : PeerRecord = at_moment now s.peer in
    let step : IsOwed c ms (answered_on c (all_called now cs (called now (Takes (sent_by v)) s)).peer
    (all_called now cs (called now (Takes (sent_by v)) s)).wrote)
    → Heard c ms G (all_called now cs (called now (Takes (sent_by v)) s)) = λ budget.
    let first : Reads c ms G (called now (Takes (sent_by v)) s).peer s.wrote (put_messages c vs) =
    reads_items c ms G low v.items (v.by.now % 65536) v.by t s.wrote (put_messages c vs) outside left.0 rising
    (λ below. omega (arith, budget below, calls_grow c now cs (called now (Takes (sent_by v)) s) vs after below))
    (hears_quiet c ms G low s.peer t s.wrote (quiet_still c G s.peer t refl (omega arith) (λ h. h)) k) in
    reads_front c ms G first.low now cs (called now (Takes (sent_by v)) s) vs after outside left.1 first.rising budget first.hears in
    subst (λ (x : Datagram). IsOwed c ms (answered_on c (all_called now cs (called now (Takes x) s)).peer (all_called now cs (called now (Takes x) s)).wrote)
    → Heard c ms G (all_called now cs (called now (Takes x) s))) (sym same) step owed
reads_front c ms G low now (Tells ∷ cs) s vs took outside left rising owed k =
    reads_front c ms G low now cs (called now Tells s) vs took outside left rising owed
    (hears_quiet c ms G low s.peer _ s.wrote (quiet_telling c G s.peer) k)
reads_front c ms G low now (Times ∷ cs) s vs took outside left rising owed k =
    reads_front c ms G low now cs (called now Times s) vs took outside left rising owed
    (hears_quiet c ms G low s.peer _ s.wrote (quiet_timer c now G s.peer) k)
reads_front c ms G low now (Writes ∷ cs) s vs took outside left rising owed k =
    reads_front c ms G low now cs (called now Writes s) vs took outside left rising owed (hears_wrote c ms G low now s.peer s.wrote k)
reads_front c ms G low now (Closes ∷ cs) s vs took outside left rising owed k =
    reads_front c ms G low now cs (called now Closes s) vs took outside left rising owed
    (hears_quiet c ms G low s.peer _ s.wrote (quiet_closing c G s.peer) k)

pub hears_opened : (c : ℕ) (ms : List (List ℕ)) (G : Type 0) (o : WorldOpening) → Hears c ms G 0 (opened_by o) []
hears_opened c ms G (Client own connect_id extra at) =
    record { in_order = (ms, refl); fewer = λ _. omega arith; most = omega arith; closed = λ has. absurd (omega (arith, has.1)); last = tt }
hears_opened c ms G (Host own other connect_id at) =
    record { in_order = (ms, refl); fewer = λ _. omega arith; most = omega arith; closed = λ has. absurd (omega (arith, has.1)); last = tt }
