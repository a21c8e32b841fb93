-- What a side keeps with what it reads.
use Rattle.std.proofs.Common.{◌≡◌, ◌⊎◌, ◌<◌, ◌≤◌, ◌+◌, ◌-◌, ◌%◌, ℕ, zero, suc, Bool, true, false, not, cond, List, [], ◌∷◌, ◌++◌, length, map, Option, Some}
use Rattle.std.proofs.Common.{None, refl, sym, ap, subst, ◌∙◌, arith, inl, inr}
use Rattle.std.specs.Prelude.{◌==◌, ◌&&◌, nat_lt, is_some, slice_get}
use Rattle.std.specs.List.{filter, find}
use Rattle.std.proofs.lemmas.Bool.{and_parts, not-false, leb-true, eqb-true, cases_lt, false≢true}
use Rattle.std.proofs.lemmas.List.{append_assoc, length-append}
use Rattle.gs_enet.specs.declared.event.PeerEvent.{PeerEvent}
use Rattle.gs_enet.specs.declared.event.PeerEvent.TheVariants as event
use Rattle.gs_enet.specs.declared.state.PeerState.{PeerState}
use Rattle.gs_enet.specs.declared.state.PeerState.TheVariants as state
use Rattle.gs_enet.specs.declared.answer.Answer.{Answer}
use Rattle.gs_enet.specs.Record.{PeerRecord, Unacknowledged, Content, Connect, VerifyConnect, Disconnect, Message, Order, GivenMessage, channels, control}
use Rattle.gs_enet.specs.Record.{given_on}
use Rattle.gs_enet.specs.Record.{messages_on, heard, heard_count, shut, happened, owing, at_moment}
use Rattle.gs_enet.specs.Receive.{takes_messages, expected, distance, message_if, is_next, is_behind, taken_if, is_connect, verified, verify_if, disconnect_if}
use Rattle.gs_enet.specs.Receive.{connected, acknowledged, is_named, acknowledged_if, owed_answer, command_received, all_received}
use Rattle.gs_enet.specs.Steps.{next_number}
use Rattle.gs_enet.specs.Write.{Item, Answers, Orders, item_command, order_command}
use Rattle.gs_enet.specs.World.{Written, Side, came, answered_number, IsNearOrder, IsNearItem, AreNear, IsNear}
use Rattle.gs_enet.proofs.Lists.{Each, each_weaker, each_map, each_unmap, each_push, each_filter, each_find}
use Rattle.gs_enet.proofs.Kept.{Kept, IsDone, IsOver, IsShut, IsAt, Says, IsHeld, Has, HasAnswered, IsTrueAnswer, IsTrueOrder, AnswersTruly, IsFewer, OrdersOut}
use Rattle.gs_enet.proofs.Kept.{AnswersOut, count_of, messages_on-message}
use Rattle.gs_enet.proofs.Moves.{moves, turns, hears_message}
use Rattle.gs_enet.proofs.Giving.{order_of}
use Rattle.gs_enet.proofs.Acts.{Both, leave_both, event_both, owing_both, shut_both, same_heard}
use Rattle.gs_enet.proofs.Hearing.{taking_is_not_shut}

-- ---- answers

owe_both : (a : Answer) (s : PeerRecord) (ws : List Written) (o : PeerRecord) (wo : List Written)
    → Both s ws o wo → IsTrueAnswer (heard s) a → Both (owing a s) ws o wo
owe_both a s ws o wo k honest = owing_both (s.pending ++ a ∷ []) s ws o wo k (each_push (IsTrueAnswer (heard s)) s.pending a k.1.owed honest)

-- an answer on the control channel is to no message
to_control : (es : List PeerEvent) (a : Answer) → a.channel ≡ control → IsTrueAnswer es a
to_control es a is below = absurd (omega (arith, is, below))

-- ---- messages

near_same : (n e : ℕ) → n ≤ e + 32767 → e ≤ n + 32767 → (n % 65536 + 65536 - e % 65536) % 65536 ≡ 0 → n ≡ e
near_same n e above below d = omega arith

near_behind : (n e : ℕ) → n ≤ e + 32767 → e ≤ n + 32767 → 32768 ≤ (n % 65536 + 65536 - e % 65536) % 65536 → n < e
near_behind n e above below d = omega arith

message_both : (next behind : Bool) (c n : ℕ) (bytes : List ℕ) (sent : ℕ) (s : PeerRecord) (ws : List Written) (o : PeerRecord) (wo : List Written)
    → is_next (n % 65536) (expected s c) ≡ next → is_behind (n % 65536) (expected s c) ≡ behind → (IsShut s.state → ⊥) → IsAt (given_on c o.given) n bytes
    → n ≤ expected s c + 32767 → expected s c ≤ n + 32767 → Both s ws o wo
    → Both (message_if next behind c (expected s c) bytes (owed_answer sent c (n % 65536)) s) ws o wo
message_both true behind c n bytes sent s ws o wo is_it b going place above below k =
    let parts = and_parts (distance (n % 65536) (expected s c) == 0) _ is_it in
    let same : n ≡ expected s c = near_same n (expected s c) above below (eqb-true _ 0 parts.0) in
    let e : PeerEvent = event.Message c (expected s c) bytes in
    let told : Both (happened e s) ws o wo =
    same_heard (heard s ++ e ∷ []) (s.told ++ (s.waiting ++ e ∷ [])) (append_assoc s.told s.waiting (e ∷ [])) s ws o wo (
      turns s.state e k.0 (λ h. h) (λ clash. absurd cc),
      hears_message c (expected s c) bytes k.1 going refl (subst (λ (x : ℕ). IsAt (given_on c o.given) x bytes) same place),
    ) in
    let more : count_of c (heard (happened e s)) ≡ expected s c =
    ap (count_of c) (sym (append_assoc s.told s.waiting (e ∷ []))) ∙ ap length (messages_on-message c (expected s c) bytes (heard s))
    ∙ length-append (messages_on c (heard s)) (bytes ∷ []) in
    owe_both (owed_answer sent c (n % 65536)) (happened e s) ws o wo told (λ _. (n, omega (arith, more, same), refl))
message_both false true c n bytes sent s ws o wo not_it is_it going place above below k =
    let older : n < expected s c = near_behind n (expected s c) above below (leb-true 32768 _ is_it) in
    owe_both (owed_answer sent c (n % 65536)) s ws o wo k (λ _. (n, omega (arith, older), refl))
message_both false false c n bytes sent s ws o wo not_it not_behind going place above below k = k

taken_both : (b : Bool) (c n : ℕ) (bytes : List ℕ) (sent : ℕ) (s : PeerRecord) (ws : List Written) (o : PeerRecord) (wo : List Written)
    → (nat_lt c channels && takes_messages s.state) ≡ b → IsAt (given_on c o.given) n bytes → n ≤ expected s c + 32767 → expected s c ≤ n + 32767
    → Both s ws o wo → Both (taken_if b c (n % 65536) bytes (owed_answer sent c (n % 65536)) s) ws o wo
taken_both false c n bytes sent s ws o wo e place above below k = k
taken_both true c n bytes sent s ws o wo e place above below k =
    message_both (is_next (n % 65536) (expected s c)) (is_behind (n % 65536) (expected s c)) c n bytes sent s ws o wo refl refl
    (taking_is_not_shut s.state (and_parts (nat_lt c channels) (takes_messages s.state) e).1) place above below k

-- ---- the answer to a connect

has_kept : (test : Unacknowledged → Bool) (Q : Type 0) (c n : ℕ) (us : List Unacknowledged)
    → Each (λ (u : Unacknowledged). test u ≡ false → u.order.channel ≡ c → u.order.number ≡ n → Q) us
    → Has c n (map order_of us) → Q ⊎ Has c n (map order_of (filter test us))
has_kept test Q c n [] h has = absurd has
has_kept test Q c n (u ∷ us) h has = here (test u) refl (λ later. has_kept test Q c n us h.1 later) has where
  here : (b : Bool) → test u ≡ b → (Has c n (map order_of us) → Q ⊎ Has c n (map order_of (filter test us)))
      → Has c n (u.order ∷ map order_of us) → Q ⊎ Has c n (map order_of (cond b (u ∷ filter test us) (filter test us)))
  here true e go (inl first) = inr (inl first)
  here true e go (inr later) = elim (go later) [ inl q ↦ inl q | inr kept ↦ inr (inr kept) ]
  here false e go (inl first) = inl (h.0 e first.0 first.1)
  here false e go (inr later) = go later

connect_is_control : (gv : List GivenMessage) (hr : List PeerEvent) (sg : PeerState) (o : Order) → not (is_connect o) ≡ false
    → Says gv hr sg o.content o.channel o.number → o.channel ≡ control
connect_is_control gv hr sg o e says = here o.content o.channel o.number (ap (λ x. x) e) says where
  here : (content : Content) (c n : ℕ) → not (is_connect (record { content = content; channel = c; number = n })) ≡ false → Says gv hr sg content c n
      → c ≡ control
  here Connect c n e says = says
  here VerifyConnect c n e says = says
  here Disconnect c n e says = says.0
  here (Message bytes) c n e says = absurd (false≢true (sym e))

given_below : {gv : List GivenMessage} {os : List Order} {sg : PeerState} {hg : List PeerEvent} {wg : List Written} {hr : List PeerEvent} {pr : List Answer}
    {sr : PeerState} {wr : List Written}
    (c n : ℕ) → Kept gv os sg hg wg hr pr sr wr → 1 ≤ n → n ≤ length (given_on c gv) → c < channels
given_below {gv = gv} c n k least most = elim (cases_lt c channels) [
  | inl below ↦ below
  | inr above ↦ absurd (omega (arith, least, most, ap length (k.outside c above)))
]

verify_both : (now : PeerState) (peer : ℕ) (a : Answer) (s : PeerRecord) (ws : List Written) (o : PeerRecord) (wo : List Written)
    → s.state ≡ now → a.channel ≡ control → Both s ws o wo → Both (verified now peer a s) ws o wo
verify_both state.Connected peer a s ws o wo is at k = owe_both a s ws o wo k (to_control (heard s) a at)
verify_both state.Closing peer a s ws o wo is at k = owe_both a s ws o wo k (to_control (heard s) a at)
verify_both state.Accepting peer a s ws o wo is at k = k
verify_both state.Shut peer a s ws o wo is at k = k
verify_both state.Connecting peer a s ws o wo is at k =
    let test : Unacknowledged → Bool = λ (u : Unacknowledged). not (is_connect u.order) in
    let us : List Unacknowledged = filter test s.unacknowledged in
    let held : Each (λ (u : Unacknowledged). IsHeld s.given (heard o) s.state u.order) s.unacknowledged =
    each_unmap (IsHeld s.given (heard o) s.state) order_of s.unacknowledged k.0.held in
    let t : PeerRecord = record s { other = Some peer; unacknowledged = us } in
    let dropped : Both t ws o wo = (
      moves (map order_of us) s.state (heard s) k.0 (λ h. h)
          (each_map (IsHeld s.given (heard o) s.state) order_of us (each_filter
          (λ (u : Unacknowledged). IsHeld s.given (heard o) s.state u.order) test s.unacknowledged held))
          (λ c n least most. elim (k.0.covered c n least most) [
            | inl below ↦ inl below
            | inr has ↦ elim (has_kept test ⊥ c n s.unacknowledged
                (each_weaker (λ (u : Unacknowledged). IsHeld s.given (heard o) s.state u.order)
                (λ (u : Unacknowledged). test u ≡ false → u.order.channel ≡ c → u.order.number ≡ n → ⊥)
                (λ u h no same_c same_n. absurd (omega (
                  arith,
                  given_below c n k.0 least most,
                  same_c,
                  connect_is_control s.given (heard o) s.state u.order no h.0,
                ))) s.unacknowledged held)
                has) [ inl never ↦ absurd never | inr kept ↦ inr kept ]
          ])
          k.0.closed,
      k.1,
    ) in
    owe_both a (record (happened event.Connected t) { state = state.Connected }) ws o wo
    (event_both state.Connected event.Connected t ws o wo dropped tt (λ over. absurd (subst IsOver is over)) (λ over. absurd (subst IsShut is over))
    (λ clash. absurd cc) (λ clash. absurd cc))
    (to_control (heard (happened event.Connected t)) a at)

verify_if_both : (own : Bool) (peer : ℕ) (a : Answer) (s : PeerRecord) (ws : List Written) (o : PeerRecord) (wo : List Written)
    → a.channel ≡ control → Both s ws o wo → Both (verify_if own peer a s) ws o wo
verify_if_both true peer a s ws o wo at k = verify_both s.state peer a s ws o wo refl at k
verify_if_both false peer a s ws o wo at k = k

-- ---- the other side's disconnect

disconnect_both : (again : Bool) (a : Answer) (s : PeerRecord) (ws : List Written) (o : PeerRecord) (wo : List Written)
    → a.channel ≡ control → IsDone o.given (heard s) o.state → Both s ws o wo → Both (disconnect_if again a s) ws o wo
disconnect_both true a s ws o wo at done k = owe_both a s ws o wo k (to_control (heard s) a at)
disconnect_both false a s ws o wo at done k =
    let t : PeerRecord = record s { disconnected = true } in
    owe_both a (shut (happened event.PeerClosed t)) ws o wo (shut_both event.PeerClosed t ws o wo k tt (λ clash. absurd cc) (λ _. done))
    (to_control (heard (happened event.PeerClosed t)) a at)

-- ---- acknowledgements

connected_both : (now : PeerState) (s : PeerRecord) (ws : List Written) (o : PeerRecord) (wo : List Written)
    → s.state ≡ now → Both s ws o wo → Both (connected now s) ws o wo
connected_both state.Accepting s ws o wo is k =
    event_both state.Connected event.Connected s ws o wo k tt (λ over. absurd (subst IsOver is over)) (λ over. absurd (subst IsShut is over))
    (λ clash. absurd cc) (λ clash. absurd cc)
connected_both state.Connecting s ws o wo is k = k
connected_both state.Connected s ws o wo is k = k
connected_both state.Closing s ws o wo is k = k
connected_both state.Shut s ws o wo is k = k

acknowledged_both : (content : Content) (c n : ℕ) (s : PeerRecord) (ws : List Written) (o : PeerRecord) (wo : List Written)
    → Says s.given (heard o) s.state content c n → Both s ws o wo → Both (acknowledged content s) ws o wo
acknowledged_both Connect c n s ws o wo says k = k
acknowledged_both VerifyConnect c n s ws o wo says k = connected_both s.state s ws o wo refl k
acknowledged_both (Message bytes) c n s ws o wo says k = leave_both s.state s.unacknowledged s ws o wo refl refl k
acknowledged_both Disconnect c n s ws o wo says k =
    shut_both event.Closed s ws o wo k tt (λ _. record { all = says.1.all; over = tt }) (λ clash. absurd cc)

-- of the last 256 numbers only one has these 16 bits, and it was heard of
was_heard : (n size count number next : ℕ) → n ≤ size → size < n + 256 → count ≤ size → HasAnswered count number
    → size + 1 ≤ answered_number count number + 32767
    → n % 65536 ≡ number
    → n ≤ count
was_heard n size count number next most window few had near same =
    let m : ℕ = had.0 in
    let small : m ≤ count = had.1 in
    let low : m % 65536 ≡ number = had.2 in
    was n size count m most window few small (subst (λ (x : ℕ). size + 1 ≤ answered_number count x + 32767) (sym low) near) (same ∙ sym low) where
      was : (n size count m : ℕ) → n ≤ size → size < n + 256 → count ≤ size → m ≤ count → size + 1 ≤ answered_number count (m % 65536) + 32767
          → n % 65536 ≡ m % 65536 → n ≤ count
      was n size count m most window few small near same = omega arith

acknowledge_both : (found : Option Unacknowledged) (c number : ℕ) (by s : PeerRecord) (ws : List Written) (o : PeerRecord) (wo : List Written)
    → find (is_named c number) s.unacknowledged ≡ found
    → IsFewer (heard by) (heard o) → (c < channels → HasAnswered (count_of c (heard by)) number)
    → (c < channels → next_number s c ≤ answered_number (heard_count by c) number + 32767)
    → Both s ws o wo → Both (acknowledged_if found c number s) ws o wo
acknowledge_both None c number by s ws o wo e fewer honest near k = k
acknowledge_both (Some u) c number by s ws o wo e fewer honest near k =
    let test : Unacknowledged → Bool = λ (v : Unacknowledged). not (is_named c number v) in
    let us : List Unacknowledged = filter test s.unacknowledged in
    let held : Each (λ (v : Unacknowledged). IsHeld s.given (heard o) s.state v.order) s.unacknowledged =
    each_unmap (IsHeld s.given (heard o) s.state) order_of s.unacknowledged k.0.held in
    let t : PeerRecord = record s { unacknowledged = us } in
    let dropped : Both t ws o wo = (
      moves (map order_of us) s.state (heard s) k.0 (λ h. h)
          (each_map (IsHeld s.given (heard o) s.state) order_of us (each_filter
          (λ (v : Unacknowledged). IsHeld s.given (heard o) s.state v.order) test s.unacknowledged held))
          (λ d n least most. elim (k.0.covered d n least most) [
            | inl below ↦ inl below
            | inr has ↦ has_kept test (n ≤ count_of d (heard o)) d n s.unacknowledged
                (each_weaker (λ (v : Unacknowledged). IsHeld s.given (heard o) s.state v.order)
                (λ (v : Unacknowledged). test v ≡ false → v.order.channel ≡ d → v.order.number ≡ n → n ≤ count_of d (heard o))
                (λ v h no same_d same_n. gone v h no d n same_d same_n least most) s.unacknowledged held)
                has
          ])
          k.0.closed,
      k.1,
    ) in
    let found = each_find (λ (v : Unacknowledged). IsHeld s.given (heard o) s.state v.order) (is_named c number) s.unacknowledged u held e in
    acknowledged_both u.order.content u.order.channel u.order.number t ws o wo found.0.0 dropped
  where
    gone : (v : Unacknowledged) → IsHeld s.given (heard o) s.state v.order → not (is_named c number v) ≡ false → (d n : ℕ) → v.order.channel ≡ d
        → v.order.number ≡ n
        → 1 ≤ n → n ≤ length (given_on d s.given) → n ≤ count_of d (heard o)
    gone v h dropped d n same_d same_n least most =
        let named = and_parts (v.order.channel == c) (v.order.number % 65536 == number) (not-false (is_named c number v) dropped) in
        let same_c : v.order.channel ≡ c = eqb-true v.order.channel c named.0 in
        let low : v.order.number % 65536 ≡ number = eqb-true (v.order.number % 65536) number named.1 in
        let below : d < channels = given_below d n k.0 least most in
        let c_is : c ≡ d = sym same_c ∙ same_d in
        let window : length (given_on d s.given) < n + 256 =
        subst (λ (x : ℕ). length (given_on x s.given) < n + 256) same_d
        (subst (λ (x : ℕ). length (given_on v.order.channel s.given) < x + 256) same_n (h.1 (omega (arith, same_d, below)))) in
        let few : count_of d (heard by) ≤ length (given_on d s.given) =
        omega (arith, fewer d, ap length (k.0.in_order d).1, length-append (messages_on d (heard o)) (k.0.in_order d).0) in
        let had : HasAnswered (count_of d (heard by)) number = subst (λ (x : ℕ). HasAnswered (count_of x (heard by)) number) c_is
        (honest (omega (arith, c_is, below))) in
        let close : length (given_on d s.given) + 1 ≤ answered_number (count_of d (heard by)) number + 32767 =
        subst (λ (x : ℕ). next_number s x ≤ answered_number (heard_count by x) number + 32767) c_is (near (omega (arith, c_is, below))) in
        let known : n ≤ count_of d (heard by) =
        was_heard n (length (given_on d s.given)) (count_of d (heard by)) number 0 most window few had close
        (subst (λ (x : ℕ). x % 65536 ≡ number) same_n low) in
        omega (arith, known, fewer d)

-- ---- an item of a datagram that the other side wrote

order_both : (content : Content) (c n sent : ℕ) (by s : PeerRecord) (ws : List Written) (o : PeerRecord) (wo : List Written)
    → Says o.given (heard s) o.state content c n → IsNearOrder s content c n → Both s ws o wo
    → Both (command_received sent (order_command content c n by) s) ws o wo
unfolding command_received
order_both Connect c n sent by s ws o wo says near k = k
order_both VerifyConnect c n sent by s ws o wo says near k =
    verify_if_both (is_some s.extra && (by.connect_id == s.connect_id)) by.own (owed_answer sent control (n % 65536)) s ws o wo refl k
order_both Disconnect c n sent by s ws o wo says near k =
    disconnect_both s.disconnected (record (owed_answer sent control (n % 65536)) { to_disconnect = true }) s ws o wo refl says.1 k
order_both (Message bytes) c n sent by s ws o wo says near k =
    taken_both (nat_lt c channels && takes_messages s.state) c n bytes sent s ws o wo refl says.1 near.0 near.1 k

item_both : (x : Item) (sent : ℕ) (by s : PeerRecord) (ws : List Written) (o : PeerRecord) (wo : List Written)
    → IsTrueOrder o.given (heard s) o.state x → AnswersTruly (heard by) x → IsFewer (heard by) (heard o) → IsNearItem by s x
    → Both s ws o wo → Both (command_received sent (item_command by x) s) ws o wo
unfolding command_received
item_both (Answers a) sent by s ws o wo says honest fewer near k =
    acknowledge_both (find (is_named a.channel a.number) s.unacknowledged) a.channel a.number by s ws o wo refl fewer honest near k
item_both (Orders r) sent by s ws o wo says honest fewer near k = order_both r.content r.channel r.number sent by s ws o wo says near k

each_at : {X : Type 0} (P : X → Type 0) (xs : List X) (i : ℕ) (x : X) → Each P xs → slice_get xs i ≡ Some x → P x
each_at P [] i x h e = absurd cc
each_at P (y ∷ ys) zero x h e = (let same : y ≡ x = cc in subst P same h.0)
each_at P (y ∷ ys) (suc i) x h e = each_at P ys i x h.1 e

each_middle : {X : Type 0} (P : X → Type 0) (front : List X) (x : X) (rest : List X) → Each P (front ++ x ∷ rest) → P x
each_middle P [] x rest h = h.0
each_middle P (y ∷ ys) x rest h = each_middle P ys x rest h.1

-- the items behind some that were read already
items_both : (front xs : List Item) (which : ℕ) (w : Written) (s : PeerRecord) (ws : List Written) (o : PeerRecord) (wo : List Written)
    → slice_get wo which ≡ Some w → w.items ≡ front ++ xs → AreNear w.by xs s → Both s ws o wo
    → Both (all_received (w.by.now % 65536) (map (item_command w.by) xs) s) ws o wo
items_both front [] which w s ws o wo at parts near k = k
items_both front (x ∷ xs) which w s ws o wo at parts near k =
    let orders_true : Each (IsTrueOrder o.given (heard s) o.state) w.items = each_at (OrdersOut o.given (heard s) o.state) wo which w k.1.orders_out at in
    let answers_true = each_at (AnswersOut (heard o)) wo which w k.0.answers_out at in
    let here : Both (command_received (w.by.now % 65536) (item_command w.by x) s) ws o wo =
    item_both x (w.by.now % 65536) w.by s ws o wo
    (each_middle (IsTrueOrder o.given (heard s) o.state) front x xs (subst (Each (IsTrueOrder o.given (heard s) o.state)) parts orders_true))
    (each_middle (AnswersTruly (heard w.by)) front x xs (subst (Each (AnswersTruly (heard w.by))) parts answers_true.1))
    answers_true.0 near.0 k in
    items_both (front ++ x ∷ []) xs which w (command_received (w.by.now % 65536) (item_command w.by x) s) ws o wo at
    (parts ∙ sym (append_assoc front (x ∷ []) xs)) near.1 here

came_if : (found : Option Written) (which now : ℕ) (s o : Side) → slice_get o.wrote which ≡ found → IsNear found now s.peer
    → Both s.peer s.wrote o.peer o.wrote → Both (came found now s).peer (came found now s).wrote o.peer o.wrote
came_if None which now s o at near k = k
came_if (Some w) which now s o at near k = items_both [] w.items which w (at_moment now s.peer) s.wrote o.peer o.wrote at refl near k

pub came_both : (which now : ℕ) (s o : Side) → IsNear (slice_get o.wrote which) now s.peer
    → Both s.peer s.wrote o.peer o.wrote → Both (came (slice_get o.wrote which) now s).peer (came (slice_get o.wrote which) now s).wrote o.peer o.wrote
came_both which now s o near k = came_if (slice_get o.wrote which) which now s o refl near k
