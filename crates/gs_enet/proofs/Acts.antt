-- What a side's acts keep.
use Rattle.std.proofs.Common.{◌≡◌, ◌≤◌, ◌+◌, ◌-◌, ℕ, zero, suc, Bool, true, false, not, cond, List, [], ◌∷◌, ◌++◌, length, map, drop, Option, Some, None, refl}
use Rattle.std.proofs.Common.{sym, ap, subst, ◌∙◌, arith, inl, inr}
use Rattle.std.specs.Prelude.{◌==◌, ◌&&◌, nat_lt, nat_le}
use Rattle.std.specs.List.{filter, find, list_any}
use Rattle.std.proofs.lemmas.Bool.{and_parts, or_parts, not-true, ltb-true, false≢true}
use Rattle.std.proofs.lemmas.List.{append_assoc, append-nil}
use Rattle.gs_enet.specs.declared.event.PeerEvent.{PeerEvent}
use Rattle.gs_enet.specs.declared.event.PeerEvent.TheVariants as event
use Rattle.gs_enet.specs.declared.state.PeerState.{PeerState}
use Rattle.gs_enet.specs.declared.state.PeerState.TheVariants as state
use Rattle.gs_enet.specs.declared.answer.Answer.{Answer}
use Rattle.gs_enet.specs.Record.{PeerRecord, Unacknowledged, Disconnect, Order, channels, control, last_number, given_on, heard, orders, is_shut}
use Rattle.gs_enet.specs.Record.{shut, happened, at_moment}
use Rattle.gs_enet.specs.Receive.{leave_if}
use Rattle.gs_enet.specs.Steps.{next_number, is_full, is_open, can_send, with_message, close_if, closed, telling, told_next, due_again, timed_if, timed}
use Rattle.gs_enet.specs.Steps.{had_last_wait}
use Rattle.gs_enet.specs.Write.{Item, Answers, Orders, next_items, written_once, first_written}
use Rattle.gs_enet.specs.Write.{wrote_next}
use Rattle.gs_enet.specs.World.{Written, Side, WorldAct, Send, Close, Tell, Time, Write, sent_if, one_written, acted}
use Rattle.gs_enet.proofs.Lists.{Each, each_weaker, each_unmap, each_push, each_filter, each_drop, each_fails}
use Rattle.gs_enet.proofs.Kept.{Kept, IsDone, IsOver, IsShut, IsHeld, Has, IsTrueAnswer, IsTrueOrder, AnswersTruly, OrdersOut, AnswersOut, IsNoMessage}
use Rattle.gs_enet.proofs.Kept.{count_of}
use Rattle.gs_enet.proofs.Moves.{moves, turns, hears_other, owes, is_held_more}
use Rattle.gs_enet.proofs.Giving.{order_of, gives, room_from_tests}
use Rattle.gs_enet.proofs.WrittenMessages.{each_next}

-- what one side gives and the other hears
abbrev pub Gives : PeerRecord → List Written → PeerRecord → List Written → Type 0
Gives g wg r wr = Kept g.given (orders g) g.state (heard g) wg (heard r) r.pending r.state wr

-- both ways
abbrev pub Both : PeerRecord → List Written → PeerRecord → List Written → Type 0
Both s ws o wo = Gives s ws o wo × Gives o wo s ws

-- ---- send

pub open_is_not_over : (s : PeerState) → is_open s ≡ true → IsOver s → ⊥
open_is_not_over state.Connected e h = h
open_is_not_over state.Connecting e h = h
open_is_not_over state.Accepting e h = h
open_is_not_over state.Closing e h = absurd (false≢true e)
open_is_not_over state.Shut e h = absurd (false≢true e)

sent_both : (b : Bool) (c : ℕ) (bytes : List ℕ) (s : PeerRecord) (ws : List Written) (o : PeerRecord) (wo : List Written)
    → (nat_lt c channels && can_send s c) ≡ b → Both s ws o wo → Both (sent_if b c bytes s) ws o wo
unfolding with_message
sent_both false c bytes s ws o wo e k = k
sent_both true c bytes s ws o wo e k =
    let parts = and_parts (nat_lt c channels) (can_send s c) e in
    let able = and_parts (is_open s.state) (not (is_full s c)) parts.1 in
    let room = or_parts (list_any (λ (u : Unacknowledged). (u.order.channel == c) && nat_le (u.order.number + 256) (next_number s c)) s.unacknowledged)
    (nat_le last_number (next_number s c)) (not-true (is_full s c) able.1) in (
      gives s.unacknowledged c bytes k.0 (open_is_not_over s.state able.0) (ltb-true c channels parts.0)
          (room_from_tests c (next_number s c) s.unacknowledged (each_fails
          (λ (u : Unacknowledged). (u.order.channel == c) && nat_le (u.order.number + 256) (next_number s c)) s.unacknowledged room.0)),
      k.1,
    )

-- ---- close

pub leave_both : (now : PeerState) (us : List Unacknowledged) (s : PeerRecord) (ws : List Written) (o : PeerRecord) (wo : List Written)
    → s.state ≡ now → s.unacknowledged ≡ us → Both s ws o wo → Both (leave_if now us s) ws o wo
leave_both state.Closing [] s ws o wo is none k =
    let over : IsOver s.state = subst IsOver (sym is) tt in
    let nothing : (c n : ℕ) → Has c n (orders s) → ⊥ = λ c n h. subst (λ (us : List Unacknowledged). Has c n (map order_of us)) none h in
    let all : (c : ℕ) → length (given_on c s.given) ≤ count_of c (heard o) = λ c. covers c (length (given_on c s.given)) refl in
    let done : IsDone s.given (heard o) s.state = record { all = all; over = over } in (
      moves ((record { content = Disconnect; channel = control; number = s.last_control + 1 }) ∷ []) s.state (heard s) k.0 (λ h. h)
          (((refl, done), λ below. absurd (omega (arith, below))), tt)
          (λ c n least most. inl (omega (arith, all c, most)))
          (λ has. k.0.closed has),
      k.1,
    )
  where
    covers : (c n : ℕ) → n ≡ length (given_on c s.given) → n ≤ count_of c (heard o)
    covers c zero e = omega arith
    covers c (suc m) e = elim (k.0.covered c (suc m) (omega arith) (omega (arith, e))) [
      | inl below ↦ below
      | inr has ↦ absurd (subst (λ (us : List Unacknowledged). Has c (suc m) (map order_of us)) none has)
    ]
leave_both state.Closing (u ∷ us) s ws o wo is none k = k
leave_both state.Connecting us s ws o wo is none k = k
leave_both state.Accepting us s ws o wo is none k = k
leave_both state.Connected us s ws o wo is none k = k
leave_both state.Shut us s ws o wo is none k = k

close_both : (now : PeerState) (s : PeerRecord) (ws : List Written) (o : PeerRecord) (wo : List Written)
    → s.state ≡ now → Both s ws o wo → Both (close_if now s) ws o wo
close_both state.Connected s ws o wo is k =
    leave_both state.Closing s.unacknowledged (record s { state = state.Closing }) ws o wo refl refl (
      moves (orders s) state.Closing (heard s) k.0 (λ _. tt) (is_held_more s.given (heard o) s.state state.Closing (λ _. tt) (orders s) k.0.held) k.0.covered
          (λ has. let done = k.0.closed has in record { all = done.all; over = tt }),
      owes s.pending state.Closing k.1 k.1.owed (λ over. absurd (subst IsShut is over)),
    )
close_both state.Connecting s ws o wo is k = k
close_both state.Accepting s ws o wo is k = k
close_both state.Closing s ws o wo is k = k
close_both state.Shut s ws o wo is k = k

-- ---- the next event

-- the same, heard in the same order
pub same_heard : (es fs : List PeerEvent) → es ≡ fs → (s : PeerRecord) (ws : List Written) (o : PeerRecord) (wo : List Written)
    → Kept s.given (orders s) s.state es ws (heard o) o.pending o.state wo × Kept o.given (orders o) o.state (heard o) wo es s.pending s.state ws
    → Kept s.given (orders s) s.state fs ws (heard o) o.pending o.state wo × Kept o.given (orders o) o.state (heard o) wo fs s.pending s.state ws
same_heard es fs e s ws o wo k =
    subst (λ (x : List PeerEvent). Kept s.given (orders s) s.state x ws (heard o) o.pending o.state wo
    × Kept o.given (orders o) o.state (heard o) wo x s.pending s.state ws) e k

tell_both : (es : List PeerEvent) (s : PeerRecord) (ws : List Written) (o : PeerRecord) (wo : List Written)
    → s.waiting ≡ es → Both s ws o wo → Both (telling es s) ws o wo
tell_both [] s ws o wo is k = k
tell_both (e ∷ es) s ws o wo is k =
    same_heard (heard s) (s.told ++ e ∷ [] ++ es) (ap (λ (x : List PeerEvent). s.told ++ x) is ∙ sym (append_assoc s.told (e ∷ []) es)) s ws o wo k

-- ---- events

-- an event that is no message arises, and the state changes
pub event_both : (now : PeerState) (e : PeerEvent) (s : PeerRecord) (ws : List Written) (o : PeerRecord) (wo : List Written)
    → Both s ws o wo → IsNoMessage e → (IsOver s.state → IsOver now) → (IsShut s.state → IsShut now)
    → (e ≡ event.Closed → IsDone s.given (heard o) now) → (e ≡ event.PeerClosed → IsDone o.given (heard s) o.state × IsShut now)
    → Both (record (happened e s) { state = now }) ws o wo
event_both now e s ws o wo k quiet over shuts closed peer_closed =
    same_heard (heard s ++ e ∷ []) (s.told ++ (s.waiting ++ e ∷ [])) (append_assoc s.told s.waiting (e ∷ [])) (record s { state = now }) ws o wo
    (turns now e k.0 over closed, hears_other now e k.1 quiet shuts peer_closed)

-- other answers are owed
pub owing_both : (pr : List Answer) (s : PeerRecord) (ws : List Written) (o : PeerRecord) (wo : List Written)
    → Both s ws o wo → Each (IsTrueAnswer (heard s)) pr → Both (record s { pending = pr }) ws o wo
owing_both pr s ws o wo k owed = (k.0, owes pr s.state k.1 owed (λ h. h))

-- an event that is no message ends the connection
pub shut_both : (e : PeerEvent) (s : PeerRecord) (ws : List Written) (o : PeerRecord) (wo : List Written)
    → Both s ws o wo → IsNoMessage e → (e ≡ event.Closed → IsDone s.given (heard o) state.Shut)
    → (e ≡ event.PeerClosed → IsDone o.given (heard s) o.state) → Both (shut (happened e s)) ws o wo
shut_both e s ws o wo k quiet closed peer_closed =
    let over = event_both state.Shut e s ws o wo k quiet (λ _. tt) (λ _. tt) closed (λ same. (peer_closed same, tt)) in
    owing_both (filter (λ (a : Answer). a.to_disconnect) s.pending) (record (happened e s) { state = state.Shut }) ws o wo over
    (each_filter (IsTrueAnswer (heard (happened e s))) (λ (a : Answer). a.to_disconnect) s.pending over.1.owed)

-- ---- time

pub orders-due_again : (now : ℕ) (us : List Unacknowledged) → map order_of (map (due_again now) us) ≡ map order_of us
orders-due_again now [] = refl
orders-due_again now (u ∷ us) = ap (λ (x : List Order). u.order ∷ x) (orders-due_again now us)

-- the same commands are held
same_orders : (os : List Order) (s : PeerRecord) (ws : List Written) (o : PeerRecord) (wo : List Written) → os ≡ orders s → Gives s ws o wo
    → Kept s.given os s.state (heard s) ws (heard o) o.pending o.state wo
same_orders os s ws o wo e k = subst (λ (x : List Order). Kept s.given x s.state (heard s) ws (heard o) o.pending o.state wo) (sym e) k

time_both : (over : Bool) (lost : Option Unacknowledged) (s : PeerRecord) (ws : List Written) (o : PeerRecord) (wo : List Written)
    → Both s ws o wo → Both (timed_if over lost s) ws o wo
time_both true lost s ws o wo k = k
time_both false None s ws o wo k = (
  same_orders (map order_of (map (due_again s.now) s.unacknowledged)) s ws o wo
      (orders-due_again s.now s.unacknowledged) k.0,
  k.1,
)
time_both false (Some u) s ws o wo k =
    shut_both (event.Lost u.order.channel u.order.number) s ws o wo k tt (λ same. absurd cc) (λ same. absurd cc)

-- ---- the next datagram

pub orders-first_written : (now n : ℕ) (us : List Unacknowledged) → map order_of (first_written now n us) ≡ map order_of us
orders-first_written now n [] = refl
orders-first_written now zero (u ∷ us) = refl
orders-first_written now (suc n) (u ∷ us) = here u.due (orders-first_written now n us) (orders-first_written now (suc n) us) where
  here : (b : Bool) → map order_of (first_written now n us) ≡ map order_of us → map order_of (first_written now (suc n) us) ≡ map order_of us
      → map order_of (cond b (written_once now u ∷ first_written now n us) (u ∷ first_written now (suc n) us)) ≡ u.order ∷ map order_of us
  here true one other = ap (λ (x : List Order). u.order ∷ x) one
  here false one other = ap (λ (x : List Order). u.order ∷ x) other

wrote_more : (by : PeerRecord) (xs : List Item) (s : PeerRecord) (ws : List Written) (o : PeerRecord) (wo : List Written) → heard by ≡ heard s
    → Each (IsTrueOrder s.given (heard o) s.state) xs → Each (AnswersTruly (heard by)) xs → Both s ws o wo → Both s (ws ++ one_written by xs) o wo
wrote_more by [] s ws o wo same orders_true answers_true k = subst (λ (x : List Written). Both s x o wo) (sym (append-nil ws)) k
wrote_more by (x ∷ xs) s ws o wo same orders_true answers_true k =
    let w : Written = record { by = by; items = x ∷ xs } in (
      record {
        in_order = k.0.in_order;
        outside = k.0.outside;
        held = k.0.held;
        covered = k.0.covered;
        owed = k.0.owed;
        orders_out = each_push (OrdersOut s.given (heard o) s.state) ws w k.0.orders_out orders_true;
        answers_out = k.0.answers_out;
        peer_closed = k.0.peer_closed;
        closed = k.0.closed;
        last = k.0.last;
      },
      record {
        in_order = k.1.in_order;
        outside = k.1.outside;
        held = k.1.held;
        covered = k.1.covered;
        owed = k.1.owed;
        orders_out = k.1.orders_out;
        answers_out = each_push (AnswersOut (heard s)) ws w k.1.answers_out ((λ c. omega (arith, ap (count_of c) same)), answers_true);
        peer_closed = k.1.peer_closed;
        closed = k.1.closed;
        last = k.1.last;
      },
    )

write_both : (now : ℕ) (s : PeerRecord) (ws : List Written) (o : PeerRecord) (wo : List Written) → Both s ws o wo
    → Both (wrote_next now s) (ws ++ one_written (at_moment now s) (next_items (at_moment now s))) o wo
unfolding wrote_next
write_both now s ws o wo k =
    let t : PeerRecord = at_moment now s in
    let xs : List Item = next_items t in
    let n : ℕ = length xs in
    let answers_true : Each (AnswersTruly (heard s)) xs =
    each_next (AnswersTruly (heard s)) t k.1.owed (nothing s.unacknowledged) in
    let orders_true : Each (IsTrueOrder s.given (heard o) s.state) xs =
    each_next (IsTrueOrder s.given (heard o) s.state) t (no_order s.pending)
    (each_weaker (λ (u : Unacknowledged). IsHeld s.given (heard o) s.state u.order)
    (λ (u : Unacknowledged). IsTrueOrder s.given (heard o) s.state (Orders u.order)) (λ u h. h.0)
    s.unacknowledged (each_unmap (IsHeld s.given (heard o) s.state) order_of s.unacknowledged k.0.held)) in
    let wrote : Both t (ws ++ one_written t xs) o wo = wrote_more t xs t ws o wo refl orders_true answers_true k in
    let fewer : Both (record t { pending = drop n s.pending }) (ws ++ one_written t xs) o wo =
    owing_both (drop n s.pending) t (ws ++ one_written t xs) o wo wrote (each_drop (IsTrueAnswer (heard s)) n s.pending k.1.owed) in (
      same_orders (map order_of (first_written t.now (n - length s.pending) s.unacknowledged)) s (ws ++ one_written t xs) o wo
          (orders-first_written t.now (n - length s.pending) s.unacknowledged) fewer.0,
      fewer.1,
    )
  where
    nothing : (us : List Unacknowledged) → Each (λ (u : Unacknowledged). AnswersTruly (heard s) (Orders u.order)) us
    nothing [] = tt
    nothing (u ∷ us) = (tt, nothing us)

    no_order : (as' : List Answer) → Each (λ a. IsTrueOrder s.given (heard o) s.state (Answers a)) as'
    no_order [] = tt
    no_order (a ∷ as') = (tt, no_order as')

-- ---- any act

pub act_both : (act : WorldAct) (s o : Side) → Both s.peer s.wrote o.peer o.wrote → Both (acted act s).peer (acted act s).wrote o.peer o.wrote
unfolding closed told_next timed
act_both (Send c bytes) s o k = sent_both (nat_lt c channels && can_send s.peer c) c bytes s.peer s.wrote o.peer o.wrote refl k
act_both Close s o k = close_both s.peer.state s.peer s.wrote o.peer o.wrote refl k
act_both Tell s o k = tell_both s.peer.waiting s.peer s.wrote o.peer o.wrote refl k
act_both (Time now) s o k =
    time_both (is_shut s.peer.state) (find (had_last_wait (at_moment now s.peer).now) s.peer.unacknowledged) (at_moment now s.peer) s.wrote o.peer o.wrote k
act_both (Write now) s o k = write_both now s.peer s.wrote o.peer o.wrote k
