-- What one side keeps when its user calls, when time is looked at, and when it writes.
use Rattle.std.proofs.Common.{◌≡◌, ◌<◌, ◌≤◌, ◌+◌, ◌-◌, ◌*◌, ◌^◌, ℕ, zero, suc, max, min, Bool, true, false, not, cond, List, [], ◌∷◌, ◌++◌, length, map, Option}
use Rattle.std.proofs.Common.{Some, None, refl, sym, ap, subst, ◌∙◌, arith, inl, inr}
use Rattle.std.specs.Prelude.{◌==◌, ◌&&◌, ◌||◌, nat_lt, nat_le, Contains}
use Rattle.std.specs.List.{find, list_any}
use Rattle.std.proofs.lemmas.Bool.{and_parts, or_parts, or_left, and_left, and_right, not-true, ltb-true, lt-leb, false≢true}
use Rattle.std.proofs.lemmas.Bool.{cond-false}
use Rattle.std.proofs.lemmas.Nat.{pow_pos}
use Rattle.std.proofs.lemmas.List.{append_assoc, append-nil}
use Rattle.std.proofs.lemmas.List.Elements.{Contains-push_cases}
use Rattle.gs_enet.specs.declared.event.PeerEvent.{PeerEvent}
use Rattle.gs_enet.specs.declared.event.PeerEvent.TheVariants as event
use Rattle.gs_enet.specs.declared.state.PeerState.{PeerState}
use Rattle.gs_enet.specs.declared.state.PeerState.TheVariants as state
use Rattle.gs_enet.specs.declared.answer.Answer.{Answer}
use Rattle.gs_enet.specs.Record.{PeerRecord, Unacknowledged, Order, channels, last_number}
use Rattle.gs_enet.specs.Record.{heard, is_shut, happened, at_moment}
use Rattle.gs_enet.specs.Receive.{leave_if}
use Rattle.gs_enet.specs.Steps.{next_number, is_full, is_open, can_send, with_message, close_if, telling, first_wait, longest_wait}
use Rattle.gs_enet.specs.Steps.{wait_after, most_writes}
use Rattle.gs_enet.specs.Steps.{has_waited, had_last_wait, due_again, timed_if, timed}
use Rattle.gs_enet.specs.Write.{Answers, next_items, written_once, first_written, wrote_next}
use Rattle.gs_enet.specs.World.{Written, sent_if, one_written}
use Rattle.gs_enet.proofs.Lists.{Each, each_weaker, each_map, each_unmap, each_fails}
use Rattle.gs_enet.proofs.Kept.{IsOver}
use Rattle.gs_enet.proofs.Rising.{Numbered}
use Rattle.gs_enet.proofs.HeldMessages.{held_on, due_on, gather}
use Rattle.gs_enet.proofs.WrittenMessages.{each_next, next_messages}
use Rattle.gs_enet.proofs.Alone.{Gone, IsLeave, LeaveOnly, IsTimed, Alone, alone_turns, alone_at, alone_leaves, alone_gives}
use Rattle.gs_enet.proofs.Alone.{alone_keeps}
use Rattle.gs_enet.proofs.Giving.{order_of, room_from_test}
use Rattle.gs_enet.proofs.Acts.{open_is_not_over, orders-due_again, orders-first_written}

abbrev pub Giver : ℕ → ℕ → ℕ → ℕ → PeerRecord → List Written → Type 0
Giver c now m acks r ws = Alone c now m acks r.given r.unacknowledged r.state (heard r) ws r.now

-- ---- send

pub giver_sent : (c now m acks : ℕ) (b : Bool) (d : ℕ) (bytes : List ℕ) (r : PeerRecord) (ws : List Written)
    → (nat_lt d channels && can_send r d) ≡ b → Giver c now m acks r ws → Giver c now m acks (sent_if b d bytes r) ws
unfolding with_message
giver_sent c now m acks false d bytes r ws e k = k
giver_sent c now m acks true d bytes r ws e k =
    let test : Unacknowledged → Bool = λ (u : Unacknowledged). (u.order.channel == d) && nat_le (u.order.number + 256) (next_number r d) in
    let parts = and_parts (nat_lt d channels) (can_send r d) e in
    let able = and_parts (is_open r.state) (not (is_full r d)) parts.1 in
    let room = or_parts (list_any test r.unacknowledged) (nat_le last_number (next_number r d)) (not-true (is_full r d) able.1) in
    alone_gives d bytes k (open_is_not_over r.state able.0) (ltb-true d channels parts.0)
    (each_map (λ (o : Order). o.channel ≡ d → next_number r d < o.number + 256) order_of r.unacknowledged
    (each_weaker (λ (u : Unacknowledged). test u ≡ false) (λ (u : Unacknowledged). u.order.channel ≡ d → next_number r d < u.order.number + 256)
    (room_from_test d (next_number r d)) r.unacknowledged (each_fails test r.unacknowledged room.0)))

-- ---- close

pub giver_leaves : (c now m acks : ℕ) (st : PeerState) (us : List Unacknowledged) (r : PeerRecord) (ws : List Written)
    → r.state ≡ st → r.unacknowledged ≡ us → Giver c now m acks r ws → Giver c now m acks (leave_if st us r) ws
giver_leaves c now m acks state.Closing [] r ws is none k = alone_leaves (r.last_control + 1) none (subst IsOver (sym is) tt) k
giver_leaves c now m acks state.Closing (u ∷ us) r ws is none k = k
giver_leaves c now m acks state.Connecting us r ws is none k = k
giver_leaves c now m acks state.Accepting us r ws is none k = k
giver_leaves c now m acks state.Connected us r ws is none k = k
giver_leaves c now m acks state.Shut us r ws is none k = k

pub giver_closed : (c now m acks : ℕ) (st : PeerState) (r : PeerRecord) (ws : List Written)
    → r.state ≡ st → Giver c now m acks r ws → Giver c now m acks (close_if st r) ws
giver_closed c now m acks state.Connected r ws is k =
    giver_leaves c now m acks state.Closing r.unacknowledged (record r { state = state.Closing }) ws refl refl
    (alone_turns acks state.Closing (heard r) k (omega arith) (λ _. tt) (λ has. inl has))
giver_closed c now m acks state.Connecting r ws is k = k
giver_closed c now m acks state.Accepting r ws is k = k
giver_closed c now m acks state.Closing r ws is k = k
giver_closed c now m acks state.Shut r ws is k = k

-- ---- events

pub giver_told : (c now m acks : ℕ) (es : List PeerEvent) (r : PeerRecord) (ws : List Written)
    → r.waiting ≡ es → Giver c now m acks r ws → Giver c now m acks (telling es r) ws
giver_told c now m acks [] r ws is k = k
giver_told c now m acks (e ∷ es) r ws is k =
    let same : r.told ++ r.waiting ≡ (r.told ++ e ∷ []) ++ es = ap (λ (x : List PeerEvent). r.told ++ x) is ∙ sym (append_assoc r.told (e ∷ []) es) in
    alone_turns acks r.state ((r.told ++ e ∷ []) ++ es) k (omega arith) (λ h. h)
    (λ has. inl (subst (λ (x : List PeerEvent). Contains x event.Closed) (sym same) has))

-- an event arises, and the state changes
pub giver_hears : (c now m acks : ℕ) (st : PeerState) (e : PeerEvent) (r : PeerRecord) (ws : List Written)
    → Giver c now m acks r ws → (IsOver r.state → IsOver st) → (e ≡ event.Closed → Gone c acks r.given st)
    → Giver c now m acks (record (happened e r) { state = st }) ws
giver_hears c now m acks st e r ws k over left =
    alone_turns acks st (r.told ++ (r.waiting ++ e ∷ [])) k (omega arith) over
    (λ has. elim (Contains-push_cases (r.told ++ r.waiting) e event.Closed
    (subst (λ (x : List PeerEvent). Contains x event.Closed) (sym (append_assoc r.told r.waiting (e ∷ []))) has)) [
      | inl before ↦ inl before
      | inr last ↦ inr (left last)
    ])

-- ---- time: nothing waits longer than no time

waits : (n : ℕ) → 1 ≤ wait_after n
waits n = least (2 ^ (n - 1)) (pow_pos (n - 1)) where
  least : (p : ℕ) → 1 ≤ p → 1 ≤ min longest_wait (first_wait * p)
  least p le = omega (arith, le)

not_waited : (now m : ℕ) (u : Unacknowledged) → now ≡ m → IsTimed m u → has_waited now u ≡ false
not_waited now m u same (inl due) = and_left (not u.due) (nat_le (u.written + wait_after u.writes) now) (ap not due)
not_waited now m u same (inr written) =
    and_right (not u.due) (nat_le (u.written + wait_after u.writes) now) (lt-leb (u.written + wait_after u.writes) now
    (omega (arith, waits u.writes, written, same)))

find_none : (test : Unacknowledged → Bool) (us : List Unacknowledged) → Each (λ (u : Unacknowledged). test u ≡ false) us → find test us ≡ None
find_none test [] h = refl
find_none test (u ∷ us) h = cond-false (test u) (Some u) (find test us) h.0 ∙ find_none test us h.1

none_lost : (now m : ℕ) (us : List Unacknowledged) → now ≡ m → Each (IsTimed m) us → find (had_last_wait now) us ≡ None
none_lost now m us same h =
    find_none (had_last_wait now) us (each_weaker (IsTimed m) (λ (u : Unacknowledged). had_last_wait now u ≡ false)
    (λ u timed. and_left (has_waited now u) (nat_le most_writes u.writes) (not_waited now m u same timed)) us h)

same_due : (b w : Bool) (xs : List Numbered) → w ≡ false → cond (b || w) xs [] ≡ cond b xs []
same_due true w xs e = refl
same_due false true xs e = absurd (false≢true (sym e))
same_due false false xs e = refl

gather_due_again : (c now m : ℕ) (us : List Unacknowledged) → now ≡ m → Each (IsTimed m) us → gather (due_on c) (map (due_again now) us) ≡ gather (due_on c) us
gather_due_again c now m [] same h = refl
gather_due_again c now m (u ∷ us) same h =
    ap (λ (x : List Numbered). x ++ gather (due_on c) (map (due_again now) us)) (same_due u.due (has_waited now u) (held_on c u) (not_waited now m u same h.0))
    ∙ ap (λ (x : List Numbered). due_on c u ++ x) (gather_due_again c now m us same h.1)

timed_due_again : (now m : ℕ) (us : List Unacknowledged) → Each (IsTimed m) us → Each (IsTimed m) (map (due_again now) us)
timed_due_again now m us h =
    each_map (IsTimed m) (due_again now) us
    (each_weaker (IsTimed m) (λ (u : Unacknowledged). IsTimed m (due_again now u)) (λ u timed. still u timed) us h) where
      still : (u : Unacknowledged) → IsTimed m u → IsTimed m (due_again now u)
      still u (inl due) = inl (or_left u.due (has_waited now u) due)
      still u (inr written) = inr written

giver_timed_if : (c now m acks : ℕ) (over : Bool) (lost : Option Unacknowledged) (r : PeerRecord) (ws : List Written)
    → lost ≡ None → r.now ≡ m → Giver c now m acks r ws → Giver c now m acks (timed_if over lost r) ws
giver_timed_if c now m acks true lost r ws none is k = k
giver_timed_if c now m acks false (Some u) r ws none is k = absurd cc
giver_timed_if c now m acks false None r ws none is k =
    let us : List Unacknowledged = map (due_again r.now) r.unacknowledged in
    subst (λ (x : List Written). Giver c now m acks (record r { unacknowledged = us }) x) (append-nil ws)
    (alone_keeps us r [] r.now k k.clock (orders-due_again r.now r.unacknowledged) (timed_due_again r.now m r.unacknowledged k.timed)
    (gather_due_again c r.now m r.unacknowledged is k.timed) tt)

max_twice : (a b m : ℕ) → max a b ≡ m → max (max a b) b ≡ m
max_twice a b m e = omega (arith, e)

pub giver_at : (c now m acks : ℕ) (r : PeerRecord) (ws : List Written) → Giver c now m acks r ws → Giver c now m acks (at_moment now r) ws
giver_at c now m acks r ws k = alone_at (max r.now now) (max_twice r.now now m k.clock) k

pub giver_timed : (c now m acks : ℕ) (r : PeerRecord) (ws : List Written) → Giver c now m acks r ws → Giver c now m acks (timed now r) ws
unfolding timed
giver_timed c now m acks r ws k =
    giver_timed_if c now m acks (is_shut r.state) (find (had_last_wait (max r.now now)) r.unacknowledged) (at_moment now r) ws
    (none_lost (max r.now now) m r.unacknowledged k.clock k.timed) k.clock (giver_at c now m acks r ws k)

-- ---- the next datagram

timed_first_written : (now m n : ℕ) (us : List Unacknowledged) → now ≡ m → Each (IsTimed m) us → Each (IsTimed m) (first_written now n us)
timed_first_written now m n [] same h = tt
timed_first_written now m zero (u ∷ us) same h = h
timed_first_written now m (suc n) (u ∷ us) same h =
    here u.due (timed_first_written now m n us same h.1) (timed_first_written now m (suc n) us same h.1) where
      here : (b : Bool) → Each (IsTimed m) (first_written now n us) → Each (IsTimed m) (first_written now (suc n) us)
          → Each (IsTimed m) (cond b (written_once now u ∷ first_written now n us) (u ∷ first_written now (suc n) us))
      here true one other = (inr same, one)
      here false one other = (h.0, other)

pub giver_wrote : (c now m acks : ℕ) (r : PeerRecord) (ws : List Written) → Giver c now m acks r ws
    → Giver c now m acks (wrote_next now r) (ws ++ one_written (at_moment now r) (next_items (at_moment now r)))
unfolding wrote_next
giver_wrote c now m acks r ws k =
    let t : PeerRecord = at_moment now r in
    let n : ℕ = length (next_items t) in
    alone_keeps (first_written t.now (n - length r.pending) r.unacknowledged) t (next_items t) t.now k (max_twice r.now now m k.clock)
    (orders-first_written t.now (n - length r.pending) r.unacknowledged)
    (timed_first_written t.now m (n - length r.pending) r.unacknowledged k.clock k.timed)
    (next_messages c t)
    (each_next (LeaveOnly (Gone c acks r.given r.state)) t (nothing r.pending) (each_unmap (λ (o : Order). IsLeave o.content → Gone c acks r.given r.state)
    order_of r.unacknowledged k.left_held))
  where
    nothing : (as' : List Answer) → Each (λ (a : Answer). LeaveOnly (Gone c acks r.given r.state) (Answers a)) as'
    nothing [] = tt
    nothing (a ∷ as') = (tt, nothing as')
