-- What is kept when a message is given, and when a command is acknowledged.
use Rattle.std.proofs.Common.{◌≡◌, ◌⊎◌, ◌<◌, ◌≤◌, ◌+◌, ℕ, Bool, true, false, cond, List, [], ◌∷◌, ◌++◌, length, map, refl, sym, ap, subst, ◌∙◌, arith, inl, inr}
use Rattle.std.specs.Prelude.{◌==◌, ◌&&◌, nat_le}
use Rattle.std.proofs.lemmas.Bool.{cases_eq, eq-eqb, leb-false, and_cases, false≢true}
use Rattle.std.proofs.lemmas.List.{append_assoc, length-append}
use Rattle.gs_enet.specs.declared.event.PeerEvent.{PeerEvent}
use Rattle.gs_enet.specs.declared.state.PeerState.{PeerState}
use Rattle.gs_enet.specs.declared.answer.Answer.{Answer}
use Rattle.gs_enet.specs.Record.{Unacknowledged, Content, Connect, VerifyConnect, Disconnect, Message, Order, GivenMessage, channels, fresh, given_on}
use Rattle.gs_enet.specs.Record.{messages_on}
use Rattle.gs_enet.specs.Steps.{placed, comes_before}
use Rattle.gs_enet.specs.Write.{Item, Answers, Orders}
use Rattle.gs_enet.specs.World.{Written}
use Rattle.gs_bytes.specs.Prefix.{IsPrefixOf}
use Rattle.gs_enet.proofs.Lists.{Each, each_weaker, each_map, each_unmap, each_both}
use Rattle.gs_enet.proofs.Kept.{Kept, IsOver, IsAt, Says, IsHeld, IsInWindow, Has, IsTrueOrder, OrdersOut, count_of, giving, given_on-own, given_on-apart}

abbrev pub order_of : Unacknowledged → Order
order_of u = u.order

-- ---- a command at its place among the others

pub each_put : (P : Unacknowledged → Type 0) (u : Unacknowledged) (us : List Unacknowledged) → P u → Each P us → Each P (placed u us)
each_put P u [] p h = (p, tt)
each_put P u (v ∷ vs) p h = here (each_put P u vs p h.1) (comes_before u.order v.order) where
  here : Each P (placed u vs) → (b : Bool) → Each P (cond b (u ∷ v ∷ vs) (v ∷ placed u vs))
  here later true = (p, h)
  here later false = (h.0, later)

has_placed : (u : Unacknowledged) (c n : ℕ) (us : List Unacknowledged) → Has c n (map order_of us) → Has c n (map order_of (placed u us))
has_placed u c n [] h = absurd h
has_placed u c n (v ∷ vs) h = here (λ later. has_placed u c n vs later) (comes_before u.order v.order) where
  here : (Has c n (map order_of vs) → Has c n (map order_of (placed u vs))) → (b : Bool) → Has c n (map order_of (cond b (u ∷ v ∷ vs) (v ∷ placed u vs)))
  here go true = inr h
  here go false = elim h [ inl first ↦ inl first | inr later ↦ inr (go later) ]

has_own : (u : Unacknowledged) (us : List Unacknowledged) → Has u.order.channel u.order.number (map order_of (placed u us))
has_own u [] = inl (refl, refl)
has_own u (v ∷ vs) = here (has_own u vs) (comes_before u.order v.order) where
  here : Has u.order.channel u.order.number (map order_of (placed u vs)) → (b : Bool)
      → Has u.order.channel u.order.number (map order_of (cond b (u ∷ v ∷ vs) (v ∷ placed u vs)))
  here later true = inl (refl, refl)
  here later false = inr later

-- ---- a message is given

pub at_more : (xs : List (List ℕ)) (n : ℕ) (x y : List ℕ) → IsAt xs n x → IsAt (xs ++ y ∷ []) n x
at_more xs n x y h =
    record {
      front = h.front;
      rest = h.rest ++ y ∷ [];
      parts = ap (λ (w : List (List ℕ)). w ++ y ∷ []) h.parts ∙ append_assoc h.front (x ∷ h.rest) (y ∷ []);
      at = h.at;
    }

at_given : (gv : List GivenMessage) (c : ℕ) (bytes : List ℕ) (d n : ℕ) (x : List ℕ) → IsAt (given_on d gv) n x → IsAt (given_on d (gv ++ giving c bytes)) n x
at_given gv c bytes d n x h = elim (cases_eq c d) [
  | inl same ↦ subst (λ (e : ℕ). IsAt (given_on e gv) n x → IsAt (given_on e (gv ++ giving c bytes)) n x) same
      (λ at_c. subst (λ (xs : List (List ℕ)). IsAt xs n x) (sym (given_on-own c bytes gv)) (at_more (given_on c gv) n x bytes at_c)) h
  | inr other ↦ subst (λ (xs : List (List ℕ)). IsAt xs n x) (sym (given_on-apart d c bytes gv other)) h
]

says_given : (gv : List GivenMessage) (hr : List PeerEvent) (sg : PeerState) → (IsOver sg → ⊥) → (c : ℕ) (bytes : List ℕ) (content : Content) (d n : ℕ)
    → Says gv hr sg content d n → Says (gv ++ giving c bytes) hr sg content d n
says_given gv hr sg up c bytes (Message other) d n h = (h.0, at_given gv c bytes d n other h.1)
says_given gv hr sg up c bytes Disconnect d n h = absurd (up h.1.over)
says_given gv hr sg up c bytes Connect d n h = h
says_given gv hr sg up c bytes VerifyConnect d n h = h

item_given : (gv : List GivenMessage) (hr : List PeerEvent) (sg : PeerState) → (IsOver sg → ⊥) → (c : ℕ) (bytes : List ℕ) (x : Item)
    → IsTrueOrder gv hr sg x → IsTrueOrder (gv ++ giving c bytes) hr sg x
item_given gv hr sg up c bytes (Orders o) h = says_given gv hr sg up c bytes o.content o.channel o.number h
item_given gv hr sg up c bytes (Answers a) h = tt

window_given : (gv : List GivenMessage) (c : ℕ) (bytes : List ℕ) (o : Order) → (o.channel ≡ c → length (given_on c gv) + 1 < o.number + 256) → IsInWindow gv o
    → IsInWindow (gv ++ giving c bytes) o
window_given gv c bytes o own h below = elim (cases_eq c o.channel) [
  | inl same ↦ subst (λ (e : ℕ). length (given_on e (gv ++ giving c bytes)) < o.number + 256) same
      (omega (arith, own (sym same), ap length (given_on-own c bytes gv), length-append (given_on c gv) (bytes ∷ [])))
  | inr other ↦ omega (arith, h below, ap length (given_on-apart o.channel c bytes gv other))
]

-- a message on a channel whose held commands are all among the last 255
pub gives : {gv : List GivenMessage} {sg : PeerState} {hg : List PeerEvent} {wg : List Written} {hr : List PeerEvent} {pr : List Answer} {sr : PeerState}
    {wr : List Written}
    (us : List Unacknowledged) (c : ℕ) (bytes : List ℕ) → Kept gv (map order_of us) sg hg wg hr pr sr wr → (IsOver sg → ⊥) → c < channels
    → Each (λ (u : Unacknowledged). u.order.channel ≡ c → length (given_on c gv) + 1 < u.order.number + 256) us
    → Kept (gv ++ giving c bytes) (map order_of (placed (fresh (Message bytes) c (length (given_on c gv) + 1)) us)) sg hg wg hr pr sr wr
gives {gv = gv} {sg = sg} {wg = wg} {hr = hr} us c bytes k up below room =
    let n : ℕ = length (given_on c gv) + 1 in
    let u : Unacknowledged = fresh (Message bytes) c n in
    let gv' : List GivenMessage = gv ++ giving c bytes in
    let own : given_on c gv' ≡ given_on c gv ++ bytes ∷ [] = given_on-own c bytes gv in
    let size : length (given_on c gv') ≡ n = ap length own ∙ length-append (given_on c gv) (bytes ∷ []) in
    let place : IsAt (given_on c gv') n bytes = record { front = given_on c gv; rest = []; parts = own; at = refl } in
    let old : Each (λ (v : Unacknowledged). IsHeld gv' hr sg v.order) us =
    each_weaker (λ (v : Unacknowledged). IsHeld gv hr sg v.order × (v.order.channel ≡ c → n < v.order.number + 256))
    (λ (v : Unacknowledged). IsHeld gv' hr sg v.order)
    (λ v h. (says_given gv hr sg up c bytes v.order.content v.order.channel v.order.number h.0.0, window_given gv c bytes v.order h.1 h.0.1)) us
    (each_both (λ (v : Unacknowledged). IsHeld gv hr sg v.order) (λ (v : Unacknowledged). v.order.channel ≡ c → n < v.order.number + 256) us
    (each_unmap (IsHeld gv hr sg) order_of us k.held) room) in
    record {
      in_order = λ d. elim (cases_eq c d) [
        | inl same ↦ subst (λ (e : ℕ). IsPrefixOf (messages_on e hr) (given_on e gv')) same (
          (k.in_order c).0 ++ bytes ∷ [],
          own ∙ ap (λ (w : List (List ℕ)). w ++ bytes ∷ []) (k.in_order c).1 ∙ append_assoc (messages_on c hr) (k.in_order c).0 (bytes ∷ []),
        )
        | inr other ↦ subst (λ (xs : List (List ℕ)). IsPrefixOf (messages_on d hr) xs) (sym (given_on-apart d c bytes gv other)) (k.in_order d)
      ];
      outside = λ d above. given_on-apart d c bytes gv (λ same. omega (arith, same)) ∙ k.outside d above;
      held = each_map (IsHeld gv' hr sg) order_of (placed u us)
          (each_put (λ (v : Unacknowledged). IsHeld gv' hr sg v.order) u us ((below, place), λ _. omega (arith, size)) old);
      covered = λ d m least most. elim (cases_eq c d) [
        | inl same ↦ subst (λ (e : ℕ). (m ≤ length (given_on e gv')) → (m ≤ count_of e hr) ⊎ Has e m (map order_of (placed u us))) same
            (λ most_c. elim (cases_eq m n) [
              | inl newest ↦ inr (subst (λ (x : ℕ). Has c x (map order_of (placed u us))) (sym newest) (has_own u us))
              | inr older ↦ elim (k.covered c m least (omega (arith, size))) [
                | inl known ↦ inl known
                | inr has ↦ inr (has_placed u c m us has)
              ]
            ]) most
        | inr other ↦ elim (k.covered d m least (subst (λ (xs : List (List ℕ)). m ≤ length xs) (given_on-apart d c bytes gv other) most)) [
          | inl known ↦ inl known
          | inr has ↦ inr (has_placed u d m us has)
        ]
      ];
      owed = k.owed;
      orders_out = each_weaker (OrdersOut gv hr sg) (OrdersOut gv' hr sg)
          (λ w h. each_weaker (IsTrueOrder gv hr sg) (IsTrueOrder gv' hr sg) (item_given gv hr sg up c bytes) w.items h) wg k.orders_out;
      answers_out = k.answers_out;
      peer_closed = λ has. absurd (up (k.peer_closed has).0.over);
      closed = λ has. absurd (up (k.closed has).over);
      last = k.last;
    }

-- ---- what a full window is

pub room_from_test : (c next : ℕ) (u : Unacknowledged) → ((u.order.channel == c) && nat_le (u.order.number + 256) next) ≡ false → u.order.channel ≡ c
    → next < u.order.number + 256
room_from_test c next u e same = elim (and_cases (u.order.channel == c) (nat_le (u.order.number + 256) next) e) [
  | inl apart ↦ absurd (false≢true (sym apart ∙ eq-eqb u.order.channel c same))
  | inr small ↦ leb-false (u.order.number + 256) next small
]

pub room_from_tests : (c next : ℕ) (us : List Unacknowledged)
    → Each (λ (u : Unacknowledged). ((u.order.channel == c) && nat_le (u.order.number + 256) next) ≡ false) us
    → Each (λ (u : Unacknowledged). u.order.channel ≡ c → next < u.order.number + 256) us
room_from_tests c next us =
    each_weaker (λ (u : Unacknowledged). ((u.order.channel == c) && nat_le (u.order.number + 256) next) ≡ false)
    (λ (u : Unacknowledged). u.order.channel ≡ c → next < u.order.number + 256) (room_from_test c next) us
