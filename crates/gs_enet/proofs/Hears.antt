-- A side hears the messages of one channel in order, where it reads a front of what another wrote.
use Rattle.std.proofs.Common.{◌≡◌, ◌<◌, ◌≤◌, ◌+◌, ◌-◌, ◌%◌, ℕ, Bool, true, false, List, [], ◌∷◌, ◌++◌, length, refl, sym, ap, subst, ◌∙◌, arith, inl, inr}
use Rattle.std.specs.Prelude.{◌==◌, ◌&&◌, nat_lt, Contains}
use Rattle.std.proofs.lemmas.Bool.{and_parts, eqb-true, eq-eqb, leb-true}
use Rattle.std.proofs.lemmas.List.{length-append}
use Rattle.gs_enet.specs.declared.event.PeerEvent.{PeerEvent}
use Rattle.gs_enet.specs.declared.event.PeerEvent.TheVariants as event
use Rattle.gs_enet.specs.Record.{PeerRecord, channels, messages_on, heard, happened, owing}
use Rattle.gs_enet.specs.Receive.{takes_messages, expected, distance, message_if, is_next, is_behind, taken_if, owed_answer}
use Rattle.gs_enet.specs.World.{Written}
use Rattle.gs_bytes.specs.Prefix.{IsPrefixOf}
use Rattle.gs_enet.proofs.Kept.{IsShut, IsLast, IsAt, count_of, messages_on-message}
use Rattle.gs_enet.proofs.Moves.{grown}
use Rattle.gs_enet.proofs.WrittenMessages.{one_if, put_answers}
use Rattle.gs_enet.proofs.Hearing.{owed_on, Quiet, last_event, heard_more, owed_more, taking_is_not_shut}
use Rattle.std.proofs.lemmas.List.Elements.{Contains-push_cases}

-- how many answers on a channel arose, as far as they weren't dropped
abbrev pub answered_on : ℕ → PeerRecord → List Written → ℕ
answered_on c r ws = owed_on c r + put_answers c ws

-- What was heard on the channel is a front of that list, each message was answered at most once, and the last one read had that
-- number. G holds once the other side's disconnect was read.
pub record Hears (c : ℕ) (ms : List (List ℕ)) (G : Type 0) (low : ℕ) (r : PeerRecord) (ws : List Written) : Type 0 where
  pub in_order : IsPrefixOf (messages_on c (heard r)) ms
  pub fewer : c < channels → answered_on c r ws ≤ count_of c (heard r)
  pub most : count_of c (heard r) ≤ low
  pub closed : Contains (heard r) event.PeerClosed → IsShut r.state × G
  pub last : IsLast (heard r)

pub hears_quiet : (c : ℕ) (ms : List (List ℕ)) (G : Type 0) (low : ℕ) (r s : PeerRecord) (ws : List Written) → Quiet c G r s → Hears c ms G low r ws
    → Hears c ms G low s ws
hears_quiet c ms G low r s ws q k =
    record {
      in_order = subst (λ (x : List (List ℕ)). IsPrefixOf x ms) (sym q.same) k.in_order;
      fewer = λ below. omega (arith, k.fewer below, q.owed below, ap length q.same);
      most = omega (arith, k.most, ap length q.same);
      closed = λ has. elim (q.closed has) [ inl before ↦ (let had = k.closed before in (q.shut had.0, had.1)) | inr now ↦ now ];
      last = q.last (λ has. (k.closed has).0) k.last;
    }

hears_higher : (c : ℕ) (ms : List (List ℕ)) (G : Type 0) (low low' : ℕ) (r : PeerRecord) (ws : List Written) → low ≤ low' → Hears c ms G low r ws
    → Hears c ms G low' r ws
hears_higher c ms G low low' r ws le k = record { in_order = k.in_order; fewer = k.fewer; most = omega (arith, k.most, le); closed = k.closed; last = k.last }

-- ---- a message of the channel

next_is : (n e : ℕ) → e ≤ n → n ≤ e + 256 → (n % 65536 + 65536 - e % 65536) % 65536 ≡ 0 → n ≡ e
next_is n e least most d = omega arith

never_behind : (n e : ℕ) → e ≤ n → n ≤ e + 256 → 32768 ≤ (n % 65536 + 65536 - e % 65536) % 65536 → ⊥
never_behind n e least most d = omega arith

hears_next : (c : ℕ) (ms : List (List ℕ)) (G : Type 0) (low sent number : ℕ) (bytes : List ℕ) (r : PeerRecord) (ws : List Written)
    → (IsShut r.state → ⊥) → IsAt ms (expected r c) bytes → low < expected r c → Hears c ms G low r ws
    → Hears c ms G (expected r c) (owing (owed_answer sent c number) (happened (event.Message c (expected r c) bytes) r)) ws
hears_next c ms G low sent number bytes r ws going place less k =
    let e : PeerEvent = event.Message c (expected r c) bytes in
    let told : messages_on c (heard (happened e r)) ≡ messages_on c (heard r) ++ bytes ∷ [] =
    ap (messages_on c) (heard_more e r) ∙ messages_on-message c (expected r c) bytes (heard r) in
    let more : count_of c (heard (happened e r)) ≡ expected r c = ap length told ∙ length-append (messages_on c (heard r)) (bytes ∷ []) in
    let none : Contains (heard r) event.PeerClosed → ⊥ = λ has. going (k.closed has).0 in
    record {
      in_order = subst (λ (x : List (List ℕ)). IsPrefixOf x ms) (sym told) (grown (messages_on c (heard r)) k.in_order.0 ms (expected r c) bytes
          k.in_order.1 refl place);
      fewer = λ below. omega (arith, k.fewer below, owed_more c (owed_answer sent c number) r.pending, ap one_if (eq-eqb c c refl), more);
      most = omega (arith, more);
      closed = λ has. elim (Contains-push_cases (heard r) e event.PeerClosed (subst (λ (x : List PeerEvent). Contains x event.PeerClosed) (heard_more e r)
          has)) [
            | inl before ↦ absurd (none before)
            | inr last ↦ absurd cc
          ];
      last = subst IsLast (sym (heard_more e r)) (last_event (heard r) e (λ has. absurd (none has)) k.last);
    }

hears_message : (c : ℕ) (ms : List (List ℕ)) (G : Type 0) (low n : ℕ) (next behind : Bool) (bytes : List ℕ) (sent : ℕ) (r : PeerRecord) (ws : List Written)
    → is_next (n % 65536) (expected r c) ≡ next → is_behind (n % 65536) (expected r c) ≡ behind → (IsShut r.state → ⊥) → IsAt ms n bytes
    → low < n → n ≤ expected r c + 256 → Hears c ms G low r ws
    → Hears c ms G n (message_if next behind c (expected r c) bytes (owed_answer sent c (n % 65536)) r) ws
hears_message c ms G low n true behind bytes sent r ws is_it b going place less most k =
    let least : expected r c ≤ n = omega (arith, k.most, less) in
    let same : n ≡ expected r c = next_is n (expected r c) least most (eqb-true _ 0 (and_parts (distance (n % 65536) (expected r c) == 0) _ is_it).0) in
    subst (λ (x : ℕ). Hears c ms G x (owing (owed_answer sent c (n % 65536)) (happened (event.Message c (expected r c) bytes) r)) ws) (sym same)
    (hears_next c ms G low sent (n % 65536) bytes r ws going (subst (λ (x : ℕ). IsAt ms x bytes) same place) (omega (arith, same, less)) k)
hears_message c ms G low n false true bytes sent r ws not_it is_it going place less most k =
    absurd (never_behind n (expected r c) (omega (arith, k.most, less)) most (leb-true 32768 _ is_it))
hears_message c ms G low n false false bytes sent r ws not_it not_behind going place less most k = hears_higher c ms G low n r ws (omega (arith, less)) k

pub hears_own : (c : ℕ) (ms : List (List ℕ)) (G : Type 0) (low n : ℕ) (taking : Bool) (bytes : List ℕ) (sent : ℕ) (r : PeerRecord) (ws : List Written)
    → (nat_lt c channels && takes_messages r.state) ≡ taking → IsAt ms n bytes → low < n → n ≤ expected r c + 256 → Hears c ms G low r ws
    → Hears c ms G n (taken_if taking c (n % 65536) bytes (owed_answer sent c (n % 65536)) r) ws
hears_own c ms G low n true bytes sent r ws e place less most k =
    hears_message c ms G low n (is_next (n % 65536) (expected r c)) (is_behind (n % 65536) (expected r c)) bytes sent r ws refl refl
    (taking_is_not_shut r.state (and_parts (nat_lt c channels) (takes_messages r.state) e).1) place less most k
hears_own c ms G low n false bytes sent r ws e place less most k = hears_higher c ms G low n r ws (omega (arith, less)) k

pub owed_own : (c : ℕ) (taking : Bool) (bytes : List ℕ) (sent number : ℕ) (r : PeerRecord)
    → owed_on c (taken_if taking c number bytes (owed_answer sent c number) r) ≤ owed_on c r + 1
owed_own c false bytes sent number r = omega arith
owed_own c true bytes sent number r = here (is_next number (expected r c)) (is_behind number (expected r c)) where
  one : (b : Bool) → one_if b ≤ 1
  one true = omega arith
  one false = omega arith

  here : (next behind : Bool) → owed_on c (message_if next behind c (expected r c) bytes (owed_answer sent c number) r) ≤ owed_on c r + 1
  here true behind = omega (arith, owed_more c (owed_answer sent c number) r.pending, one (c == c))
  here false true = omega (arith, owed_more c (owed_answer sent c number) r.pending, one (c == c))
  here false false = omega arith
