-- A side that gave and heard few messages stays so with each datagram that it reads, so each datagram is near.
use Rattle.std.proofs.Common.{◌≡◌, ◌≤◌, ◌+◌, ◌-◌, ◌%◌, ℕ, Bool, true, false, not, List, [], ◌∷◌, ◌++◌, length, map, Option, Some, None, refl, sym, ap, subst}
use Rattle.std.proofs.Common.{◌∙◌, arith}
use Rattle.std.specs.Prelude.{◌==◌, ◌&&◌, nat_lt, is_some}
use Rattle.std.specs.List.{filter, find}
use Rattle.std.proofs.lemmas.Bool.{and_parts, eqb-true, eqb-false}
use Rattle.std.proofs.lemmas.List.{append_assoc, length-append}
use Rattle.gs_enet.specs.declared.event.PeerEvent.{PeerEvent}
use Rattle.gs_enet.specs.declared.event.PeerEvent.TheVariants as event
use Rattle.gs_enet.specs.declared.state.PeerState.{PeerState}
use Rattle.gs_enet.specs.declared.state.PeerState.TheVariants as state
use Rattle.gs_enet.specs.declared.answer.Answer.{Answer}
use Rattle.gs_enet.specs.Record.{PeerRecord, Unacknowledged, Content, Connect, VerifyConnect, Disconnect, Message, GivenMessage, channels, control, given_on}
use Rattle.gs_enet.specs.Record.{heard}
use Rattle.gs_enet.specs.Record.{heard_count, given_count, messages_on, happened, owing, shut}
use Rattle.gs_enet.specs.Receive.{expected, distance, is_next, is_behind, is_connect, takes_messages, taken_if, message_if, verified, verify_if, disconnect_if}
use Rattle.gs_enet.specs.Receive.{connected, leave_if, acknowledged, is_named, acknowledged_if, owed_answer, command_received, all_received}
use Rattle.gs_enet.specs.Write.{Item, Answers, Orders, item_command, order_command}
use Rattle.gs_enet.specs.World.{IsNearOrder, IsNearItem, AreNear}
use Rattle.gs_enet.proofs.Lists.{Each}
use Rattle.gs_enet.proofs.Kept.{IsNoMessage, messages_on-other, messages_on-message, messages_on-apart}

-- few messages were given and heard on each channel
pub record IsCalm (r : PeerRecord) : Type 0 where
  pub heard_few : (c : ℕ) → heard_count r c ≤ 30000
  pub given_few : (c : ℕ) → given_count r c ≤ 30000

abbrev pub IsLowContent : Content → ℕ → Type 0
IsLowContent (Message bytes) number = number ≤ 30000
IsLowContent _ number = Unit {0}

-- a message that is written has a low number
abbrev pub IsLow : Item → Type 0
IsLow (Answers a) = Unit {0}
IsLow (Orders o) = IsLowContent o.content o.number

-- ---- near

near_order : (r : PeerRecord) (content : Content) (channel number : ℕ) → IsCalm r → IsLowContent content number → IsNearOrder r content channel number
near_order r (Message bytes) channel number calm low =
    let few = calm.heard_few channel in
    (omega (arith, low), omega (arith, few))
near_order r Connect channel number calm low = tt
near_order r VerifyConnect channel number calm low = tt
near_order r Disconnect channel number calm low = tt

near_item : (by r : PeerRecord) (x : Item) → IsCalm r → IsLow x → IsNearItem by r x
near_item by r (Answers a) calm low = λ below. let few = calm.given_few a.channel in omega (arith, few)
near_item by r (Orders o) calm low = near_order r o.content o.channel o.number calm low

-- ---- small changes

-- the same was given and heard
pub calm_same : (r s : PeerRecord) → s.given ≡ r.given → ((c : ℕ) → messages_on c (heard s) ≡ messages_on c (heard r)) → IsCalm r → IsCalm s
calm_same r s given same calm = record {
  heard_few = λ c. let few = calm.heard_few c in omega (arith, few, ap (λ (l : List (List ℕ)). length l) (same c));
  given_few = λ c. subst (λ (g : List GivenMessage). length (given_on c g) ≤ 30000) (sym given) (calm.given_few c);
}

quiet_heard : (e : PeerEvent) (r : PeerRecord) → IsNoMessage e → (c : ℕ) → messages_on c (heard (happened e r)) ≡ messages_on c (heard r)
quiet_heard e r quiet c =
    ap (messages_on c) (sym (append_assoc r.told r.waiting (e ∷ []))) ∙ messages_on-other c (heard r) e quiet

pub calm_quiet : (e : PeerEvent) (r : PeerRecord) → IsNoMessage e → IsCalm r → IsCalm (happened e r)
calm_quiet e r quiet calm = calm_same r (happened e r) refl (quiet_heard e r quiet) calm

-- ---- acknowledgements

calm_connected : (now : PeerState) (r : PeerRecord) → IsCalm r → IsCalm (connected now r)
calm_connected state.Accepting r calm = calm_quiet event.Connected (record r { state = state.Connected }) tt (calm_same r
    (record r { state = state.Connected }) refl (λ c. refl) calm)
calm_connected state.Connecting r calm = calm
calm_connected state.Connected r calm = calm
calm_connected state.Closing r calm = calm
calm_connected state.Shut r calm = calm

calm_leaving : (now : PeerState) (us : List Unacknowledged) (r : PeerRecord) → IsCalm r → IsCalm (leave_if now us r)
calm_leaving state.Closing [] r calm = record { heard_few = calm.heard_few; given_few = calm.given_few }
calm_leaving state.Closing (u ∷ us) r calm = calm
calm_leaving state.Connecting us r calm = calm
calm_leaving state.Accepting us r calm = calm
calm_leaving state.Connected us r calm = calm
calm_leaving state.Shut us r calm = calm

calm_acknowledged : (content : Content) (r : PeerRecord) → IsCalm r → IsCalm (acknowledged content r)
calm_acknowledged Connect r calm = calm
calm_acknowledged VerifyConnect r calm = calm_connected r.state r calm
calm_acknowledged (Message bytes) r calm = calm_leaving r.state r.unacknowledged r calm
calm_acknowledged Disconnect r calm =
    let h = calm_quiet event.Closed r tt calm in record { heard_few = h.heard_few; given_few = h.given_few }

calm_acknowledge : (o : Option Unacknowledged) (channel number : ℕ) (r : PeerRecord) → IsCalm r → IsCalm (acknowledged_if o channel number r)
calm_acknowledge None channel number r calm = calm
calm_acknowledge (Some u) channel number r calm =
    let less = record r { unacknowledged = filter (λ v. not (is_named channel number v)) r.unacknowledged } in
    calm_acknowledged u.order.content less (record { heard_few = calm.heard_few; given_few = calm.given_few })

-- ---- other commands

calm_owing : (a : Answer) (r : PeerRecord) → IsCalm r → IsCalm (owing a r)
calm_owing a r calm = record { heard_few = calm.heard_few; given_few = calm.given_few }

calm_verified : (now : PeerState) (peer : ℕ) (a : Answer) (r : PeerRecord) → IsCalm r → IsCalm (verified now peer a r)
calm_verified state.Connecting peer a r calm =
    let up = record r { state = state.Connected; other = Some peer; unacknowledged = filter (λ u. not (is_connect u.order)) r.unacknowledged } in
    calm_owing a (happened event.Connected up) (calm_quiet event.Connected up tt (record { heard_few = calm.heard_few; given_few = calm.given_few }))
calm_verified state.Connected peer a r calm = calm_owing a r calm
calm_verified state.Closing peer a r calm = calm_owing a r calm
calm_verified state.Accepting peer a r calm = calm
calm_verified state.Shut peer a r calm = calm

calm_verify : (own : Bool) (peer : ℕ) (a : Answer) (r : PeerRecord) → IsCalm r → IsCalm (verify_if own peer a r)
calm_verify true peer a r calm = calm_verified r.state peer a r calm
calm_verify false peer a r calm = calm

calm_disconnect : (again : Bool) (a : Answer) (r : PeerRecord) → IsCalm r → IsCalm (disconnect_if again a r)
calm_disconnect true a r calm = calm_owing a r calm
calm_disconnect false a r calm =
    let read = record r { disconnected = true } in
    let h = calm_quiet event.PeerClosed read tt (record { heard_few = calm.heard_few; given_few = calm.given_few }) in
    calm_owing a (shut (happened event.PeerClosed read)) (record { heard_few = h.heard_few; given_few = h.given_few })

-- ---- messages

-- the next message has a low number
same_number : (n e : ℕ) → n ≤ 30000 → e ≤ 30001 → (n % 65536 + 65536 - e % 65536) % 65536 ≡ 0 → e ≤ 30000
same_number n e low few d = omega arith

calm_told : (c n : ℕ) (bytes : List ℕ) (r : PeerRecord) → heard_count r c + 1 ≤ 30000 → IsCalm r → IsCalm (happened (event.Message c n bytes) r)
calm_told c n bytes r room calm = record { heard_few = count; given_few = calm.given_few } where
  told : (d : ℕ) → messages_on d (heard (happened (event.Message c n bytes) r)) ≡ messages_on d (heard r ++ event.Message c n bytes ∷ [])
  told d = ap (messages_on d) (sym (append_assoc r.told r.waiting (event.Message c n bytes ∷ [])))

  by : (d : ℕ) (b : Bool) → (c == d) ≡ b → length (messages_on d (heard r ++ event.Message c n bytes ∷ [])) ≤ 30000
  by d true e =
      let same : c ≡ d = eqb-true c d e in
      let own : length (messages_on c (heard r ++ event.Message c n bytes ∷ [])) ≡ heard_count r c + 1 =
      ap (λ (l : List (List ℕ)). length l) (messages_on-message c n bytes (heard r)) ∙ length-append (messages_on c (heard r)) (bytes ∷ []) in
      subst (λ (x : ℕ). length (messages_on x (heard r ++ event.Message c n bytes ∷ [])) ≤ 30000) same (omega (arith, own, room))
  by d false e =
      let other = messages_on-apart d c n bytes (heard r) (λ same. eqb-false c d e same) in
      let few = calm.heard_few d in
      omega (arith, few, ap (λ (l : List (List ℕ)). length l) other)

  count : (d : ℕ) → heard_count (happened (event.Message c n bytes) r) d ≤ 30000
  count d = let most = by d (c == d) refl in omega (arith, most, ap (λ (l : List (List ℕ)). length l) (told d))

calm_message : (next behind : Bool) (c n : ℕ) (bytes : List ℕ) (a : Answer) (r : PeerRecord) → is_next (n % 65536) (expected r c) ≡ next → n ≤ 30000
    → IsCalm r → IsCalm (message_if next behind c (expected r c) bytes a r)
calm_message true behind c n bytes a r is low calm =
    let parts = and_parts (distance (n % 65536) (expected r c) == 0) _ is in
    let zero' : distance (n % 65536) (expected r c) ≡ 0 = eqb-true (distance (n % 65536) (expected r c)) 0 parts.0 in
    let few = calm.heard_few c in
    let room : expected r c ≤ 30000 = same_number n (expected r c) low (omega (arith, few)) zero' in
    calm_owing a (happened (event.Message c (expected r c) bytes) r) (calm_told c (expected r c) bytes r room calm)
calm_message false true c n bytes a r is low calm = calm_owing a r calm
calm_message false false c n bytes a r is low calm = calm

calm_taken : (takes : Bool) (c n : ℕ) (bytes : List ℕ) (a : Answer) (r : PeerRecord) → n ≤ 30000 → IsCalm r → IsCalm (taken_if takes c (n % 65536) bytes a r)
calm_taken true c n bytes a r low calm =
    calm_message (is_next (n % 65536) (expected r c)) (is_behind (n % 65536) (expected r c)) c n bytes a r refl low calm
calm_taken false c n bytes a r low calm = calm

-- ---- datagrams

calm_order : (sent : ℕ) (content : Content) (channel number : ℕ) (by r : PeerRecord) → IsLowContent content number → IsCalm r
    → IsCalm (command_received sent (order_command content channel number by) r)
unfolding command_received
calm_order sent Connect channel number by r low calm = calm
calm_order sent VerifyConnect channel number by r low calm =
    calm_verify (is_some r.extra && (by.connect_id == r.connect_id)) by.own (owed_answer sent control (number % 65536)) r calm
calm_order sent Disconnect channel number by r low calm =
    calm_disconnect r.disconnected (record (owed_answer sent control (number % 65536)) { to_disconnect = true }) r calm
calm_order sent (Message bytes) channel number by r low calm =
    calm_taken (nat_lt channel channels && takes_messages r.state) channel number bytes (owed_answer sent channel (number % 65536)) r low calm

calm_item : (sent : ℕ) (by r : PeerRecord) (x : Item) → IsLow x → IsCalm r → IsCalm (command_received sent (item_command by x) r)
unfolding command_received
calm_item sent by r (Answers a) low calm = calm_acknowledge (find (is_named a.channel a.number) r.unacknowledged) a.channel a.number r calm
calm_item sent by r (Orders o) low calm = calm_order sent o.content o.channel o.number by r low calm

pub calm_is_near : (by : PeerRecord) (xs : List Item) (r : PeerRecord) → Each IsLow xs → IsCalm r → AreNear by xs r
calm_is_near by [] r low calm = tt
calm_is_near by (x ∷ xs) r low calm = (
  near_item by r x calm low.0,
  calm_is_near by xs (command_received (by.now % 65536) (item_command by x) r) low.1 (calm_item (by.now % 65536) by r x low.0 calm),
)

pub calm_all : (sent : ℕ) (by : PeerRecord) (xs : List Item) (r : PeerRecord) → Each IsLow xs → IsCalm r
    → IsCalm (all_received sent (map (item_command by) xs) r)
calm_all sent by [] r low calm = calm
calm_all sent by (x ∷ xs) r low calm = calm_all sent by xs (command_received sent (item_command by x) r) low.1 (calm_item sent by r x low.0 calm)
