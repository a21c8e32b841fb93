-- How what is kept goes on.
use Rattle.gs_bytes.proofs.Lists.{contains_behind}
use Rattle.std.proofs.Common.{◌≡◌, ◌⊎◌, ◌≤◌, ◌+◌, ℕ, suc, List, [], ◌∷◌, ◌++◌, length, refl, sym, ap, subst, ◌∙◌, arith, inl, inr}
use Rattle.std.specs.Prelude.{Contains}
use Rattle.std.proofs.lemmas.Bool.{cases_eq}
use Rattle.std.proofs.lemmas.List.{append_assoc, length-append}
use Rattle.std.proofs.lemmas.List.Elements.{Contains-push_cases}
use Rattle.gs_enet.specs.declared.event.PeerEvent.{PeerEvent}
use Rattle.gs_enet.specs.declared.event.PeerEvent.TheVariants as event
use Rattle.gs_enet.specs.declared.state.PeerState.{PeerState}
use Rattle.gs_enet.specs.declared.answer.Answer.{Answer}
use Rattle.gs_enet.specs.Record.{Content, Connect, VerifyConnect, Disconnect, Message, Order, GivenMessage, given_on, messages_on}
use Rattle.gs_enet.specs.Write.{Item, Answers, Orders}
use Rattle.gs_enet.specs.World.{Written}
use Rattle.gs_bytes.specs.Prefix.{IsPrefixOf}
use Rattle.gs_enet.proofs.Lists.{Each, each_weaker}
use Rattle.gs_enet.proofs.Kept.{Kept, IsDone, IsOver, IsShut, IsAt, Says, IsHeld, Has, IsTrueAnswer, IsTrueOrder, IsFewer, OrdersOut, AnswersOut, NothingAfter}
use Rattle.gs_enet.proofs.Kept.{IsLast, IsNoMessage, count_of, messages_on-other, messages_on-message, messages_on-apart}

says_more : (gv : List GivenMessage) (hr hr' : List PeerEvent) (sg sg' : PeerState) → (IsDone gv hr sg → IsDone gv hr' sg') → (content : Content) (c n : ℕ)
    → Says gv hr sg content c n → Says gv hr' sg' content c n
says_more gv hr hr' sg sg' done (Message bytes) c n h = h
says_more gv hr hr' sg sg' done Disconnect c n h = (h.0, done h.1)
says_more gv hr hr' sg sg' done Connect c n h = h
says_more gv hr hr' sg sg' done VerifyConnect c n h = h

item_more : (gv : List GivenMessage) (hr hr' : List PeerEvent) (sg sg' : PeerState) → (IsDone gv hr sg → IsDone gv hr' sg') → (x : Item)
    → IsTrueOrder gv hr sg x → IsTrueOrder gv hr' sg' x
item_more gv hr hr' sg sg' done (Orders o) h = says_more gv hr hr' sg sg' done o.content o.channel o.number h
item_more gv hr hr' sg sg' done (Answers a) h = tt

orders_more : (gv : List GivenMessage) (hr hr' : List PeerEvent) (sg sg' : PeerState) → (IsDone gv hr sg → IsDone gv hr' sg') → (ws : List Written)
    → Each (OrdersOut gv hr sg) ws → Each (OrdersOut gv hr' sg') ws
orders_more gv hr hr' sg sg' done ws =
    each_weaker (OrdersOut gv hr sg) (OrdersOut gv hr' sg')
    (λ w h. each_weaker (IsTrueOrder gv hr sg) (IsTrueOrder gv hr' sg') (item_more gv hr hr' sg sg' done) w.items h) ws

held_more : (gv : List GivenMessage) (hr hr' : List PeerEvent) (sg sg' : PeerState) → (IsDone gv hr sg → IsDone gv hr' sg') → (os : List Order)
    → Each (IsHeld gv hr sg) os → Each (IsHeld gv hr' sg') os
held_more gv hr hr' sg sg' done os =
    each_weaker (IsHeld gv hr sg) (IsHeld gv hr' sg') (λ o h. (says_more gv hr hr' sg sg' done o.content o.channel o.number h.0, h.1)) os

done_more : (gv : List GivenMessage) (hr hr' : List PeerEvent) (sg : PeerState) → IsFewer hr hr' → IsDone gv hr sg → IsDone gv hr' sg
done_more gv hr hr' sg fewer d = record { all = λ c. omega (arith, d.all c, fewer c); over = d.over }

pub answer_more : (hr hr' : List PeerEvent) → IsFewer hr hr' → (a : Answer) → IsTrueAnswer hr a → IsTrueAnswer hr' a
answer_more hr hr' fewer a h below = let had = h below in (had.0, omega (arith, had.1, fewer a.channel), had.2)

-- the reader hears more, and owes other answers
pub hears : {gv : List GivenMessage} {os : List Order} {sg : PeerState} {hg : List PeerEvent} {wg : List Written} {hr : List PeerEvent} {pr : List Answer}
    {sr : PeerState} {wr : List Written}
    (hr' : List PeerEvent) (pr' : List Answer) (sr' : PeerState) → Kept gv os sg hg wg hr pr sr wr → IsFewer hr hr'
    → ((c : ℕ) → IsPrefixOf (messages_on c hr') (given_on c gv)) → Each (IsTrueAnswer hr') pr'
    → (Contains hr' event.PeerClosed → IsDone gv hr' sg × IsShut sr') → IsLast hr'
    → Kept gv os sg hg wg hr' pr' sr' wr
hears {gv = gv} {os = os} {sg = sg} {wg = wg} {hr = hr} {wr = wr} hr' pr' sr' k fewer in_order owed peer_closed last =
    let done : IsDone gv hr sg → IsDone gv hr' sg = done_more gv hr hr' sg fewer in
    record {
      in_order = in_order;
      outside = k.outside;
      held = held_more gv hr hr' sg sg done os k.held;
      covered = λ c n least most. elim (k.covered c n least most) [ inl below ↦ inl (omega (arith, below, fewer c)) | inr has ↦ inr has ];
      owed = owed;
      orders_out = orders_more gv hr hr' sg sg done wg k.orders_out;
      answers_out = each_weaker (AnswersOut hr) (AnswersOut hr') (λ w h. (λ c. omega (arith, h.0 c, fewer c), h.1)) wr k.answers_out;
      peer_closed = peer_closed;
      closed = λ has. done (k.closed has);
      last = last;
    }

-- the giver holds other commands, is in another state, and hears other events
pub moves : {gv : List GivenMessage} {os : List Order} {sg : PeerState} {hg : List PeerEvent} {wg : List Written} {hr : List PeerEvent} {pr : List Answer}
    {sr : PeerState} {wr : List Written}
    (os' : List Order) (sg' : PeerState) (hg' : List PeerEvent) → Kept gv os sg hg wg hr pr sr wr → (IsOver sg → IsOver sg')
    → Each (IsHeld gv hr sg') os' → ((c n : ℕ) → 1 ≤ n → n ≤ length (given_on c gv) → (n ≤ count_of c hr) ⊎ Has c n os')
    → (Contains hg' event.Closed → IsDone gv hr sg')
    → Kept gv os' sg' hg' wg hr pr sr wr
moves {gv = gv} {sg = sg} {wg = wg} {hr = hr} os' sg' hg' k over held covered closed =
    let done : IsDone gv hr sg → IsDone gv hr sg' = λ d. record { all = d.all; over = over d.over } in
    record {
      in_order = k.in_order;
      outside = k.outside;
      held = held;
      covered = covered;
      owed = k.owed;
      orders_out = orders_more gv hr hr sg sg' done wg k.orders_out;
      answers_out = k.answers_out;
      peer_closed = λ has. let had = k.peer_closed has in (done had.0, had.1);
      closed = closed;
      last = k.last;
    }

pub is_held_more : (gv : List GivenMessage) (hr : List PeerEvent) (sg sg' : PeerState) → (IsOver sg → IsOver sg') → (os : List Order)
    → Each (IsHeld gv hr sg) os → Each (IsHeld gv hr sg') os
is_held_more gv hr sg sg' over os = held_more gv hr hr sg sg' (λ d. record { all = d.all; over = over d.over }) os

-- the giver is in another state and hears an event
pub turns : {gv : List GivenMessage} {os : List Order} {sg : PeerState} {hg : List PeerEvent} {wg : List Written} {hr : List PeerEvent} {pr : List Answer}
    {sr : PeerState} {wr : List Written}
    (sg' : PeerState) (e : PeerEvent) → Kept gv os sg hg wg hr pr sr wr → (IsOver sg → IsOver sg') → (e ≡ event.Closed → IsDone gv hr sg')
    → Kept gv os sg' (hg ++ e ∷ []) wg hr pr sr wr
turns {gv = gv} {os = os} {sg = sg} {hg = hg} {hr = hr} sg' e k over now =
    moves os sg' (hg ++ e ∷ []) k over (is_held_more gv hr sg sg' over os k.held) k.covered
    (λ has. elim (Contains-push_cases hg e event.Closed has) [
      | inl before ↦ (let d = k.closed before in record { all = d.all; over = over d.over })
      | inr last ↦ now last
    ])

-- ---- what the reader hears

last_push : (hr : List PeerEvent) (e : PeerEvent) → IsNoMessage e → IsLast hr → IsLast (hr ++ e ∷ [])
last_push [] e quiet h = (nothing_after e, tt) where
  nothing_after : (e : PeerEvent) → NothingAfter e []
  nothing_after event.PeerClosed = λ c. refl
  nothing_after event.Connected = tt
  nothing_after event.Closed = tt
  nothing_after (event.Message c n bytes) = tt
  nothing_after (event.Lost c n) = tt
last_push (event.PeerClosed ∷ hr) e quiet h = (λ c. messages_on-other c hr e quiet ∙ h.0 c, last_push hr e quiet h.1)
last_push (event.Connected ∷ hr) e quiet h = (tt, last_push hr e quiet h.1)
last_push (event.Closed ∷ hr) e quiet h = (tt, last_push hr e quiet h.1)
last_push (event.Message c n bytes ∷ hr) e quiet h = (tt, last_push hr e quiet h.1)
last_push (event.Lost c n ∷ hr) e quiet h = (tt, last_push hr e quiet h.1)

last_message : (hr : List PeerEvent) (c n : ℕ) (bytes : List ℕ) → (Contains hr event.PeerClosed → ⊥) → IsLast hr → IsLast (hr ++ event.Message c n bytes ∷ [])
last_message [] c n bytes none h = (tt, tt)
last_message (event.PeerClosed ∷ hr) c n bytes none h = absurd (none (0, omega arith, refl))
last_message (event.Connected ∷ hr) c n bytes none h = (tt, last_message hr c n bytes (λ has. none (contains_behind _ hr _ has)) h.1)
last_message (event.Closed ∷ hr) c n bytes none h = (tt, last_message hr c n bytes (λ has. none (contains_behind _ hr _ has)) h.1)
last_message (event.Message d m other ∷ hr) c n bytes none h = (tt, last_message hr c n bytes (λ has. none (contains_behind _ hr _ has)) h.1)
last_message (event.Lost d m ∷ hr) c n bytes none h = (tt, last_message hr c n bytes (λ has. none (contains_behind _ hr _ has)) h.1)

-- an event that is no message
pub hears_other : {gv : List GivenMessage} {os : List Order} {sg : PeerState} {hg : List PeerEvent} {wg : List Written} {hr : List PeerEvent} {pr : List Answer}
    {sr : PeerState} {wr : List Written}
    (sr' : PeerState) (e : PeerEvent) → Kept gv os sg hg wg hr pr sr wr → IsNoMessage e → (IsShut sr → IsShut sr')
    → (e ≡ event.PeerClosed → IsDone gv hr sg × IsShut sr')
    → Kept gv os sg hg wg (hr ++ e ∷ []) pr sr' wr
hears_other {gv = gv} {sg = sg} {hr = hr} {pr = pr} sr' e k quiet shut now =
    let same : (c : ℕ) → messages_on c (hr ++ e ∷ []) ≡ messages_on c hr = λ c. messages_on-other c hr e quiet in
    let fewer : IsFewer hr (hr ++ e ∷ []) = λ c. omega (arith, ap length (same c)) in
    let done : IsDone gv hr sg → IsDone gv (hr ++ e ∷ []) sg = done_more gv hr (hr ++ e ∷ []) sg fewer in
    hears (hr ++ e ∷ []) pr sr' k fewer (λ c. subst (λ (ms : List (List ℕ)). IsPrefixOf ms (given_on c gv)) (sym (same c)) (k.in_order c))
    (each_weaker (IsTrueAnswer hr) (IsTrueAnswer (hr ++ e ∷ [])) (answer_more hr (hr ++ e ∷ []) fewer) pr k.owed)
    (λ has. elim (Contains-push_cases hr e event.PeerClosed has) [
      | inl before ↦ (let had = k.peer_closed before in (done had.0, shut had.1))
      | inr last ↦ (let had = now last in (done had.0, had.1))
    ])
    (last_push hr e quiet k.last)

-- one more answer, and a state in which what was over is over
pub owes : {gv : List GivenMessage} {os : List Order} {sg : PeerState} {hg : List PeerEvent} {wg : List Written} {hr : List PeerEvent} {pr : List Answer}
    {sr : PeerState} {wr : List Written}
    (pr' : List Answer) (sr' : PeerState) → Kept gv os sg hg wg hr pr sr wr → Each (IsTrueAnswer hr) pr' → (IsShut sr → IsShut sr')
    → Kept gv os sg hg wg hr pr' sr' wr
owes {hr = hr} pr' sr' k owed shut =
    hears hr pr' sr' k (λ c. omega arith) k.in_order owed (λ has. let had = k.peer_closed has in (had.0, shut had.1)) k.last

-- a front as long as another, of one list
pub same_front : (front rest front' rest' : List (List ℕ)) → front ++ rest ≡ front' ++ rest' → length front ≡ length front' → front ≡ front'
same_front [] rest [] rest' e l = refl
same_front [] rest (y ∷ ys) rest' e l = absurd (omega (arith, l))
same_front (x ∷ xs) rest [] rest' e l = absurd (omega (arith, l))
same_front (x ∷ xs) rest (y ∷ ys) rest' e l =
    let heads : x ≡ y = cc in
    let tails : xs ++ rest ≡ ys ++ rest' = cc in
    let fronts : xs ≡ ys = same_front xs rest ys rest' tails (omega (arith, l)) in
    cc

pub grown : (known rest given : List (List ℕ)) (n : ℕ) (bytes : List ℕ) → given ≡ known ++ rest → n ≡ length known + 1 → IsAt given n bytes
    → IsPrefixOf (known ++ bytes ∷ []) given
grown known rest given n bytes e count place =
    let same : known ≡ place.front = same_front known rest place.front (bytes ∷ place.rest) (sym e ∙ place.parts) (omega (arith, place.at, count)) in
    (place.rest, place.parts ∙ ap (λ (w : List (List ℕ)). w ++ bytes ∷ place.rest) (sym same) ∙ sym (append_assoc known (bytes ∷ []) place.rest))

-- the next message of a channel
pub hears_message : {gv : List GivenMessage} {os : List Order} {sg : PeerState} {hg : List PeerEvent} {wg : List Written} {hr : List PeerEvent}
    {pr : List Answer}
    {sr : PeerState} {wr : List Written}
    (c n : ℕ) (bytes : List ℕ) → Kept gv os sg hg wg hr pr sr wr → (IsShut sr → ⊥) → n ≡ count_of c hr + 1 → IsAt (given_on c gv) n bytes
    → Kept gv os sg hg wg (hr ++ event.Message c n bytes ∷ []) pr sr wr
hears_message {gv = gv} {sg = sg} {hr = hr} {pr = pr} {sr = sr} c n bytes k going next place =
    let hr' : List PeerEvent = hr ++ event.Message c n bytes ∷ [] in
    let own : messages_on c hr' ≡ messages_on c hr ++ bytes ∷ [] = messages_on-message c n bytes hr in
    let apart : (d : ℕ) → (c ≡ d → ⊥) → messages_on d hr' ≡ messages_on d hr = λ d. messages_on-apart d c n bytes hr in
    let fewer : IsFewer hr hr' = λ d. elim (cases_eq c d) [
      | inl same ↦ subst (λ (x : ℕ). count_of x hr ≤ count_of x hr') same (omega (arith, ap length own, length-append (messages_on c hr) (bytes ∷ [])))
      | inr other ↦ omega (arith, ap length (apart d other))
    ] in
    let not_closed : Contains hr event.PeerClosed → ⊥ = λ has. going (k.peer_closed has).1 in
    let extended : (d : ℕ) → IsPrefixOf (messages_on d hr') (given_on d gv) = λ d. elim (cases_eq c d) [
      | inl same ↦ subst (λ (x : ℕ). IsPrefixOf (messages_on x hr') (given_on x gv)) same
          (subst (λ (ms : List (List ℕ)). IsPrefixOf ms (given_on c gv)) (sym own)
          (grown (messages_on c hr) (k.in_order c).0 (given_on c gv) n bytes (k.in_order c).1 next place))
      | inr other ↦ subst (λ (ms : List (List ℕ)). IsPrefixOf ms (given_on d gv)) (sym (apart d other)) (k.in_order d)
    ] in
    hears hr' pr sr k fewer extended
    (each_weaker (IsTrueAnswer hr) (IsTrueAnswer hr') (answer_more hr hr' fewer) pr k.owed)
    (λ has. elim (Contains-push_cases hr (event.Message c n bytes) event.PeerClosed has) [
      | inl before ↦ absurd (not_closed before)
      | inr last ↦ absurd cc
    ])
    (last_message hr c n bytes not_closed k.last)
