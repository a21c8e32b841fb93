-- What a peer that reads an acknowledgement stands for.
use Rattle.std.proofs.Common.{◌≡◌, ◌≢◌, ◌⊎◌, ◌<◌, ◌≤◌, ◌+◌, ◌-◌, ◌%◌, ◌^◌, ℕ, zero, suc, Bool, true, false, not, cond, List, [], ◌∷◌, ◌++◌, length, map, get_or}
use Rattle.std.proofs.Common.{set, Option, Some, None, refl, sym, ap, subst, ◌∙◌, arith, inl, inr}
use Rattle.std.specs.Prelude.{◌==◌, ◌&&◌, ◌||◌, nat_le, nat_lt, is_some, IsSome}
use Rattle.std.specs.List.{All, AllZip, list_any, find, filter}
use Rattle.std.proofs.lemmas.Bool.{cond-true, cond-false, false≢true, eq-eqb, ne_eqb, cases_eq, cases_Bool, and_from, or_from, or_left, or_right, and_left}
use Rattle.std.proofs.lemmas.Bool.{and_right, lt-leb, le-leb, lt-ltb}
use Rattle.std.proofs.lemmas.List.{append_assoc, append-nil, length-append, get_or-set_same, get_or-set_other, length-set}
use Rattle.std.proofs.lemmas.List.Elements.{All-head, All-tail, All-cons, All-nil, length_all_zip, filter-append}
use Rattle.std.proofs.lemmas.List.Folds.{list_any-append, find-append}
use Rattle.gs_enet.specs.declared.answer.Answer.{Answer}
use Rattle.gs_enet.specs.declared.held.Held.{Held}
use Rattle.gs_enet.specs.declared.channel.Channel.{Channel}
use Rattle.gs_enet.specs.declared.control.Control.{Control}
use Rattle.std.specs.Option.{option_to_list, option_map, option_or}
use Rattle.gs_enet.specs.declared.event.PeerEvent.{PeerEvent}
use Rattle.gs_enet.specs.declared.event.PeerEvent.TheVariants as event
use Rattle.gs_enet.specs.declared.state.PeerState.{PeerState}
use Rattle.gs_enet.specs.declared.state.PeerState.TheVariants as state
use Rattle.gs_enet.specs.Record.{PeerRecord, Unacknowledged, Content, Connect, VerifyConnect, Disconnect, Message, channels, control, last_number, given_on}
use Rattle.gs_enet.specs.Record.{messages_on, heard, heard_count, is_shut, shut, happened, owing, fresh}
use Rattle.gs_enet.specs.Receive.{leave_if, leaving, is_named, acknowledged, acknowledged_if, acknowledge_came, disconnect_if, disconnect_came, connected}
use Rattle.gs_enet.specs.Receive.{takes_messages, expected, distance, is_behind, message_if, taken_if, message_came, is_connect_content, is_connect, verify_if}
use Rattle.gs_enet.specs.Receive.{verified, verify_came}
use Rattle.gs_enet.specs.Steps.{next_number, is_full, is_open, with_message, close_if, closed, placed, first_event, next_event, telling, timed_if, timed_at}
use Rattle.gs_enet.specs.Steps.{name_of, had_last_wait, due_again}
use Rattle.gs_enet.specs.Window.{unacknowledged, in_window, front_is_held}
use Rattle.gs_enet.specs.Channels.{next_of, channel_held, all_held, is_channel_full, AreEmpty, GivesOne, SameHeld, MarksDue, DropsNamed}
use Rattle.gs_enet.specs.Controls.{content_of, unacknowledged_control, control_held, is_closing, is_accepting}
use Rattle.gs_enet.specs.Events.{IsQuiet}
use Rattle.gs_enet.specs.Standing.{HasCounts, IsPeerOf, held_by}
use Rattle.gs_enet.specs.declared.peer.Peer.{Peer}
use Rattle.gs_enet.proofs.Lists.{Each, each_weaker, each_append, each_find}
use Rattle.gs_enet.proofs.Kept.{IsNoMessage, messages_on-other, messages_on-message, messages_on-apart, giving, given_on-own, given_on-apart}
use Rattle.gs_enet.proofs.Flat.{before, behind, split_at, split_set, before-below, behind-from, placed_last, same_counts, all_held-from, all_held-below}
use Rattle.gs_enet.proofs.Flat.{channel_held-on, IsOn, IsMessage, IsBelow, IsFrom, find_past}
use Rattle.gs_enet.proofs.Standings.{counts_set, sends_none, sizes, control-on}

find_before : (test : Unacknowledged → Bool) (xs ys : List Unacknowledged) → find test ys ≡ None → find test (xs ++ ys) ≡ find test xs
find_before test xs ys none = find-append test xs ys ∙ ap (option_or (find test xs)) none ∙ or_none (find test xs) where
  or_none : (o : Option Unacknowledged) → option_or o None ≡ o
  or_none None = refl
  or_none (Some u) = refl

-- nothing of another channel is named
unnamed : (c number : ℕ) (P : Unacknowledged → Type 0) → ((u : Unacknowledged) → P u → u.order.channel ≡ c → ⊥) → (us : List Unacknowledged) → Each P us
    → (find (is_named c number) us ≡ None) × (filter (λ (v : Unacknowledged). not (is_named c number v)) us ≡ us)
unnamed c number P apart [] h = (refl, refl)
unnamed c number P apart (u ∷ us) h =
    let rest = unnamed c number P apart us h.1 in
    let other : is_named c number u ≡ false = and_left (u.order.channel == c) _ (ne_eqb u.order.channel c (apart u h.0)) in (
      cond-false (is_named c number u) _ _ other ∙ rest.0,
      cond-true (not (is_named c number u)) _ _ (ap not other) ∙ ap (λ (vs : List Unacknowledged). u ∷ vs) rest.1,
    )

none_named : (c number : ℕ) (us : List Unacknowledged) → find (is_named c number) us ≡ None → filter (λ (v : Unacknowledged). not (is_named c number v)) us ≡ us
none_named c number [] e = refl
none_named c number (u ∷ us) e = here (is_named c number u) refl e (λ rest. none_named c number us rest) where
  here : (b : Bool) → is_named c number u ≡ b → cond b (Some u) (find (is_named c number) us) ≡ None
      → (find (is_named c number) us ≡ None → filter (λ (v : Unacknowledged). not (is_named c number v)) us ≡ us)
      → cond (not (is_named c number u)) (u ∷ filter (λ (v : Unacknowledged). not (is_named c number v)) us)
      (filter (λ (v : Unacknowledged). not (is_named c number v)) us) ≡ u ∷ us
  here true is clash go = absurd cc
  here false is rest go = cond-true (not (is_named c number u)) _ _ (ap not is) ∙ ap (λ (vs : List Unacknowledged). u ∷ vs) (go rest)

none_is : (o : Option Unacknowledged) → is_some o ≡ false → o ≡ None
none_is None e = refl
none_is (Some u) e = absurd (false≢true (sym e))

some_is : (o : Option Unacknowledged) → is_some o ≡ true → (u : Unacknowledged) × (o ≡ Some u)
some_is None e = absurd (false≢true e)
some_is (Some u) e = (u, refl)

abbrev dropped : ℕ → ℕ → PeerRecord → PeerRecord
dropped c number r = record r { unacknowledged = filter (λ (v : Unacknowledged). not (is_named c number v)) r.unacknowledged }

ack_found : (c number : ℕ) (r : PeerRecord) (u : Unacknowledged) → find (is_named c number) r.unacknowledged ≡ Some u
    → acknowledge_came c number r ≡ acknowledged u.order.content (dropped c number r)
ack_found c number r u e = ap (λ (o : Option Unacknowledged). acknowledged_if o c number r) e

ack_none : (c number : ℕ) (r : PeerRecord) → find (is_named c number) r.unacknowledged ≡ None → acknowledge_came c number r ≡ r
ack_none c number r e = ap (λ (o : Option Unacknowledged). acknowledged_if o c number r) e

-- what a channel's acknowledgement finds and leaves among all
channel_named : (p : Peer) (c number : ℕ) (d : Channel) → c < 48
    → (find (is_named c number) (held_by p) ≡ find (is_named c number) (channel_held c (get_or p.channels.items c d)))
    × (filter (λ (v : Unacknowledged). not (is_named c number v)) (held_by p)
    ≡ control_held p.control ++ (before c p.channels.items ++ (filter (λ (v : Unacknowledged). not (is_named c number v))
    (channel_held c (get_or p.channels.items c d)) ++ behind c p.channels.items)))
channel_named p c number d below =
    let chs : List Channel = p.channels.items in
    let keep : Unacknowledged → Bool = λ (v : Unacknowledged). not (is_named c number v) in
    let own : List Unacknowledged = channel_held c (get_or chs c d) in
    let lt : c < length chs = omega (arith, sizes p, below) in
    let k = unnamed c number (λ (v : Unacknowledged). v.order.channel ≡ 255) (λ u at e. omega (arith, at, e, below)) (control_held p.control)
    (control-on p.control) in
    let b = unnamed c number (IsBelow c) (λ u h e. omega (arith, h.0, e)) (before c chs) (before-below c chs lt) in
    let a = unnamed c number (IsFrom (suc c)) (λ u h e. omega (arith, h.0, e)) (behind c chs) (behind-from c chs) in
    let split : held_by p ≡ control_held p.control ++ (before c chs ++ (own ++ behind c chs)) =
    ap (λ (us : List Unacknowledged). control_held p.control ++ us) (split_at c chs d lt) in (
      ap (find (is_named c number)) split ∙ find_past (is_named c number) (control_held p.control) (before c chs ++ (own ++ behind c chs)) k.0
          ∙ find_past (is_named c number) (before c chs) (own ++ behind c chs) b.0 ∙ find_before (is_named c number) own (behind c chs) a.0,
      ap (filter keep) split ∙ filter-append keep (control_held p.control) (before c chs ++ (own ++ behind c chs))
          ∙ ap (λ (us : List Unacknowledged). us ++ filter keep (before c chs ++ (own ++ behind c chs))) k.1
          ∙ ap (λ (us : List Unacknowledged). control_held p.control ++ us)
          (filter-append keep (before c chs) (own ++ behind c chs) ∙ ap (λ (us : List Unacknowledged). us ++ filter keep (own ++ behind c chs)) b.1
          ∙ ap (λ (us : List Unacknowledged). before c chs ++ us) (filter-append keep own (behind c chs)
          ∙ ap (λ (us : List Unacknowledged). filter keep own ++ us) a.1)),
    )

-- a message of a channel is acknowledged: what it leaves, before the side may leave
pub channel_drops : (p : Peer) (r : PeerRecord) (c place number : ℕ) (old new : Channel) → IsPeerOf p r → c < 48 → place ≡ c
    → old ≡ get_or p.channels.items place old → DropsNamed number true old new
    → (acknowledge_came c number r ≡ leaving (dropped c number r)) × HasCounts (dropped c number r) (set p.channels.items place new)
    × ((dropped c number r).unacknowledged ≡ control_held p.control ++ all_held 0 (set p.channels.items place new))
channel_drops p r c place number old new s below at was drops =
    let chs : List Channel = p.channels.items in
    let keep : Unacknowledged → Bool = λ (v : Unacknowledged). not (is_named c number v) in
    let lt : place < length chs = omega (arith, sizes p, at, below) in
    let read : old ≡ get_or chs c old = was ∙ ap (λ (i : ℕ). get_or chs i old) at in
    let parts = channel_named p c number old below in
    let there = some_is (find (is_named c number) (channel_held c old)) (drops.found c) in
    let found : find (is_named c number) r.unacknowledged ≡ Some there.0 =
    ap (find (is_named c number)) s.unacknowledged ∙ parts.0 ∙ ap (λ (x : Channel). find (is_named c number) (channel_held c x)) (sym read) ∙ there.1 in
    let is_message = (each_find (IsOn c (next_of old)) (is_named c number) (channel_held c old) there.0 (channel_held-on c old) there.1).0 in
    let had = s.counts place old lt in (
      ack_found c number r there.0 found ∙ message_leaves there.0.order.content is_message.2 (dropped c number r),
      counts_set r (dropped c number r) chs place new s.counts
          (drops.same.next ∙ ap next_of was ∙ had.0, drops.same.heard ∙ ap (λ (ch : Channel). ch.heard) was ∙ had.1) (λ k apart. (refl, refl)),
      ap (filter keep) s.unacknowledged ∙ parts.1
          ∙ ap (λ (us : List Unacknowledged). control_held p.control ++ us)
          (ap (λ (us : List Unacknowledged). before c chs ++ (us ++ behind c chs))
          (ap (λ (x : Channel). filter keep (channel_held c x)) (sym read) ∙ sym (drops.held c))
          ∙ sym (split_set c chs new (omega (arith, lt, at))) ∙ ap (λ (i : ℕ). all_held 0 (set chs i new)) (sym at)),
    )
  where
    message_leaves : (content : Content) → IsMessage content → (t : PeerRecord) → acknowledged content t ≡ leaving t
    message_leaves (Message bytes) h t = refl
    message_leaves Connect h t = absurd h
    message_leaves VerifyConnect h t = absurd h
    message_leaves Disconnect h t = absurd h

pub channel_keeps : (p : Peer) (r : PeerRecord) (c place number : ℕ) (old new : Channel) → IsPeerOf p r → c < 48 → place ≡ c
    → old ≡ get_or p.channels.items place old → DropsNamed number false old new
    → (acknowledge_came c number r ≡ r) × HasCounts r (set p.channels.items place new)
    × (r.unacknowledged ≡ control_held p.control ++ all_held 0 (set p.channels.items place new))
channel_keeps p r c place number old new s below at was drops =
    let chs : List Channel = p.channels.items in
    let read : old ≡ get_or chs c old = was ∙ ap (λ (i : ℕ). get_or chs i old) at in
    let none : find (is_named c number) (channel_held c old) ≡ None = none_is (find (is_named c number) (channel_held c old)) (drops.found c) in
    let parts = channel_named p c number old below in
    let lost : find (is_named c number) r.unacknowledged ≡ None =
    ap (find (is_named c number)) s.unacknowledged ∙ parts.0 ∙ ap (λ (x : Channel). find (is_named c number) (channel_held c x)) (sym read) ∙ none in
    let same : SameHeld old new = record {
      same = drops.same;
      held = λ k. drops.held k ∙ none_named k number (channel_held k old) (none_is (find (is_named k number) (channel_held k old)) (drops.found k));
    } in
    let kept = sends_none p r c place old new s below at was same in
    (ack_none c number r lost, kept.0, kept.1)

-- neither the control channel nor a channel of messages
pub nowhere_named : (p : Peer) (r : PeerRecord) (c number : ℕ) → IsPeerOf p r → 48 ≤ c → (c ≡ 255 → ⊥) → acknowledge_came c number r ≡ r
nowhere_named p r c number s above apart =
    let k = unnamed c number (λ (v : Unacknowledged). v.order.channel ≡ 255) (λ u at e. apart (sym e ∙ at)) (control_held p.control) (control-on p.control) in
    let m = unnamed c number (IsBelow 48) (λ u h e. omega (arith, h.0, e, above)) (all_held 0 p.channels.items)
    (all_held-below 0 48 p.channels.items (omega (arith, sizes p))) in
    ack_none c number r (ap (find (is_named c number)) s.unacknowledged ∙ find_past (is_named c number) (control_held p.control)
    (all_held 0 p.channels.items) k.0 ∙ m.0)

-- the control channel's command
pub control_kept : (p : Peer) (r : PeerRecord) (number : ℕ) → IsPeerOf p r → find (is_named 255 number) (control_held p.control) ≡ None
    → acknowledge_came 255 number r ≡ r
control_kept p r number s none =
    let m = unnamed 255 number (IsBelow 48) (λ u h e. omega (arith, h.0, e)) (all_held 0 p.channels.items)
    (all_held-below 0 48 p.channels.items (omega (arith, sizes p))) in
    ack_none 255 number r (ap (find (is_named 255 number)) s.unacknowledged
    ∙ find_past (is_named 255 number) (control_held p.control) (all_held 0 p.channels.items) none ∙ m.0)

pub control_dropped : (p : Peer) (r : PeerRecord) (number : ℕ) (k : Control) → IsPeerOf p r → p.control ≡ Some k → (k.number % 65536 == number) ≡ true
    → (acknowledge_came 255 number r ≡ acknowledged (content_of k.kind) (dropped 255 number r))
    × ((dropped 255 number r).unacknowledged ≡ control_held None ++ all_held 0 p.channels.items)
control_dropped p r number k s is hit =
    let keep : Unacknowledged → Bool = λ (v : Unacknowledged). not (is_named 255 number v) in
    let m = unnamed 255 number (IsBelow 48) (λ u h e. omega (arith, h.0, e)) (all_held 0 p.channels.items)
    (all_held-below 0 48 p.channels.items (omega (arith, sizes p))) in
    let u : Unacknowledged = unacknowledged_control k in
    let named : is_named 255 number u ≡ true = hit in
    let all : r.unacknowledged ≡ u ∷ all_held 0 p.channels.items = s.unacknowledged
    ∙ ap (λ (x : Option Control). control_held x ++ all_held 0 p.channels.items) is in (
      ack_found 255 number r u (ap (find (is_named 255 number)) all ∙ cond-true (is_named 255 number u) (Some u) _ named),
      ap (filter keep) all ∙ cond-false (not (is_named 255 number u)) _ _ (ap not named) ∙ m.1,
    )

connected_if : (s : PeerState) (r : PeerRecord) → is_accepting s ≡ true → connected s r ≡ happened event.Connected (record r { state = state.Connected })
connected_if state.Accepting r e = refl
connected_if state.Connecting r e = absurd (false≢true e)
connected_if state.Connected r e = absurd (false≢true e)
connected_if state.Closing r e = absurd (false≢true e)
connected_if state.Shut r e = absurd (false≢true e)

connected_not : (s : PeerState) (r : PeerRecord) → is_accepting s ≡ false → connected s r ≡ r
connected_not state.Accepting r e = absurd (false≢true (sym e))
connected_not state.Connecting r e = refl
connected_not state.Connected r e = refl
connected_not state.Closing r e = refl
connected_not state.Shut r e = refl

pub connected-accepting : (r : PeerRecord) (s : PeerState) → r.state ≡ s → is_accepting s ≡ true
    → connected r.state r ≡ happened event.Connected (record r { state = state.Connected })
connected-accepting r s is e = connected_if r.state r (ap is_accepting is ∙ e)

pub connected-other : (r : PeerRecord) (s : PeerState) → r.state ≡ s → is_accepting s ≡ false → connected r.state r ≡ r
connected-other r s is e = connected_not r.state r (ap is_accepting is ∙ e)

pub control_unnamed : (p : Peer) (r : PeerRecord) (number : ℕ) (k : Control) → IsPeerOf p r → p.control ≡ Some k → (k.number ≡ number → ⊥)
    → acknowledge_came 255 number r ≡ r
control_unnamed p r number k s is apart =
    control_kept p r number s
    (ap (λ (x : Option Control). find (is_named 255 number) (control_held x)) is
    ∙ cond-false (is_named 255 number (unacknowledged_control k)) _ _ (ne_eqb (k.number % 65536) number
    (λ e. apart (let small = k.small in omega (arith, e, small)))))

pub control_hit : (k : Control) (number : ℕ) → k.number ≡ number → (k.number % 65536 == number) ≡ true
control_hit k number e = eq-eqb (k.number % 65536) number (let small = k.small in omega (arith, e, small))
