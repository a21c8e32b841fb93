-- What a peer that reads a command stands for.
use Rattle.std.proofs.Common.{◌≡◌, ◌≢◌, ◌⊎◌, ◌<◌, ◌≤◌, ◌+◌, ◌-◌, ◌%◌, ◌^◌, ℕ, zero, suc, Bool, true, false, not, cond, List, [], ◌∷◌, ◌++◌, length, map, get_or}
use Rattle.std.proofs.Common.{set, Option, Some, None, refl, sym, ap, subst, ◌∙◌, arith, inl, inr}
use Rattle.std.specs.Prelude.{◌==◌, ◌&&◌, ◌||◌, nat_le, nat_lt, is_some, IsSome}
use Rattle.std.specs.List.{All, AllZip, list_any, find, filter}
use Rattle.std.proofs.lemmas.Bool.{cond-true, cond-false, false≢true, eq-eqb, ne_eqb, cases_eq, cases_Bool, and_from, or_from, or_left, or_right, and_left}
use Rattle.std.proofs.lemmas.Bool.{and_right, lt-leb, le-leb, lt-ltb}
use Rattle.std.proofs.lemmas.List.{append_assoc, append-nil, length-append, get_or-set_same, get_or-set_other, length-set}
use Rattle.std.proofs.lemmas.List.Elements.{All-head, All-tail, All-cons, All-nil, length_all_zip, filter-append}
use Rattle.std.proofs.lemmas.List.Folds.{list_any-append, find-append}
use Rattle.gs_enet.specs.declared.answer.Answer.{Answer}
use Rattle.gs_enet.specs.declared.held.Held.{Held}
use Rattle.gs_enet.specs.declared.channel.Channel.{Channel}
use Rattle.gs_enet.specs.declared.control.Control.{Control}
use Rattle.std.specs.Option.{option_to_list, option_map, option_or}
use Rattle.gs_enet.specs.declared.event.PeerEvent.{PeerEvent}
use Rattle.gs_enet.specs.declared.event.PeerEvent.TheVariants as event
use Rattle.gs_enet.specs.declared.state.PeerState.{PeerState}
use Rattle.gs_enet.specs.declared.state.PeerState.TheVariants as state
use Rattle.gs_enet.specs.Record.{PeerRecord, Unacknowledged, Content, Connect, VerifyConnect, Disconnect, Message, channels, control, last_number, given_on}
use Rattle.gs_enet.specs.Record.{messages_on, heard, heard_count, is_shut, shut, happened, owing, fresh}
use Rattle.gs_enet.specs.Receive.{leave_if, leaving, is_named, acknowledged, acknowledged_if, acknowledge_came, disconnect_if, disconnect_came, connected}
use Rattle.gs_enet.specs.Receive.{takes_messages, expected, is_next, is_behind, message_if, taken_if, message_came, is_connect_content, is_connect, verify_if}
use Rattle.gs_enet.specs.Receive.{verified, verify_came}
use Rattle.gs_enet.specs.Steps.{next_number, is_full, is_open, with_message, close_if, closed, placed, first_event, next_event, telling, timed_if, timed_at}
use Rattle.gs_enet.specs.Steps.{name_of, had_last_wait, due_again}
use Rattle.gs_enet.specs.Window.{unacknowledged, in_window, front_is_held}
use Rattle.gs_enet.specs.Channels.{next_of, channel_held, all_held, is_channel_full, AreEmpty, GivesOne, SameHeld, MarksDue, DropsNamed}
use Rattle.gs_enet.specs.Controls.{content_of, unacknowledged_control, control_held, is_closing, is_accepting}
use Rattle.gs_enet.specs.Events.{IsQuiet}
use Rattle.gs_enet.specs.Standing.{HasCounts, IsPeerOf, held_by}
use Rattle.gs_enet.specs.declared.peer.Peer.{Peer}
use Rattle.gs_enet.proofs.Lists.{Each, each_weaker, each_append, each_find}
use Rattle.gs_enet.proofs.Kept.{IsNoMessage, messages_on-other, messages_on-message, messages_on-apart, giving, given_on-own, given_on-apart}
use Rattle.gs_enet.proofs.Flat.{before, behind, split_at, split_set, before-below, behind-from, placed_last, same_counts, all_held-from, all_held-below}
use Rattle.gs_enet.proofs.Flat.{channel_held-on, IsOn, IsMessage, IsBelow, IsFrom}
use Rattle.gs_enet.proofs.Standings.{counts_set, held_set_same, sizes}

pub disconnect-first : (a : Answer) (r : PeerRecord) → r.disconnected ≡ false
    → disconnect_came a r ≡ owing a (shut (happened event.PeerClosed (record r { disconnected = true })))
disconnect-first a r e = ap (λ (b : Bool). disconnect_if b a r) e

pub disconnect-again : (a : Answer) (r : PeerRecord) → r.disconnected ≡ true → disconnect_came a r ≡ owing a r
disconnect-again a r e = ap (λ (b : Bool). disconnect_if b a r) e

verify_own : (own : Bool) (s : PeerState) (peer : ℕ) (a : Answer) (r : PeerRecord) → (is_some r.extra && own) ≡ true → r.state ≡ s
    → verify_if (is_some r.extra && own) peer a r ≡ verified s peer a r
verify_own own s peer a r e is = ap (λ (b : Bool). verify_if b peer a r) e ∙ ap (λ (x : PeerState). verified x peer a r) is

pub verify-is : (s : PeerState) (peer connect_id : ℕ) (a : Answer) (r : PeerRecord) → is_some r.extra ≡ true → connect_id ≡ r.connect_id → r.state ≡ s
    → verify_came peer connect_id a r ≡ verified s peer a r
verify-is s peer connect_id a r some same is =
    verify_own (connect_id == r.connect_id) s peer a r (and_from (is_some r.extra) (connect_id == r.connect_id) some (eq-eqb connect_id r.connect_id same)) is

-- the next message of a channel is heard
pub tells_one : (p : Peer) (r : PeerRecord) (c place : ℕ) (bytes : List ℕ) (old new : Channel) → IsPeerOf p r → c < 48 → place ≡ c
    → old ≡ get_or p.channels.items place old
    → next_of new ≡ next_of old → new.heard ≡ old.heard + 1 → ((k : ℕ) → channel_held k new ≡ channel_held k old)
    → HasCounts (happened (event.Message c (expected r c) bytes) r) (set p.channels.items place new)
    × (r.unacknowledged ≡ control_held p.control ++ all_held 0 (set p.channels.items place new)) × (old.heard + 1 ≡ expected r c)
tells_one p r c place bytes old new s below at was next more held =
    let chs : List Channel = p.channels.items in
    let lt : place < length chs = omega (arith, sizes p, at, below) in
    let had = s.counts place old lt in
    let e : PeerEvent = event.Message c (expected r c) bytes in
    let r' : PeerRecord = happened e r in
    let same : (k : ℕ) → heard_count r' k ≡ length (messages_on k (heard r ++ e ∷ [])) =
    λ k. ap (λ (es : List PeerEvent). length (messages_on k es)) (sym (append_assoc r.told r.waiting (e ∷ []))) in
    let grew : heard_count r' c ≡ heard_count r c + 1 =
    same c ∙ ap length (messages_on-message c (expected r c) bytes (heard r)) ∙ length-append (messages_on c (heard r)) (bytes ∷ []) in
    let stayed : (k : ℕ) → (c ≡ k → ⊥) → heard_count r k ≡ heard_count r' k =
    λ k apart. sym (same k ∙ ap length (messages_on-apart k c (expected r c) bytes (heard r) apart)) in
    let was_heard : old.heard ≡ heard_count r c = ap (λ (ch : Channel). ch.heard) was ∙ had.1 ∙ ap (heard_count r) at in (
      counts_set r r' chs place new s.counts
          (next ∙ ap next_of was ∙ had.0, more ∙ ap (λ (n : ℕ). n + 1) was_heard ∙ sym grew ∙ ap (heard_count r') (sym at))
          (λ k apart. (refl, stayed k (λ e. apart (sym e ∙ sym at)))),
      s.unacknowledged ∙ ap (λ (us : List Unacknowledged). control_held p.control ++ us)
          (sym (held_set_same chs place old new lt (held place ∙ ap (channel_held place) was))),
      ap (λ (n : ℕ). n + 1) was_heard,
    )

pub message-next : (c number : ℕ) (bytes : List ℕ) (a : Answer) (r : PeerRecord) → c < 48 → takes_messages r.state ≡ true
    → is_next number (expected r c) ≡ true
    → message_came c number bytes a r ≡ owing a (happened (event.Message c (expected r c) bytes) r)
message-next c number bytes a r below takes next =
    ap (λ (b : Bool). taken_if b c number bytes a r) (and_from (nat_lt c channels) (takes_messages r.state) (lt-ltb c channels below) takes)
    ∙ ap (λ (b : Bool). message_if b (is_behind number (expected r c)) c (expected r c) bytes a r) next

no_connects : (us : List Unacknowledged) → Each (IsFrom 0) us → filter (λ (u : Unacknowledged). not (is_connect u.order)) us ≡ us
no_connects [] h = refl
no_connects (u ∷ us) h = cond-true (not (is_connect u.order)) _ _ (ap not (no_connect u.order.content h.0.1))
    ∙ ap (λ (vs : List Unacknowledged). u ∷ vs) (no_connects us h.1) where
      no_connect : (content : Content) → IsMessage content → is_connect_content content ≡ false
      no_connect (Message bytes) h = refl
      no_connect Connect h = absurd h
      no_connect VerifyConnect h = absurd h
      no_connect Disconnect h = absurd h

pub held_without_connect : (p : Peer) (k : Option Control) → control_held k ≡ filter (λ (u : Unacknowledged). not (is_connect u.order)) (control_held p.control)
    → filter (λ (u : Unacknowledged). not (is_connect u.order)) (held_by p) ≡ control_held k ++ all_held 0 p.channels.items
held_without_connect p k e =
    filter-append (λ (u : Unacknowledged). not (is_connect u.order)) (control_held p.control) (all_held 0 p.channels.items)
    ∙ ap (λ (us : List Unacknowledged). us ++ filter (λ (u : Unacknowledged). not (is_connect u.order)) (all_held 0 p.channels.items)) (sym e)
    ∙ ap (λ (us : List Unacknowledged). control_held k ++ us) (no_connects (all_held 0 p.channels.items) (all_held-from 0 p.channels.items))

pub reads_expected : (p : Peer) (r : PeerRecord) (c place : ℕ) (ch : Channel) → IsPeerOf p r → c < 48 → place ≡ c → ch ≡ get_or p.channels.items place ch
    → ch.heard + 1 ≡ expected r c
reads_expected p r c place ch s below at read =
    let had = s.counts place ch (omega (arith, sizes p, at, below)) in
    ap (λ (n : ℕ). n + 1) (ap (λ (x : Channel). x.heard) read ∙ had.1 ∙ ap (heard_count r) at)
