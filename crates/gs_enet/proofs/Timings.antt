-- What time does to the records that a peer stands for.
use Rattle.std.proofs.Common.{◌≡◌, ◌≢◌, ◌⊎◌, ◌<◌, ◌≤◌, ◌+◌, ◌-◌, ◌%◌, ◌^◌, ℕ, zero, suc, Bool, true, false, not, cond, List, [], ◌∷◌, ◌++◌, length, map, get_or}
use Rattle.std.proofs.Common.{set, Option, Some, None, refl, sym, ap, subst, ◌∙◌, arith, inl, inr}
use Rattle.std.specs.Prelude.{◌==◌, ◌&&◌, ◌||◌, nat_le, nat_lt, is_some, IsSome}
use Rattle.std.specs.List.{All, AllZip, list_any, find, filter}
use Rattle.std.proofs.lemmas.Bool.{cond-true, cond-false, false≢true, eq-eqb, ne_eqb, cases_eq, cases_Bool, and_from, or_from, or_left, or_right, and_left}
use Rattle.std.proofs.lemmas.Bool.{and_right, lt-leb, le-leb, lt-ltb}
use Rattle.std.proofs.lemmas.List.{append_assoc, append-nil, length-append, get_or-set_same, get_or-set_other, length-set}
use Rattle.std.proofs.lemmas.List.Elements.{All-head, All-tail, All-cons, All-nil, length_all_zip, filter-append}
use Rattle.std.proofs.lemmas.List.Folds.{list_any-append, find-append}
use Rattle.gs_enet.specs.declared.answer.Answer.{Answer}
use Rattle.gs_enet.specs.declared.held.Held.{Held}
use Rattle.gs_enet.specs.declared.channel.Channel.{Channel}
use Rattle.gs_enet.specs.declared.control.Control.{Control}
use Rattle.std.specs.Option.{option_to_list, option_map, option_or}
use Rattle.gs_enet.specs.declared.event.PeerEvent.{PeerEvent}
use Rattle.gs_enet.specs.declared.event.PeerEvent.TheVariants as event
use Rattle.gs_enet.specs.declared.state.PeerState.{PeerState}
use Rattle.gs_enet.specs.declared.state.PeerState.TheVariants as state
use Rattle.gs_enet.specs.Record.{PeerRecord, Unacknowledged, Content, Connect, VerifyConnect, Disconnect, Message, channels, control, last_number, given_on}
use Rattle.gs_enet.specs.Record.{messages_on, heard, heard_count, is_shut, shut, happened, owing, fresh}
use Rattle.gs_enet.specs.Receive.{leave_if, leaving, is_named, acknowledged, acknowledged_if, acknowledge_came, disconnect_if, disconnect_came, connected}
use Rattle.gs_enet.specs.Receive.{takes_messages, expected, distance, is_behind, message_if, taken_if, message_came, is_connect_content, is_connect, verify_if}
use Rattle.gs_enet.specs.Receive.{verified, verify_came}
use Rattle.gs_enet.specs.Steps.{next_number, is_full, is_open, with_message, close_if, closed, placed, first_event, next_event, telling, timed_if, timed_at}
use Rattle.gs_enet.specs.Steps.{name_of, had_last_wait, due_again}
use Rattle.gs_enet.specs.Window.{unacknowledged, in_window, front_is_held}
use Rattle.gs_enet.specs.Channels.{next_of, channel_held, all_held, is_channel_full, AreEmpty, GivesOne, SameHeld, MarksDue, DropsNamed}
use Rattle.gs_enet.specs.Controls.{content_of, unacknowledged_control, control_held, is_closing, is_accepting}
use Rattle.gs_enet.specs.Events.{IsQuiet}
use Rattle.gs_enet.specs.Standing.{HasCounts, IsPeerOf, held_by}
use Rattle.gs_enet.specs.declared.peer.Peer.{Peer}
use Rattle.gs_enet.proofs.Lists.{Each, each_weaker, each_append, each_find}
use Rattle.gs_enet.proofs.Kept.{IsNoMessage, messages_on-other, messages_on-message, messages_on-apart, giving, given_on-own, given_on-apart}
use Rattle.gs_enet.proofs.Flat.{before, behind, split_at, split_set, before-below, behind-from, placed_last, same_counts, all_held-from, all_held-below}
use Rattle.gs_enet.proofs.Flat.{channel_held-on, IsOn, IsMessage, IsBelow, IsFrom}

pub shut_is : (s : PeerState) (r : PeerRecord) (lost : Option Unacknowledged) → is_shut s ≡ true → timed_if (is_shut s) lost r ≡ r
shut_is s r lost e = ap (λ (b : Bool). timed_if b lost r) e

timed_lost_if : (lost : Option Unacknowledged) (r : PeerRecord) (c n : ℕ) → option_map name_of lost ≡ Some (c, n)
    → timed_if false lost r ≡ shut (happened (event.Lost c n) r)
timed_lost_if None r c n e = absurd cc
timed_lost_if (Some u) r c n e =
    let names : name_of u ≡ (c, n) = cc in
    ap (λ (x : ℕ × ℕ). shut (happened (event.Lost x.0 x.1) r)) names

pub timed-lost : (r : PeerRecord) (c n : ℕ) → is_shut r.state ≡ false → option_map name_of (find (had_last_wait r.now) r.unacknowledged) ≡ Some (c, n)
    → timed_at r ≡ shut (happened (event.Lost c n) r)
timed-lost r c n up e = ap (λ (b : Bool). timed_if b (find (had_last_wait r.now) r.unacknowledged) r) up
    ∙ timed_lost_if (find (had_last_wait r.now) r.unacknowledged) r c n e

timed_none_if : (lost : Option Unacknowledged) (r : PeerRecord) → option_map name_of lost ≡ None
    → timed_if false lost r ≡ record r { unacknowledged = map (due_again r.now) r.unacknowledged }
timed_none_if None r e = refl
timed_none_if (Some u) r e = absurd cc

pub timed-none : (r : PeerRecord) → is_shut r.state ≡ false → option_map name_of (find (had_last_wait r.now) r.unacknowledged) ≡ None
    → timed_at r ≡ record r { unacknowledged = map (due_again r.now) r.unacknowledged }
timed-none r up e =
    ap (λ (b : Bool). timed_if b (find (had_last_wait r.now) r.unacknowledged) r) up ∙ timed_none_if (find (had_last_wait r.now) r.unacknowledged) r e

-- an event that is no message doesn't count
pub counts_event : (r : PeerRecord) (e : PeerEvent) (chs : List Channel) → IsNoMessage e → HasCounts r chs → HasCounts (happened e r) chs
counts_event r e chs quiet h c d lt = (
  (h c d lt).0,
  (h c d lt).1 ∙ ap length (sym (messages_on-other c (heard r) e quiet))
      ∙ ap (λ (es : List PeerEvent). length (messages_on c es)) (append_assoc r.told r.waiting (e ∷ [])),
)

pub counts_marked : (r : PeerRecord) (now : ℕ) (xs ys : List Channel) → AllZip (MarksDue now) xs ys → HasCounts r xs → HasCounts r ys
counts_marked r now xs ys h counts c d lt =
    let same = same_counts now xs ys c d h lt in
    let had = counts c d (omega (arith, lt, length_all_zip (MarksDue now) xs ys h)) in
    (same.next ∙ had.0, same.heard ∙ had.1)

pub lost_of : (p : Peer) (r : PeerRecord) → IsPeerOf p r → option_map name_of (find (had_last_wait r.now) r.unacknowledged)
    ≡ option_map name_of (find (had_last_wait p.moment) (held_by p))
lost_of p r s =
    ap (λ (n : ℕ). option_map name_of (find (had_last_wait n) r.unacknowledged)) s.now
    ∙ ap (λ (us : List Unacknowledged). option_map name_of (find (had_last_wait p.moment) us)) s.unacknowledged

quiet_is_no_message : (e : PeerEvent) → IsQuiet e → IsNoMessage e
quiet_is_no_message (event.Message c n bytes) h = h
quiet_is_no_message event.Connected h = tt
quiet_is_no_message event.Closed h = tt
quiet_is_no_message event.PeerClosed h = tt
quiet_is_no_message (event.Lost c n) h = tt

pub counts_quiet : (r : PeerRecord) (e : PeerEvent) (chs : List Channel) → IsQuiet e → HasCounts r chs → HasCounts (happened e r) chs
counts_quiet r e chs quiet h = counts_event r e chs (quiet_is_no_message e quiet) h
