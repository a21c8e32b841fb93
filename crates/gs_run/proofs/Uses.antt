-- What a side's user gave and was told stays as it is, whatever the side reads, writes and waits for.
use Rattle.std.proofs.Common.{◌≡◌, ◌%◌, ℕ, Bool, true, false, not, List, [], ◌∷◌, map, Option, Some, None, refl, ◌∙◌}
use Rattle.std.specs.Prelude.{◌==◌, ◌&&◌, nat_lt, is_some, slice_get}
use Rattle.std.specs.List.{filter, find}
use Rattle.gs_enet.specs.declared.event.PeerEvent.TheVariants as event
use Rattle.gs_enet.specs.declared.state.PeerState.{PeerState}
use Rattle.gs_enet.specs.declared.state.PeerState.TheVariants as state
use Rattle.gs_enet.specs.declared.answer.Answer.{Answer}
use Rattle.gs_enet.specs.Record.{PeerRecord, Unacknowledged, Content, Connect, VerifyConnect, Disconnect, Message, channels, control, heard, messages_on}
use Rattle.gs_enet.specs.Record.{is_shut, at_moment}
use Rattle.gs_enet.specs.Receive.{expected, is_next, is_behind, takes_messages, taken_if, message_if, verified, verify_if, disconnect_if, connected, leave_if}
use Rattle.gs_enet.specs.Receive.{acknowledged, is_named, acknowledged_if, owed_answer, command_received, all_received}
use Rattle.gs_enet.specs.Steps.{had_last_wait, close_if, closed, timed_if, timed}
use Rattle.gs_enet.specs.Write.{Item, Answers, Orders, item_command, order_command, wrote_next}
use Rattle.gs_enet.specs.World.{Side, Written, came}
use Rattle.gs_enet.proofs.Lists.{each_weaker}
use Rattle.gs_enet.proofs.Kept.{IsTrueOrder, OrdersOut}
use Rattle.gs_run.proofs.Calm.{IsCalm, IsLow, calm_same, calm_quiet, calm_all}
use Rattle.gs_run.proofs.TwoSides.{AreBoth, each_at, low_item}

-- the same was given and told
pub record Keeps (r s : PeerRecord) : Type 0 where
  pub given : s.given ≡ r.given
  pub told : s.told ≡ r.told

same : (r : PeerRecord) → Keeps r r
same r = record { given = refl; told = refl }

-- ---- reading

kept_connected : (now : PeerState) (r : PeerRecord) → Keeps r (connected now r)
kept_connected state.Accepting r = record { given = refl; told = refl }
kept_connected state.Connecting r = same r
kept_connected state.Connected r = same r
kept_connected state.Closing r = same r
kept_connected state.Shut r = same r

kept_leaving : (now : PeerState) (us : List Unacknowledged) (r : PeerRecord) → Keeps r (leave_if now us r)
kept_leaving state.Closing [] r = record { given = refl; told = refl }
kept_leaving state.Closing (u ∷ us) r = same r
kept_leaving state.Connecting us r = same r
kept_leaving state.Accepting us r = same r
kept_leaving state.Connected us r = same r
kept_leaving state.Shut us r = same r

kept_acknowledged : (content : Content) (r s : PeerRecord) → Keeps r s → Keeps r (acknowledged content s)
kept_acknowledged Connect r s k = k
kept_acknowledged VerifyConnect r s k = let c = kept_connected s.state s in record { given = c.given ∙ k.given; told = c.told ∙ k.told }
kept_acknowledged (Message bytes) r s k =
    let c = kept_leaving s.state s.unacknowledged s in record { given = c.given ∙ k.given; told = c.told ∙ k.told }
kept_acknowledged Disconnect r s k = record { given = k.given; told = k.told }

kept_acknowledge : (o : Option Unacknowledged) (channel number : ℕ) (r : PeerRecord) → Keeps r (acknowledged_if o channel number r)
kept_acknowledge None channel number r = same r
kept_acknowledge (Some u) channel number r =
    kept_acknowledged u.order.content r (record r { unacknowledged = filter (λ v. not (is_named channel number v)) r.unacknowledged })
    (record { given = refl; told = refl })

kept_verified : (now : PeerState) (peer : ℕ) (a : Answer) (r : PeerRecord) → Keeps r (verified now peer a r)
kept_verified state.Connecting peer a r = record { given = refl; told = refl }
kept_verified state.Connected peer a r = record { given = refl; told = refl }
kept_verified state.Closing peer a r = record { given = refl; told = refl }
kept_verified state.Accepting peer a r = same r
kept_verified state.Shut peer a r = same r

kept_verify : (own : Bool) (peer : ℕ) (a : Answer) (r : PeerRecord) → Keeps r (verify_if own peer a r)
kept_verify true peer a r = kept_verified r.state peer a r
kept_verify false peer a r = same r

kept_disconnect : (again : Bool) (a : Answer) (r : PeerRecord) → Keeps r (disconnect_if again a r)
kept_disconnect true a r = record { given = refl; told = refl }
kept_disconnect false a r = record { given = refl; told = refl }

kept_message : (next behind : Bool) (c n : ℕ) (bytes : List ℕ) (a : Answer) (r : PeerRecord) → Keeps r (message_if next behind c n bytes a r)
kept_message true behind c n bytes a r = record { given = refl; told = refl }
kept_message false true c n bytes a r = record { given = refl; told = refl }
kept_message false false c n bytes a r = same r

kept_taken : (takes : Bool) (c n : ℕ) (bytes : List ℕ) (a : Answer) (r : PeerRecord) → Keeps r (taken_if takes c n bytes a r)
kept_taken true c n bytes a r = kept_message (is_next n (expected r c)) (is_behind n (expected r c)) c (expected r c) bytes a r
kept_taken false c n bytes a r = same r

kept_order : (sent : ℕ) (content : Content) (channel number : ℕ) (by r : PeerRecord)
    → Keeps r (command_received sent (order_command content channel number by) r)
unfolding command_received
kept_order sent Connect channel number by r = same r
kept_order sent VerifyConnect channel number by r =
    kept_verify (is_some r.extra && (by.connect_id == r.connect_id)) by.own (owed_answer sent control (number % 65536)) r
kept_order sent Disconnect channel number by r =
    kept_disconnect r.disconnected (record (owed_answer sent control (number % 65536)) { to_disconnect = true }) r
kept_order sent (Message bytes) channel number by r =
    kept_taken (nat_lt channel channels && takes_messages r.state) channel (number % 65536) bytes
    (owed_answer sent channel (number % 65536)) r

kept_item : (sent : ℕ) (by r : PeerRecord) (x : Item) → Keeps r (command_received sent (item_command by x) r)
unfolding command_received
kept_item sent by r (Answers a) = kept_acknowledge (find (is_named a.channel a.number) r.unacknowledged) a.channel a.number r
kept_item sent by r (Orders o) = kept_order sent o.content o.channel o.number by r

kept_all : (sent : ℕ) (by : PeerRecord) (xs : List Item) (r : PeerRecord) → Keeps r (all_received sent (map (item_command by) xs) r)
kept_all sent by [] r = same r
kept_all sent by (x ∷ xs) r =
    let first = kept_item sent by r x in
    let rest = kept_all sent by xs (command_received sent (item_command by x) r) in
    record { given = rest.given ∙ first.given; told = rest.told ∙ first.told }

-- a datagram that comes
pub kept_came : (w : Option Written) (now : ℕ) (s : Side) → Keeps s.peer (came w now s).peer
kept_came None now s = same s.peer
kept_came (Some w) now s =
    let k = kept_all (w.by.now % 65536) w.by w.items (at_moment now s.peer) in record { given = k.given; told = k.told }

pub wrote_came : (w : Option Written) (now : ℕ) (s : Side) → (came w now s).wrote ≡ s.wrote
wrote_came None now s = refl
wrote_came (Some w) now s = refl

-- a side that is calm stays so
pub calm_came : (which now : ℕ) (s o : Side) → IsCalm s.peer → IsCalm o.peer → AreBoth s o → IsCalm (came (slice_get o.wrote which) now s).peer
calm_came which now s o calm other k = by (slice_get o.wrote which) refl where
  by : (w : Option Written) → slice_get o.wrote which ≡ w → IsCalm (came w now s).peer
  by None e = calm
  by (Some w) e =
      let says : OrdersOut o.peer.given (heard s.peer) o.peer.state w =
      each_at (OrdersOut o.peer.given (heard s.peer) o.peer.state) o.wrote which w k.1.orders_out e in
      calm_all (w.by.now % 65536) w.by w.items (at_moment now s.peer)
      (each_weaker (IsTrueOrder o.peer.given (heard s.peer) o.peer.state) IsLow
      (λ x says. low_item o.peer o.wrote s.peer x other.given_few says) w.items says)
      (record { heard_few = calm.heard_few; given_few = calm.given_few })

-- ---- the user's other calls

-- the same was given, told and heard
pub record KeepsAll (r s : PeerRecord) : Type 0 where
  pub given : s.given ≡ r.given
  pub told : s.told ≡ r.told
  pub messages : (c : ℕ) → messages_on c (heard s) ≡ messages_on c (heard r)

pub calm_kept : (r s : PeerRecord) → KeepsAll r s → IsCalm r → IsCalm s
calm_kept r s k calm = calm_same r s k.given k.messages calm

pub kept_write : (now : ℕ) (r : PeerRecord) → KeepsAll r (wrote_next now r)
unfolding wrote_next
kept_write now r = record { given = refl; told = refl; messages = λ c. refl }

pub waits_write : (now : ℕ) (r : PeerRecord) → (wrote_next now r).waiting ≡ r.waiting
unfolding wrote_next
waits_write now r = refl

kept_close_if : (now : PeerState) (r : PeerRecord) → KeepsAll r (close_if now r)
kept_close_if state.Connected r = leaving r.unacknowledged where
  leaving : (us : List Unacknowledged) → KeepsAll r (leave_if state.Closing us (record r { state = state.Closing }))
  leaving [] = record { given = refl; told = refl; messages = λ c. refl }
  leaving (u ∷ us) = record { given = refl; told = refl; messages = λ c. refl }
kept_close_if state.Connecting r = record { given = refl; told = refl; messages = λ c. refl }
kept_close_if state.Accepting r = record { given = refl; told = refl; messages = λ c. refl }
kept_close_if state.Closing r = record { given = refl; told = refl; messages = λ c. refl }
kept_close_if state.Shut r = record { given = refl; told = refl; messages = λ c. refl }

pub kept_close : (r : PeerRecord) → KeepsAll r (closed r)
unfolding closed
kept_close r = kept_close_if r.state r

-- only time itself lets a message's side be lost
kept_timed_if : (over : Bool) (lost : Option Unacknowledged) (r : PeerRecord) → Keeps r (timed_if over lost r)
kept_timed_if true lost r = same r
kept_timed_if false (Some u) r = record { given = refl; told = refl }
kept_timed_if false None r = record { given = refl; told = refl }

pub kept_timed : (now : ℕ) (r : PeerRecord) → Keeps r (timed now r)
unfolding timed
kept_timed now r =
    let k = kept_timed_if (is_shut r.state) (find (had_last_wait (at_moment now r).now) r.unacknowledged) (at_moment now r) in
    record { given = k.given; told = k.told }

calm_timed_if : (over : Bool) (lost : Option Unacknowledged) (r : PeerRecord) → IsCalm r → IsCalm (timed_if over lost r)
calm_timed_if true lost r calm = calm
calm_timed_if false (Some u) r calm =
    let h = calm_quiet (event.Lost u.order.channel u.order.number) r tt calm in record { heard_few = h.heard_few; given_few = h.given_few }
calm_timed_if false None r calm = record { heard_few = calm.heard_few; given_few = calm.given_few }

pub calm_timed : (now : ℕ) (r : PeerRecord) → IsCalm r → IsCalm (timed now r)
unfolding timed
calm_timed now r calm =
    calm_timed_if (is_shut r.state) (find (had_last_wait (at_moment now r).now) r.unacknowledged) (at_moment now r)
    (record { heard_few = calm.heard_few; given_few = calm.given_few })
