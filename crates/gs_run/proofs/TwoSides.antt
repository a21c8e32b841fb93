-- What the two sides of a connection keep.
use Rattle.std.proofs.Common.{◌≡◌, ◌≤◌, ℕ, zero, suc, List, [], ◌∷◌, length, Option, Some, None, refl, sym, ap, subst, arith}
use Rattle.std.specs.Prelude.{slice_get}
use Rattle.std.proofs.lemmas.List.{append-nil, length-append}
use Rattle.gs_enet.specs.declared.event.PeerEvent.{PeerEvent}
use Rattle.gs_enet.specs.declared.event.PeerEvent.TheVariants as event
use Rattle.gs_enet.specs.Record.{PeerRecord, Content, Connect, VerifyConnect, Disconnect, Message, given_count, messages_on, heard, heard_count}
use Rattle.gs_enet.specs.Record.{orders, at_moment, connecting, accepting}
use Rattle.gs_enet.specs.Write.{Item, Answers, Orders, going_out}
use Rattle.gs_enet.specs.World.{Written, Side, Write, acted, came, IsNear}
use Rattle.gs_enet.proofs.Lists.{Each, each_weaker}
use Rattle.gs_enet.proofs.Kept.{Kept, Says, IsTrueOrder, OrdersOut}
use Rattle.gs_enet.proofs.Acts.{Both, act_both}
use Rattle.gs_enet.proofs.Receipt.{came_both}
use Rattle.gs_enet.specs.Sides.{writing_within, written_out, all_told}
use Rattle.gs_run.proofs.Calm.{IsCalm, IsLow, IsLowContent, calm_is_near}

abbrev pub AreBoth : Side → Side → Type 0
AreBoth s o = Both s.peer s.wrote o.peer o.wrote

pub swapped : (s o : Side) → AreBoth s o → AreBoth o s
swapped s o k = (k.1, k.0)

-- ---- writing and telling

within_both : (n now : ℕ) (s o : Side) → AreBoth s o → AreBoth (writing_within n now s) o
within_both zero now s o k = k
within_both (suc n) now s o k = within_both n now (acted (Write now) s) o (act_both (Write now) s o k)

pub out_both : (now : ℕ) (s o : Side) → AreBoth s o → AreBoth (written_out now s) o
unfolding written_out
out_both now s o k = within_both (suc (length (going_out (at_moment now s.peer)))) now s o k

pub told_both : (s o : Side) → AreBoth s o → AreBoth (record s { peer = all_told s.peer }) o
told_both s o k =
    subst (λ (x : List PeerEvent). Kept s.peer.given (orders s.peer) s.peer.state x s.wrote (heard o.peer) o.peer.pending o.peer.state o.wrote
    × Kept o.peer.given (orders o.peer) o.peer.state (heard o.peer) o.wrote x s.peer.pending s.peer.state s.wrote)
    (sym (append-nil (heard s.peer))) k

-- ---- reading

low_number : (g : PeerRecord) (w : List Written) (o : PeerRecord) (content : Content) (c n : ℕ) → ((d : ℕ) → given_count g d ≤ 30000)
    → Says g.given (heard o) g.state content c n → IsLowContent content n
low_number g w o (Message bytes) c n few says =
    let at = says.1 in
    let most = few c in
    omega (arith, at.at, most, ap (λ (l : List (List ℕ)). length l) at.parts, length-append at.front (bytes ∷ at.rest))
low_number g w o Connect c n few says = tt
low_number g w o VerifyConnect c n few says = tt
low_number g w o Disconnect c n few says = tt

pub low_item : (g : PeerRecord) (w : List Written) (o : PeerRecord) (x : Item) → ((d : ℕ) → given_count g d ≤ 30000)
    → IsTrueOrder g.given (heard o) g.state x → IsLow x
low_item g w o (Answers a) few says = tt
low_item g w o (Orders x) few says = low_number g w o x.content x.channel x.number few says

pub each_at : (P : Written → Type 0) (ws : List Written) (k : ℕ) (w : Written) → Each P ws → slice_get ws k ≡ Some w → P w
each_at P [] k w all e = absurd cc
each_at P (v ∷ ws) zero w all e = subst P (same v w e) all.0 where
  same : (a b : Written) → Some a ≡ Some b → a ≡ b
  same a b e = cc
each_at P (v ∷ ws) (suc k) w all e = each_at P ws k w all.1 e

-- what was heard is at most what was given
pub heard_within : (s o : Side) → AreBoth s o → (c : ℕ) → heard_count s.peer c ≤ given_count o.peer c
heard_within s o k c =
    let front = k.1.in_order c in
    omega (arith, ap (λ (l : List (List ℕ)). length l) front.1, length-append (messages_on c (heard s.peer)) front.0)

pub is_near : (which now : ℕ) (s o : Side) → ((c : ℕ) → given_count s.peer c ≤ 30000) → ((c : ℕ) → given_count o.peer c ≤ 30000) → AreBoth s o
    → IsNear (slice_get o.wrote which) now s.peer
is_near which now s o own few k = by (slice_get o.wrote which) refl where
  calm : IsCalm (at_moment now s.peer)
  calm = record {
    heard_few = λ c. let most = few c in let within = heard_within s o k c in omega (arith, most, within);
    given_few = own;
  }

  by : (w : Option Written) → slice_get o.wrote which ≡ w → IsNear w now s.peer
  by None e = tt
  by (Some w) e =
      let says : OrdersOut o.peer.given (heard s.peer) o.peer.state w = each_at (OrdersOut o.peer.given
      (heard s.peer) o.peer.state) o.wrote which w k.1.orders_out e in
      calm_is_near w.by w.items (at_moment now s.peer)
      (each_weaker (IsTrueOrder o.peer.given (heard s.peer) o.peer.state) IsLow (λ x says. low_item o.peer o.wrote s.peer x few says) w.items says) calm

pub taken_both : (which now : ℕ) (s o : Side) → ((c : ℕ) → given_count s.peer c ≤ 30000) → ((c : ℕ) → given_count o.peer c ≤ 30000) → AreBoth s o
    → AreBoth (came (slice_get o.wrote which) now s) o
taken_both which now s o own few k = came_both which now s o (is_near which now s o own few k) k

-- ---- new sides

pub new_gives : (own connect_id extra now host_own other host_id host_now : ℕ)
    → Both (connecting own connect_id extra now) [] (accepting host_own other host_id host_now) []
new_gives own connect_id extra now host_own other host_id host_now = (
  record {
    in_order = λ c. ([], refl);
    outside = λ c above. refl;
    held = ((refl, λ below. absurd (omega (arith, below))), tt);
    covered = λ c n least most. absurd (omega (arith, least, most));
    owed = tt;
    orders_out = tt;
    answers_out = tt;
    peer_closed = λ has. absurd (omega (arith, has.1));
    closed = λ has. absurd (omega (arith, has.1));
    last = tt;
  },
  record {
    in_order = λ c. ([], refl);
    outside = λ c above. refl;
    held = ((refl, λ below. absurd (omega (arith, below))), tt);
    covered = λ c n least most. absurd (omega (arith, least, most));
    owed = tt;
    orders_out = tt;
    answers_out = tt;
    peer_closed = λ has. absurd (omega (arith, has.1));
    closed = λ has. absurd (omega (arith, has.1));
    last = tt;
  },
)
