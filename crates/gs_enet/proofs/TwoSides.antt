-- Two new sides, whatever happens.
use Rattle.std.proofs.Common.{◌≡◌, ◌≤◌, ℕ, zero, suc, List, [], ◌∷◌, ◌++◌, length, refl, sym, ap, ◌∙◌, arith}
use Rattle.std.specs.Prelude.{Contains}
use Rattle.std.proofs.lemmas.List.{append_assoc, append-nil, length-append}
use Rattle.std.proofs.lemmas.List.Elements.{Contains-append_left}
use Rattle.gs_enet.specs.declared.event.PeerEvent.{PeerEvent}
use Rattle.gs_enet.specs.declared.event.PeerEvent.TheVariants as event
use Rattle.gs_enet.specs.Record.{PeerRecord, given_on, messages_on, told, heard}
use Rattle.gs_enet.specs.World.{World, Side, WorldEvent, Left, Right, ToLeft, ToRight, WorldOpening, Client, Host, opened_by, world_start, happens, run}
use Rattle.gs_enet.specs.World.{IsNearEvent, AllNear}
use Rattle.gs_enet.specs.Laws.{AreInOrder, MessagesInOrder}
use Rattle.gs_enet.proofs.Kept.{IsLast, messages_on-append}
use Rattle.gs_enet.proofs.Acts.{Gives, Both, act_both}
use Rattle.gs_enet.proofs.Receipt.{came_both}
use Rattle.gs_enet.specs.World.{Written}

abbrev Holds : World → Type 0
Holds w = Both w.left.peer w.left.wrote w.right.peer w.right.wrote

swapped : (a b : Side) → Both a.peer a.wrote b.peer b.wrote → Both b.peer b.wrote a.peer a.wrote
swapped a b k = (k.1, k.0)

happens_holds : (e : WorldEvent) (w : World) → IsNearEvent e w → Holds w → Holds (happens e w)
happens_holds (Left act) w near k = act_both act w.left w.right k
happens_holds (Right act) w near k = (let other = act_both act w.right w.left (k.1, k.0) in (other.1, other.0))
happens_holds (ToLeft which now) w near k = came_both which now w.left w.right near k
happens_holds (ToRight which now) w near k = (let other = came_both which now w.right w.left near (k.1, k.0) in (other.1, other.0))

run_holds : (es : List WorldEvent) (w : World) → AllNear es w → Holds w → Holds (run es w)
run_holds [] w near k = k
run_holds (e ∷ es) w near k = run_holds es (happens e w) near.1 (happens_holds e w near.0 k)

-- ---- new sides

start_holds : (l r : WorldOpening) → Gives (opened_by l) [] (opened_by r) []
start_holds (Client own connect_id extra now) (Client own' connect_id' extra' now') =
    record {
      in_order = λ c. ([], refl);
      outside = λ c above. refl;
      held = ((refl, λ below. absurd (omega (arith, below))), tt);
      covered = λ c n least most. absurd (omega (arith, least, most));
      owed = tt;
      orders_out = tt;
      answers_out = tt;
      peer_closed = λ has. absurd (omega (arith, has.1));
      closed = λ has. absurd (omega (arith, has.1));
      last = tt;
    }
start_holds (Client own connect_id extra now) (Host own' other' connect_id' now') =
    record {
      in_order = λ c. ([], refl);
      outside = λ c above. refl;
      held = ((refl, λ below. absurd (omega (arith, below))), tt);
      covered = λ c n least most. absurd (omega (arith, least, most));
      owed = tt;
      orders_out = tt;
      answers_out = tt;
      peer_closed = λ has. absurd (omega (arith, has.1));
      closed = λ has. absurd (omega (arith, has.1));
      last = tt;
    }
start_holds (Host own other connect_id now) (Client own' connect_id' extra' now') =
    record {
      in_order = λ c. ([], refl);
      outside = λ c above. refl;
      held = ((refl, λ below. absurd (omega (arith, below))), tt);
      covered = λ c n least most. absurd (omega (arith, least, most));
      owed = tt;
      orders_out = tt;
      answers_out = tt;
      peer_closed = λ has. absurd (omega (arith, has.1));
      closed = λ has. absurd (omega (arith, has.1));
      last = tt;
    }
start_holds (Host own other connect_id now) (Host own' other' connect_id' now') =
    record {
      in_order = λ c. ([], refl);
      outside = λ c above. refl;
      held = ((refl, λ below. absurd (omega (arith, below))), tt);
      covered = λ c n least most. absurd (omega (arith, least, most));
      owed = tt;
      orders_out = tt;
      answers_out = tt;
      peer_closed = λ has. absurd (omega (arith, has.1));
      closed = λ has. absurd (omega (arith, has.1));
      last = tt;
    }

-- ---- what follows

-- a prefix as long as the whole
pub whole_prefix : (xs rest ys : List (List ℕ)) → ys ≡ xs ++ rest → length ys ≤ length xs → xs ≡ ys
whole_prefix xs [] ys e most = sym (e ∙ append-nil xs)
whole_prefix xs (r ∷ rest) ys e most = absurd (omega (arith, ap length e, length-append xs (r ∷ rest), most))

-- behind the other side's disconnect no message waits
pub none_waits : (es fs : List PeerEvent) → IsLast (es ++ fs) → Contains es event.PeerClosed → (c : ℕ) → messages_on c fs ≡ []
none_waits [] fs h has c = absurd (omega (arith, has.1))
none_waits (event.PeerClosed ∷ es) fs h has c = empty_end (messages_on c es) (messages_on c fs) (sym (messages_on-append c es fs) ∙ h.0 c) where
  empty_end : (xs ys : List (List ℕ)) → xs ++ ys ≡ [] → ys ≡ []
  empty_end [] ys e = e
  empty_end (x ∷ xs) ys e = absurd cc
none_waits (event.Connected ∷ es) fs h (zero, lt, e) c = absurd cc
none_waits (event.Connected ∷ es) fs h (suc k, lt, e) c = none_waits es fs h.1 (k, omega (arith, lt), e) c
none_waits (event.Closed ∷ es) fs h (zero, lt, e) c = absurd cc
none_waits (event.Closed ∷ es) fs h (suc k, lt, e) c = none_waits es fs h.1 (k, omega (arith, lt), e) c
none_waits (event.Message d n bytes ∷ es) fs h (zero, lt, e) c = absurd cc
none_waits (event.Message d n bytes ∷ es) fs h (suc k, lt, e) c = none_waits es fs h.1 (k, omega (arith, lt), e) c
none_waits (event.Lost d n ∷ es) fs h (zero, lt, e) c = absurd cc
none_waits (event.Lost d n ∷ es) fs h (suc k, lt, e) c = none_waits es fs h.1 (k, omega (arith, lt), e) c

pub in_order_from : (g : PeerRecord) (r : PeerRecord) {wg wr : List Written} → Gives g wg r wr → AreInOrder g r
in_order_from g r k =
    record {
      prefix = λ c. (
        messages_on c r.waiting ++ (k.in_order c).0,
        (k.in_order c).1 ∙ ap (λ (w : List (List ℕ)). w ++ (k.in_order c).0) (messages_on-append c r.told r.waiting)
            ∙ append_assoc (told r c) (messages_on c r.waiting) (k.in_order c).0,
      );
      whole = λ has c.
          let done = k.peer_closed (Contains-append_left r.told r.waiting event.PeerClosed has) in
          let all : messages_on c (heard r) ≡ given_on c g.given = whole_prefix (messages_on c (heard r)) (k.in_order c).0 (given_on c g.given)
          (k.in_order c).1 (done.0.all c) in
          sym (messages_on-append c r.told r.waiting ∙ ap (λ (w : List (List ℕ)). told r c ++ w) (none_waits r.told r.waiting k.last has c)
          ∙ append-nil (told r c)) ∙ all;
      arrived = λ has c. whole_prefix (messages_on c (heard r)) (k.in_order c).0 (given_on c g.given) (k.in_order c).1 ((k.closed has).all c);
    }

pub messages_in_order_lem : MessagesInOrder
messages_in_order_lem left right events near =
    let k = run_holds events (world_start left right) near (start_holds left right, start_holds right left) in (
      in_order_from (run events (world_start left right)).left.peer (run events (world_start left right)).right.peer k.0,
      in_order_from (run events (world_start left right)).right.peer (run events (world_start left right)).left.peer k.1,
    )
