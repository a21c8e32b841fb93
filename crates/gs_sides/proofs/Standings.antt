-- What a value stands for behind each call.
use Rattle.std.proofs.Common.{◌≡◌, ◌<◌, ◌+◌, ℕ, Bool, true, false, List, [], ◌∷◌, ◌++◌, length, get_or, set, Option, Some, None, Result, Ok, Err, refl, sym, ap}
use Rattle.std.proofs.Common.{subst, ◌∙◌, arith, inl, inr}
use Rattle.std.specs.Prelude.{◌&&◌, nat_lt}
use Rattle.std.proofs.lemmas.Bool.{cases_eq, lt-ltb}
use Rattle.std.proofs.lemmas.List.{get_or-set_same, get_or-set_other, length-append, append-nil}
use Rattle.gs_enet_wire.specs.declared.datagram.Datagram.{Datagram}
use Rattle.gs_enet_wire.specs.Grammar.{SpellsDatagram, spelling}
use Rattle.gs_enet_wire.proofs.Datagrams.{one_value}
use Rattle.gs_enet.specs.declared.event.PeerEvent.{PeerEvent}
use Rattle.gs_enet.specs.declared.peer.Peer.{Peer}
use Rattle.gs_enet.specs.declared.send_error.SendError.{SendError}
use Rattle.gs_enet.specs.declared.send_error.SendError.TheVariants.{NotOpen, WindowFull, OutOfMemory}
use Rattle.gs_enet.specs.Record.{PeerRecord, GivenMessage, channels, given_on, at_moment}
use Rattle.gs_enet.specs.Receive.{datagram_taken}
use Rattle.gs_enet.specs.Steps.{can_send, next_number, with_message, closed, timed}
use Rattle.gs_enet.specs.Write.{Item, fitting, next_items, wrote_next}
use Rattle.gs_enet.specs.World.{Written, Side, Send, Close, Time, sent_if, one_written, acted, came}
use Rattle.gs_enet.specs.Standing.{IsPeerOf}
use Rattle.gs_enet.specs.Outcomes as peer
use Rattle.gs_enet.proofs.Kept.{giving, given_on-own, given_on-apart}
use Rattle.gs_store.specs.Standing.{IsStoreOf}
use Rattle.gs_sides.specs.declared.side.ControlSide.{ControlSide}
use Rattle.gs_sides.specs.Known.{datagram_by, IsReadAsItself, HoldsAll, HasRecord}
use Rattle.gs_sides.specs.Openness.{open_after_all}
use Rattle.gs_sides.specs.Outcomes.{SideTellsAll, SideSends, SideTakes, SideWritesNext}
use Rattle.gs_enet.specs.Sides.{new_side}
use Rattle.gs_sides.specs.Standing.{IsSideOf}
use Rattle.gs_sides.specs.Steps.{TellsEvents, WritesSome, IsNew}
use Rattle.gs_sides.proofs.Naming.{IsNamed}
use Rattle.gs_sides.proofs.Storing.{stores}
use Rattle.gs_sides.proofs.Ups.{Follows, takes, times, IsClosed, closes}
use Rattle.gs_sides.proofs.Writings.{notes}

-- ---- events

-- whatever a side was up to, it follows its events from there
follows : (s : ControlSide) (x : Side) → IsSideOf s x → Follows s.up x.peer.given x.peer
follows s x h = record { up = sym h.up ∙ sym (ap (open_after_all s.up) h.told); given_are = refl }

-- the peer went on to a record, and told what arose
hears : (old new : ControlSide) (x : Side) (z : PeerRecord) (events : List PeerEvent) → IsSideOf old x
    → Follows old.up x.peer.given z → TellsEvents z old.up events new.up new.peer → new.wrote ≡ old.wrote → new.given ≡ old.given
    → SideTellsAll (record x { peer = z }) events new
hears old new x z events h f t wrote given =
    record {
      events_are = t.events_are;
      stands = record {
        peer = t.stands;
        wrote = subst (λ s. HoldsAll s x.wrote) (sym wrote) h.wrote;
        told = refl;
        up = t.up ∙ sym f.up;
        given = λ c below. ap (λ (g : List ℕ). get_or g c 0) given ∙ h.given c below
            ∙ sym (ap (λ (gs : List GivenMessage). length (given_on c gs)) f.given_are);
      };
    }

pub times_out : (old new : ControlSide) (x : Side) (now : ℕ) (events : List PeerEvent) → IsSideOf old x
    → TellsEvents (timed now x.peer) old.up events new.up new.peer → new.wrote ≡ old.wrote → new.given ≡ old.given
    → SideTellsAll (acted (Time now) x) events new
times_out old new x now events h t wrote given =
    hears old new x (timed now x.peer) events h (times old.up x.peer.given now x.peer (follows old x h)) t wrote given

-- ---- what comes

pub takes_named : (old new : ControlSide) (x y : Side) (k now : ℕ) (bytes : List ℕ) (d : Datagram) (events : List PeerEvent)
    → IsSideOf old x → IsNamed y.wrote k bytes → SpellsDatagram bytes d
    → TellsEvents (datagram_taken d now x.peer) old.up events new.up new.peer → new.wrote ≡ old.wrote → new.given ≡ old.given
    → SideTakes x y k now true events new
takes_named old new x y k now bytes d events h named spelled t wrote given =
    let same : d ≡ datagram_by named.wrote =
    one_value bytes d (datagram_by named.wrote) spelled (subst (λ (b : List ℕ). SpellsDatagram b (datagram_by named.wrote)) named.bytes_are named.again) in
    let told = subst (λ (e : Datagram). TellsEvents (datagram_taken e now x.peer) old.up events new.up new.peer) same t in
    let heard = hears old new x (datagram_taken (datagram_by named.wrote) now x.peer) events h
    (takes old.up x.peer.given (datagram_by named.wrote) now x.peer (follows old x h)) told wrote given in (
      named.nameable,
      subst (λ (w : Option Written). SideTellsAll (came w now x) events new) (sym named.there) heard,
    )

-- ---- messages

counts : (g : List ℕ) (gs : List GivenMessage) (channel number : ℕ) (bytes : List ℕ) → channel < length g
    → number ≡ length (given_on channel gs) + 1 → ((c : ℕ) → c < channels → get_or g c 0 ≡ length (given_on c gs))
    → (c : ℕ) → c < channels → get_or (set g channel number) c 0 ≡ length (given_on c (gs ++ giving channel bytes))
counts g gs channel number bytes inside is had c below = elim (cases_eq c channel) [
  | inl same ↦ own same
  | inr apart ↦ get_or-set_other g channel c number 0 apart ∙ had c below
      ∙ sym (ap length (given_on-apart c channel bytes gs (λ e. apart (sym e))))
]
  where
    own : c ≡ channel → get_or (set g channel number) c 0 ≡ length (given_on c (gs ++ giving channel bytes))
    own same =
        ap (λ (d : ℕ). get_or (set g channel number) d 0) same ∙ get_or-set_same g channel number 0 inside ∙ is
        ∙ sym (length-append (given_on channel gs) (bytes ∷ [])) ∙ sym (ap length (given_on-own channel bytes gs))
        ∙ ap (λ (d : ℕ). length (given_on d (gs ++ giving channel bytes))) (sym same)

pub sends : (old new : ControlSide) (x : Side) (channel number : ℕ) (bytes : List ℕ) → IsSideOf old x → channel < channels
    → channel < length old.given → can_send x.peer channel ≡ true → number ≡ next_number x.peer channel
    → IsPeerOf new.peer (with_message channel bytes x.peer) → new.wrote ≡ old.wrote → new.up ≡ old.up
    → new.given ≡ set old.given channel number → IsSideOf new (acted (Send channel bytes) x)
unfolding with_message
sends old new x channel number bytes h below inside able is stands wrote up given =
    let may : (nat_lt channel channels && can_send x.peer channel) ≡ true =
    both (nat_lt channel channels) (can_send x.peer channel) (lt-ltb channel channels below) able in
    subst (λ (b : Bool). IsSideOf new (record x { peer = sent_if b channel bytes x.peer })) (sym may) (record {
      peer = stands;
      wrote = subst (λ s. HoldsAll s x.wrote) (sym wrote) h.wrote;
      told = h.told;
      up = up ∙ h.up;
      given = λ c in_range. ap (λ (g : List ℕ). get_or g c 0) given ∙ counts old.given x.peer.given channel number bytes inside is h.given c in_range;
    })
  where
    both : (a b : Bool) → a ≡ true → b ≡ true → (a && b) ≡ true
    both true true e f = refl
    both true false e f = f
    both false b e f = e

-- the value is another, and stands for the same side
pub same_side : (old new : ControlSide) (x : Side) → IsSideOf old x → IsPeerOf new.peer x.peer → new.wrote ≡ old.wrote
    → new.up ≡ old.up → new.given ≡ old.given → IsSideOf new x
same_side old new x h stands wrote up given =
    record {
      peer = stands;
      wrote = subst (λ s. HoldsAll s x.wrote) (sym wrote) h.wrote;
      told = h.told;
      up = up ∙ h.up;
      given = λ c below. ap (λ (g : List ℕ). get_or g c 0) given ∙ h.given c below;
    }

-- a message that isn't given
pub refuses : (old new : ControlSide) (x : Side) (channel : ℕ) (bytes : List ℕ) (e : SendError) → IsSideOf old x
    → peer.Sends x.peer channel bytes (Err e) new.peer → new.wrote ≡ old.wrote → new.up ≡ old.up → new.given ≡ old.given
    → SideSends x channel bytes (Err e) new
refuses old new x channel bytes NotOpen h s wrote up given = (s.0, same_side old new x h s.1 wrote up given)
refuses old new x channel bytes WindowFull h s wrote up given = (s.0, s.1, same_side old new x h s.2 wrote up given)
refuses old new x channel bytes OutOfMemory h s wrote up given = (s.0, same_side old new x h s.1 wrote up given)

-- whatever it answers, the peer stands for a record
pub send_known : (old new : Peer) (channel : ℕ) (bytes : List ℕ) (answer : Result ℕ SendError) → HasRecord old
    → ((r : PeerRecord) → IsPeerOf old r → peer.Sends r channel bytes answer new) → HasRecord new
send_known old new channel bytes (Ok number) known s = λ none. known (λ r h. none (with_message channel bytes r) (s r h).2)
send_known old new channel bytes (Err NotOpen) known s = λ none. known (λ r h. none r (s r h).1)
send_known old new channel bytes (Err WindowFull) known s = λ none. known (λ r h. none r (s r h).2)
send_known old new channel bytes (Err OutOfMemory) known s = λ none. known (λ r h. none r (s r h).1)

-- ---- the end

pub closes_side : (old new : ControlSide) (x : Side) → IsSideOf old x → IsPeerOf new.peer (closed x.peer) → new.wrote ≡ old.wrote
    → new.up ≡ false → new.given ≡ old.given → IsSideOf new (acted Close x)
closes_side old new x h stands wrote up given =
    let over : IsClosed x.peer (closed x.peer) = closes x.peer in
    record {
      peer = stands;
      wrote = subst (λ s. HoldsAll s x.wrote) (sym wrote) h.wrote;
      told = over.waiting ∙ h.told;
      up = up ∙ sym over.down;
      given = λ c below. ap (λ (g : List ℕ). get_or g c 0) given ∙ h.given c below ∙ sym (ap (λ (gs : List GivenMessage). length (given_on c gs)) over.given);
    }

-- ---- writing

-- what writing leaves
writes : (old new : ControlSide) (x : Side) (ws : List Written) (now : ℕ) → IsSideOf old x → IsPeerOf new.peer (wrote_next now x.peer)
    → HoldsAll new.wrote ws → new.up ≡ old.up → new.given ≡ old.given
    → IsSideOf new (record { peer = wrote_next now x.peer; wrote = ws })
unfolding wrote_next
writes old new x ws now h stands holds up given =
    record {
      peer = stands;
      wrote = holds;
      told = h.told;
      up = up ∙ h.up;
      given = λ c below. ap (λ (g : List ℕ). get_or g c 0) given ∙ h.given c below;
    }

pub writes_none : (old new : ControlSide) (x : Side) (now : ℕ) → IsSideOf old x → WritesSome x.peer now None new.peer
    → new.wrote ≡ old.wrote → new.up ≡ old.up → new.given ≡ old.given → SideWritesNext x now false new
unfolding next_items
writes_none old new x now h w wrote up given =
    let nothing : next_items (at_moment now x.peer) ≡ [] = ap (fitting (at_moment now x.peer) 1388) w.0 in
    let holds : HoldsAll new.wrote (x.wrote ++ one_written (at_moment now x.peer) (next_items (at_moment now x.peer))) =
    subst (λ s. HoldsAll s (x.wrote ++ one_written (at_moment now x.peer) (next_items (at_moment now x.peer)))) (sym wrote)
    (subst (λ (ws : List Written). HoldsAll old.wrote ws)
    (sym (ap (λ (xs : List Item). x.wrote ++ one_written (at_moment now x.peer) xs) nothing ∙ append-nil x.wrote)) h.wrote) in
    (w.0, writes old new x _ now h w.1 holds up given)

pub writes_some : (old new : ControlSide) (x : Side) (now : ℕ) (bytes : List ℕ) → IsSideOf old x → WritesSome x.peer now (Some bytes) new.peer
    → ((all : List (List ℕ)) → IsStoreOf old.wrote all → IsStoreOf new.wrote (all ++ bytes ∷ []))
    → new.up ≡ old.up → new.given ≡ old.given → SideWritesNext x now true new
writes_some old new x now bytes h w put up given =
    let noted = notes (at_moment now x.peer) (next_items (at_moment now x.peer)) w.datagram w.is_next in
    let again : IsReadAsItself noted.wrote = subst (λ (d : Datagram). SpellsDatagram (spelling d) d) (sym noted.is) w.read_again in
    let holds : HoldsAll new.wrote (x.wrote ++ noted.wrote ∷ []) =
    stores old.wrote new.wrote bytes x.wrote noted.wrote put (w.bytes_are ∙ ap spelling (sym noted.is)) again h.wrote in (
      noted.some,
      writes old new x _ now h w.stands
          (subst (λ (ws : List Written). HoldsAll new.wrote (x.wrote ++ ws)) (sym noted.noted) holds) up given,
    )

-- ---- a new side

pub begins : (new : ControlSide) (r : PeerRecord) → IsPeerOf new.peer r → IsNew r → IsStoreOf new.wrote [] → new.up ≡ false
    → ((c : ℕ) → c < channels → get_or new.given c 0 ≡ 0) → IsSideOf new (new_side r)
begins new r stands fresh store up zeros =
    record {
      peer = stands;
      wrote = record { bytes = store; read_again = λ i d below. absurd (omega (arith, below)) };
      told = fresh.waiting;
      up = up ∙ sym fresh.up;
      given = λ c below. zeros c below ∙ sym (ap (λ (gs : List GivenMessage). length (given_on c gs)) fresh.given);
    }
