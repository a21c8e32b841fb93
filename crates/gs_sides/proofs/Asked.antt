-- What is owed is given.
use Rattle.std.proofs.Common.{◌≡◌, ◌≤◌, ◌<◌, ◌+◌, ℕ, suc, Bool, true, false, List, [], ◌∷◌, length, get_or, set, take, Result, Ok, Err, refl, sym, ap, subst}
use Rattle.std.proofs.Common.{◌∙◌, arith, inl, inr}
use Rattle.std.specs.Prelude.{if◌then◌else◌}
use Rattle.std.proofs.lemmas.Bool.{cases_eq}
use Rattle.std.proofs.lemmas.List.{get_or-set_same, get_or-set_other, length-append, length-take-le}
use Rattle.gs_bytes.specs.declared.out_of_memory.OutOfMemory.{OutOfMemory}
use Rattle.gs_enet.specs.declared.peer.Peer.{Peer}
use Rattle.gs_enet.specs.declared.state.PeerState.{PeerState}
use Rattle.gs_enet.specs.Record.{PeerRecord, given_on, given_count}
use Rattle.gs_enet.specs.Steps.{is_open, can_send, with_message}
use Rattle.gs_enet.specs.Standing.{IsPeerOf}
use Rattle.gs_enet.specs.World.{Side}
use Rattle.gs_enet.proofs.Kept.{given_on-own, given_on-apart}
use Rattle.gs_client_core.specs.declared.asker.Owed.{Owed}
use Rattle.gs_client_core.specs.Owed.{request_channel, owed_message, asked, all_asked, going, HaveGone, SendsOwed}
use Rattle.gs_sides.specs.declared.side.ControlSide.{ControlSide}
use Rattle.gs_sides.specs.Known.{HoldsAll, HasRecord}
use Rattle.gs_sides.specs.Outcomes.{GivesOwed}
use Rattle.gs_sides.specs.Standing.{IsSideOf}

-- ---- a record that was given what was owed

-- its messages on the channel of requests are so many more, and else it is as before
pub record WasAsked (owed : List Owed) (r s : PeerRecord) : Type 0 where
  pub state : s.state ≡ r.state
  pub waiting : s.waiting ≡ r.waiting
  pub own : given_count s request_channel ≡ given_count r request_channel + length owed
  pub others : (c : ℕ) → (request_channel ≡ c → ⊥) → given_count s c ≡ given_count r c

one_more : (bytes : List ℕ) (r : PeerRecord) → given_count (with_message request_channel bytes r) request_channel ≡ given_count r request_channel + 1
unfolding with_message
one_more bytes r =
    ap (λ (l : List (List ℕ)). length l) (given_on-own request_channel bytes r.given)
    ∙ length-append (given_on request_channel r.given) (bytes ∷ [])

no_more : (bytes : List ℕ) (r : PeerRecord) (c : ℕ) → (request_channel ≡ c → ⊥) → given_count (with_message request_channel bytes r) c ≡ given_count r c
unfolding with_message
no_more bytes r c apart = ap (λ (l : List (List ℕ)). length l) (given_on-apart c request_channel bytes r.given apart)

state_stays : (bytes : List ℕ) (r : PeerRecord) → (with_message request_channel bytes r).state ≡ r.state
unfolding with_message
state_stays bytes r = refl

waiting_stays : (bytes : List ℕ) (r : PeerRecord) → (with_message request_channel bytes r).waiting ≡ r.waiting
unfolding with_message
waiting_stays bytes r = refl

was_asked : (owed : List Owed) (r : PeerRecord) → WasAsked owed r (all_asked owed r)
was_asked [] r = record { state = refl; waiting = refl; own = omega arith; others = λ c apart. refl }
was_asked (first ∷ rest) r =
    let more = was_asked rest (asked first r) in
    let own = more.own in
    let one = one_more (owed_message first) r in
    record {
      state = more.state ∙ state_stays (owed_message first) r;
      waiting = more.waiting ∙ waiting_stays (owed_message first) r;
      own = omega (arith, own, one);
      others = λ c apart. more.others c apart ∙ no_more (owed_message first) r c apart;
    }

-- no more goes than is owed
going_most : (r : PeerRecord) (owed : List Owed) → going r owed ≤ length owed
going_most r [] = omega arith
going_most r (first ∷ rest) = by (can_send r request_channel) (going_most (asked first r) rest) where
  by : (b : Bool) → going (asked first r) rest ≤ length rest
      → (if b then suc (going (asked first r) rest) else 0) ≤ length (first ∷ rest)
  by true most = omega (arith, most)
  by false most = omega arith

-- ---- the side

-- whatever is answered, the peer stands for a record
pub owed_known : (old new : Peer) (owed stays : List Owed) (answer : Result ℕ OutOfMemory) → HasRecord old
    → ((r : PeerRecord) → IsPeerOf old r → SendsOwed r owed stays answer new) → HasRecord new
owed_known old new owed stays (Ok count) known s = λ none. known (λ r h. none (all_asked (take count owed) r) (s r h).1.stands)
owed_known old new owed stays (Err refused) known s =
    λ none. known (λ r h. let gone = s r h in none (all_asked (take gone.count owed) r) gone.gone.stands)

pub gives_owed : (old new : ControlSide) (x : Side) (owed stays : List Owed) (count number : ℕ) → IsSideOf old x
    → (count ≡ going x.peer owed) × HaveGone x.peer owed stays count new.peer → new.wrote ≡ old.wrote → new.up ≡ old.up
    → new.given ≡ set old.given 1 number → number ≡ get_or old.given 1 0 + count → 1 < length old.given
    → GivesOwed x owed stays count new
gives_owed old new x owed stays count number h sent wrote up given number_is inside =
    let went = take count owed in
    let was = was_asked went x.peer in
    let most = going_most x.peer owed in
    let size : length went ≡ count = length-take-le count owed (omega (arith, sent.0, most)) in
    let own = was.own in
    let had = h.given 1 (omega arith) in
    let now : number ≡ given_count (all_asked went x.peer) 1 = omega (arith, number_is, own, size, had) in
    record {
      count_is = sent.0;
      stays_are = sent.1.rest;
      stands = record {
        peer = sent.1.stands;
        wrote = subst (λ s. HoldsAll s x.wrote) (sym wrote) h.wrote;
        told = was.waiting ∙ h.told;
        up = up ∙ h.up ∙ sym (ap (λ (s : PeerState). is_open s) was.state);
        given = λ c below. ap (λ (g : List ℕ). get_or g c 0) given ∙ (elim (cases_eq c 1) [
          | inl same ↦ ap (λ (d : ℕ). get_or (set old.given 1 number) d 0) same ∙ get_or-set_same old.given 1 number 0 inside ∙ now
              ∙ ap (λ (d : ℕ). given_count (all_asked went x.peer) d) (sym same)
          | inr apart ↦ get_or-set_other old.given 1 c number 0 apart ∙ h.given c below
              ∙ sym (was.others c (λ e. apart (sym e)))
        ]);
      };
    }
