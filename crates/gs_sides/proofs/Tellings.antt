-- Events told one after the other.
use Rattle.std.proofs.Common.{◌≡◌, ◌<◌, ◌≤◌, suc, Bool, List, [], ◌∷◌, ◌++◌, length, Option, Some, None, refl, sym, ap, subst, ◌∙◌, arith, inl, inr}
use Rattle.std.proofs.lemmas.Bool.{cases_lt}
use Rattle.std.proofs.lemmas.List.{append_assoc, append-nil}
use Rattle.gs_enet.specs.declared.event.PeerEvent.{PeerEvent}
use Rattle.gs_enet.specs.declared.peer.Peer.{Peer}
use Rattle.gs_enet.specs.Record.{PeerRecord}
use Rattle.gs_enet.specs.Standing.{IsPeerOf}
use Rattle.gs_enet.specs.Steps.{first_event, telling, told_next}
use Rattle.gs_enet.specs.Outcomes.{TellsNext}
use Rattle.gs_sides.specs.Known.{HasRecord}
use Rattle.gs_sides.specs.Openness.{open_after, open_after_all}
use Rattle.gs_sides.specs.Steps.{TellsEvents}
use Rattle.gs_sides.proofs.Ups.{after_push}

-- the record once these events are told, and those are left
abbrev pub having_told : List PeerEvent → List PeerEvent → PeerRecord → PeerRecord
having_told events rest r = record r { told = r.told ++ events; waiting = rest }

-- so far these events were told
pub record TellsFront (r : PeerRecord) (was : Bool) (events : List PeerEvent) (is : Bool) (now : Peer) : Type 0 where
  pub rest : List PeerEvent
  pub parts : r.waiting ≡ events ++ rest
  pub up : is ≡ open_after_all was events
  pub stands : IsPeerOf now (having_told events rest r)

pub record Telling (old : Peer) (was : Bool) (events : List PeerEvent) (is : Bool) (now : Peer) : Type 0 where
  pub known : HasRecord now
  pub so_far : (r : PeerRecord) → IsPeerOf old r → TellsFront r was events is now

pub tells_none : (p : Peer) (was : Bool) (events : List PeerEvent) → events ≡ [] → HasRecord p → Telling p was events was p
tells_none p was events none known =
    subst (λ (es : List PeerEvent). Telling p was es was p) (sym none) (record {
      known = known;
      so_far = λ r h. record {
        rest = r.waiting;
        parts = refl;
        up = refl;
        stands = subst (λ (es : List PeerEvent). IsPeerOf p (record r { told = es; waiting = r.waiting })) (sym (append-nil r.told)) h;
      };
    })

next_known : (now new : Peer) (o : Option PeerEvent) → HasRecord now → ((r : PeerRecord) → IsPeerOf now r → TellsNext r o new) → HasRecord new
next_known now new o known next = λ none. known (λ r h. none (told_next r) (next r h).stands)

-- one event more
pub tells_more : (old : Peer) (was : Bool) (events : List PeerEvent) (is : Bool) (now : Peer) (e : PeerEvent) (new : Peer)
    → Telling old was events is now → ((r : PeerRecord) → IsPeerOf now r → TellsNext r (Some e) new)
    → Telling old was (events ++ e ∷ []) (open_after is e) new
unfolding told_next
tells_more old was events is now e new t next =
    record {
      known = next_known now new (Some e) t.known next;
      so_far = λ r h. step r (t.so_far r h).rest (t.so_far r h).parts (t.so_far r h).up (next (having_told events (t.so_far r h).rest r) (t.so_far r h).stands);
    }
  where
    step : (r : PeerRecord) (rest : List PeerEvent) → r.waiting ≡ events ++ rest → is ≡ open_after_all was events
        → TellsNext (having_told events rest r) (Some e) new → TellsFront r was (events ++ e ∷ []) (open_after is e) new
    step r [] parts up tells = absurd (let e' : Some e ≡ None = tells.answer_is in grind arith)
    step r (first ∷ rest) parts up tells =
        let same : first ≡ e = (let e' : Some e ≡ Some first = tells.answer_is in grind arith) in
        record {
          rest = rest;
          parts = parts ∙ ap (λ (x : PeerEvent). events ++ x ∷ rest) same ∙ sym (append_assoc events (e ∷ []) rest);
          up = ap (λ (b : Bool). open_after b e) up ∙ sym (after_push was events e);
          stands = subst (λ (es : List PeerEvent). IsPeerOf new (record r { told = es; waiting = rest }))
              (append_assoc r.told events (first ∷ []) ∙ ap (λ (x : PeerEvent). r.told ++ (events ++ x ∷ [])) same) tells.stands;
        }

-- no event is left
pub tells_end : (old : Peer) (was : Bool) (events : List PeerEvent) (is : Bool) (now new : Peer)
    → Telling old was events is now → ((r : PeerRecord) → IsPeerOf now r → TellsNext r None new)
    → (r : PeerRecord) → IsPeerOf old r → TellsEvents r was events is new
unfolding told_next
tells_end old was events is now new t next r h =
    last (t.so_far r h).rest (t.so_far r h).parts (t.so_far r h).up (next (having_told events (t.so_far r h).rest r) (t.so_far r h).stands)
  where
    last : (rest : List PeerEvent) → r.waiting ≡ events ++ rest → is ≡ open_after_all was events
        → TellsNext (having_told events rest r) None new → TellsEvents r was events is new
    last (first ∷ rest) parts up tells = absurd (let e' : None ≡ Some first = tells.answer_is in grind arith)
    last [] parts up tells =
        let all : events ≡ r.waiting = sym (parts ∙ append-nil events) in
        record {
          events_are = all;
          up = up ∙ ap (open_after_all was) all;
          stands = subst (λ (es : List PeerEvent). IsPeerOf new (record r { told = r.told ++ es; waiting = [] })) all tells.stands;
        }

pub end_known : (old : Peer) (was : Bool) (events : List PeerEvent) (is : Bool) (now new : Peer) (o : Option PeerEvent)
    → Telling old was events is now → ((r : PeerRecord) → IsPeerOf now r → TellsNext r o new) → HasRecord new
end_known old was events is now new o t next = next_known now new o t.known next

-- fewer events wait
pub fewer_wait : (now new : Peer) (e : PeerEvent) → HasRecord now → ((r : PeerRecord) → IsPeerOf now r → TellsNext r (Some e) new)
    → length new.waiting.items < length now.waiting.items
unfolding told_next
fewer_wait now new e known next = elim (cases_lt (length new.waiting.items) (length now.waiting.items)) [
  | inl less ↦ less
  | inr not ↦ absurd (known (λ r h. less_than r r.waiting refl h (next r h) not))
]
  where
    less_than : (r : PeerRecord) (es : List PeerEvent) → r.waiting ≡ es → IsPeerOf now r → TellsNext r (Some e) new
        → length now.waiting.items ≤ length new.waiting.items → ⊥
    less_than r [] is h tells not = absurd (let e' : Some e ≡ None = tells.answer_is ∙ ap first_event is in grind arith)
    less_than r (first ∷ rest) is h tells not =
        let had : length now.waiting.items ≡ suc (length rest) = ap length (sym h.waiting ∙ is) in
        let has : length new.waiting.items ≡ length rest = ap length (sym tells.stands.waiting ∙ ap (λ (es : List PeerEvent). (telling es r).waiting) is) in
        omega (arith, had, has, not)
