-- What seats and peers keep when a peer comes, goes or is lent.
use Rattle.std.proofs.Common.{◌≡◌, ◌⊎◌, ◌<◌, ◌≤◌, ℕ, Bool, true, false, List, [], ◌∷◌, length, get_or, set, replicate, Option, Some, None, refl, sym, ap, subst}
use Rattle.std.proofs.Common.{◌∙◌, arith, inl, inr}
use Rattle.std.specs.Prelude.{◌≢◌, ◌==◌, is_some, IsSome}
use Rattle.std.proofs.lemmas.Bool.{cases_eq, cases_lt, eqb-true, eq-eqb, false≢true}
use Rattle.std.proofs.lemmas.List.{get_or-set_same, get_or-set_other, get_or-replicate, get_or_past, length-set, length-replicate}
use Rattle.slab.specs.Slab.{Slab, get, Updates, with_value}
use Rattle.gs_bytes.specs.declared.addr.Addr.{Addr}
use Rattle.gs_enet.specs.declared.peer.Peer.{Peer}
use Rattle.gs_enet_hub.specs.declared.seat.Seat.{Seat}
use Rattle.gs_enet_hub.specs.Seats.{most_peers, IsSeatOf, IsTaken}
use Rattle.gs_enet_hub.specs.Seating.{Seating, Member, member_at, seated, seat_of, member, peer_of, is_seat_held, is_shared, IsSeating, place_if}
use Rattle.gs_enet_hub.specs.Seating.{with_own, with_peer, PutsPeer}
use Rattle.gs_enet_hub.specs.Routing.{HasAddress, HasName, IsLive}

-- ---- no seat is taken

empty_length : (n : ℕ) → length (let none : Option Seat = None in replicate n none) ≡ n
empty_length n = (let none : Option Seat = None in length-replicate n none)

pub empty_seat : (n key : ℕ) → seat_of (replicate n None) key ≡ None
empty_seat n key = elim (cases_lt key n) [
  | inl below ↦ get_or-replicate n key None None below
  | inr above ↦ get_or_past (replicate n None) key None (subst (λ (k : ℕ). k ≤ key) (sym (empty_length n)) above)
]

pub empty_seating : (seats : List (Option Seat)) (peers : Slab Peer) → seats ≡ replicate 16 None → IsSeating seats peers
empty_seating seats peers e =
    subst (λ (x : List (Option Seat)). IsSeating x peers) (sym e) (
    record {
      all = empty_length 16;
      held = λ key. ap (is_seat_held peers) (empty_seat 16 key);
      apart = λ key other shared. absurd (false≢true (sym (ap (λ (x : Option Seat). is_shared x (seat_of (replicate 16 None) other)) (empty_seat 16 key))
          ∙ shared));
    }
    )

pub empty_member : (seats : List (Option Seat)) (peers : Slab Peer) (key : ℕ) → seats ≡ replicate 16 None → seated peers (seat_of seats key) ≡ None
empty_member seats peers key e = ap (λ (x : List (Option Seat)). seated peers (seat_of x key)) e ∙ ap (seated peers) (empty_seat 16 key)

-- ---- a seat that is taken has its peer

record Stands (peers : Slab Peer) (seat : Seat) : Type 0 where
  pub peer : Peer
  pub is : get peers seat.place ≡ Some peer

stands : (peers : Slab Peer) (found : Option Seat) (seat : Seat) → is_seat_held peers found ≡ true → found ≡ Some seat → Stands peers seat
stands peers found seat held e =
    here (get peers seat.place) refl (subst (λ (x : Option Seat). is_seat_held peers x ≡ true) e held) where
      here : (at : Option Peer) → get peers seat.place ≡ at → is_some (get peers seat.place) ≡ true → Stands peers seat
      here None is some = absurd (false≢true (sym (ap is_some is) ∙ some))
      here (Some p) is some = record { peer = p; is = is }

pub member_taken : (peers : Slab Peer) (found : Option Seat) (seat : Seat) (p : Peer) → found ≡ Some seat → get peers seat.place ≡ Some p
    → seated peers found ≡ Some (record { from = seat.from; connect_id = seat.connect_id; peer = p })
member_taken peers found seat p e is = ap (seated peers) e ∙ ap (λ (x : Option Peer). member_at x seat.from seat.connect_id) is

-- a seat's name is its member's
pub has_name : (peers : Slab Peer) (found : Option Seat) (from : Addr) (connect_id : ℕ) → is_seat_held peers found ≡ true → IsSeatOf from connect_id found
    → HasName from connect_id (seated peers found)
has_name peers None from connect_id held is = absurd is
has_name peers (Some seat) from connect_id held is =
    let s : Stands peers seat = stands peers (Some seat) seat held refl in
    subst (HasName from connect_id) (sym (member_taken peers (Some seat) seat s.peer refl s.is)) is

pub name_has : (peers : Slab Peer) (found : Option Seat) (from : Addr) (connect_id : ℕ) → HasName from connect_id (seated peers found)
    → IsSeatOf from connect_id found
name_has peers None from connect_id has = absurd has
name_has peers (Some seat) from connect_id has = here (get peers seat.place) has where
  here : (at : Option Peer) → HasName from connect_id (member_at at seat.from seat.connect_id) → (seat.from ≡ from) × (seat.connect_id ≡ connect_id)
  here None has = absurd has
  here (Some p) has = has

pub has_address : (peers : Slab Peer) (found : Option Seat) (seat : Seat) → is_seat_held peers found ≡ true → found ≡ Some seat
    → HasAddress seat.from (seated peers found)
has_address peers found seat held e =
    let s : Stands peers seat = stands peers found seat held e in
    subst (HasAddress seat.from) (sym (member_taken peers found seat s.peer e s.is)) refl

pub address_has : (peers : Slab Peer) (found : Option Seat) (seat : Seat) (from : Addr) → found ≡ Some seat → HasAddress from (seated peers found)
    → seat.from ≡ from
address_has peers found seat from e has = here (get peers seat.place) (subst (λ (x : Option Seat). HasAddress from (seated peers x)) e has) where
  here : (at : Option Peer) → HasAddress from (member_at at seat.from seat.connect_id) → seat.from ≡ from
  here None has = absurd has
  here (Some p) has = has

pub is_live : (peers : Slab Peer) (found : Option Seat) → is_seat_held peers found ≡ true → IsTaken found → IsSome (seated peers found)
is_live peers None held is = is
is_live peers (Some seat) held is =
    let s : Stands peers seat = stands peers (Some seat) seat held refl in
    subst (λ (x : Option Member). IsSome x) (sym (member_taken peers (Some seat) seat s.peer refl s.is)) refl

pub none_free : (peers : Slab Peer) (found : Option Seat) → is_seat_held peers found ≡ true → seated peers found ≡ None → found ≡ None
none_free peers None held none = refl
none_free peers (Some seat) held none =
    let s : Stands peers seat = stands peers (Some seat) seat held refl in
    let is : seated peers (Some seat) ≡ Some (record { from = seat.from; connect_id = seat.connect_id; peer = s.peer }) =
    member_taken peers (Some seat) seat s.peer refl s.is in
    absurd cc

pub free_none : (peers : Slab Peer) (found : Option Seat) → found ≡ None → seated peers found ≡ None
free_none peers found e = ap (seated peers) e

-- ---- seats that stay

held_same : (old new : Slab Peer) (found : Option Seat) → ((seat : Seat) → found ≡ Some seat → get new seat.place ≡ get old seat.place)
    → is_seat_held new found ≡ is_seat_held old found
held_same old new None same = refl
held_same old new (Some seat) same = ap is_some (same seat refl)

seated_same : (old new : Slab Peer) (found : Option Seat) → ((seat : Seat) → found ≡ Some seat → get new seat.place ≡ get old seat.place)
    → seated new found ≡ seated old found
seated_same old new None same = refl
seated_same old new (Some seat) same = ap (λ (x : Option Peer). member_at x seat.from seat.connect_id) (same seat refl)

record IsShared (seat : Seat) (found : Option Seat) : Type 0 where
  pub other : Seat
  pub is : found ≡ Some other
  pub same : seat.place ≡ other.place

shared_is : (seat : Seat) (found : Option Seat) → is_shared (Some seat) found ≡ true → IsShared seat found
shared_is seat None e = absurd (false≢true e)
shared_is seat (Some other) e = record { other = other; is = refl; same = eqb-true seat.place other.place e }

shared_back : (x y : Option Seat) → is_shared x y ≡ true → is_shared y x ≡ true
shared_back None y e = absurd (false≢true e)
shared_back (Some seat) None e = absurd (false≢true e)
shared_back (Some seat) (Some other) e = eq-eqb other.place seat.place (sym (eqb-true seat.place other.place e))

none_shared : (x : Option Seat) → is_shared x None ≡ true → ⊥
none_shared None e = false≢true e
none_shared (Some seat) e = false≢true e

-- ---- a peer comes

abbrev pub taking : ℕ → Addr → ℕ → Option Seat
taking place from connect_id = Some (record { place = place; from = from; connect_id = connect_id })

-- no seat had a place that was vacant
vacant_apart : (peers : Slab Peer) (place : ℕ) (found : Option Seat) (seat : Seat) → is_seat_held peers found ≡ true → found ≡ Some seat
    → get peers place ≡ None
    → seat.place ≡ place → ⊥
vacant_apart peers place found seat held e none same =
    let s : Stands peers seat = stands peers found seat held e in
    let is : get peers place ≡ Some s.peer = subst (λ (x : ℕ). get peers x ≡ Some s.peer) same s.is in
    absurd cc

others_come : (seats : List (Option Seat)) (old new : Slab Peer) (place : ℕ) (slot : Option Peer) → IsSeating seats old → get old place ≡ None
    → Updates old new place slot
    → (k : ℕ) (seat : Seat) → seat_of seats k ≡ Some seat → get new seat.place ≡ get old seat.place
others_come seats old new place slot sound none up k seat e =
    up.others seat.place (λ same. vacant_apart old place (seat_of seats k) seat (sound.held k) e none same)

own_seat : (seats : List (Option Seat)) (key k : ℕ) (x : Option Seat) → key < length seats → k ≡ key → seat_of (set seats key x) k ≡ x
own_seat seats key k x below same = subst (λ (i : ℕ). seat_of (set seats key x) i ≡ x) (sym same) (get_or-set_same seats key x None below)

other_seat : (seats : List (Option Seat)) (key k : ℕ) (x : Option Seat) → (k ≡ key → ⊥) → seat_of (set seats key x) k ≡ seat_of seats k
other_seat seats key k x apart = get_or-set_other seats key k x None apart

pub comes : (seats : List (Option Seat)) (old new : Slab Peer) (key place : ℕ) (from : Addr) (connect_id : ℕ) (p : Peer) → IsSeating seats old → key < 16
    → get old place ≡ None → Updates old new place (Some p) → IsSeating (set seats key (taking place from connect_id)) new
comes seats old new key place from connect_id p sound low none up =
    let mine : Option Seat = taking place from connect_id in
    let below : key < length seats = omega (arith, low, sound.all) in
    let keeps : (k : ℕ) (seat : Seat) → seat_of seats k ≡ Some seat → get new seat.place ≡ get old seat.place =
    others_come seats old new place (Some p) sound none up in
    let unshared : (k : ℕ) → is_shared (taking place from connect_id) (seat_of seats k) ≡ true → ⊥ = λ k shared.
    let h : IsShared (record { place = place; from = from; connect_id = connect_id }) (seat_of seats k) =
    shared_is (record { place = place; from = from; connect_id = connect_id }) (seat_of seats k) shared in
    vacant_apart old place (seat_of seats k) h.other (sound.held k) h.is none (sym h.same) in
    record {
      all = length-set seats key mine ∙ sound.all;
      held = λ k. elim (cases_eq k key) [
        | inl same ↦ ap (is_seat_held new) (own_seat seats key k mine below same) ∙ ap is_some up.changed
        | inr apart ↦ ap (is_seat_held new) (other_seat seats key k mine apart) ∙ held_same old new (seat_of seats k) (keeps k) ∙ sound.held k
      ];
      apart = λ k other shared. elim (cases_eq k key) [
        | inl same ↦ elim (cases_eq other key) [
          | inl too ↦ same ∙ sym too
          | inr apart ↦ absurd (unshared other
              (subst (λ (x : Option Seat). is_shared x (seat_of seats other) ≡ true) (own_seat seats key k mine below same)
              (subst (λ (x : Option Seat). is_shared (seat_of (set seats key mine) k) x ≡ true) (other_seat seats key other mine apart) shared)))
        ]
        | inr apart ↦ elim (cases_eq other key) [
          | inl too ↦ absurd (unshared k (shared_back (seat_of seats k) mine
              (subst (λ (x : Option Seat). is_shared x mine ≡ true) (other_seat seats key k mine apart)
              (subst (λ (x : Option Seat). is_shared (seat_of (set seats key mine) k) x ≡ true) (own_seat seats key other mine below too) shared))))
          | inr also ↦ sound.apart k other
              (subst (λ (x : Option Seat). is_shared x (seat_of seats other) ≡ true) (other_seat seats key k mine apart)
              (subst (λ (x : Option Seat). is_shared (seat_of (set seats key mine) k) x ≡ true) (other_seat seats key other mine also) shared))
        ]
      ];
    }

pub come_here : (seats : List (Option Seat)) (old new : Slab Peer) (key place : ℕ) (from : Addr) (connect_id : ℕ) (p : Peer) → IsSeating seats old → key < 16
    → Updates old new place (Some p)
    → seated new (seat_of (set seats key (taking place from connect_id)) key) ≡ Some (record { from = from; connect_id = connect_id; peer = p })
come_here seats old new key place from connect_id p sound low up =
    member_taken new (seat_of (set seats key (taking place from connect_id)) key) (record { place = place; from = from; connect_id = connect_id }) p
    (own_seat seats key key (taking place from connect_id) (omega (arith, low, sound.all)) refl) up.changed

pub come_apart : (seats : List (Option Seat)) (old new : Slab Peer) (key place : ℕ) (seat : Option Seat) (p : Peer) → IsSeating seats old
    → get old place ≡ None → Updates old new place (Some p) → (k : ℕ) → (k ≡ key → ⊥)
    → seated new (seat_of (set seats key seat) k) ≡ seated old (seat_of seats k)
come_apart seats old new key place seat p sound none up k apart =
    ap (seated new) (other_seat seats key k seat apart) ∙ seated_same old new (seat_of seats k) (others_come seats old new place (Some p) sound none up k)

-- a peer that wasn't seated comes, and no member knows of it
pub come_unseated : (seats : List (Option Seat)) (old new : Slab Peer) (place : ℕ) (slot : Option Peer) → IsSeating seats old → get old place ≡ None
    → Updates old new place slot → IsSeating seats new
come_unseated seats old new place slot sound none up =
    record {
      all = sound.all;
      held = λ k. held_same old new (seat_of seats k) (others_come seats old new place slot sound none up k) ∙ sound.held k;
      apart = sound.apart;
    }

-- ---- a peer goes

others_go : (seats : List (Option Seat)) (old new : Slab Peer) (key : ℕ) (gone : Seat) (slot : Option Peer) → IsSeating seats old
    → seat_of seats key ≡ Some gone
    → Updates old new gone.place slot → (k : ℕ) → (k ≡ key → ⊥) → (seat : Seat) → seat_of seats k ≡ Some seat → get new seat.place ≡ get old seat.place
others_go seats old new key gone slot sound at up k apart seat e =
    up.others seat.place (λ same. apart (sound.apart k key
    (subst (λ (x : Option Seat). is_shared x (seat_of seats key) ≡ true) (sym e)
    (subst (λ (x : Option Seat). is_shared (Some seat) x ≡ true) (sym at) (eq-eqb seat.place gone.place same)))))

pub goes : (seats : List (Option Seat)) (old new : Slab Peer) (key : ℕ) (gone : Seat) → IsSeating seats old → seat_of seats key ≡ Some gone
    → Updates old new gone.place None → IsSeating (set seats key None) new
goes seats old new key gone sound at up =
    let below : key < length seats = elim (cases_lt key (length seats)) [
      | inl less ↦ less
      | inr above ↦ (let none : seat_of seats key ≡ None = get_or_past seats key None above in absurd cc)
    ] in
    record {
      all = length-set seats key None ∙ sound.all;
      held = λ k. elim (cases_eq k key) [
        | inl same ↦ ap (is_seat_held new) (own_seat seats key k None below same)
        | inr apart ↦ ap (is_seat_held new) (other_seat seats key k None apart)
            ∙ held_same old new (seat_of seats k) (others_go seats old new key gone None sound at up k apart) ∙ sound.held k
      ];
      apart = λ k other shared. elim (cases_eq k key) [
        | inl same ↦ absurd (false≢true (subst (λ (x : Option Seat). is_shared x (seat_of (set seats key None) other) ≡ true)
            (own_seat seats key k None below same) shared))
        | inr apart ↦ elim (cases_eq other key) [
          | inl too ↦ absurd (none_shared (seat_of (set seats key None) k)
              (subst (λ (x : Option Seat). is_shared (seat_of (set seats key None) k) x ≡ true) (own_seat seats key other None below too) shared))
          | inr also ↦ sound.apart k other
              (subst (λ (x : Option Seat). is_shared x (seat_of seats other) ≡ true) (other_seat seats key k None apart)
              (subst (λ (x : Option Seat). is_shared (seat_of (set seats key None) k) x ≡ true) (other_seat seats key other None also) shared))
        ]
      ];
    }

pub go_here : (seats : List (Option Seat)) (peers : Slab Peer) (key : ℕ) → seated peers (seat_of (set seats key None) key) ≡ None
go_here seats peers key = elim (cases_lt key (length seats)) [
  | inl below ↦ ap (seated peers) (get_or-set_same seats key None None below)
  | inr above ↦ ap (seated peers) (get_or_past (set seats key None) key None (omega (arith, above, length-set seats key None)))
]

pub go_apart : (seats : List (Option Seat)) (old new : Slab Peer) (key : ℕ) (gone : Seat) → IsSeating seats old → seat_of seats key ≡ Some gone
    → Updates old new gone.place None → (k : ℕ) → (k ≡ key → ⊥) → seated new (seat_of (set seats key None) k) ≡ seated old (seat_of seats k)
go_apart seats old new key gone sound at up k apart =
    ap (seated new) (other_seat seats key k None apart) ∙ seated_same old new (seat_of seats k) (others_go seats old new key gone None sound at up k apart)

-- ---- a peer is lent

value_some : (slots : List (Option Peer)) (place q : ℕ) (w : Peer) → is_some (get_or slots q None) ≡ true → is_some (get_or (set slots place (Some w)) q None)
    ≡ true
value_some slots place q w some = elim (cases_eq q place) [
  | inl same ↦ elim (cases_lt place (length slots)) [
    | inl below ↦ ap is_some (subst (λ (x : ℕ). get_or (set slots place (Some w)) x None ≡ Some w) (sym same) (get_or-set_same slots place (Some w) None below))
    | inr above ↦ absurd (false≢true (sym (ap is_some (get_or_past slots q None (omega (arith, same, above)))) ∙ some))
  ]
  | inr apart ↦ ap is_some (get_or-set_other slots place q (Some w) None apart) ∙ some
]

lent_held : (peers : Slab Peer) (place : ℕ) (w : Peer) (found : Option Seat) → is_seat_held peers found ≡ true
    → is_seat_held (with_value peers place w) found ≡ true
lent_held peers place w None held = refl
lent_held peers place w (Some seat) held = value_some peers.slots place seat.place w held

pub lends : (seats : List (Option Seat)) (peers : Slab Peer) (place : ℕ) (w : Peer) → IsSeating seats peers → IsSeating seats (with_value peers place w)
lends seats peers place w sound = record { all = sound.all; held = λ k. lent_held peers place w (seat_of seats k) (sound.held k); apart = sound.apart }

in_range : (slots : List (Option Peer)) (place : ℕ) (p : Peer) → get_or slots place None ≡ Some p → place < length slots
in_range slots place p is = elim (cases_lt place (length slots)) [
  | inl below ↦ below
  | inr above ↦ (let none : get_or slots place None ≡ None = get_or_past slots place None above in absurd cc)
]

puts_at : (seats : List (Option Seat)) (peers : Slab Peer) (key : ℕ) (w : Peer) (seat : Seat) → IsSeating seats peers → seat_of seats key ≡ Some seat
    → PutsPeer (record { seats = seats; peers = peers }) (record { seats = seats; peers = with_value peers seat.place w }) key w
puts_at seats peers key w seat sound at =
    let s : Stands peers seat = stands peers (seat_of seats key) seat (sound.held key) at in
    let was : seated peers (seat_of seats key) ≡ Some (record { from = seat.from; connect_id = seat.connect_id; peer = s.peer }) =
    member_taken peers (seat_of seats key) seat s.peer at s.is in
    let new : Slab Peer = with_value peers seat.place w in
    let now : seated new (seat_of seats key) ≡ Some (record { from = seat.from; connect_id = seat.connect_id; peer = w }) =
    member_taken new (seat_of seats key) seat w at (get_or-set_same peers.slots seat.place (Some w) None (in_range peers.slots seat.place s.peer s.is)) in
    record {
      own = now ∙ sym (ap (λ (m : Option Member). with_own m w) was);
      others = λ k apart. seated_same peers new (seat_of seats k) (λ other e. get_or-set_other peers.slots seat.place other.place (Some w) None
          (λ same. apart (sound.apart k key
          (subst (λ (x : Option Seat). is_shared x (seat_of seats key) ≡ true) (sym e)
          (subst (λ (x : Option Seat). is_shared (Some other) x ≡ true) (sym at) (eq-eqb other.place seat.place same))))));
    }

-- where the key is live, a peer that is left behind its reference is that key's alone
pub puts : (seats : List (Option Seat)) (peers : Slab Peer) (key : ℕ) (w : Peer) → IsSeating seats peers → IsSome (seated peers (seat_of seats key))
    → PutsPeer (record { seats = seats; peers = peers }) (with_peer (record { seats = seats; peers = peers }) key w) key w
puts seats peers key w sound live = here (seat_of seats key) refl live where
  here : (found : Option Seat) → seat_of seats key ≡ found → IsSome (seated peers found)
      → PutsPeer (record { seats = seats; peers = peers }) (record {
        seats = seats;
        peers = with_value peers (place_if peers.capacity (seat_of seats key)) w;
      }) key w
  here None at live = absurd (false≢true live)
  here (Some seat) at live =
      subst (λ (x : ℕ). PutsPeer (record { seats = seats; peers = peers }) (record { seats = seats; peers = with_value peers x w }) key w)
      (sym (ap (place_if peers.capacity) at)) (puts_at seats peers key w seat sound at)

peer_of_at : (at : Option Peer) (from : Addr) (connect_id : ℕ) → at ≡ peer_of (member_at at from connect_id)
peer_of_at None from connect_id = refl
peer_of_at (Some p) from connect_id = refl

-- what stands in the place that a key's seat names
pub peer_taken : (peers : Slab Peer) (found : Option Seat) (seat : Seat) (place : ℕ) → found ≡ Some seat → place ≡ seat.place
    → get peers place ≡ peer_of (seated peers found)
peer_taken peers found seat place e same =
    subst (λ (x : Option Seat). get peers place ≡ peer_of (seated peers x)) (sym e)
    (ap (get peers) same ∙ peer_of_at (get peers seat.place) seat.from seat.connect_id)

pub peer_absent : (peers : Slab Peer) (found : Option Seat) (place : ℕ) → found ≡ None → length peers.slots ≤ place
    → get peers place ≡ peer_of (seated peers found)
peer_absent peers found place e past =
    subst (λ (x : Option Seat). get peers place ≡ peer_of (seated peers x)) (sym e) (get_or_past peers.slots place None past)

pub peer_placed : (peers : Slab Peer) (found : Option Seat) (place none : ℕ) → place ≡ place_if none found
    → (found ≡ None → length peers.slots ≤ place) → get peers place ≡ peer_of (seated peers found)
peer_placed peers None place none is past = peer_absent peers None place refl (past refl)
peer_placed peers (Some seat) place none is past = peer_taken peers (Some seat) seat place refl is
