-- What is done about an input packet is its event, and nothing about bytes that are none.
use Rattle.std.specs.Prelude.{◌==◌, ◌&&◌, ◌||◌, not, nat_le, if◌then◌else◌, is_none, slice_index}
use Rattle.std.proofs.Common.{◌≡◌, ◌≤◌, ◌⊎◌, inl, inr, ℕ, Bool, true, false, List, length, Option, Some, None, refl, ap, subst, ◌∙◌, arith}
use Rattle.std.proofs.lemmas.Bool.{cases_Bool, eqb-true, eq-eqb, leb-true, le-leb, and_parts, not-false}
use Rattle.gs_input.specs.declared.event.Event.{Event}
use Rattle.gs_input.specs.declared.event.Event.TheVariants as event
use Rattle.gs_input.specs.Packet.{IsPacket, has_size, magic_in, event_length, has_length}
use Rattle.gs_host_core.specs.declared.act.Act.{Act}
use Rattle.gs_host_core.specs.declared.act.Act.TheVariants.{Input, Nothing}
use Rattle.gs_host_core.specs.ActOf.{acted_event, input_act}

-- the third test of a packet, by its magic and its ninth byte
abbrev bad_at : ℕ → ℕ → Bool
bad_at magic byte = (magic == 8 || magic == 9) && not (nat_le 1 byte && nat_le byte 5)

abbrev fault_by : Bool → Bool → Bool → Option ℕ
fault_by size sized bad = if not size then Some 0 else if not sized then Some 4 else if bad then Some 8 else None

abbrev unless_fault : Bool → Bool → Bool → Act → Act
unless_fault size sized bad done = if is_none (fault_by size sized bad) then done else Nothing

-- what is done about a packet, by its magic
abbrev act_at : ℕ → List ℕ → Act
act_at magic p =
    unless_fault (has_size p) (has_length (event_length magic) p) (bad_at magic (slice_index p 8)) (Input (acted_event magic p))

by_magic : (p : List ℕ) → input_act p ≡ act_at (magic_in p) p
by_magic p = refl

no_fault : (a b c : Bool) (x : Act) → a ≡ true → b ≡ true → c ≡ false → unless_fault a b c x ≡ x
no_fault true true false x e f g = refl
no_fault false b c x e f g = absurd cc
no_fault true false c x e f g = absurd cc
no_fault true true true x e f g = absurd cc

some_fault : (a b c : Bool) (x : Act) → (a ≡ false) ⊎ ((b ≡ false) ⊎ (c ≡ true)) → unless_fault a b c x ≡ Nothing
some_fault false b c x h = refl
some_fault true false c x h = refl
some_fault true true true x h = refl
some_fault true true false x (inl e) = absurd cc
some_fault true true false x (inr (inl e)) = absurd cc
some_fault true true false x (inr (inr e)) = absurd cc

-- no magic has a body of its own
abbrev body_by : (a b c d e f g : Bool) → Option ℕ
body_by a b c d e f g =
    if a || b || g then Some 6 else if c then Some 10 else if d then Some 4 else if e || f then Some 1 else None

record Apart (a b c d e f g : Bool) : Type 0 where
  pub a_is : a ≡ false
  pub b_is : b ≡ false
  pub c_is : c ≡ false
  pub d_is : d ≡ false
  pub e_is : e ≡ false
  pub f_is : f ≡ false
  pub g_is : g ≡ false

apart : (a b c d e f g : Bool) → body_by a b c d e f g ≡ None → Apart a b c d e f g
apart false false false false false false false h =
    record { a_is = refl; b_is = refl; c_is = refl; d_is = refl; e_is = refl; f_is = refl; g_is = refl }
apart true b c d e f g h = absurd cc
apart false true c d e f g h = absurd cc
apart false false c d e f true h = absurd cc
apart false false true d e f false h = absurd cc
apart false false false true e f false h = absurd cc
apart false false false false true f false h = absurd cc
apart false false false false false true false h = absurd cc

abbrev AreApart : ℕ → Type 0
AreApart m = Apart (m == 3) (m == 4) (m == 5) (m == 7) (m == 8) (m == 9) (m == 10)

abbrev event_if : (a b c d e f g : Bool) → (p q r s t u v w : Event) → Event
event_if a b c d e f g p q r s t u v w =
    if a then p else if b then q else if c then r else if d then s else if e then t else if f then u else if g then v else w

event_else : (a b c d e f g : Bool) (p q r s t u v w : Event) → Apart a b c d e f g → event_if a b c d e f g p q r s t u v w ≡ w
event_else false false false false false false false p q r s t u v w h = refl
event_else true b c d e f g p q r s t u v w h = absurd (let i = h.a_is in cc)
event_else false true c d e f g p q r s t u v w h = absurd (let i = h.b_is in cc)
event_else false false true d e f g p q r s t u v w h = absurd (let i = h.c_is in cc)
event_else false false false true e f g p q r s t u v w h = absurd (let i = h.d_is in cc)
event_else false false false false true f g p q r s t u v w h = absurd (let i = h.e_is in cc)
event_else false false false false false true g p q r s t u v w h = absurd (let i = h.f_is in cc)
event_else false false false false false false true p q r s t u v w h = absurd (let i = h.g_is in cc)

unknown_event : (m : ℕ) (p : List ℕ) → AreApart m → acted_event m p ≡ event.Unknown m
unknown_event m p h = event_else (m == 3) (m == 4) (m == 5) (m == 7) (m == 8) (m == 9) (m == 10) _ _ _ _ _ _ _ _ h

unknown_good : (m byte : ℕ) → AreApart m → bad_at m byte ≡ false
unknown_good m byte h =
    ap (λ (b : Bool). (b || (m == 9)) && not (nat_le 1 byte && nat_le byte 5)) h.e_is
    ∙ ap (λ (b : Bool). b && not (nat_le 1 byte && nat_le byte 5)) h.f_is

-- ---- a packet's event is what is done

good_button : (byte b : ℕ) → byte ≡ b → 1 ≤ b → b ≤ 5 → not (nat_le 1 byte && nat_le byte 5) ≡ false
good_button byte b is least most =
    let e : nat_le 1 byte ≡ true = le-leb 1 byte (omega (arith, is, least)) in
    let f : nat_le byte 5 ≡ true = le-leb byte 5 (omega (arith, is, most)) in
    ap (λ (x : Bool). not (x && nat_le byte 5)) e ∙ ap not f

pub of_packet : (p : List ℕ) (e : Event) → IsPacket p e → input_act p ≡ Input e
of_packet p (event.KeyDown code modifiers) h =
    let b = h.body.0 in
    let x : ◌≡◌ {A = Event} (acted_event 3 p) (event.KeyDown code modifiers) = (let y = b.1.0 in let z = b.1.1.0 in cc) in
    ap (λ m. act_at m p) h.magic
    ∙ no_fault (has_size p) (length p == 14) false (Input (acted_event 3 p)) h.size (eq-eqb (length p) 14 b.1.1.1.1) refl ∙ ap Input x
of_packet p (event.KeyUp code modifiers) h =
    let b = h.body.0 in
    let x : ◌≡◌ {A = Event} (acted_event 4 p) (event.KeyUp code modifiers) = (let y = b.1.0 in let z = b.1.1.0 in cc) in
    ap (λ m. act_at m p) h.magic
    ∙ no_fault (has_size p) (length p == 14) false (Input (acted_event 4 p)) h.size (eq-eqb (length p) 14 b.1.1.1.1) refl ∙ ap Input x
of_packet p (event.At x y width height) h =
    let b = h.body.0 in
    let is : ◌≡◌ {A = Event} (acted_event 5 p) (event.At x y width height) =
    (let e = b.0 in let f = b.1.0 in let g = b.1.1.1.0 in let k = b.1.1.1.1.0 in cc) in
    ap (λ m. act_at m p) h.magic
    ∙ no_fault (has_size p) (length p == 18) false (Input (acted_event 5 p)) h.size (eq-eqb (length p) 18 b.1.1.1.1.1) refl ∙ ap Input is
of_packet p (event.Move dx dy) h =
    let b = h.body.0 in
    let is : ◌≡◌ {A = Event} (acted_event 7 p) (event.Move dx dy) = (let e = b.0 in let f = b.1.0 in cc) in
    ap (λ m. act_at m p) h.magic
    ∙ no_fault (has_size p) (length p == 12) false (Input (acted_event 7 p)) h.size (eq-eqb (length p) 12 b.1.1) refl ∙ ap Input is
of_packet p (event.Press button) h =
    let b = h.body.0 in
    let is : ◌≡◌ {A = Event} (acted_event 8 p) (event.Press button) = (let e = b.0 in cc) in
    ap (λ m. act_at m p) h.magic
    ∙ no_fault (has_size p) (length p == 9) (bad_at 8 (slice_index p 8)) (Input (acted_event 8 p)) h.size (eq-eqb (length p) 9 b.1)
    (good_button (slice_index p 8) button b.0 h.body.1.0 h.body.1.1) ∙ ap Input is
of_packet p (event.Release button) h =
    let b = h.body.0 in
    let is : ◌≡◌ {A = Event} (acted_event 9 p) (event.Release button) = (let e = b.0 in cc) in
    ap (λ m. act_at m p) h.magic
    ∙ no_fault (has_size p) (length p == 9) (bad_at 9 (slice_index p 8)) (Input (acted_event 9 p)) h.size (eq-eqb (length p) 9 b.1)
    (good_button (slice_index p 8) button b.0 h.body.1.0 h.body.1.1) ∙ ap Input is
of_packet p (event.Scroll amount) h =
    let b = h.body.0 in
    let is : ◌≡◌ {A = Event} (acted_event 10 p) (event.Scroll amount) = (let e = b.0 in cc) in
    ap (λ m. act_at m p) h.magic
    ∙ no_fault (has_size p) (length p == 14) false (Input (acted_event 10 p)) h.size (eq-eqb (length p) 14 b.1.1.1) refl ∙ ap Input is
of_packet p (event.Unknown magic) h =
    let far : AreApart magic = apart (magic == 3) (magic == 4) (magic == 5) (magic == 7) (magic == 8) (magic == 9) (magic == 10) h.body in
    ap (λ m. act_at m p) h.magic
    ∙ no_fault (has_size p) (has_length (event_length magic) p) (bad_at magic (slice_index p 8)) (Input (acted_event magic p)) h.size
    (ap (λ o. has_length o p) h.body) (unknown_good magic (slice_index p 8) far)
    ∙ ap Input (unknown_event magic p far)

-- ---- what is done is a packet's event

record Fits (m : ℕ) (p : List ℕ) : Type 0 where
  pub magic : magic_in p ≡ m
  pub size : has_size p ≡ true
  pub sized : has_length (event_length m) p ≡ true
  pub good : bad_at m (slice_index p 8) ≡ false

abbrev pub Packet : List ℕ → Type 0
Packet p = (e : Event) × IsPacket p e

buttons : (byte : ℕ) → not (nat_le 1 byte && nat_le byte 5) ≡ false → (1 ≤ byte) × (byte ≤ 5)
buttons byte h =
    let both = and_parts (nat_le 1 byte) (nat_le byte 5) (not-false (nat_le 1 byte && nat_le byte 5) h) in
    (leb-true 1 byte both.0, leb-true byte 5 both.1)

key_down : (p : List ℕ) → Fits 3 p → Packet p
key_down p h = (
  acted_event 3 p,
  record {
    size = h.size;
    magic = h.magic;
    body = ((tt, (refl, (refl, (tt, eqb-true (length p) 14 h.sized)))), tt);
  },
)

key_up : (p : List ℕ) → Fits 4 p → Packet p
key_up p h = (
  acted_event 4 p,
  record {
    size = h.size;
    magic = h.magic;
    body = ((tt, (refl, (refl, (tt, eqb-true (length p) 14 h.sized)))), tt);
  },
)

at_place : (p : List ℕ) → Fits 5 p → Packet p
at_place p h = (
  acted_event 5 p,
  record {
    size = h.size;
    magic = h.magic;
    body = ((refl, (refl, (tt, (refl, (refl, eqb-true (length p) 18 h.sized))))), tt);
  },
)

move : (p : List ℕ) → Fits 7 p → Packet p
move p h = (
  acted_event 7 p,
  record {
    size = h.size;
    magic = h.magic;
    body = ((refl, (refl, eqb-true (length p) 12 h.sized)), tt);
  },
)

press : (p : List ℕ) → Fits 8 p → Packet p
press p h = (
  acted_event 8 p,
  record {
    size = h.size;
    magic = h.magic;
    body = ((refl, eqb-true (length p) 9 h.sized), buttons (slice_index p 8) h.good);
  },
)

release : (p : List ℕ) → Fits 9 p → Packet p
release p h = (
  acted_event 9 p,
  record {
    size = h.size;
    magic = h.magic;
    body = ((refl, eqb-true (length p) 9 h.sized), buttons (slice_index p 8) h.good);
  },
)

scroll : (p : List ℕ) → Fits 10 p → Packet p
scroll p h = (
  acted_event 10 p,
  record {
    size = h.size;
    magic = h.magic;
    body = ((refl, (tt, (tt, eqb-true (length p) 14 h.sized))), tt);
  },
)

no_body : (a b c d e f g : Bool) → Apart a b c d e f g → body_by a b c d e f g ≡ None
no_body false false false false false false false h = refl
no_body true b c d e f g h = absurd (let i = h.a_is in cc)
no_body false true c d e f g h = absurd (let i = h.b_is in cc)
no_body false false true d e f g h = absurd (let i = h.c_is in cc)
no_body false false false true e f g h = absurd (let i = h.d_is in cc)
no_body false false false false true f g h = absurd (let i = h.e_is in cc)
no_body false false false false false true g h = absurd (let i = h.f_is in cc)
no_body false false false false false false true h = absurd (let i = h.g_is in cc)

unknown : (m : ℕ) (p : List ℕ) → Fits m p → AreApart m → Packet p
unknown m p h far = (
  event.Unknown m,
  record {
    size = h.size;
    magic = h.magic;
    body = no_body (m == 3) (m == 4) (m == 5) (m == 7) (m == 8) (m == 9) (m == 10) far;
  },
)

fits_at : (m n : ℕ) (p : List ℕ) → Fits m p → m ≡ n → Fits n p
fits_at m n p h e = subst (λ k. Fits k p) e h

packet_by : (m : ℕ) (p : List ℕ) → Fits m p → Packet p
packet_by m p h = elim (cases_Bool (m == 3)) [
  | inl a ↦ key_down p (fits_at m 3 p h (eqb-true m 3 a))
  | inr a ↦ elim (cases_Bool (m == 4)) [
    | inl b ↦ key_up p (fits_at m 4 p h (eqb-true m 4 b))
    | inr b ↦ elim (cases_Bool (m == 5)) [
      | inl c ↦ at_place p (fits_at m 5 p h (eqb-true m 5 c))
      | inr c ↦ elim (cases_Bool (m == 7)) [
        | inl d ↦ move p (fits_at m 7 p h (eqb-true m 7 d))
        | inr d ↦ elim (cases_Bool (m == 8)) [
          | inl e ↦ press p (fits_at m 8 p h (eqb-true m 8 e))
          | inr e ↦ elim (cases_Bool (m == 9)) [
            | inl f ↦ release p (fits_at m 9 p h (eqb-true m 9 f))
            | inr f ↦ elim (cases_Bool (m == 10)) [
              | inl g ↦ scroll p (fits_at m 10 p h (eqb-true m 10 g))
              | inr g ↦ unknown m p h (record { a_is = a; b_is = b; c_is = c; d_is = d; e_is = e; f_is = f; g_is = g })
            ]
          ]
        ]
      ]
    ]
  ]
]

-- nothing is done about bytes that are no packet
pub packet_or_nothing : (p : List ℕ) → (input_act p ≡ Nothing) ⊎ Packet p
packet_or_nothing p = by (cases_Bool a) (cases_Bool b) (cases_Bool c) where
  a : Bool
  a = has_size p

  b : Bool
  b = has_length (event_length (magic_in p)) p

  c : Bool
  c = bad_at (magic_in p) (slice_index p 8)

  by : (a ≡ true) ⊎ (a ≡ false) → (b ≡ true) ⊎ (b ≡ false) → (c ≡ true) ⊎ (c ≡ false) → (input_act p ≡ Nothing) ⊎ Packet p
  by (inr e) f g = inl (some_fault (has_size p) (has_length (event_length (magic_in p)) p) (bad_at (magic_in p) (slice_index p 8)) _ (inl e))
  by (inl e) (inr f) g = inl (some_fault (has_size p) (has_length (event_length (magic_in p)) p) (bad_at (magic_in p) (slice_index p 8)) _ (inr (inl f)))
  by (inl e) (inl f) (inl g) =
      inl (some_fault (has_size p) (has_length (event_length (magic_in p)) p) (bad_at (magic_in p) (slice_index p 8)) _ (inr (inr g)))
  by (inl e) (inl f) (inr g) = inr (packet_by (magic_in p) p (record { magic = refl; size = e; sized = f; good = g }))
