-- What a side holds of one channel, in the order of writing.
use Rattle.std.proofs.Common.{◌≡◌, ◌<◌, ◌≤◌, ◌%◌, ℕ, Bool, true, false, not, cond, List, [], ◌∷◌, ◌++◌, map, refl, sym, ap, ◌∙◌, arith, inl, inr}
use Rattle.std.specs.Prelude.{◌==◌, ◌&&◌, nat_lt}
use Rattle.std.specs.List.{filter}
use Rattle.std.proofs.lemmas.Bool.{or_cases, or_parts, and_parts, ltb-true, ltb-false, eqb-true, not-false}
use Rattle.std.proofs.lemmas.List.{append_assoc, append-nil}
use Rattle.gs_enet.specs.Record.{Unacknowledged, Content, Connect, VerifyConnect, Disconnect, Message, Order}
use Rattle.gs_enet.specs.Receive.{is_named}
use Rattle.gs_enet.specs.Steps.{rank, comes_before, placed}
use Rattle.gs_enet.proofs.Lists.{Each, each_weaker, each_unmap}
use Rattle.gs_enet.proofs.Rising.{Numbered, numbered, Rising, rising_after, rising_back, is_other}
use Rattle.gs_enet.proofs.Giving.{order_of}

-- the message that the command is, if it is one on that channel
abbrev pub message_of : ℕ → Content → ℕ → ℕ → List Numbered
message_of c (Message bytes) channel n = cond (channel == c) (numbered n bytes) []
message_of c Connect channel n = []
message_of c VerifyConnect channel n = []
message_of c Disconnect channel n = []

abbrev pub held_on : ℕ → Unacknowledged → List Numbered
held_on c u = message_of c u.order.content u.order.channel u.order.number

abbrev pub due_on : ℕ → Unacknowledged → List Numbered
due_on c u = cond u.due (held_on c u) []

abbrev pub gather : (Unacknowledged → List Numbered) → List Unacknowledged → List Numbered
gather f [] = []
gather f (u ∷ us) = f u ++ gather f us

pub message_apart : (c : ℕ) (content : Content) (channel n : ℕ) → (channel ≡ c → ⊥) → message_of c content channel n ≡ []
message_apart c (Message bytes) channel n apart = here (channel == c) refl where
  here : (b : Bool) → (channel == c) ≡ b → cond b (numbered n bytes) [] ≡ []
  here true e = absurd (apart (eqb-true channel c e))
  here false e = refl
message_apart c Connect channel n apart = refl
message_apart c VerifyConnect channel n apart = refl
message_apart c Disconnect channel n apart = refl

pub held_apart : (c : ℕ) (u : Unacknowledged) → (u.order.channel ≡ c → ⊥) → held_on c u ≡ []
held_apart c u apart = message_apart c u.order.content u.order.channel u.order.number apart

cond_none : (b : Bool) (xs : List Numbered) → xs ≡ [] → cond b xs [] ≡ []
cond_none true xs e = e
cond_none false xs e = refl

pub due_apart : (c : ℕ) (u : Unacknowledged) → (u.order.channel ≡ c → ⊥) → due_on c u ≡ []
due_apart c u apart = cond_none u.due (held_on c u) (held_apart c u apart)

-- ---- the order of writing

abbrev pub Sorted : List Order → Type 0
Sorted [] = Unit {0}
Sorted (o ∷ os) = Each (λ (p : Order). rank o.channel ≤ rank p.channel) os × Sorted os

pub each_placed : (P : Order → Type 0) (u : Unacknowledged) (us : List Unacknowledged) → P u.order → Each P (map order_of us)
    → Each P (map order_of (placed u us))
each_placed P u [] p h = (p, tt)
each_placed P u (v ∷ vs) p h = here (each_placed P u vs p h.1) (comes_before u.order v.order) where
  here : Each P (map order_of (placed u vs)) → (b : Bool) → Each P (map order_of (cond b (u ∷ v ∷ vs) (v ∷ placed u vs)))
  here later true = (p, h)
  here later false = (h.0, later)

pub each_kept : (P : Order → Type 0) (test : Unacknowledged → Bool) (us : List Unacknowledged) → Each P (map order_of us)
    → Each P (map order_of (filter test us))
each_kept P test [] h = tt
each_kept P test (u ∷ us) h = here (each_kept P test us h.1) (test u) where
  here : Each P (map order_of (filter test us)) → (b : Bool) → Each P (map order_of (cond b (u ∷ filter test us) (filter test us)))
  here later true = (h.0, later)
  here later false = later

before_rank : (u v : Order) → comes_before u v ≡ true → rank u.channel ≤ rank v.channel
before_rank u v e = elim (or_cases (nat_lt (rank u.channel) (rank v.channel)) ((u.channel == v.channel) && nat_lt u.number v.number) e) [
  | inl less ↦ omega (arith, ltb-true (rank u.channel) (rank v.channel) less)
  | inr same ↦ omega (arith, ap rank (eqb-true u.channel v.channel (and_parts (u.channel == v.channel) (nat_lt u.number v.number) same).0))
]

after_rank : (u v : Order) → comes_before u v ≡ false → rank v.channel ≤ rank u.channel
after_rank u v e = ltb-false (rank u.channel) (rank v.channel) (or_parts (nat_lt (rank u.channel) (rank v.channel)) ((u.channel == v.channel)
    && nat_lt u.number v.number) e).0

pub sorted_placed : (u : Unacknowledged) (us : List Unacknowledged) → Sorted (map order_of us) → Sorted (map order_of (placed u us))
sorted_placed u [] h = (tt, tt)
sorted_placed u (v ∷ vs) h = here (sorted_placed u vs h.1) (comes_before u.order v.order) refl where
  here : Sorted (map order_of (placed u vs)) → (b : Bool) → comes_before u.order v.order ≡ b → Sorted (map order_of (cond b (u ∷ v ∷ vs) (v ∷ placed u vs)))
  here later true e =
      let first : rank u.order.channel ≤ rank v.order.channel = before_rank u.order v.order e in (
        (
          first,
          each_weaker (λ (p : Order). rank v.order.channel ≤ rank p.channel) (λ (p : Order). rank u.order.channel ≤ rank p.channel)
              (λ p le. omega (arith, first, le)) (map order_of vs) h.0,
        ),
        h,
      )
  here later false e =
      (each_placed (λ (p : Order). rank v.order.channel ≤ rank p.channel) u vs (after_rank u.order v.order e) h.0, later)

pub sorted_kept : (test : Unacknowledged → Bool) (us : List Unacknowledged) → Sorted (map order_of us) → Sorted (map order_of (filter test us))
sorted_kept test [] h = tt
sorted_kept test (u ∷ us) h = here (sorted_kept test us h.1) (test u) where
  here : Sorted (map order_of (filter test us)) → (b : Bool) → Sorted (map order_of (cond b (u ∷ filter test us) (filter test us)))
  here later true = (each_kept (λ (p : Order). rank u.order.channel ≤ rank p.channel) test us h.0, later)
  here later false = later

-- ---- a command at its place among the others

gather_none : (f : Unacknowledged → List Numbered) (us : List Unacknowledged) → Each (λ (u : Unacknowledged). f u ≡ []) us → gather f us ≡ []
gather_none f [] h = refl
gather_none f (u ∷ us) h = ap (λ (x : List Numbered). x ++ gather f us) h.0 ∙ gather_none f us h.1

pub gather_placed_apart : (f : Unacknowledged → List Numbered) (u : Unacknowledged) (us : List Unacknowledged) → f u ≡ [] → gather f (placed u us) ≡ gather f us
gather_placed_apart f u [] e = ap (λ (x : List Numbered). x ++ []) e
gather_placed_apart f u (v ∷ vs) e = here (gather_placed_apart f u vs e) (comes_before u.order v.order) where
  here : gather f (placed u vs) ≡ gather f vs → (b : Bool) → gather f (cond b (u ∷ v ∷ vs) (v ∷ placed u vs)) ≡ gather f (v ∷ vs)
  here later true = ap (λ (x : List Numbered). x ++ gather f (v ∷ vs)) e
  here later false = ap (λ (x : List Numbered). f v ++ x) later

-- one whose number is above those of its channel comes last there
pub gather_placed : (f : Unacknowledged → List Numbered) (u : Unacknowledged) (us : List Unacknowledged)
    → ((v : Unacknowledged) → (v.order.channel ≡ u.order.channel → ⊥) → f v ≡ [])
    → Each (λ (o : Order). o.channel ≡ u.order.channel → o.number < u.order.number) (map order_of us) → Sorted (map order_of us)
    → gather f (placed u us) ≡ gather f us ++ f u
gather_placed f u [] only newest sorted = append-nil (f u)
gather_placed f u (v ∷ vs) only newest sorted =
    here (gather_placed f u vs only newest.1 sorted.1) (comes_before u.order v.order) refl where
      none : rank u.order.channel < rank v.order.channel → gather f (v ∷ vs) ≡ []
      none less =
          gather_none f (v ∷ vs) (
            only v (λ same. omega (arith, less, ap rank same)),
            each_weaker (λ (w : Unacknowledged). rank v.order.channel ≤ rank w.order.channel) (λ (w : Unacknowledged). f w ≡ [])
                (λ w le. only w (λ same. omega (arith, less, le, ap rank same))) vs
                (each_unmap (λ (p : Order). rank v.order.channel ≤ rank p.channel) order_of vs sorted.0),
          )

      here : gather f (placed u vs) ≡ gather f vs ++ f u → (b : Bool) → comes_before u.order v.order ≡ b
          → gather f (cond b (u ∷ v ∷ vs) (v ∷ placed u vs)) ≡ gather f (v ∷ vs) ++ f u
      here later true e =
          elim (or_cases (nat_lt (rank u.order.channel) (rank v.order.channel)) ((u.order.channel == v.order.channel) && nat_lt u.order.number v.order.number)
          e) [
            | inl less ↦ (
                let nothing : gather f (v ∷ vs) ≡ [] = none (ltb-true (rank u.order.channel) (rank v.order.channel) less) in
                ap (λ (x : List Numbered). f u ++ x) nothing ∙ append-nil (f u) ∙ sym (ap (λ (x : List Numbered). x ++ f u) nothing)
                )
            | inr same ↦ (
                let parts = and_parts (u.order.channel == v.order.channel) (nat_lt u.order.number v.order.number) same in
                absurd (omega (arith, newest.0 (sym (eqb-true u.order.channel v.order.channel parts.0)), ltb-true u.order.number v.order.number parts.1))
                )
          ]
      here later false e = ap (λ (x : List Numbered). f v ++ x) later ∙ sym (append_assoc (f v) (gather f vs) (f u))

-- ---- the same commands

abbrev all_messages : ℕ → List Order → List Numbered
all_messages c [] = []
all_messages c (o ∷ os) = message_of c o.content o.channel o.number ++ all_messages c os

gather_orders : (c : ℕ) (us : List Unacknowledged) → gather (held_on c) us ≡ all_messages c (map order_of us)
gather_orders c [] = refl
gather_orders c (u ∷ us) = ap (λ (x : List Numbered). held_on c u ++ x) (gather_orders c us)

pub gather_same : (c : ℕ) (us vs : List Unacknowledged) → map order_of us ≡ map order_of vs → gather (held_on c) us ≡ gather (held_on c) vs
gather_same c us vs e = gather_orders c us ∙ ap (all_messages c) e ∙ sym (gather_orders c vs)

-- ---- fewer commands

pub rising_kept : (ms : List (List ℕ)) (f : Unacknowledged → List Numbered) (test : Unacknowledged → Bool) (us : List Unacknowledged) (low : ℕ)
    → Rising ms low (gather f us) → Rising ms low (gather f (filter test us))
rising_kept ms f test [] low h = tt
rising_kept ms f test (u ∷ us) low h = here (λ l. rising_kept ms f test us l) (test u) where
  here : ((l : ℕ) → Rising ms l (gather f us) → Rising ms l (gather f (filter test us))) → (b : Bool)
      → Rising ms low (gather f (cond b (u ∷ filter test us) (filter test us)))
  here later true = rising_after ms low (f u) (gather f us) (gather f (filter test us)) later h
  here later false = later low (rising_back ms low (f u) (gather f us) h)

pub gather_kept : (f : Unacknowledged → List Numbered) (test : Unacknowledged → Bool) (us : List Unacknowledged)
    → ((u : Unacknowledged) → test u ≡ false → f u ≡ []) → gather f (filter test us) ≡ gather f us
gather_kept f test [] drop = refl
gather_kept f test (u ∷ us) drop = here (gather_kept f test us drop) (test u) refl where
  here : gather f (filter test us) ≡ gather f us → (b : Bool) → test u ≡ b → gather f (cond b (u ∷ filter test us) (filter test us)) ≡ gather f (u ∷ us)
  here later true e = ap (λ (x : List Numbered). f u ++ x) later
  here later false e = later ∙ sym (ap (λ (x : List Numbered). x ++ gather f us) (drop u e))

-- an acknowledgement on another channel drops none of this one
pub gather_other : (c channel number : ℕ) (us : List Unacknowledged) → (channel ≡ c → ⊥)
    → gather (held_on c) (filter (λ (v : Unacknowledged). not (is_named channel number v)) us) ≡ gather (held_on c) us
gather_other c channel number us apart =
    gather_kept (held_on c) (λ (v : Unacknowledged). not (is_named channel number v)) us
    (λ u e. held_apart c u (λ same. apart
    (sym (eqb-true u.order.channel channel (and_parts (u.order.channel == channel) (u.order.number % 65536 == number)
    (not-false (is_named channel number u) e)).0) ∙ same)))

-- one on this channel drops those with its low bits
same_either : (b : Bool) (xs : List Numbered) → cond (not b) xs xs ≡ xs
same_either true xs = refl
same_either false xs = refl

step_named : (c number : ℕ) (content : Content) (channel n : ℕ) (xs ys : List Numbered) → xs ≡ filter (is_other number) ys
    → cond (not ((channel == c) && (n % 65536 == number))) (message_of c content channel n ++ xs) xs
    ≡ filter (is_other number) (message_of c content channel n ++ ys)
step_named c number (Message bytes) channel n xs ys e = here (channel == c) where
  own : (low : Bool) → cond (not low) (numbered n bytes ++ xs) xs ≡ cond (not low) (numbered n bytes ++ filter (is_other number) ys)
      (filter (is_other number) ys)
  own true = e
  own false = ap (λ (x : List Numbered). numbered n bytes ++ x) e

  here : (b : Bool) → cond (not (b && (n % 65536 == number))) (cond b (numbered n bytes) [] ++ xs) xs ≡ filter (is_other number) (cond b (numbered n bytes) []
      ++ ys)
  here true = own (n % 65536 == number)
  here false = e
step_named c number Connect channel n xs ys e = same_either ((channel == c) && (n % 65536 == number)) xs ∙ e
step_named c number VerifyConnect channel n xs ys e = same_either ((channel == c) && (n % 65536 == number)) xs ∙ e
step_named c number Disconnect channel n xs ys e = same_either ((channel == c) && (n % 65536 == number)) xs ∙ e

gather_if : (f : Unacknowledged → List Numbered) (u : Unacknowledged) (us : List Unacknowledged) (b : Bool) → gather f (cond b (u ∷ us) us)
    ≡ cond b (f u ++ gather f us) (gather f us)
gather_if f u us true = refl
gather_if f u us false = refl

pub gather_named : (c number : ℕ) (us : List Unacknowledged)
    → gather (held_on c) (filter (λ (v : Unacknowledged). not (is_named c number v)) us) ≡ filter (is_other number) (gather (held_on c) us)
gather_named c number [] = refl
gather_named c number (u ∷ us) =
    gather_if (held_on c) u (filter (λ (v : Unacknowledged). not (is_named c number v)) us) (not (is_named c number u))
    ∙ step_named c number u.order.content u.order.channel u.order.number
    (gather (held_on c) (filter (λ (v : Unacknowledged). not (is_named c number v)) us)) (gather (held_on c) us) (gather_named c number us)
