-- Whether a line of a schedule has a step is decided.
use Rattle.std.proofs.Common.{◌≡◌, ◌<◌, ◌≤◌, ◌-◌, ◌^◌, ◌⊎◌, inl, inr, ℕ, zero, suc, ℤ, FitsSigned, w16, List, [], ◌∷◌, length, map, Option, Some, None, refl}
use Rattle.std.proofs.Common.{subst, arith}
use Rattle.std.specs.Prelude.{pos, negsuc, codes}
use Rattle.std.specs.List.{AllByRecursion}
use Rattle.std.specs.Fmt.{decimal}
use Rattle.std.proofs.lemmas.Bool.{cases_eq, cases_lt}
use Rattle.gs_bytes.specs.Words.{words_of}
use Rattle.gs_input.specs.declared.event.Event.{Event}
use Rattle.gs_input.specs.declared.event.Event.TheVariants as event
use Rattle.gs_input.specs.Event.{IsButton, IsEvent}
use Rattle.gs_input.specs.Line.{event_name, arguments_of}
use Rattle.gs_schedule.specs.declared.step.Step.{Step}
use Rattle.gs_schedule.specs.declared.step.Step.TheVariants as step
use Rattle.gs_schedule.specs.Step.{HasNumbers, AreWords, most_time, IsBlank, Spells}
use Rattle.gs_schedule.specs.Lines.{most_line}
use Rattle.gs_schedule.proofs.Steps.{spelled}
use Rattle.gs_run.specs.Line.{IsLineOf, HasStep}

abbrev Decided : Type 0 → Type 0
Decided A = A ⊎ (A → ⊥)

both : {A B : Type 0} → Decided A → Decided B → Decided (A × B)
both (inl a) (inl b) = inl (a, b)
both (inl a) (inr never) = inr (λ h. never h.1)
both (inr never) other = inr (λ h. never h.0)

either_holds : {A B : Type 0} → Decided A → Decided B → Decided (A ⊎ B)
either_holds (inl a) other = inl (inl a)
either_holds (inr never) (inl b) = inl (inr b)
either_holds {A} {B} (inr never) (inr none) = inr neither where
  neither : A ⊎ B → ⊥
  neither (inl a) = never a
  neither (inr b) = none b

likewise : {A B : Type 0} → Decided A → (A → B) → (B → A) → Decided B
likewise (inl a) to from = inl (to a)
likewise (inr never) to from = inr (λ b. never (from b))

-- ---- words and numbers

list_decided : {X : Type 0} → ((x y : X) → Decided (x ≡ y)) → (xs ys : List X) → Decided (xs ≡ ys)
list_decided decide [] [] = inl refl
list_decided decide [] (y ∷ ys) = inr (λ e. absurd cc)
list_decided decide (x ∷ xs) [] = inr (λ e. absurd cc)
list_decided {X} decide (x ∷ xs) (y ∷ ys) =
    likewise (both (decide x y) (list_decided decide xs ys))
    (λ h. let first = h.0 in let rest = h.1 in cc) (λ e. (cc, cc))

words_decided : (ws vs : List (List ℕ)) → Decided (ws ≡ vs)
words_decided ws vs = list_decided (λ w v. list_decided cases_eq w v) ws vs

below_decided : (n limit : ℕ) → Decided (n < limit)
below_decided n limit = elim (cases_lt n limit) [ inl below ↦ inl below | inr above ↦ inr (λ below. absurd (omega (arith, below, above))) ]

most_decided : (n most : ℕ) → Decided (n ≤ most)
most_decided n most = elim (cases_lt most n) [ inl above ↦ inr (λ within. absurd (omega (arith, above, within))) | inr within ↦ inl within ]

all_below_decided : (limit : ℕ) (ns : List ℕ) → Decided (AllByRecursion (λ n. n < limit) ns)
all_below_decided limit [] = inl tt
all_below_decided limit (n ∷ ns) = both (below_decided n limit) (all_below_decided limit ns)

numbers_decided : (words : List (List ℕ)) (name : List ℕ) (ns : List ℕ) → Decided (HasNumbers words name ns)
numbers_decided words name ns = both (all_below_decided (2 ^ 32) ns) (words_decided words (name ∷ map decimal ns))

fits_decided : (z : ℤ) → Decided (FitsSigned w16 z)
fits_decided (pos n) = elim (cases_lt n (2 ^ 15)) [
  | inl below ↦ inl (record { sfits = omega (arith, below) })
  | inr above ↦ inr (λ fits. absurd (omega (arith, above, fits.sfits)))
]
fits_decided (negsuc n) = elim (cases_lt n (2 ^ 15)) [
  | inl below ↦ inl (record { sfits = omega (arith, below) })
  | inr above ↦ inr (λ fits. absurd (omega (arith, above, fits.sfits)))
]

-- ---- a number, of those that there are

some_below : (limit : ℕ) (P : ℕ → Type 0) → ((n : ℕ) → Decided (P n)) → Decided ((n : ℕ) × (n < limit) × P n)
some_below zero P decide = inr (λ h. absurd (let below = h.1 in omega (arith, below)))
some_below (suc limit) P decide = by (decide limit) (some_below limit P decide) where
  by : Decided (P limit) → Decided ((n : ℕ) × (n < limit) × P n) → Decided ((n : ℕ) × (n < suc limit) × P n)
  by (inl here) others = inl (limit, omega arith, here)
  by (inr never) (inl found) = inl (found.0, (let below = found.1 in omega (arith, below)), found.2)
  by (inr never) (inr none) = inr (λ h. elim (cases_eq h.0 limit) [
    | inl same ↦ never (subst P same h.2)
    | inr apart ↦ none (h.0, (let below = h.1 in omega (arith, below, apart)), h.2)
  ])

one : (P : ℕ → Type 0) → ((a : ℕ) → Decided (P a)) → ((a : ℕ) → P a → a < 2 ^ 32) → Decided ((a : ℕ) × P a)
one P decide below = likewise (some_below (2 ^ 32) P decide)
    (λ h. (h.0, h.2)) (λ h. (h.0, below h.0 h.1, h.1))

two : (P : ℕ → ℕ → Type 0) → ((a b : ℕ) → Decided (P a b)) → ((a b : ℕ) → P a b → (a < 2 ^ 32) × (b < 2 ^ 32)) → Decided ((a b : ℕ) × P a b)
two P decide below =
    likewise (one (λ a. (b : ℕ) × P a b) (λ a. one (P a) (decide a) (λ b h. (below a b h).1)) (λ a h. (below a h.0 h.1).0))
    (λ h. (h.0, h.1.0, h.1.1)) (λ h. (h.0, (h.1, h.2)))

three : (P : ℕ → ℕ → ℕ → Type 0) → ((a b c : ℕ) → Decided (P a b c))
    → ((a b c : ℕ) → P a b c → (a < 2 ^ 32) × (b < 2 ^ 32) × (c < 2 ^ 32)) → Decided ((a b c : ℕ) × P a b c)
three P decide below =
    likewise (one (λ a. (b c : ℕ) × P a b c) (λ a. two (P a) (decide a) (λ b c h. let all = below a b c h in (all.1, all.2)))
    (λ a h. (below a h.0 h.1 h.2).0))
    (λ h. (h.0, h.1.0, h.1.1, h.1.2)) (λ h. (h.0, (h.1, h.2, h.3)))

four : (P : ℕ → ℕ → ℕ → ℕ → Type 0) → ((a b c d : ℕ) → Decided (P a b c d))
    → ((a b c d : ℕ) → P a b c d → (a < 2 ^ 32) × (b < 2 ^ 32) × (c < 2 ^ 32) × (d < 2 ^ 32)) → Decided ((a b c d : ℕ) × P a b c d)
four P decide below =
    likewise (one (λ a. (b c d : ℕ) × P a b c d) (λ a. three (P a) (decide a) (λ b c d h. let all = below a b c d h in (all.1, all.2, all.3)))
    (λ a h. (below a h.0 h.1 h.2 h.3).0))
    (λ h. (h.0, h.1.0, h.1.1, h.1.2, h.1.3)) (λ h. (h.0, (h.1, h.2, h.3, h.4)))

-- a number of 16 bits with a sign
signed : (P : ℤ → Type 0) → ((z : ℤ) → Decided (P z)) → ((z : ℤ) → P z → FitsSigned w16 z) → Decided ((z : ℤ) × P z)
signed P decide fits = by (some_below (2 ^ 15) (λ n. P (pos n)) (λ n. decide (pos n))) (some_below (2 ^ 15) (λ n. P (negsuc n)) (λ n. decide (negsuc n))) where
  none : (((n : ℕ) × (n < 2 ^ 15) × P (pos n)) → ⊥) → (((n : ℕ) × (n < 2 ^ 15) × P (negsuc n)) → ⊥) → (z : ℤ) → P z → ⊥
  none never neither (pos n) h = never (n, (let is = (fits (pos n) h).sfits in omega (arith, is)), h)
  none never neither (negsuc n) h = neither (n, (let is = (fits (negsuc n) h).sfits in omega (arith, is)), h)

  by : Decided ((n : ℕ) × (n < 2 ^ 15) × P (pos n)) → Decided ((n : ℕ) × (n < 2 ^ 15) × P (negsuc n)) → Decided ((z : ℤ) × P z)
  by (inl found) other = inl (pos found.0, found.2)
  by (inr never) (inl found) = inl (negsuc found.0, found.2)
  by (inr never) (inr neither) = inr (λ h. none never neither h.0 h.1)

-- ---- an event's words

button_decided : (b : ℕ) → Decided (IsButton b)
button_decided b = both (most_decided 1 b) (most_decided b 5)

event_decided : (e : Event) → Decided (IsEvent e)
event_decided (event.KeyDown code modifiers) =
    likewise (both (fits_decided code) (below_decided modifiers (2 ^ 8)))
    (λ types. record { known = tt; types = types; button = tt }) (λ h. h.types)
event_decided (event.KeyUp code modifiers) =
    likewise (both (fits_decided code) (below_decided modifiers (2 ^ 8)))
    (λ types. record { known = tt; types = types; button = tt }) (λ h. h.types)
event_decided (event.Move dx dy) =
    likewise (both (fits_decided dx) (fits_decided dy))
    (λ types. record { known = tt; types = types; button = tt }) (λ h. h.types)
event_decided (event.At x y width height) =
    likewise (both (both (fits_decided x) (fits_decided y)) (both (fits_decided width) (fits_decided height)))
    (λ h. record { known = tt; types = (h.0.0, h.0.1, h.1.0, h.1.1); button = tt }) (λ h. ((h.types.0, h.types.1), (h.types.2, h.types.3)))
event_decided (event.Press b) =
    likewise (both (below_decided b (2 ^ 8)) (button_decided b))
    (λ h. record { known = tt; types = h.0; button = h.1 }) (λ h. (h.types, h.button))
event_decided (event.Release b) =
    likewise (both (below_decided b (2 ^ 8)) (button_decided b))
    (λ h. record { known = tt; types = h.0; button = h.1 }) (λ h. (h.types, h.button))
event_decided (event.Scroll amount) = likewise (fits_decided amount)
    (λ types. record { known = tt; types = types; button = tt }) (λ h. h.types)
event_decided (event.Unknown magic) = inr (λ h. h.known)

input_decided : (words : List (List ℕ)) (s : ℕ) (e : Event) → Decided (AreWords words (step.Input s e))
input_decided words s e =
    likewise (both (event_decided e) (both (below_decided s (2 ^ 32)) (words_decided words (event_name e ∷ decimal s ∷ arguments_of e))))
    (λ h. (h.0, h.1.0, h.1.1)) (λ h. (h.0, (h.1, h.2)))

byte_below : (n : ℕ) → n < 2 ^ 8 → n < 2 ^ 32
byte_below n below = omega (arith, below)

-- an event of each kind, behind a session's number
record HasEvent (words : List (List ℕ)) (s : ℕ) : Type 0 where
  key_down : Decided ((code : ℤ) × (modifiers : ℕ) × AreWords words (step.Input s (event.KeyDown code modifiers)))
  key_up : Decided ((code : ℤ) × (modifiers : ℕ) × AreWords words (step.Input s (event.KeyUp code modifiers)))
  move : Decided ((dx : ℤ) × (dy : ℤ) × AreWords words (step.Input s (event.Move dx dy)))
  at : Decided ((x : ℤ) × (y : ℤ) × (width : ℤ) × (height : ℤ) × AreWords words (step.Input s (event.At x y width height)))
  press : Decided ((b : ℕ) × AreWords words (step.Input s (event.Press b)))
  release : Decided ((b : ℕ) × AreWords words (step.Input s (event.Release b)))
  scroll : Decided ((amount : ℤ) × AreWords words (step.Input s (event.Scroll amount)))

each_event : (words : List (List ℕ)) (s : ℕ) → HasEvent words s
each_event words s = record {
  key_down = likewise (signed (λ code. (m : ℕ) × AreWords words (step.Input s (event.KeyDown code m)))
      (λ code. one (λ m. AreWords words (step.Input s (event.KeyDown code m))) (λ m. input_decided words s (event.KeyDown code m))
      (λ m h. byte_below m h.0.types.1)) (λ code h. h.1.0.types.0))
      (λ h. (h.0, h.1.0, h.1.1)) (λ h. (h.0, (h.1, h.2)));
  key_up = likewise (signed (λ code. (m : ℕ) × AreWords words (step.Input s (event.KeyUp code m)))
      (λ code. one (λ m. AreWords words (step.Input s (event.KeyUp code m))) (λ m. input_decided words s (event.KeyUp code m))
      (λ m h. byte_below m h.0.types.1)) (λ code h. h.1.0.types.0))
      (λ h. (h.0, h.1.0, h.1.1)) (λ h. (h.0, (h.1, h.2)));
  move = likewise (signed (λ dx. (dy : ℤ) × AreWords words (step.Input s (event.Move dx dy)))
      (λ dx. signed (λ dy. AreWords words (step.Input s (event.Move dx dy))) (λ dy. input_decided words s (event.Move dx dy))
      (λ dy h. h.0.types.1)) (λ dx h. h.1.0.types.0))
      (λ h. (h.0, h.1.0, h.1.1)) (λ h. (h.0, (h.1, h.2)));
  at = likewise (signed (λ x. (y : ℤ) × ((width : ℤ) × ((height : ℤ) × AreWords words (step.Input s (event.At x y width height)))))
      (λ x. signed (λ y. (width : ℤ) × ((height : ℤ) × AreWords words (step.Input s (event.At x y width height))))
      (λ y. signed (λ width. (height : ℤ) × AreWords words (step.Input s (event.At x y width height)))
      (λ width. signed (λ height. AreWords words (step.Input s (event.At x y width height))) (λ height. input_decided words s (event.At x y width height))
      (λ height h. h.0.types.3)) (λ width h. h.1.0.types.2)) (λ y h. h.1.1.0.types.1)) (λ x h. h.1.1.1.0.types.0))
      (λ h. (h.0, h.1.0, h.1.1.0, h.1.1.1.0, h.1.1.1.1)) (λ h. (h.0, (h.1, (h.2, (h.3, h.4)))));
  press = one (λ b. AreWords words (step.Input s (event.Press b))) (λ b. input_decided words s (event.Press b)) (λ b h. byte_below b h.0.types);
  release = one (λ b. AreWords words (step.Input s (event.Release b))) (λ b. input_decided words s (event.Release b)) (λ b h. byte_below b h.0.types);
  scroll = signed (λ amount. AreWords words (step.Input s (event.Scroll amount))) (λ amount. input_decided words s (event.Scroll amount))
      (λ amount h. h.0.types);
}

events_decided : (words : List (List ℕ)) (s : ℕ) → Decided ((e : Event) × AreWords words (step.Input s e))
events_decided words s = elim has.key_down [
  | inl h ↦ inl (event.KeyDown h.0 h.1, h.2)
  | inr no_key_down ↦ elim has.key_up [
    | inl h ↦ inl (event.KeyUp h.0 h.1, h.2)
    | inr no_key_up ↦ elim has.move [
      | inl h ↦ inl (event.Move h.0 h.1, h.2)
      | inr no_move ↦ elim has.at [
        | inl h ↦ inl (event.At h.0 h.1 h.2 h.3, h.4)
        | inr no_at ↦ elim has.press [
          | inl h ↦ inl (event.Press h.0, h.1)
          | inr no_press ↦ elim has.release [
            | inl h ↦ inl (event.Release h.0, h.1)
            | inr no_release ↦ elim has.scroll [
              | inl h ↦ inl (event.Scroll h.0, h.1)
              | inr no_scroll ↦ inr (λ h. none no_key_down no_key_up no_move no_at no_press no_release no_scroll h.0 h.1)
            ]
          ]
        ]
      ]
    ]
  ]
]
  where
    has : HasEvent words s
    has = each_event words s

    none : (((code : ℤ) × (m : ℕ) × AreWords words (step.Input s (event.KeyDown code m))) → ⊥)
        → (((code : ℤ) × (m : ℕ) × AreWords words (step.Input s (event.KeyUp code m))) → ⊥)
        → (((dx : ℤ) × (dy : ℤ) × AreWords words (step.Input s (event.Move dx dy))) → ⊥)
        → (((x : ℤ) × (y : ℤ) × (width : ℤ) × (height : ℤ) × AreWords words (step.Input s (event.At x y width height))) → ⊥)
        → (((b : ℕ) × AreWords words (step.Input s (event.Press b))) → ⊥)
        → (((b : ℕ) × AreWords words (step.Input s (event.Release b))) → ⊥)
        → (((amount : ℤ) × AreWords words (step.Input s (event.Scroll amount))) → ⊥)
        → (e : Event) → AreWords words (step.Input s e) → ⊥
    none no_key_down no_key_up no_move no_at no_press no_release no_scroll (event.KeyDown code m) h = no_key_down (code, m, h)
    none no_key_down no_key_up no_move no_at no_press no_release no_scroll (event.KeyUp code m) h = no_key_up (code, m, h)
    none no_key_down no_key_up no_move no_at no_press no_release no_scroll (event.Move dx dy) h = no_move (dx, dy, h)
    none no_key_down no_key_up no_move no_at no_press no_release no_scroll (event.At x y width height) h = no_at (x, y, width, height, h)
    none no_key_down no_key_up no_move no_at no_press no_release no_scroll (event.Press b) h = no_press (b, h)
    none no_key_down no_key_up no_move no_at no_press no_release no_scroll (event.Release b) h = no_release (b, h)
    none no_key_down no_key_up no_move no_at no_press no_release no_scroll (event.Scroll amount) h = no_scroll (amount, h)
    none no_key_down no_key_up no_move no_at no_press no_release no_scroll (event.Unknown magic) h = h.0.known

-- ---- a step's words

session_decided : (words : List (List ℕ)) (p q m w : ℕ) → Decided (AreWords words (step.Session p q m w))
session_decided words p q m w =
    either_holds (numbers_decided words (codes "session") (p ∷ q ∷ m ∷ w ∷ []))
    (both (cases_eq w 1) (numbers_decided words (codes "session") (p ∷ q ∷ m ∷ [])))

session_below : (words : List (List ℕ)) (p q m w : ℕ) → AreWords words (step.Session p q m w)
    → (p < 2 ^ 32) × (q < 2 ^ 32) × (m < 2 ^ 32) × (w < 2 ^ 32)
session_below words p q m w (inl h) = (h.0.0, h.0.1.0, h.0.1.1.0, h.0.1.1.1.0)
session_below words p q m w (inr h) = (h.1.0.0, h.1.0.1.0, h.1.0.1.1.0, (let is = h.0 in omega (arith, is)))

-- a step of each kind
record HasWords (words : List (List ℕ)) : Type 0 where
  session : Decided ((p q m w : ℕ) × AreWords words (step.Session p q m w))
  cap : Decided (AreWords words step.Cap)
  send : Decided ((s : ℕ) × AreWords words (step.Send s))
  video : Decided ((s k : ℕ) × AreWords words (step.Video s k))
  audio : Decided ((s k : ℕ) × AreWords words (step.Audio s k))
  videos : Decided ((s first last : ℕ) × AreWords words (step.Videos s first last))
  up : Decided ((s k : ℕ) × AreWords words (step.Up s k))
  down : Decided ((s k : ℕ) × AreWords words (step.Down s k))
  input : Decided ((s : ℕ) × ((e : Event) × AreWords words (step.Input s e)))
  idr : Decided ((s : ℕ) × AreWords words (step.Idr s))
  time : Decided ((by : ℕ) × AreWords words (step.Time by))
  pump : Decided ((s every : ℕ) × AreWords words (step.Pump s every))
  close : Decided ((s : ℕ) × AreWords words (step.Close s))
  reset : Decided ((s : ℕ) × AreWords words (step.Reset s))

each_step : (words : List (List ℕ)) → HasWords words
each_step words = record {
  session = four (λ p q m w. AreWords words (step.Session p q m w)) (session_decided words) (session_below words);
  cap = numbers_decided words (codes "cap") [];
  send = one (λ s. AreWords words (step.Send s)) (λ s. numbers_decided words (codes "send") (s ∷ [])) (λ s h. h.0.0);
  video = two (λ s k. AreWords words (step.Video s k)) (λ s k. numbers_decided words (codes "video") (s ∷ k ∷ [])) (λ s k h. (h.0.0, h.0.1.0));
  audio = two (λ s k. AreWords words (step.Audio s k)) (λ s k. numbers_decided words (codes "audio") (s ∷ k ∷ [])) (λ s k h. (h.0.0, h.0.1.0));
  videos = three (λ s first last. AreWords words (step.Videos s first last))
      (λ s first last. both (numbers_decided words (codes "videos") (s ∷ first ∷ last ∷ [])) (most_decided first last))
      (λ s first last h. (h.0.0.0, h.0.0.1.0, h.0.0.1.1.0));
  up = two (λ s k. AreWords words (step.Up s k)) (λ s k. numbers_decided words (codes "up") (s ∷ k ∷ [])) (λ s k h. (h.0.0, h.0.1.0));
  down = two (λ s k. AreWords words (step.Down s k)) (λ s k. numbers_decided words (codes "down") (s ∷ k ∷ [])) (λ s k h. (h.0.0, h.0.1.0));
  input = one (λ s. (e : Event) × AreWords words (step.Input s e)) (λ s. events_decided words s) (λ s h. h.1.1);
  idr = one (λ s. AreWords words (step.Idr s)) (λ s. numbers_decided words (codes "idr") (s ∷ [])) (λ s h. h.0.0);
  time = one (λ by. AreWords words (step.Time by)) (λ by. both (numbers_decided words (codes "time") (by ∷ [])) (most_decided by most_time))
      (λ by h. h.0.0.0);
  pump = two (λ s every. AreWords words (step.Pump s every)) (λ s every. numbers_decided words (codes "pump") (s ∷ every ∷ []))
      (λ s every h. (h.0.0, h.0.1.0));
  close = one (λ s. AreWords words (step.Close s)) (λ s. numbers_decided words (codes "close") (s ∷ [])) (λ s h. h.0.0);
  reset = one (λ s. AreWords words (step.Reset s)) (λ s. numbers_decided words (codes "reset") (s ∷ [])) (λ s h. h.0.0);
}

-- the step that was found, if one was
found_step : {A : Type 0} (words : List (List ℕ)) → Decided A → (A → (s : Step) × AreWords words s)
    → ((A → ⊥) → Decided ((s : Step) × AreWords words s)) → Decided ((s : Step) × AreWords words s)
found_step words (inl a) found others = inl (found a)
found_step words (inr never) found others = others never

step_decided : (words : List (List ℕ)) → Decided ((s : Step) × AreWords words s)
step_decided words =
    found_step words has.session (λ h. (step.Session h.0 h.1 h.2 h.3, h.4)) (λ no_session.
    found_step words has.cap (λ h. (step.Cap, h)) (λ no_cap.
    found_step words has.send (λ h. (step.Send h.0, h.1)) (λ no_send.
    found_step words has.video (λ h. (step.Video h.0 h.1, h.2)) (λ no_video.
    found_step words has.audio (λ h. (step.Audio h.0 h.1, h.2)) (λ no_audio.
    found_step words has.videos (λ h. (step.Videos h.0 h.1 h.2, h.3)) (λ no_videos.
    found_step words has.up (λ h. (step.Up h.0 h.1, h.2)) (λ no_up.
    found_step words has.down (λ h. (step.Down h.0 h.1, h.2)) (λ no_down.
    found_step words has.input (λ h. (step.Input h.0 h.1.0, h.1.1)) (λ no_input.
    found_step words has.idr (λ h. (step.Idr h.0, h.1)) (λ no_idr.
    found_step words has.time (λ h. (step.Time h.0, h.1)) (λ no_time.
    found_step words has.pump (λ h. (step.Pump h.0 h.1, h.2)) (λ no_pump.
    found_step words has.close (λ h. (step.Close h.0, h.1)) (λ no_close.
    found_step words has.reset (λ h. (step.Reset h.0, h.1)) (λ no_reset.
    inr (λ h. none no_session no_cap no_send no_video no_audio no_videos no_up no_down no_input no_idr no_time no_pump no_close no_reset h.0 h.1)
    ))))))))))))))
  where
    has : HasWords words
    has = each_step words

    none : (((p q m w : ℕ) × AreWords words (step.Session p q m w)) → ⊥)
        → (AreWords words step.Cap → ⊥)
        → (((s : ℕ) × AreWords words (step.Send s)) → ⊥)
        → (((s k : ℕ) × AreWords words (step.Video s k)) → ⊥)
        → (((s k : ℕ) × AreWords words (step.Audio s k)) → ⊥)
        → (((s first last : ℕ) × AreWords words (step.Videos s first last)) → ⊥)
        → (((s k : ℕ) × AreWords words (step.Up s k)) → ⊥)
        → (((s k : ℕ) × AreWords words (step.Down s k)) → ⊥)
        → (((s : ℕ) × ((e : Event) × AreWords words (step.Input s e))) → ⊥)
        → (((s : ℕ) × AreWords words (step.Idr s)) → ⊥)
        → (((by : ℕ) × AreWords words (step.Time by)) → ⊥)
        → (((s every : ℕ) × AreWords words (step.Pump s every)) → ⊥)
        → (((s : ℕ) × AreWords words (step.Close s)) → ⊥)
        → (((s : ℕ) × AreWords words (step.Reset s)) → ⊥)
        → (s : Step) → AreWords words s → ⊥
    none no_session no_cap no_send no_video no_audio no_videos no_up no_down no_input no_idr no_time no_pump no_close no_reset step.Blank h = h
    none no_session no_cap no_send no_video no_audio no_videos no_up no_down no_input no_idr no_time no_pump no_close no_reset (step.Session p q m w) h =
        no_session (p, q, m, w, h)
    none no_session no_cap no_send no_video no_audio no_videos no_up no_down no_input no_idr no_time no_pump no_close no_reset step.Cap h = no_cap h
    none no_session no_cap no_send no_video no_audio no_videos no_up no_down no_input no_idr no_time no_pump no_close no_reset (step.Send s) h = no_send (s, h)
    none no_session no_cap no_send no_video no_audio no_videos no_up no_down no_input no_idr no_time no_pump no_close no_reset (step.Video s k) h =
        no_video (s, k, h)
    none no_session no_cap no_send no_video no_audio no_videos no_up no_down no_input no_idr no_time no_pump no_close no_reset (step.Audio s k) h =
        no_audio (s, k, h)
    none no_session no_cap no_send no_video no_audio no_videos no_up no_down no_input no_idr no_time no_pump no_close no_reset (step.Videos s first last) h =
        no_videos (s, first, last, h)
    none no_session no_cap no_send no_video no_audio no_videos no_up no_down no_input no_idr no_time no_pump no_close no_reset (step.Up s k) h = no_up (s, k, h)
    none no_session no_cap no_send no_video no_audio no_videos no_up no_down no_input no_idr no_time no_pump no_close no_reset (step.Down s k) h =
        no_down (s, k, h)
    none no_session no_cap no_send no_video no_audio no_videos no_up no_down no_input no_idr no_time no_pump no_close no_reset (step.Input s e) h =
        no_input (s, (e, h))
    none no_session no_cap no_send no_video no_audio no_videos no_up no_down no_input no_idr no_time no_pump no_close no_reset (step.Idr s) h = no_idr (s, h)
    none no_session no_cap no_send no_video no_audio no_videos no_up no_down no_input no_idr no_time no_pump no_close no_reset (step.Time by) h =
        no_time (by, h)
    none no_session no_cap no_send no_video no_audio no_videos no_up no_down no_input no_idr no_time no_pump no_close no_reset (step.Pump s every) h =
        no_pump (s, every, h)
    none no_session no_cap no_send no_video no_audio no_videos no_up no_down no_input no_idr no_time no_pump no_close no_reset (step.Close s) h =
        no_close (s, h)
    none no_session no_cap no_send no_video no_audio no_videos no_up no_down no_input no_idr no_time no_pump no_close no_reset (step.Reset s) h =
        no_reset (s, h)

-- ---- a line's step

blank_decided : (line : List ℕ) → Decided (IsBlank line)
blank_decided [] = inl tt
blank_decided (byte ∷ line) = cases_eq byte 35

spelled_words : (line : List ℕ) → (IsBlank line → ⊥) → (((s : Step) × AreWords (words_of line) s) → ⊥) → (s : Step) → Spells line s → ⊥
spelled_words line busy none step.Blank h = busy h
spelled_words line busy none s h = none (s, h)

spelling_decided : (line : List ℕ) → Decided ((s : Step) × Spells line s)
spelling_decided line = by (blank_decided line) (step_decided (words_of line)) where
  by : Decided (IsBlank line) → Decided ((s : Step) × AreWords (words_of line) s) → Decided ((s : Step) × Spells line s)
  by (inl blank) words = inl (step.Blank, blank)
  by (inr busy) (inl found) = inl (found.0, spelled line found.0 found.1)
  by (inr busy) (inr none) = inr (λ h. spelled_words line busy none h.0 h.1)

line_decided : (number : ℕ) (line : List ℕ) → Decided ((s : Step) × IsLineOf number line s)
line_decided number line =
    likewise (both (spelling_decided line) (both (most_decided (length line) most_line) (below_decided number (2 ^ 32 - 1))))
    (λ h. (h.0.0, record { spells = h.0.1; short = h.1.0; numbered = h.1.1 })) (λ h. ((h.0, h.1.spells), (h.1.short, h.1.numbered)))

pub has_a_step : (number : ℕ) (line : List ℕ) → (o : Option Step) × HasStep number line o
has_a_step number line = elim (line_decided number line) [
  | inl found ↦ (Some found.0, found.1)
  | inr none ↦ (None, λ s is. none (s, is))
]
