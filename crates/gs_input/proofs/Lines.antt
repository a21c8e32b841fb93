-- A line is its words joined, and its words are those that were joined.
use Rattle.std.proofs.Common.{◌≡◌, ◌↔◌, ℕ, ◌^◌, ◌<◌, List, ◌∷◌, Option, Some, None, ℤ, FitsSigned, w16, rules, sym, ap, subst, ◌∙◌, arith}
use Rattle.std.specs.Prelude.{codes, IfSome, IfNone}
use Rattle.std.specs.Fmt.{decimal, signed_decimal}
use Rattle.std.proofs.lemmas.Fmt.{decimal_injective}
use Rattle.gs_input.specs.declared.event.Event.{Event}
use Rattle.gs_input.specs.declared.event.Event.TheVariants.{KeyDown, KeyUp, Move, At, Press, Release, Scroll, Unknown}
use Rattle.gs_input.specs.Event.{FitsTypes, IsKnown}
use Rattle.gs_bytes.specs.Words.{words_of, line_of}
use Rattle.gs_bytes.proofs.Decimals.{signed_decimal_once}
use Rattle.gs_bytes.proofs.WordLemmas.{FitsSigned-wider, HasNoSpace, HaveNoSpace, decimal-no_space, line_of-words_of, signed_decimal-no_space, words_of-line_of}
use Rattle.gs_input.specs.Line.{event_name, arguments_of, event_line, HasArguments, AreEventWords, IsLine}

-- numbers of 16 bits
short-no_space : (z : ℤ) → FitsSigned w16 z → HasNoSpace (signed_decimal z)
short-no_space z fits = signed_decimal-no_space z (FitsSigned-wider z fits)

short_once : (y z : ℤ) → FitsSigned w16 y → FitsSigned w16 z → signed_decimal y ≡ signed_decimal z → y ≡ z
short_once y z fy fz e = signed_decimal_once y z (FitsSigned-wider y fy) (FitsSigned-wider z fz) e

name-no_space : (event : Event) → HasNoSpace (event_name event)
name-no_space (KeyDown code modifiers) = search rules
name-no_space (KeyUp code modifiers) = search rules
name-no_space (Move dx dy) = search rules
name-no_space (At x y width height) = search rules
name-no_space (Press button) = search rules
name-no_space (Release button) = search rules
name-no_space (Scroll amount) = search rules
name-no_space (Unknown magic) = search rules

arguments-no_space : (event : Event) → FitsTypes event → HaveNoSpace (arguments_of event)
arguments-no_space (KeyDown code modifiers) fits = (short-no_space code fits.0, (decimal-no_space modifiers (omega (arith, fits.1)), tt))
arguments-no_space (KeyUp code modifiers) fits = (short-no_space code fits.0, (decimal-no_space modifiers (omega (arith, fits.1)), tt))
arguments-no_space (Move dx dy) fits = (short-no_space dx fits.0, (short-no_space dy fits.1, tt))
arguments-no_space (At x y width height) fits =
    (short-no_space x fits.0, (short-no_space y fits.1, (short-no_space width fits.2, (short-no_space height fits.3, tt))))
arguments-no_space (Press button) fits = (decimal-no_space button (omega (arith, fits)), tt)
arguments-no_space (Release button) fits = (decimal-no_space button (omega (arith, fits)), tt)
arguments-no_space (Scroll amount) fits = (short-no_space amount fits, tt)
arguments-no_space (Unknown magic) fits = (decimal-no_space magic (omega (arith, fits)), tt)

-- the words of an event's line
pub words_of-event_line : (event : Event) → FitsTypes event → words_of (event_line event) ≡ event_name event ∷ arguments_of event
words_of-event_line event fits = words_of-line_of (event_name event) (arguments_of event) (name-no_space event) (arguments-no_space event fits)

pub number_is : (m n : ℕ) → m < 2 ^ 8 → n < 2 ^ 8 → decimal m ≡ decimal n → m ≡ n
number_is m n lm ln e = decimal_injective m n (omega arith) (omega arith) e

-- a place is told by its name
pub place_named : (name : List ℕ) (words : List (List ℕ)) (event : Event) → name ≡ codes "at" → AreEventWords name words event
    → (x y width height : ℤ) × HasArguments words (At x y width height)
place_named name words (KeyDown code modifiers) e h = absurd (let f = sym e ∙ h.name_is in cc)
place_named name words (KeyUp code modifiers) e h = absurd (let f = sym e ∙ h.name_is in cc)
place_named name words (Move dx dy) e h = absurd (let f = sym e ∙ h.name_is in cc)
place_named name words (At x y width height) e h = (x, y, width, height, (h.proper.types, h.arguments_are))
place_named name words (Press button) e h = absurd (let f = sym e ∙ h.name_is in cc)
place_named name words (Release button) e h = absurd (let f = sym e ∙ h.name_is in cc)
place_named name words (Scroll amount) e h = absurd (let f = sym e ∙ h.name_is in cc)
place_named name words (Unknown magic) e h = absurd (h.proper.known)

-- a move is told by its name
pub move_named : (name : List ℕ) (words : List (List ℕ)) (event : Event) → name ≡ codes "move" → AreEventWords name words event
    → (dx dy : ℤ) × HasArguments words (Move dx dy)
move_named name words (KeyDown code modifiers) e h = absurd (let f = sym e ∙ h.name_is in cc)
move_named name words (KeyUp code modifiers) e h = absurd (let f = sym e ∙ h.name_is in cc)
move_named name words (Move dx dy) e h = (dx, dy, (h.proper.types, h.arguments_are))
move_named name words (At x y width height) e h = absurd (let f = sym e ∙ h.name_is in cc)
move_named name words (Press button) e h = absurd (let f = sym e ∙ h.name_is in cc)
move_named name words (Release button) e h = absurd (let f = sym e ∙ h.name_is in cc)
move_named name words (Scroll amount) e h = absurd (let f = sym e ∙ h.name_is in cc)
move_named name words (Unknown magic) e h = absurd (h.proper.known)

-- an event is told by its words
same_words : (first second : Event) → IsKnown first → IsKnown second → FitsTypes first → FitsTypes second → event_name first ≡ event_name second
    → arguments_of first ≡ arguments_of second → first ≡ second
same_words (KeyDown code modifiers) (KeyDown code' modifiers') known known' fits fits' name arguments =
    let e0 : code ≡ code' = short_once code code' fits.0 fits'.0 (cc) in
    let e1 : modifiers ≡ modifiers' = number_is modifiers modifiers' fits.1 fits'.1 (cc) in
    cc
same_words (KeyDown code modifiers) (Unknown magic) known known' fits fits' name arguments = absurd known'
same_words (KeyDown code modifiers) second known known' fits fits' name arguments = absurd cc
same_words (KeyUp code modifiers) (KeyUp code' modifiers') known known' fits fits' name arguments =
    let e0 : code ≡ code' = short_once code code' fits.0 fits'.0 (cc) in
    let e1 : modifiers ≡ modifiers' = number_is modifiers modifiers' fits.1 fits'.1 (cc) in
    cc
same_words (KeyUp code modifiers) (Unknown magic) known known' fits fits' name arguments = absurd known'
same_words (KeyUp code modifiers) second known known' fits fits' name arguments = absurd cc
same_words (Move dx dy) (Move dx' dy') known known' fits fits' name arguments =
    let e0 : dx ≡ dx' = short_once dx dx' fits.0 fits'.0 (cc) in
    let e1 : dy ≡ dy' = short_once dy dy' fits.1 fits'.1 (cc) in
    cc
same_words (Move dx dy) (Unknown magic) known known' fits fits' name arguments = absurd known'
same_words (Move dx dy) second known known' fits fits' name arguments = absurd cc
same_words (At x y width height) (At x' y' width' height') known known' fits fits' name arguments =
    let e0 : x ≡ x' = short_once x x' fits.0 fits'.0 (cc) in
    let e1 : y ≡ y' = short_once y y' fits.1 fits'.1 (cc) in
    let e2 : width ≡ width' = short_once width width' fits.2 fits'.2 (cc) in
    let e3 : height ≡ height' = short_once height height' fits.3 fits'.3 (cc) in
    cc
same_words (At x y width height) (Unknown magic) known known' fits fits' name arguments = absurd known'
same_words (At x y width height) second known known' fits fits' name arguments = absurd cc
same_words (Press button) (Press button') known known' fits fits' name arguments =
    let e0 : button ≡ button' = number_is button button' fits fits' (cc) in
    cc
same_words (Press button) (Unknown magic) known known' fits fits' name arguments = absurd known'
same_words (Press button) second known known' fits fits' name arguments = absurd cc
same_words (Release button) (Release button') known known' fits fits' name arguments =
    let e0 : button ≡ button' = number_is button button' fits fits' (cc) in
    cc
same_words (Release button) (Unknown magic) known known' fits fits' name arguments = absurd known'
same_words (Release button) second known known' fits fits' name arguments = absurd cc
same_words (Scroll amount) (Scroll amount') known known' fits fits' name arguments =
    let e0 : amount ≡ amount' = short_once amount amount' fits fits' (cc) in
    cc
same_words (Scroll amount) (Unknown magic) known known' fits fits' name arguments = absurd known'
same_words (Scroll amount) second known known' fits fits' name arguments = absurd cc
same_words (Unknown magic) second known known' fits fits' name arguments = absurd known

pub one_event : (line : List ℕ) (first second : Event) → IsLine line first → IsLine line second → first ≡ second
one_event line first second h k =
    let words : event_name first ∷ arguments_of first ≡ event_name second ∷ arguments_of second =
    sym (words_of-event_line first h.proper.types) ∙ ap words_of (sym h.text ∙ k.text) ∙ words_of-event_line second k.proper.types in
    same_words first second h.proper.known k.proper.known h.proper.types k.proper.types (cc) (cc)

-- what the words of a line are read as is what the line is read as
pub words_are_line : (line name : List ℕ) (words : List (List ℕ)) (event : Event) → words_of line ≡ name ∷ words → AreEventWords name words event
    → IsLine line event
words_are_line line name words event e h =
    let same : words_of line ≡ event_name event ∷ arguments_of event = (let n = h.name_is in let a = h.arguments_are in cc) in
    record { proper = h.proper; text = sym (line_of-words_of line) ∙ ap line_of same }

pub line_is_words : (line name : List ℕ) (words : List (List ℕ)) (event : Event) → words_of line ≡ name ∷ words → IsLine line event
    → AreEventWords name words event
line_is_words line name words event e h =
    let same : name ∷ words ≡ event_name event ∷ arguments_of event = sym e ∙ ap words_of h.text ∙ words_of-event_line event h.proper.types in
    record { proper = h.proper; name_is = cc; arguments_are = cc }

pub reads_line : (line name : List ℕ) (words : List (List ℕ)) (r : Option Event) → words_of line ≡ name ∷ words
    → IfSome r (λ event. AreEventWords name words event) → IfNone r ((event : Event) → AreEventWords name words event → ⊥)
    → (event : Event) → (r ≡ Some event) ↔ IsLine line event
reads_line line name words (Some found) e some none event =
    let is = words_are_line line name words found e some in
    (λ same. let one : found ≡ event = cc in subst (IsLine line) one is, λ h. ap (λ (x : Event). Some x) (one_event line found event is h))
reads_line line name words None e some none event = (λ same. absurd cc, λ h. absurd (none event (line_is_words line name words event e h)))
