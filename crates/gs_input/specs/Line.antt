-- Event words: a line names the kind of an event, and then its numbers.
use Rattle.std.specs.Prelude.{◌≡◌, ℕ, List, [], ◌∷◌, codes}
use Rattle.std.specs.Fmt.{decimal, signed_decimal}
use Rattle.gs_input.specs.declared.event.Event.{Event}
use Rattle.gs_input.specs.declared.event.Event.TheVariants.{KeyDown, KeyUp, Move, At, Press, Release, Scroll, Unknown}
use Rattle.gs_input.specs.Event.{FitsTypes, IsEvent}
use Rattle.gs_bytes.specs.Words.{line_of}

-- the first word
abbrev pub event_name : Event → List ℕ
event_name (KeyDown code modifiers) = codes "keydown"
event_name (KeyUp code modifiers) = codes "keyup"
event_name (Move dx dy) = codes "move"
event_name (At x y width height) = codes "at"
event_name (Press button) = codes "press"
event_name (Release button) = codes "release"
event_name (Scroll amount) = codes "scroll"
event_name (Unknown magic) = codes "unknown"

-- the words behind it
abbrev pub arguments_of : Event → List (List ℕ)
arguments_of (KeyDown code modifiers) = signed_decimal code ∷ decimal modifiers ∷ []
arguments_of (KeyUp code modifiers) = signed_decimal code ∷ decimal modifiers ∷ []
arguments_of (Move dx dy) = signed_decimal dx ∷ signed_decimal dy ∷ []
arguments_of (At x y width height) = signed_decimal x ∷ signed_decimal y ∷ signed_decimal width ∷ signed_decimal height
    ∷ []
arguments_of (Press button) = decimal button ∷ []
arguments_of (Release button) = decimal button ∷ []
arguments_of (Scroll amount) = signed_decimal amount ∷ []
arguments_of (Unknown magic) = decimal magic ∷ []

-- the words behind a name are those of an event, whose numbers are of their types
abbrev pub HasArguments : List (List ℕ) → Event → Type 0
HasArguments words event = FitsTypes event × (words ≡ arguments_of event)

-- the line of an event
abbrev pub event_line : Event → List ℕ
event_line event = line_of (event_name event ∷ arguments_of event)

-- a name and the words behind it are those of an event
pub record AreEventWords (name : List ℕ) (arguments : List (List ℕ)) (event : Event) : Type 0 where
  pub proper : IsEvent event
  pub name_is : name ≡ event_name event
  pub arguments_are : arguments ≡ arguments_of event

-- a line that is read as an event
pub record IsLine (line : List ℕ) (event : Event) : Type 0 where
  pub proper : IsEvent event
  pub text : line ≡ event_line event
