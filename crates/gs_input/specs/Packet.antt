-- Input packets: the number of the bytes after itself (4 bytes, the highest first), the magic that
-- names the kind of event (4 bytes, the lowest first), and the body.
use Rattle.std.specs.Prelude.{◌≡◌, ℕ, ℤ, ◌+◌, Bool, true, IsTrue, not, ◌&&◌, ◌||◌, ◌==◌, nat_le, if◌then◌else◌, List}
use Rattle.std.specs.Prelude.{[], ◌∷◌, ◌++◌, length, slice_index, Option, Some, None, ⊤}
use Rattle.std.specs.Int.{w16, cast_signed, cast_unsigned}
use Rattle.gs_bytes.specs.Field.{big_from, little_from, big_bytes, little_bytes}
use Rattle.gs_input.specs.declared.event.Event.{Event}
use Rattle.gs_input.specs.declared.event.Event.TheVariants.{KeyDown, KeyUp, Move, At, Press, Release, Scroll, Unknown}
use Rattle.gs_input.specs.Event.{HasButton}

-- A field of a body: a byte, a signed number of two bytes with the lowest or the highest byte first,
-- or bytes that are ignored when they are read, with what is written there.
pub data EventField : Type 0 where
  byte : ℕ → EventField
  little : ℤ → EventField
  big : ℤ → EventField
  ignored : List ℕ → EventField

-- the magic of an event
abbrev pub magic_of : Event → ℕ
magic_of (KeyDown code modifiers) = 3
magic_of (KeyUp code modifiers) = 4
magic_of (At x y width height) = 5
magic_of (Move dx dy) = 7
magic_of (Press button) = 8
magic_of (Release button) = 9
magic_of (Scroll amount) = 10
magic_of (Unknown magic) = magic

-- flags, the code, the modifiers, and two bytes of zeros
abbrev pub key_fields : ℤ → ℕ → List EventField
key_fields code modifiers = ignored (0 ∷ []) ∷ little code ∷ byte modifiers ∷ ignored (0 ∷ 0 ∷ []) ∷ []

-- the fields of an event's body; that of an unknown event is any bytes
abbrev pub fields_of : Event → List EventField
fields_of (KeyDown code modifiers) = key_fields code modifiers
fields_of (KeyUp code modifiers) = key_fields code modifiers
fields_of (At x y width height) = big x ∷ big y ∷ ignored (0 ∷ 0 ∷ []) ∷ big width ∷ big height ∷ []
fields_of (Move dx dy) = big dx ∷ big dy ∷ []
fields_of (Press button) = byte button ∷ []
fields_of (Release button) = byte button ∷ []
fields_of (Scroll amount) = big amount ∷ ignored (big_bytes 2 (cast_unsigned w16 amount)) ∷ ignored (0 ∷ 0 ∷ []) ∷ []
fields_of (Unknown magic) = []

-- how many bytes a known magic's body has
abbrev pub event_length : ℕ → Option ℕ
event_length magic =
    if magic == 3 || magic == 4 || magic == 10 then Some 6
    else if magic == 5 then Some 10
    else if magic == 7 then Some 4
    else if magic == 8 || magic == 9 then Some 1
    else None

-- ---- what is read

-- how many bytes a field takes
abbrev pub width_of : EventField → ℕ
width_of (byte value) = 1
width_of (little value) = 2
width_of (big value) = 2
width_of (ignored bytes) = length bytes

-- the field is what stands at the place
abbrev pub StandsAt : ℕ → List ℕ → EventField → Type 0
StandsAt place bytes (byte value) = slice_index bytes place ≡ value
StandsAt place bytes (little value) = cast_signed w16 (little_from place 2 bytes) ≡ value
StandsAt place bytes (big value) = cast_signed w16 (big_from place 2 bytes) ≡ value
StandsAt place bytes (ignored written) = ⊤

-- the fields stand one behind the other from the place to the end of the bytes
abbrev pub StandFrom : ℕ → List ℕ → List EventField → Type 0
StandFrom place bytes [] = length bytes ≡ place
StandFrom place bytes (field ∷ fields) = StandsAt place bytes field × StandFrom (place + width_of field) bytes fields

-- there is a size, which is that of the rest, and a magic
abbrev pub has_size : List ℕ → Bool
has_size bytes = nat_le 8 (length bytes) && big_from 0 4 bytes + 4 == length bytes

abbrev pub magic_in : List ℕ → ℕ
magic_in bytes = little_from 4 4 bytes

abbrev pub IsBody : List ℕ → Event → Type 0
IsBody bytes (Unknown magic) = event_length magic ≡ None
IsBody bytes event = StandFrom 8 bytes (fields_of event) × HasButton event

-- the bytes are an input packet of the event
pub record IsPacket (bytes : List ℕ) (event : Event) : Type 0 where
  pub size : IsTrue (has_size bytes)
  pub magic : magic_in bytes ≡ magic_of event
  pub body : IsBody bytes event

-- ---- what is refused

-- the body has the length of its magic
abbrev pub has_length : Option ℕ → List ℕ → Bool
has_length None bytes = true
has_length (Some body) bytes = length bytes == 8 + body

-- a press or a release, whose body is a number of no button
abbrev pub has_bad_button : List ℕ → Bool
has_bad_button bytes =
    (magic_in bytes == 8 || magic_in bytes == 9)
    && not (nat_le 1 (slice_index bytes 8) && nat_le (slice_index bytes 8) 5)

-- the place of what no packet has: the size, else the magic that has another length, else the button
abbrev pub event_fault : List ℕ → Option ℕ
event_fault bytes =
    if not (has_size bytes) then Some 0
    else if not (has_length (event_length (magic_in bytes)) bytes) then Some 4
    else if has_bad_button bytes then Some 8
    else None

-- ---- what is written

abbrev pub written_field : EventField → List ℕ
written_field (byte value) = value ∷ []
written_field (little value) = little_bytes 2 (cast_unsigned w16 value)
written_field (big value) = big_bytes 2 (cast_unsigned w16 value)
written_field (ignored bytes) = bytes

abbrev pub all_written : List EventField → List ℕ
all_written [] = []
all_written (field ∷ fields) = written_field field ++ all_written fields

-- the packet around a body
abbrev pub packet_around : ℕ → List ℕ → List ℕ
packet_around magic body = big_bytes 4 (4 + length body) ++ little_bytes 4 magic ++ body

-- the packet that is written for an event
abbrev pub packet_of : Event → List ℕ
packet_of event = packet_around (magic_of event) (all_written (fields_of event))
