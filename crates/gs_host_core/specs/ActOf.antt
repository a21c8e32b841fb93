-- What the bytes of a message ask of a host, computed.
use Rattle.std.specs.Prelude.{ℕ, ℤ, List, drop, length, nat_le, slice_index, is_none, ◌==◌, if◌then◌else◌}
use Rattle.std.specs.Int.{w16, w64, cast_signed}
use Rattle.gs_bytes.specs.Field.{big_from, little_from}
use Rattle.gs_input.specs.declared.event.Event.{Event}
use Rattle.gs_input.specs.declared.event.Event.TheVariants as event
use Rattle.gs_input.specs.Packet.{magic_in, event_fault}
use Rattle.gs_control.specs.Message.{kind_in}
use Rattle.gs_host_core.specs.declared.act.Act.{Act}
use Rattle.gs_host_core.specs.declared.act.Act.TheVariants.{Invalidate, AskIdr, Input, Nothing}

-- the signed number of two bytes at a place, with the lowest or the highest byte first
abbrev pub little_at : ℕ → List ℕ → ℤ
little_at place bytes = cast_signed w16 (little_from place 2 bytes)

abbrev pub big_at : ℕ → List ℕ → ℤ
big_at place bytes = cast_signed w16 (big_from place 2 bytes)

-- the event of an input packet without a fault, by its magic
abbrev pub acted_event : ℕ → List ℕ → Event
acted_event magic packet =
    if magic == 3 then event.KeyDown (little_at 9 packet) (slice_index packet 11)
    else if magic == 4 then event.KeyUp (little_at 9 packet) (slice_index packet 11)
    else if magic == 5 then event.At (big_at 8 packet) (big_at 10 packet) (big_at 14 packet) (big_at 16 packet)
    else if magic == 7 then event.Move (big_at 8 packet) (big_at 10 packet)
    else if magic == 8 then event.Press (slice_index packet 8)
    else if magic == 9 then event.Release (slice_index packet 8)
    else if magic == 10 then event.Scroll (big_at 8 packet)
    else event.Unknown magic

abbrev pub input_act : List ℕ → Act
input_act packet = if is_none (event_fault packet) then Input (acted_event (magic_in packet) packet) else Nothing

-- the two numbers of 64 bits of a range, behind which stands a third that is ignored
abbrev pub range_act : List ℕ → Act
range_act payload =
    if length payload == 24
    then Invalidate (cast_signed w64 (little_from 0 8 payload)) (cast_signed w64 (little_from 8 8 payload))
    else Nothing

-- any payload of at most 64 bytes
abbrev pub idr_act : List ℕ → Act
idr_act payload = if nat_le (length payload) 64 then AskIdr else Nothing

abbrev pub act_by : ℕ → List ℕ → Act
act_by kind payload =
    if kind == 0x0301 then range_act payload
    else if kind == 0x0302 then idr_act payload
    else if kind == 0x0206 then input_act payload
    else Nothing

-- the message's type is its first two bytes
unfoldable pub act_of : List ℕ → Act
act_of message = act_by (kind_in message) (drop 2 message)
