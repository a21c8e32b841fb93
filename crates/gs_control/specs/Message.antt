-- Messages of the control stream: a type (2 bytes, the lowest first) and a payload.
use Rattle.std.specs.Prelude.{◌≡◌, ◌≢◌, ℕ, ◌≤◌, ◌<◌, ◌^◌, List, [], ◌∷◌, ◌++◌, drop, length, nat_lt, if◌then◌else◌}
use Rattle.std.specs.Prelude.{replicate, FitsSigned, ⊤}
use Rattle.std.specs.Int.{w64, cast_signed, cast_unsigned}
use Rattle.std.specs.List.{AllByRecursion}
use Rattle.gs_bytes.specs.Field.{big_from, little_from, big_bytes, little_bytes}
use Rattle.gs_input.specs.Event.{HasButton, IsEvent, IsKnown}
use Rattle.gs_input.specs.Packet.{IsPacket, packet_of}
use Rattle.gs_control.specs.declared.limits.TheConstants.{MOST_UNREAD}
use Rattle.gs_control.specs.declared.message.Message.{Message}
use Rattle.gs_control.specs.declared.message.Message.TheVariants.{StartA, StartB, Invalidate, LossStats, Input, Rumble}
use Rattle.gs_control.specs.declared.message.Message.TheVariants.{Termination, Ping, IdrRequest, Other}

-- the type of a message
abbrev pub message_kind : Message → ℕ
message_kind StartA = 0x0305
message_kind StartB = 0x0307
message_kind (Invalidate first last) = 0x0301
message_kind LossStats = 0x0201
message_kind (Input event) = 0x0206
message_kind Rumble = 0x010B
message_kind (Termination code) = 0x0109
message_kind Ping = 0x0200
message_kind IdrRequest = 0x0302
message_kind (Other kind) = kind

-- the types that have a message of their own
abbrev pub kinds : List ℕ
kinds = 0x0305 ∷ 0x0307 ∷ 0x0301 ∷ 0x0201 ∷ 0x0206 ∷ 0x010B ∷ 0x0109 ∷ 0x0200 ∷ 0x0302 ∷ []

-- ---- what is read

-- the bytes of a payload that isn't looked at
abbrev pub most_unread : ℕ
most_unread = MOST_UNREAD

-- the payload is one of the message
abbrev pub IsPayload : List ℕ → Message → Type 0
IsPayload payload (Invalidate first last) =
    (length payload ≡ 24) × (cast_signed w64 (little_from 0 8 payload) ≡ first)
    × (cast_signed w64 (little_from 8 8 payload) ≡ last)
IsPayload payload (Input event) = IsPacket payload event
IsPayload payload (Termination code) = (length payload ≡ 4) × (big_from 0 4 payload ≡ code)
IsPayload payload (Other kind) = AllByRecursion (λ known. kind ≢ known) kinds
IsPayload payload _ = length payload ≤ most_unread

-- the bytes are a message
pub record IsMessage (bytes : List ℕ) (message : Message) : Type 0 where
  pub whole : 2 ≤ length bytes
  pub kind : little_from 0 2 bytes ≡ message_kind message
  pub payload : IsPayload (drop 2 bytes) message

-- the type that a refusal names
abbrev pub kind_in : List ℕ → ℕ
kind_in bytes = if nat_lt (length bytes) 2 then 0 else little_from 0 2 bytes

-- ---- what is written

abbrev pub zeros : ℕ → List ℕ
zeros n = replicate n 0

-- the payload that is written; none is for the last three
abbrev pub message_payload : Message → List ℕ
message_payload StartA = zeros 2
message_payload StartB = zeros 1
message_payload (Invalidate first last) =
    little_bytes 8 (cast_unsigned w64 first) ++ little_bytes 8 (cast_unsigned w64 last)
    ++ zeros 8
message_payload (Input event) = packet_of event
message_payload (Termination code) = big_bytes 4 code
message_payload Ping = zeros 8
message_payload IdrRequest = zeros 2
message_payload LossStats = []
message_payload Rumble = []
message_payload (Other kind) = []

-- the bytes that are written for a message
abbrev pub bytes_of : Message → List ℕ
bytes_of message = little_bytes 2 (message_kind message) ++ message_payload message

-- a message that is written
abbrev pub IsWritten : Message → Type 0
IsWritten (Input event) = IsKnown event
IsWritten LossStats = ⊥
IsWritten Rumble = ⊥
IsWritten (Other kind) = ⊥
IsWritten _ = ⊤

-- an input's press or release names a button
abbrev pub HasInputButton : Message → Type 0
HasInputButton (Input event) = HasButton event
HasInputButton _ = ⊤

-- a message that is written, with numbers of their types
abbrev pub IsProper : Message → Type 0
IsProper (Invalidate first last) = FitsSigned w64 first × FitsSigned w64 last
IsProper (Input event) = IsEvent event
IsProper (Termination code) = code < 2 ^ 32
IsProper message = IsWritten message
