-- The laws that the crate's public functions prove.
use Rattle.std.specs.Prelude.{◌≡◌, ℕ, List}
use Rattle.gs_control.specs.declared.message.Message.{Message}
use Rattle.gs_control.specs.Message.{IsMessage, IsProper, bytes_of}

-- what is written for a message is read as that message
abbrev pub MessageIsRead : Type 0
MessageIsRead = (message : Message) → IsProper message → IsMessage (bytes_of message) message

-- bytes are one message at most
abbrev pub BytesAreOneMessage : Type 0
BytesAreOneMessage = (bytes : List ℕ) (first second : Message) → IsMessage bytes first → IsMessage bytes second
    → first ≡ second
