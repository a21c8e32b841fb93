-- The sums of a session, over all its parts.
use Rattle.std.specs.Prelude.{ℕ, ◌+◌, List, [], ◌∷◌, length}
use Rattle.std.specs.List.{flat_map, sum_by}
use Rattle.gs_refs.specs.History.{frames}
use Rattle.gs_input.specs.declared.event.Event.{Event}
use Rattle.gs_enet.specs.declared.event.PeerEvent.{PeerEvent}
use Rattle.gs_enet.specs.declared.event.PeerEvent.TheVariants as event
use Rattle.gs_schedule.specs.declared.output.Output.TheVariants as output
use Rattle.gs_run.specs.Session.{Part, RunSession, handed_of, asked_of, played_of}
use Rattle.gs_run.specs.Message.{Act, Input, act_of}
use Rattle.gs_run.specs.Report.{Report, plain}

-- an input event that the host was told, and its channel
pub record ToldInput : Type 0 where
  pub channel : ℕ
  pub event : Event

abbrev pub input_in : ℕ → Act → List ToldInput
input_in channel (Input event) = record { channel = channel; event = event } ∷ []
input_in channel _ = []

abbrev pub input_of : PeerEvent → List ToldInput
input_of (event.Message channel number bytes) = input_in channel (act_of bytes)
input_of _ = []

-- the input events that its host was told
abbrev pub inputs_of : Part → List ToldInput
inputs_of part = flat_map input_of part.host.peer.told

abbrev pub parts_of : RunSession → List Part
parts_of session = session.part ∷ session.earlier

-- frames sent, frames handed, asks, inputs told, audio units played
unfoldable pub total_of : ℕ → RunSession → Report
total_of number session =
    let parts = parts_of session in
    plain (output.Total number
    (sum_by (λ part. frames part.history) parts)
    (sum_by (λ part. length (handed_of part)) parts)
    (sum_by (λ part. length (asked_of part)) parts)
    (sum_by (λ part. length (inputs_of part)) parts)
    (sum_by (λ part. length (played_of part)) parts))

-- those of the sessions from that number on
abbrev pub totals_from : ℕ → List RunSession → List Report
totals_from number [] = []
totals_from number (session ∷ sessions) = total_of number session ∷ totals_from (number + 1) sessions
