-- What the client's user does, and that the client closes.
use Rattle.std.specs.Prelude.{ℕ, List, if◌then◌else◌}
use Rattle.gs_input.specs.declared.event.Event.{Event}
use Rattle.gs_control.specs.declared.message.Message.TheVariants as message
use Rattle.gs_control.specs.Message.{bytes_of}
use Rattle.gs_enet.specs.Steps.{is_full}
use Rattle.gs_enet.specs.World.{Send, Close, acted}
use Rattle.gs_schedule.specs.declared.output.Output.TheVariants as output
use Rattle.gs_run.specs.Session.{Part}
use Rattle.gs_client_core.specs.Owed.{request_channel}
use Rattle.gs_run.specs.Report.{Acted, quietly, reporting}
use Rattle.gs_run.specs.Message.{event_channel}

-- A message is given on a channel. Where the channel's window is full it isn't, and that is reported.
unfoldable pub given : ℕ → ℕ → List ℕ → Part → Acted Part
given session channel bytes part =
    if is_full part.client.peer channel
    then reporting (output.Full session channel) part
    else quietly (record part { client = acted (Send channel bytes) part.client })

abbrev pub event_given : ℕ → Event → Part → Acted Part
event_given session event part = given session (event_channel event) (bytes_of (message.Input event)) part

abbrev pub idr_asked : ℕ → Part → Acted Part
idr_asked session part = given session request_channel (bytes_of message.IdrRequest) part

unfoldable pub closed_part : Part → Acted Part
closed_part part = quietly (record part { client = acted Close part.client })
