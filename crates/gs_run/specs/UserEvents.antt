-- What the user of a session does: its client gives it to its connection, and its host is told it.
use Rattle.std.specs.Prelude.{ℕ, ◌≡◌, ◌≢◌, ◌==◌, ◌&&◌, not, List, [], ◌∷◌, ◌++◌, map, Option, Some, Result, Ok, Err}
use Rattle.std.specs.Prelude.{if◌then◌else◌, ⊤}
use Rattle.std.specs.List.{AllByRecursion, Contains, filter}
use Rattle.gs_bytes.specs.Prefix.{IsPrefixOf}
use Rattle.gs_input.specs.declared.event.Event.{Event}
use Rattle.gs_input.specs.Event.{IsEvent}
use Rattle.gs_control.specs.declared.message.Message.TheVariants as message
use Rattle.gs_control.specs.Message.{bytes_of}
use Rattle.gs_enet.specs.Record.{given_on}
use Rattle.gs_enet.specs.Steps.{is_full}
use Rattle.gs_client_core.specs.Owed.{request_channel}
use Rattle.gs_schedule.specs.declared.step.Step.{Step}
use Rattle.gs_schedule.specs.declared.step.Step.TheVariants as step
use Rattle.gs_schedule.specs.declared.output.Output.TheVariants as output
use Rattle.gs_run.specs.CaptureFile.{CaptureFile}
use Rattle.gs_run.specs.Session.{Part, RunSession, State, start, session_numbered}
use Rattle.gs_run.specs.Report.{Report, plain, Acted}
use Rattle.gs_run.specs.Message.{event_channel}
use Rattle.gs_run.specs.Deed.{SessionDeed, Give, Deed, In}
use Rattle.gs_run.specs.Refusal.{Refusal}
use Rattle.gs_run.specs.Done.{done, ran}
use Rattle.gs_run.specs.Totals.{inputs_of}
use Rattle.gs_run.specs.RunLaws.{IsCapture}

-- the message of an input event
abbrev pub event_message : Event → List ℕ
event_message event = bytes_of (message.Input event)

-- the event of a deed in a session, where it is of that channel and the channel's window takes it
abbrev pub event_in : ℕ → SessionDeed → Option RunSession → List Event
event_in channel (Give event) (Some session) =
    if event_channel event == channel && not (is_full session.part.client.peer (event_channel event))
    then event ∷ []
    else []
event_in channel _ _ = []

-- where the deed is in the session of that number
abbrev pub event_by : (number channel : ℕ) → Deed → State → List Event
event_by number channel (In session deed) state =
    if session == number then event_in channel deed (session_numbered state session) else []
event_by number channel _ state = []

abbrev pub and_events : List Event → Result (Acted State) Refusal → (State → List Event) → List Event
and_events events (Err why) next = []
and_events events (Ok acted) next = events ++ next acted.value

-- what the user of a session does on a channel with these deeds, in order: each of them is found in the state that the
-- one before it left
unfoldable pub user_events : CaptureFile → (number channel : ℕ) → List Deed → State → List Event
user_events file number channel [] state = []
user_events file number channel (deed ∷ deeds) state =
    and_events (event_by number channel deed state) (done file deed state) (user_events file number channel deeds)

-- on each channel but that of requests a client gave the events of its user, in order, and nothing else
abbrev pub GiveEvents : CaptureFile → List Deed → State → Type 0
GiveEvents file deeds state =
    (number channel : ℕ) (session : RunSession) → channel ≢ request_channel
    → session_numbered state number ≡ Some session
    → given_on channel session.part.client.peer.given ≡ map event_message (user_events file number channel deeds start)

-- the event that a deed or a step has, if any, is of a known kind with its numbers in range,
-- as the lines of a schedule are
abbrev pub IsProperDeed : Deed → Type 0
IsProperDeed (In session (Give event)) = IsEvent event
IsProperDeed _ = ⊤

abbrev pub IsProperStep : Step → Type 0
IsProperStep (step.Input session event) = IsEvent event
IsProperStep _ = ⊤

-- the input events that the host was told on a channel, in order
abbrev pub told_events : ℕ → Part → List Event
told_events channel part = map (λ t. t.event) (filter (λ t. t.channel == channel) (inputs_of part))

-- On a channel the host was told what the user did there first, in order,
-- and all of it once a line says that the client closed.
pub record TellsUser (file : CaptureFile) (deeds : List Deed) (reports : List Report) (number channel : ℕ) (part : Part)
    : Type 0 where
  pub prefix : IsPrefixOf (told_events channel part) (user_events file number channel deeds start)
  pub whole : Contains reports (plain (output.Closed number))
      → told_events channel part ≡ user_events file number channel deeds start

-- on each channel but that of requests
abbrev pub TellUsers : CaptureFile → List Deed → State → List Report → Type 0
TellUsers file deeds state reports =
    (number channel : ℕ) (session : RunSession) → channel ≢ request_channel
    → session_numbered state number ≡ Some session
    → TellsUser file deeds reports number channel session.part

abbrev pub RunsGiveEvents : Type 0
RunsGiveEvents = (file : CaptureFile) (deeds : List Deed) → GiveEvents file deeds (ran file deeds start).state

abbrev pub RunsTellUsers : Type 0
RunsTellUsers =
    (file : CaptureFile) (deeds : List Deed) → IsCapture file → AllByRecursion IsProperDeed deeds
    → TellUsers file deeds (ran file deeds start).state (ran file deeds start).reports
