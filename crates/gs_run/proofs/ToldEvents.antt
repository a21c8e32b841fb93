-- The input events that a host was told on a channel are those that its client's user did there first.
use Rattle.std.proofs.Common.{◌≡◌, ℕ, Bool, true, false, cond, ◌&&◌, not, List, [], ◌∷◌, ◌++◌, map, Option, Some, None, Result, Ok, Err, refl, sym, ap, ◌∙◌}
use Rattle.std.specs.Prelude.{◌==◌, Contains}
use Rattle.std.specs.List.{AllByRecursion, filter, flat_map}
use Rattle.std.proofs.lemmas.Grind.{flat_map-append}
use Rattle.gs_tape.specs.Tick.{Tick}
use Rattle.gs_input.specs.declared.event.Event.{Event}
use Rattle.gs_input.specs.Event.{IsEvent}
use Rattle.gs_input.specs.Laws.{PacketIsRead}
use Rattle.gs_enet.specs.declared.event.PeerEvent.{PeerEvent}
use Rattle.gs_enet.specs.declared.event.PeerEvent.TheVariants as event
use Rattle.gs_enet.specs.Record.{given_on, messages_on, told}
use Rattle.gs_enet.specs.Steps.{is_full}
use Rattle.gs_schedule.specs.declared.output.Output.TheVariants as output
use Rattle.gs_run.specs.CaptureFile.{CaptureFile}
use Rattle.gs_run.specs.Session.{Part, RunSession, State, start, session_numbered}
use Rattle.gs_run.specs.Report.{Report, plain, Acted}
use Rattle.gs_run.specs.Message.{Act, Invalidate, AskIdr, Input, Nothing, act_of, event_channel}
use Rattle.gs_run.specs.Deed.{SessionDeed, Turn, TakeVideo, TakeAudio, TakeUp, TakeDown, Give, Close, Reset, Mark, Deed, Open, Capture, Pass, In}
use Rattle.gs_run.specs.Deed as deed
use Rattle.gs_run.specs.Refusal.{Refusal}
use Rattle.gs_run.specs.Done.{done}
use Rattle.gs_run.specs.Totals.{ToldInput, input_in, input_of}
use Rattle.gs_run.specs.RunLaws.{TellsInOrder}
use Rattle.gs_run.specs.UserEvents.{event_message, event_in, event_by, and_events, user_events, IsProperDeed, TellsUser}
use Rattle.gs_run.specs.WholeRun.{TellsAll}
use Rattle.gs_run.proofs.InputActs.{input_read}

-- ---- what is told is read of the messages told

-- the input events among messages
abbrev event_of : Act → List Event
event_of (Input event) = event ∷ []
event_of _ = []

abbrev events_in : List (List ℕ) → List Event
events_in messages = flat_map (λ bytes. event_of (act_of bytes)) messages

-- the events of these that came on the channel
abbrev on_channel : ℕ → List ToldInput → List Event
on_channel channel inputs = map (λ t. t.event) (filter (λ t. t.channel == channel) inputs)

-- an act on a channel, before further inputs
act_event : (channel c : ℕ) (a : Act) (inputs : List ToldInput)
    → on_channel channel (input_in c a ++ inputs) ≡ cond (c == channel) (event_of a ++ on_channel channel inputs) (on_channel channel inputs)
act_event channel c (Input e) inputs = by (c == channel) where
  first : ToldInput
  first = record { channel = c; event = e }

  by : (b : Bool) → map (λ (t : ToldInput). t.event) (cond b (first ∷ filter (λ t. t.channel == channel) inputs) (filter (λ t. t.channel == channel) inputs))
      ≡ cond b (e ∷ on_channel channel inputs) (on_channel channel inputs)
  by true = refl
  by false = refl
act_event channel c (Invalidate first last) inputs = by (c == channel) where
  by : (b : Bool) → on_channel channel inputs ≡ cond b (on_channel channel inputs) (on_channel channel inputs)
  by true = refl
  by false = refl
act_event channel c AskIdr inputs = by (c == channel) where
  by : (b : Bool) → on_channel channel inputs ≡ cond b (on_channel channel inputs) (on_channel channel inputs)
  by true = refl
  by false = refl
act_event channel c Nothing inputs = by (c == channel) where
  by : (b : Bool) → on_channel channel inputs ≡ cond b (on_channel channel inputs) (on_channel channel inputs)
  by true = refl
  by false = refl

events_are : (channel : ℕ) (es : List PeerEvent) → on_channel channel (flat_map input_of es) ≡ events_in (messages_on channel es)
events_are channel [] = refl
events_are channel (event.Message c n bytes ∷ es) =
    act_event channel c (act_of bytes) (flat_map input_of es) ∙ by (c == channel) (events_are channel es)
  where
    by : (b : Bool) → on_channel channel (flat_map input_of es) ≡ events_in (messages_on channel es)
        → cond b (event_of (act_of bytes) ++ on_channel channel (flat_map input_of es)) (on_channel channel (flat_map input_of es))
        ≡ events_in (cond b (bytes ∷ messages_on channel es) (messages_on channel es))
    by true rest = ap (λ (l : List Event). event_of (act_of bytes) ++ l) rest
    by false rest = rest
events_are channel (event.Connected ∷ es) = events_are channel es
events_are channel (event.Closed ∷ es) = events_are channel es
events_are channel (event.PeerClosed ∷ es) = events_are channel es
events_are channel (event.Lost c n ∷ es) = events_are channel es

-- ---- what is given is read as what the user did

given_read : PacketIsRead → (es : List Event) → AllByRecursion IsEvent es → events_in (map event_message es) ≡ es
given_read reads [] all = refl
given_read reads (e ∷ es) all =
    ap (λ (a : Act). event_of a ++ events_in (map event_message es)) (input_read reads e all.0)
    ∙ ap (λ (l : List Event). e ∷ l) (given_read reads es all.1)

in_proper : (c s : ℕ) (d : SessionDeed) (o : Option RunSession) → IsProperDeed (In s d) → AllByRecursion IsEvent (event_in c d o)
in_proper c s (Give e) None is = tt
in_proper c s (Give e) (Some session) is = by (event_channel e == c && not (is_full session.part.client.peer (event_channel e))) where
  by : (b : Bool) → AllByRecursion IsEvent (cond b (e ∷ []) [])
  by true = (is, tt)
  by false = tt
in_proper c s Turn o is = tt
in_proper c s (TakeVideo k) o is = tt
in_proper c s (TakeAudio k) o is = tt
in_proper c s (TakeUp k) o is = tt
in_proper c s (TakeDown k) o is = tt
in_proper c s deed.AskIdr o is = tt
in_proper c s Close o is = tt
in_proper c s Reset o is = tt
in_proper c s Mark o is = tt

by_proper : (n c : ℕ) (d : Deed) (state : State) → IsProperDeed d → AllByRecursion IsEvent (event_by n c d state)
by_proper n c (Open packet percentage minimum window) state is = tt
by_proper n c Capture state is = tt
by_proper n c (Pass by) state is = tt
by_proper n c (In s d) state is = on (s == n) where
  on : (b : Bool) → AllByRecursion IsEvent (cond b (event_in c d (session_numbered state s)) [])
  on true = in_proper c s d (session_numbered state s) is
  on false = tt

all_both : (xs ys : List Event) → AllByRecursion IsEvent xs → AllByRecursion IsEvent ys → AllByRecursion IsEvent (xs ++ ys)
all_both [] ys all more = more
all_both (x ∷ xs) ys all more = (all.0, all_both xs ys all.1 more)

user_proper : (file : CaptureFile) (n c : ℕ) (ds : List Deed) (state : State) → AllByRecursion IsProperDeed ds
    → AllByRecursion IsEvent (user_events file n c ds state)
unfolding user_events
user_proper file n c [] state all = tt
user_proper file n c (d ∷ ds) state all = by (done file d state) (λ next. user_proper file n c ds next all.1) where
  by : (r : Result (Acted State) Refusal) → ((next : State) → AllByRecursion IsEvent (user_events file n c ds next))
      → AllByRecursion IsEvent (and_events (event_by n c d state) r (user_events file n c ds))
  by (Err why) more = tt
  by (Ok acted) more =
      all_both (event_by n c d state) (user_events file n c ds acted.value) (by_proper n c d state all.0) (more acted.value)

-- ---- both

pub tells_user : PacketIsRead → (ticks : List Tick) (file : CaptureFile) (deeds : List Deed) (reports : List Report) (number channel : ℕ) (part : Part)
    → AllByRecursion IsProperDeed deeds → TellsInOrder ticks part
    → given_on channel part.client.peer.given ≡ map event_message (user_events file number channel deeds start)
    → (Contains reports (plain (output.Closed number)) → TellsAll part) → TellsUser file deeds reports number channel part
tells_user reads ticks file deeds reports number channel part proper tells given whole =
    record {
      prefix = (
        events_in front.0,
        sym read ∙ ap events_in front.1 ∙ flat_map-append (λ (bytes : List ℕ). event_of (act_of bytes)) (told part.host.peer channel) front.0
            ∙ ap (λ (l : List Event). l ++ events_in front.0) (sym (events_are channel part.host.peer.told)),
      );
      whole = λ closed. events_are channel part.host.peer.told ∙ ap events_in (whole closed channel) ∙ read;
    }
  where
    front : (rest : List (List ℕ)) × (given_on channel part.client.peer.given ≡ told part.host.peer channel ++ rest)
    front = tells.prefix channel

    read : events_in (given_on channel part.client.peer.given) ≡ user_events file number channel deeds start
    read = ap events_in given ∙ given_read reads (user_events file number channel deeds start) (user_proper file number channel deeds start proper)
