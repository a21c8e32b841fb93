-- Control datagrams, full windows, lost sides and refused deeds, computed.
use Rattle.std.proofs.Common.{ℕ, ◌≡◌, List, [], ◌∷◌, refl, map, replicate, pos, None, Some, Option}
use Rattle.std.specs.List.{slice_get}
use Rattle.std.specs.Option.{option_map}
use Rattle.gs_tape.specs.Reading.{Malformed}
use Rattle.gs_refs.specs.declared.entry.Entry.{Entry}
use Rattle.gs_refs.specs.declared.entry.Entry.TheVariants.{Sent, Ended}
use Rattle.gs_input.specs.declared.event.Event.TheVariants.{KeyDown}
use Rattle.gs_control.specs.declared.message.Message.TheVariants.{Invalidate}
use Rattle.gs_control.specs.Message.{bytes_of}
use Rattle.gs_enet_wire.specs.Grammar.{spelling}
use Rattle.gs_enet.specs.declared.event.PeerEvent.TheVariants.{Message}
use Rattle.gs_enet.specs.Receive.{command_received}
use Rattle.gs_enet.specs.Steps.{with_message, closed as peer_closed, timed as peer_timed}
use Rattle.gs_enet.specs.Write.{next_items, wrote_next, items_datagram}
use Rattle.gs_enet.specs.World.{Side, Written}
use Rattle.gs_schedule.specs.declared.output.Output.{Output}
use Rattle.gs_schedule.specs.declared.output.Output.TheVariants as output
use Rattle.gs_run.specs.CaptureFile.{CaptureFile}
use Rattle.gs_run.specs.Session.{State, start, session_numbered}
use Rattle.gs_run.specs.Deed.{Deed, Open, Capture, In, Pass, Turn, TakeUp, Give, Close}
use Rattle.gs_run.specs.Message.{act_of}
use Rattle.gs_run.specs.Connection.{settled_part}
use Rattle.gs_enet.specs.Sides.{written_out}
use Rattle.gs_run.specs.Hearing.{up_taken, down_taken, timed_part, host_heard}
use Rattle.gs_run.specs.Opening.{opened_part, opened_session}
use Rattle.gs_run.specs.Giving.{given, closed_part}
use Rattle.gs_run.specs.Refusal.{Refusal, BadLine, BadFile, refusal}
use Rattle.gs_run.specs.Done.{after, ran}

-- a capture file without ticks
abbrev empty : CaptureFile
empty = record { head = None; audio = 0; duration = 5; ticks = []; fault = None }

abbrev outputs : List Deed → List Output
outputs deeds = map (λ r. r.output) (ran empty deeds start).reports

abbrev narrow : Deed
narrow = Open 1024 0 0 1

abbrev key : Deed
key = In 1 (Give (KeyDown (pos 65) 0))

-- ---- datagrams

-- the k-th datagram of a side, from 0
abbrev bytes_at : Side → ℕ → Option (List ℕ)
bytes_at side k = option_map (λ (w : Written). spelling (items_datagram w.by w.items)) (slice_get side.wrote k)

abbrev up_bytes : State → ℕ → Option (List ℕ)
up_bytes state k = elim (session_numbered state 1) [ None ↦ None | Some s ↦ bytes_at s.part.client k ]

abbrev down_bytes : State → ℕ → Option (List ℕ)
down_bytes state k = elim (session_numbered state 1) [ None ↦ None | Some s ↦ bytes_at s.part.host k ]

key_bytes : up_bytes (ran empty (narrow ∷ key ∷ []) start).state 2
    ≡ Some (0x80 ∷ 0 ∷ 0 ∷ 0 ∷ 0x86 ∷ 2 ∷ 0 ∷ 1 ∷ 0 ∷ 0x10
    ∷ 6 ∷ 2 ∷ 0 ∷ 0 ∷ 0 ∷ 0x0A ∷ 3 ∷ 0 ∷ 0 ∷ 0 ∷ 0 ∷ 0x41 ∷ 0 ∷ 0 ∷ 0 ∷ 0 ∷ [])
unfolding ran refusal after opened_session opened_part given up_taken down_taken settled_part written_out command_received with_message next_items
    wrote_next act_of
key_bytes = refl

answer_bytes : down_bytes (ran empty (narrow ∷ key ∷ In 1 (TakeUp 3) ∷ []) start).state 1
    ≡ Some (0x80 ∷ 0 ∷ 0 ∷ 0 ∷ 1 ∷ 2 ∷ 0 ∷ 1 ∷ 0 ∷ 1 ∷ 0 ∷ 0 ∷ [])
unfolding ran refusal after opened_session opened_part given up_taken down_taken settled_part written_out command_received with_message next_items
    wrote_next act_of
answer_bytes = refl

-- ---- windows and time

full_window : outputs (narrow ∷ replicate 257 key) ≡ output.Full 1 2 ∷ []
unfolding ran refusal after opened_session opened_part given up_taken down_taken settled_part written_out command_received with_message next_items
    wrote_next act_of
full_window = refl

-- The key is written 13 times, and its last wait passes. The host has nothing to lose.
waits : List Deed
waits = map Pass (500 ∷ 1000 ∷ 2000 ∷ replicate 10 4000)

lost : outputs (narrow ∷ key ∷ waits) ≡ output.Lost 1 ∷ []
unfolding waits ran refusal after opened_session opened_part given up_taken down_taken timed_part peer_timed settled_part written_out command_received
    with_message next_items wrote_next act_of
lost = refl

-- ---- the host

-- a range of frames that weren't sent ends the session
abbrev three : List Entry
three = Sent 3 1 2 ∷ Sent 2 1 1 ∷ Sent 1 2 0 ∷ []

abbrev bad_range : List ℕ
bad_range = bytes_of (Invalidate (pos 1) (pos 9))

ended : host_heard 1 (Message 1 1 bad_range) three
    ≡ record { value = Ended (pos 1) (pos 9) ∷ three; reports = record { output = output.Ended 1 (pos 1) (pos 9); unit = None } ∷ [] }
unfolding act_of
ended = refl

-- and nothing is entered behind its end
ended_again : host_heard 1 (Message 1 2 bad_range) (Ended (pos 1) (pos 9) ∷ three)
    ≡ record { value = Ended (pos 1) (pos 9) ∷ three; reports = [] }
unfolding act_of
ended_again = refl

-- ---- refusals

abbrev refused : CaptureFile → List Deed → Option Refusal
refused file deeds = (ran file deeds start).refused

ninth : refused empty (replicate 9 narrow) ≡ Some BadLine
unfolding ran refusal after opened_session opened_part up_taken down_taken settled_part written_out command_received with_message next_items wrote_next act_of
ninth = refl

wide_window : refused empty (Open 1024 0 0 5 ∷ []) ≡ Some BadLine
unfolding ran refusal
wide_window = refl

not_open : refused empty (narrow ∷ In 2 Turn ∷ []) ≡ Some BadLine
unfolding ran refusal after opened_session opened_part up_taken down_taken settled_part written_out command_received with_message next_items wrote_next act_of
not_open = refl

no_tick : refused empty (Capture ∷ []) ≡ Some BadLine
unfolding ran refusal
no_tick = refl

cut_file : refused (record empty { fault = Some (Malformed 7 13) }) (Capture ∷ []) ≡ Some (BadFile (Malformed 7 13))
unfolding ran refusal
cut_file = refl

unsent : refused empty (narrow ∷ In 1 (TakeUp 3) ∷ []) ≡ Some BadLine
unfolding ran refusal after opened_session opened_part up_taken down_taken settled_part written_out command_received with_message next_items wrote_next act_of
unsent = refl

after_close : refused empty (narrow ∷ In 1 Close ∷ key ∷ []) ≡ Some BadLine
unfolding ran refusal after opened_session opened_part given closed_part peer_closed up_taken down_taken settled_part written_out command_received
    with_message next_items wrote_next act_of
after_close = refl

late : refused empty (Pass 4000000001 ∷ []) ≡ Some BadLine
unfolding ran refusal
late = refl
