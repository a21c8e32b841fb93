-- Runs of small schedules, computed: what is reported of their deeds.
use Rattle.std.proofs.Common.{ℕ, ◌≡◌, List, [], ◌∷◌, ◌++◌, codes, refl, map, replicate, pos, None}
use Rattle.gs_tape.specs.Tick.{Tick}
use Rattle.gs_refs.specs.declared.entry.Entry.TheVariants.{Sent}
use Rattle.gs_frames.specs.Image.{frame_image, frame_of}
use Rattle.gs_frames.specs.Plan.{fec_plan}
use Rattle.gs_frames.specs.Datagrams.{frame_shards, frame_datagrams}
use Rattle.gs_frames.specs.Received.{received}
use Rattle.gs_frames.specs.Verdict.{counting}
use Rattle.gs_frames.specs.Complete.{complete}
use Rattle.gs_frames.specs.Settled.{settled as settled_frame}
use Rattle.gs_frames.specs.Handed.{handed, handed_through}
use Rattle.gs_frames.specs.Asks.{asks, asks_of}
use Rattle.gs_stream.specs.Video.{video_stream}
use Rattle.gs_input.specs.declared.event.Event.TheVariants.{KeyDown, KeyUp}
use Rattle.gs_enet.specs.Receive.{command_received}
use Rattle.gs_enet.specs.Steps.{with_message}
use Rattle.gs_enet.specs.Write.{next_items, wrote_next}
use Rattle.gs_schedule.specs.declared.output.Output.{Output}
use Rattle.gs_schedule.specs.declared.output.Output.TheVariants as output
use Rattle.gs_run.specs.CaptureFile.{CaptureFile}
use Rattle.gs_run.specs.Session.{start}
use Rattle.gs_run.specs.Deed.{Deed, Open, Capture, In, Turn, TakeVideo, TakeUp, Give, Reset}
use Rattle.gs_run.specs.Message.{act_of}
use Rattle.gs_run.specs.Connection.{settled_part}
use Rattle.gs_enet.specs.Sides.{written_out}
use Rattle.gs_run.specs.Hearing.{up_taken, down_taken}
use Rattle.gs_run.specs.Opening.{opened_part, opened_session}
use Rattle.gs_run.specs.Streaming.{turned, video_taken, reset}
use Rattle.gs_run.specs.Giving.{given}
use Rattle.gs_run.specs.Refusal.{refusal}
use Rattle.gs_run.specs.Done.{after, ran}

-- what is reported of deeds, from the start
abbrev outputs : CaptureFile → List Deed → List Output
outputs file deeds = map (λ r. r.output) (ran file deeds start).reports

abbrev silent : List Tick → CaptureFile
silent ticks = record { head = None; audio = 0; duration = 5; ticks = ticks; fault = None }

-- a tick of an IDR unit of that length and byte, and of a delta of four bytes against each of the named ticks
abbrev tick : ℕ → ℕ → ℕ → List ℕ → Tick
tick number length byte named = record {
  number = number;
  time = 0;
  idr = replicate length byte;
  deltas = map (λ k. record { named = k; unit = codes "ABCD" }) named;
  audio = [];
}

-- ticks of five bytes, each with deltas against all before it
abbrev against_all : CaptureFile
against_all = silent (
    tick 1 5 65 [] ∷ tick 2 5 65 (1 ∷ []) ∷ tick 3 5 65 (1 ∷ 2 ∷ []) ∷ tick 4 5 65 (1 ∷ 2 ∷ 3 ∷ [])
    ∷ tick 5 5 65 (1 ∷ 2 ∷ 3 ∷ 4 ∷ []) ∷ tick 6 5 65 (1 ∷ 2 ∷ 3 ∷ 4 ∷ 5 ∷ [])
    ∷ tick 7 5 65 (1 ∷ 2 ∷ 3 ∷ 4 ∷ 5 ∷ 6 ∷ []) ∷ tick 8 5 65 (1 ∷ 2 ∷ 3 ∷ 4 ∷ 5 ∷ 6 ∷ 7 ∷ []) ∷ [])

abbrev video : ℕ → Deed
video k = In 1 (TakeVideo k)

abbrev up : ℕ → Deed
up k = In 1 (TakeUp k)

-- a tick is captured and sent
abbrev send : List Deed
send = Capture ∷ In 1 Turn ∷ []

abbrev narrow : Deed
narrow = Open 1024 0 0 1

-- Frame 2 is lost. Once the host was told, frame 5 goes out against frame 1, and is handed.
re_entry : outputs against_all (narrow ∷ send ++ video 1 ∷ send ++ send ++ video 3 ∷ send ++ video 4 ∷ up 3 ∷ send ++ video 5 ∷ [])
    ≡ output.Sent 1 1 2 1 0 ∷ output.Hand 1 1 2 5 ∷ output.Sent 1 2 1 2 1 ∷ output.Sent 1 3 1 3 2 ∷ output.Ask 1 2 2
    ∷ output.Sent 1 4 1 4 3 ∷ output.Invalid 1 2 2 ∷ output.Sent 1 5 5 5 1 ∷ output.Hand 1 5 5 4 ∷ []
unfolding ran refusal after opened_session opened_part turned video_taken up_taken down_taken settled_part written_out
    frame_datagrams frame_shards fec_plan frame_image frame_of received counting complete settled_frame handed handed_through asks asks_of video_stream
    command_received with_message next_items wrote_next act_of
re_entry = refl

-- Two frames are lost, and then a re-entry frame.
two_losses : outputs against_all
    (narrow ∷ send ++ video 1 ∷ send ++ send ++ video 3 ∷ send ++ send ++ video 5 ∷ up 3 ∷ send ++ up 4 ∷ send ++ video 7
    ∷ up 5 ∷ send ++ video 8 ∷ [])
    ≡ output.Sent 1 1 2 1 0 ∷ output.Hand 1 1 2 5 ∷ output.Sent 1 2 1 2 1 ∷ output.Sent 1 3 1 3 2 ∷ output.Ask 1 2 2
    ∷ output.Sent 1 4 1 4 3 ∷ output.Sent 1 5 1 5 4 ∷ output.Ask 1 4 4 ∷ output.Invalid 1 2 2 ∷ output.Sent 1 6 5 6 1
    ∷ output.Invalid 1 4 4 ∷ output.Sent 1 7 5 7 1 ∷ output.Ask 1 6 6 ∷ output.Hand 1 7 5 4 ∷ output.Invalid 1 6 6
    ∷ output.Sent 1 8 5 8 1 ∷ output.Hand 1 8 5 4 ∷ []
unfolding ran refusal after opened_session opened_part turned video_taken up_taken down_taken settled_part written_out
    frame_datagrams frame_shards fec_plan frame_image frame_of received counting complete settled_frame handed handed_through asks asks_of video_stream
    command_received with_message next_items wrote_next act_of
two_losses = refl

-- A control datagram that comes before the one that it follows tells nothing.
out_of_order : outputs against_all
    (narrow ∷ send ++ video 1 ∷ send ++ send ++ video 3 ∷ send ++ send ++ video 5 ∷ up 4 ∷ up 3 ∷ up 4 ∷ [])
    ≡ output.Sent 1 1 2 1 0 ∷ output.Hand 1 1 2 5 ∷ output.Sent 1 2 1 2 1 ∷ output.Sent 1 3 1 3 2 ∷ output.Ask 1 2 2
    ∷ output.Sent 1 4 1 4 3 ∷ output.Sent 1 5 1 5 4 ∷ output.Ask 1 4 4 ∷ output.Invalid 1 2 2 ∷ output.Invalid 1 4 4 ∷ []
unfolding ran refusal after opened_session opened_part turned video_taken up_taken down_taken settled_part written_out
    frame_datagrams frame_shards fec_plan frame_image frame_of received counting complete settled_frame handed handed_through asks asks_of video_stream
    command_received with_message next_items wrote_next act_of
out_of_order = refl

-- The decoder is reset: frame 2 isn't handed, and the host sends an IDR frame once it was asked.
after_reset : outputs against_all
    (narrow ∷ send ++ video 1 ∷ In 1 Reset ∷ send ++ video 2 ∷ up 3 ∷ send ++ video 3 ∷ [])
    ≡ output.Sent 1 1 2 1 0 ∷ output.Hand 1 1 2 5 ∷ output.Reset 1 ∷ output.Sent 1 2 1 2 1 ∷ output.Idr 1
    ∷ output.Sent 1 3 2 3 0 ∷ output.Hand 1 3 2 5 ∷ []
unfolding ran refusal after opened_session opened_part turned video_taken up_taken down_taken reset settled_part written_out
    frame_datagrams frame_shards fec_plan frame_image frame_of received counting complete settled_frame handed handed_through asks asks_of video_stream
    command_received with_message next_items wrote_next act_of
after_reset = refl

-- A tick has no delta against the last frame's: it goes out as an IDR frame, once.
no_delta : outputs (silent (tick 1 1 65 [] ∷ tick 2 1 66 (1 ∷ []) ∷ tick 3 1 67 (1 ∷ []) ∷ []))
    (narrow ∷ send ++ send ++ send ++ In 1 Turn ∷ [])
    ≡ output.Sent 1 1 2 1 0 ∷ output.Sent 1 2 1 2 1 ∷ output.Sent 1 3 2 3 0 ∷ []
unfolding ran refusal after opened_session opened_part turned settled_part written_out up_taken down_taken command_received with_message next_items wrote_next
    act_of
no_delta = refl

-- Two frames of two packets each. Once the second begins, what is left of the first is old.
abbrev two_packets : CaptureFile
two_packets = silent (tick 1 1500 65 [] ∷ tick 2 1500 66 [] ∷ [])

abbrev crossed : List Deed
crossed = send ++ send ++ video 1 ∷ video 3 ∷ video 2 ∷ video 4 ∷ []

moving_on : outputs two_packets (narrow ∷ crossed)
    ≡ output.Sent 1 1 2 1 0 ∷ output.Sent 1 2 2 2 0 ∷ output.Ask 1 1 1 ∷ output.Hand 1 2 2 1500 ∷ []
unfolding ran refusal after opened_session opened_part turned video_taken up_taken down_taken settled_part written_out
    frame_datagrams frame_shards fec_plan frame_image frame_of received counting complete settled_frame handed handed_through asks asks_of video_stream
    command_received with_message next_items wrote_next act_of
moving_on = refl

-- With a window of two frames both are handed.
two_open : outputs two_packets (Open 1024 0 0 2 ∷ crossed)
    ≡ output.Sent 1 1 2 1 0 ∷ output.Sent 1 2 2 2 0 ∷ output.Hand 1 1 2 1500 ∷ output.Hand 1 2 2 1500 ∷ []
unfolding ran refusal after opened_session opened_part turned video_taken up_taken down_taken settled_part written_out
    frame_datagrams frame_shards fec_plan frame_image frame_of received counting complete settled_frame handed handed_through asks asks_of video_stream
    command_received with_message next_items wrote_next act_of
two_open = refl

-- And a frame that is complete waits for the one before it.
waiting : outputs (silent (tick 1 5 65 [] ∷ tick 2 5 66 [] ∷ tick 3 5 67 [] ∷ []))
    (Open 1024 0 0 2 ∷ send ++ send ++ send ++ video 2 ∷ video 3 ∷ [])
    ≡ output.Sent 1 1 2 1 0 ∷ output.Sent 1 2 2 2 0 ∷ output.Sent 1 3 2 3 0 ∷ output.Ask 1 1 1 ∷ output.Hand 1 2 2 5
    ∷ output.Hand 1 3 2 5 ∷ []
unfolding ran refusal after opened_session opened_part turned video_taken up_taken down_taken settled_part written_out
    frame_datagrams frame_shards fec_plan frame_image frame_of received counting complete settled_frame handed handed_through asks asks_of video_stream
    command_received with_message next_items wrote_next act_of
waiting = refl

-- Two keys, whose datagrams come in the wrong order and again.
two_keys : outputs against_all
    (narrow ∷ In 1 (Give (KeyDown (pos 65) 0)) ∷ In 1 (Give (KeyUp (pos 65) 0)) ∷ up 4 ∷ up 3 ∷ up 3 ∷ up 4 ∷ [])
    ≡ output.Input 1 2 (KeyDown (pos 65) 0) ∷ output.Input 1 2 (KeyUp (pos 65) 0) ∷ []
unfolding ran refusal after opened_session opened_part given up_taken down_taken settled_part written_out command_received with_message next_items wrote_next
    act_of
two_keys = refl
