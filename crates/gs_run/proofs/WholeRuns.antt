-- Whole runs, from the lines of a schedule to the text.
use Rattle.std.proofs.Common.{ℕ, ◌≡◌, List, [], ◌∷◌, ◌++◌, codes, refl, pos, Some, inr, arith}
use Rattle.std.specs.Fmt.{digits}
use Rattle.gs_tape.specs.Reading.{read_tape, text_at, head_at, unit_at, deltas_at, audio_at, tick_at, ticks_at}
use Rattle.gs_frames.specs.Image.{frame_image, frame_of}
use Rattle.gs_frames.specs.Plan.{fec_plan}
use Rattle.gs_frames.specs.Datagrams.{frame_shards, frame_datagrams}
use Rattle.gs_frames.specs.Received.{received}
use Rattle.gs_frames.specs.Verdict.{counting}
use Rattle.gs_frames.specs.Complete.{complete}
use Rattle.gs_frames.specs.Settled.{settled as settled_frame}
use Rattle.gs_frames.specs.Handed.{handed, handed_through}
use Rattle.gs_frames.specs.Asks.{asks, asks_of}
use Rattle.gs_stream.specs.Video.{video_stream}
use Rattle.gs_stream.specs.Audio.{audio_stream, audio_units}
use Rattle.gs_input.specs.declared.event.Event.TheVariants.{KeyDown}
use Rattle.gs_enet.specs.Receive.{command_received}
use Rattle.gs_enet.specs.Steps.{with_message, closed as peer_closed}
use Rattle.gs_enet.specs.Write.{next_items, wrote_next}
use Rattle.gs_schedule.specs.declared.step.Step.{Step}
use Rattle.gs_schedule.specs.declared.step.Step.TheVariants as step
use Rattle.gs_schedule.specs.Lines.{lines_of}
use Rattle.gs_run.specs.CaptureFile.{CaptureFile, file_of}
use Rattle.gs_audio.specs.Played.{played}
use Rattle.gs_run.specs.Session.{start}
use Rattle.gs_command.specs.declared.command.Detail.TheVariants.{Bytes}
use Rattle.gs_run.specs.Deed.{Deed, Open, Capture, In, Turn, TakeVideo, TakeUp, TakeDown, Give, Close, Mark}
use Rattle.gs_run.specs.Message.{act_of}
use Rattle.gs_run.specs.Connection.{settled_part}
use Rattle.gs_enet.specs.Sides.{written_out}
use Rattle.gs_run.specs.Hearing.{up_taken, down_taken}
use Rattle.gs_run.specs.Opening.{opened_part, opened_session}
use Rattle.gs_run.specs.Streaming.{turned, video_taken}
use Rattle.gs_run.specs.Giving.{given, closed_part}
use Rattle.gs_run.specs.Pump.{marked}
use Rattle.gs_run.specs.Refusal.{refusal}
use Rattle.gs_run.specs.Done.{after, ran}
use Rattle.gs_run.specs.Totals.{total_of}
use Rattle.gs_run.specs.Line.{IsLineOf, pump_deed}
use Rattle.gs_run.specs.Run.{Run, finished, behind, IsRun, IsRunOfSteps, run_text}

-- A capture file of one tick of three bytes.
abbrev small : List ℕ
small =
    codes "GSTAPE01" ++ 0 ∷ 0 ∷ 5 ∷ 0 ∷ 0x54 ∷ 0 ∷ 0 ∷ 0 ∷ 0 ∷ 0 ∷ 0 ∷ 3 ∷ 0 ∷ 0 ∷ 0 ∷ 0x41 ∷ 0x42 ∷ 0x43 ∷ 0x45 ∷ []

abbrev smallest_deeds : List Deed
smallest_deeds = Open 1024 0 0 1 ∷ Capture ∷ In 1 Turn ∷ In 1 (TakeVideo 1) ∷ []

-- the run of these deeds, each of which is done
abbrev run_of : CaptureFile → List Deed → Run
run_of file deeds = behind (ran file deeds start).reports (finished file.fault (ran file deeds start).state)

smallest_text : run_text Bytes (run_of (file_of small) smallest_deeds)
    ≡ codes "sent 1 1 2 1 0\nhand 1 1 2 3\nABC\ntotal 1 1 1 0 0 0\nok\n"
unfolding ran refusal after opened_session opened_part turned video_taken up_taken down_taken settled_part written_out total_of played
    read_tape text_at head_at unit_at deltas_at audio_at tick_at ticks_at
    frame_datagrams frame_shards fec_plan frame_image frame_of received counting complete settled_frame handed handed_through asks asks_of video_stream
    command_received with_message next_items wrote_next act_of digits
smallest_text = refl

opens : IsLineOf 1 (codes "session 1024 0 0") (step.Session 1024 0 0 1)
unfolding digits
opens = record {
  spells = inr (refl, ((omega arith, (omega arith, (omega arith, tt))), refl));
  short = omega arith;
  numbered = omega arith;
}

captures : IsLineOf 2 (codes "cap") step.Cap
unfolding digits
captures = record { spells = (tt, refl); short = omega arith; numbered = omega arith }

sends : IsLineOf 3 (codes "send 1") (step.Send 1)
unfolding digits
sends = record { spells = ((omega arith, tt), refl); short = omega arith; numbered = omega arith }

delivers : IsLineOf 4 (codes "video 1 1") (step.Video 1 1)
unfolding digits
delivers = record { spells = ((omega arith, (omega arith, tt)), refl); short = omega arith; numbered = omega arith }

smallest_run : IsRun (file_of small) (lines_of (codes "session 1024 0 0\ncap\nsend 1\nvideo 1 1"))
    (run_of (file_of small) smallest_deeds)
unfolding lines_of ran refusal after opened_session opened_part turned video_taken up_taken down_taken settled_part written_out total_of played
    read_tape text_at head_at unit_at deltas_at audio_at tick_at ticks_at
    frame_datagrams frame_shards fec_plan frame_image frame_of received counting complete settled_frame handed handed_through asks asks_of video_stream
    command_received with_message next_items wrote_next act_of
smallest_run = (
  Some (step.Session 1024 0 0 1),
  opens,
  (
    Open 1024 0 0 1 ∷ [],
    refl,
    (
      _,
      (
        Some step.Cap,
        captures,
        (
          Capture ∷ [],
          refl,
          (
            _,
            (
              Some (step.Send 1),
              sends,
              (
                In 1 Turn ∷ [],
                refl,
                (
                  _,
                  (Some (step.Video 1 1), delivers, (In 1 (TakeVideo 1) ∷ [], refl, (_, refl, refl))),
                  refl,
                ),
              ),
            ),
            refl,
          ),
        ),
      ),
      refl,
    ),
  ),
)

-- ---- an orderly close

abbrev close_steps : List Step
close_steps = step.Session 1024 0 0 1 ∷ step.Input 1 (KeyDown (pos 65) 0) ∷ step.Close 1 ∷ step.Pump 1 0 ∷ []

abbrev closing_deeds : List Deed
closing_deeds = Open 1024 0 0 1 ∷ In 1 (Give (KeyDown (pos 65) 0)) ∷ In 1 Close ∷ []

abbrev pump_deeds : List Deed
pump_deeds = In 1 (TakeUp 3) ∷ In 1 (TakeDown 2) ∷ In 1 (TakeUp 4) ∷ In 1 (TakeDown 3) ∷ In 1 Mark ∷ []

close_text : run_text Bytes (run_of (file_of small) (closing_deeds ++ pump_deeds))
    ≡ codes "input 1 2 keydown 65 0\nclosed 1\ntotal 1 0 0 0 1 0\nok\n"
unfolding ran refusal after opened_session opened_part given closed_part marked up_taken down_taken settled_part written_out total_of played
    read_tape text_at head_at unit_at deltas_at audio_at tick_at ticks_at
    received counting complete settled_frame handed handed_through asks asks_of video_stream audio_stream audio_units
    command_received with_message peer_closed next_items wrote_next act_of digits
close_text = refl

close_run : IsRunOfSteps (file_of small) close_steps (run_of (file_of small) (closing_deeds ++ pump_deeds))
unfolding ran refusal after opened_session opened_part given closed_part marked pump_deed up_taken down_taken settled_part written_out total_of played
    read_tape text_at head_at unit_at deltas_at audio_at tick_at ticks_at
    received counting complete settled_frame handed handed_through asks asks_of video_stream audio_stream audio_units
    command_received with_message peer_closed next_items wrote_next act_of
close_run = (
  Some (step.Session 1024 0 0 1),
  refl,
  (
    Open 1024 0 0 1 ∷ [],
    refl,
    (
      _,
      (
        Some (step.Input 1 (KeyDown (pos 65) 0)),
        refl,
        (
          In 1 (Give (KeyDown (pos 65) 0)) ∷ [],
          refl,
          (
            _,
            (
              Some (step.Close 1),
              refl,
              (
                In 1 Close ∷ [],
                refl,
                (
                  _,
                  (
                    Some (step.Pump 1 0),
                    refl,
                    (pump_deeds, (refl, (refl, (refl, (refl, (refl, refl))))), (_, refl, refl)),
                  ),
                  refl,
                ),
              ),
            ),
            refl,
          ),
        ),
      ),
      refl,
    ),
  ),
)
