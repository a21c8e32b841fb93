-- The schedule over a generated capture file: two sessions, to each of which every 50th datagram is lost.
use Rattle.std.specs.Prelude.{ℕ, ◌%◌, List, [], ◌∷◌, ◌++◌, pos, ◌==◌, if◌then◌else◌}
use Rattle.std.specs.List.{flat_map, range_with_len}
use Rattle.gs_input.specs.declared.event.Event.{Event}
use Rattle.gs_input.specs.declared.event.Event.TheVariants.{KeyDown, KeyUp}
use Rattle.gs_schedule.specs.declared.step.Step.{Step}
use Rattle.gs_schedule.specs.declared.step.Step.TheVariants.{Session, Cap, Send, Input, Pump, Close}
use Rattle.gs_tape.specs.Capture.{file}
use Rattle.gs_tape.specs.Generated.{generated}
use Rattle.gs_run.specs.CaptureFile.{generated_audio, generated_duration, generated_file}
use Rattle.gs_run.specs.Run.{Run, IsRunOfSteps}

-- a key goes down at odd ticks and up at even ones
abbrev pub key_event : ℕ → Event
key_event tick = if tick % 2 == 1 then KeyDown (pos 65) 0 else KeyUp (pos 65) 0

abbrev pub tick_steps : ℕ → List Step
tick_steps tick = Cap ∷ Send 1 ∷ Send 2 ∷ Input 1 (key_event tick) ∷ Pump 1 50 ∷ Pump 2 50 ∷ []

unfoldable pub generated_steps : ℕ → List Step
generated_steps ticks =
    Session 1392 20 2 1 ∷ Session 1392 20 2 1 ∷ flat_map tick_steps (range_with_len 1 ticks)
    ++ Close 1 ∷ Pump 1 0 ∷ Close 2 ∷ Pump 2 0 ∷ []

-- its run, of so many ticks that a number generates
abbrev pub IsGeneratedRun : ℕ → ℕ → Run → Type 0
IsGeneratedRun number ticks run = IsRunOfSteps (generated_file number ticks) (generated_steps ticks) run

-- and the capture file itself
abbrev pub generated_bytes : ℕ → ℕ → List ℕ
generated_bytes number ticks = file generated_audio generated_duration (generated number ticks)
