-- What a session's deeds see besides the session itself.
use Rattle.std.specs.Prelude.{ℕ, List}
use Rattle.gs_tape.specs.Tick.{Tick}
use Rattle.gs_run.specs.CaptureFile.{CaptureFile}
use Rattle.gs_run.specs.Session.{State}

-- the ticks of the capture file, how many of them are captured, the moment, and the session's number
pub record Scene : Type 0 where
  pub ticks : List Tick
  pub captured : ℕ
  pub moment : ℕ
  pub session : ℕ

abbrev pub scene_of : CaptureFile → ℕ → State → Scene
scene_of file session state = record {
  ticks = file.ticks;
  captured = state.captured;
  moment = state.moment;
  session = session;
}
