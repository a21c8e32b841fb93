-- The part of a session that a host and its client stand for.
use Rattle.std.specs.Prelude.{ℕ, ◌≡◌, List, length}
use Rattle.gs_tape.specs.Tick.{Tick}
use Rattle.gs_refs.specs.History.{frames}
use Rattle.gs_client_end.specs.Standing.{IsClientEndOf}
use Rattle.gs_host_end.specs.Standing.{IsHostEndOf}
use Rattle.gs_run.specs.Session as run
use Rattle.gs_run.specs.Session.{Part, handed_of, asked_of, played_of}
use Rattle.gs_run.specs.Totals.{inputs_of}
use Rattle.gs_loopback.specs.declared.marks.Marks.{Marks}
use Rattle.gs_loopback.specs.declared.session.Loopback.{Loopback}
use Rattle.gs_loopback.specs.declared.session.Sums.{Sums}

-- the marks of a run that these are
abbrev pub run_marks : Marks → run.PartMarks
run_marks marks = record { video = marks.video; audio = marks.audio; up = marks.up; down = marks.down }

pub record IsLoopbackOf (loopback : Loopback) (session : ℕ) (ticks : List Tick) (part : Part) : Type 0 where
  pub host : IsHostEndOf loopback.host session ticks part
  pub client : IsClientEndOf loopback.client session part
  pub marks : run_marks loopback.marks ≡ part.marks

-- frames sent, frames handed, asks, input events told, audio units played
pub record AreSums (sums : Sums) (part : Part) : Type 0 where
  pub frames : sums.frames ≡ frames part.history
  pub handed : sums.handed ≡ length (handed_of part)
  pub asks : sums.asks ≡ length (asked_of part)
  pub inputs : sums.inputs ≡ length (inputs_of part)
  pub units : sums.units ≡ length (played_of part)
