use Rattle.std.proofs.Common.{◌≡◌, ◌≢◌, ◌+◌, ◌-◌}
use Rattle.std.specs.Io.KnownBytes.{Keeps}
use Rattle.gs_bytes.specs.Outside.{KeepsFlag}
use Rattle.gs_tape.specs.Limits.{most_ticks}
use Rattle.gs_tape.specs.Tape.{unread_tape}
use Rattle.gs_tape.specs.declared.stage.Stage.TheVariants.{Open}
use Rattle.gs_feed.proofs.Passing.{Passes}
use Rattle.gs_feed.proofs.Cuts.{Rests}
use Rattle.gs_feed.proofs.rest.read_rest.Given as goal

abbrev pub invariant-ticks : goal.invariant-ticks
invariant-ticks g l =
    let told = g.S.Outside in
    record {
      passes : Passes (unread_tape l.initial.tape (told.left l.initial.source)) (unread_tape l.tape (told.left l.source));
      rests : Rests l.initial.tape l.tape (told.left l.initial.source) (told.left l.source);
      stays_open : l.initial.tape.stage ≡ Open → l.tape.stage ≡ Open;
      again : l.initial.tape.stage ≢ Open → (l.tape ≡ l.initial.tape) × (l.source ≡ l.initial.source);
      audio : l.tape.audio ≡ l.initial.tape.audio;
      duration : l.tape.duration ≡ l.initial.tape.duration;
      end : KeepsFlag (told.met_end l.initial.source) (told.met_end l.source);
      written : Keeps (told.written l.initial.source) (told.written l.source);
      counted : told.faults l.source ≡ told.faults l.initial.source;
    }

abbrev pub decreases-ticks : goal.decreases-ticks
decreases-ticks g l = most_ticks + 1 - l.tape.before.number
