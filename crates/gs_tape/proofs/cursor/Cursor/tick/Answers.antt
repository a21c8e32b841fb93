use Rattle.std.proofs.Common.{ℕ, List}
use Rattle.gs_tape.specs.Tick.{Tick}
use Rattle.gs_tape.specs.Steps.{tick}
use Rattle.gs_tape.proofs.Streams.{fails, fails_first, fails_then, handed_on, reads_made, reads_then}
use Rattle.gs_tape.proofs.StepReads.{room_kept}
use Rattle.gs_tape.proofs.cursor.Cursor.tick.Goals as goal

pub returns-in_err-time-clause-read : goal.returns-in_err-time-clause-read
unfolding tick
returns-in_err-time-clause-read g c = handed_on c.from_residual.ensures.1 (fails_first _ (fails c.in_err-time.ensures.read))

pub returns-in_err-heard-clause-read : goal.returns-in_err-heard-clause-read
unfolding tick
returns-in_err-heard-clause-read g c =
    handed_on c.from_residual-in_err-heard.ensures.1 (fails_then _ c.in_ok-time.ensures.read (fails_first _ (fails c.in_err-heard.ensures.read)))

pub returns-in_err-count-clause-read : goal.returns-in_err-count-clause-read
unfolding tick
returns-in_err-count-clause-read g c =
    handed_on c.from_residual-in_err-count.ensures.1
    (fails_then _ c.in_ok-time.ensures.read (fails_then _ c.in_ok-heard.ensures.read (fails_first _ (fails c.in_err-count.ensures.read))))

pub returns-in_err-idr-clause-read : goal.returns-in_err-idr-clause-read
unfolding tick
returns-in_err-idr-clause-read g c =
    handed_on c.from_residual-in_err-idr.ensures.1
    (fails_then _ c.in_ok-time.ensures.read (fails_then _ c.in_ok-heard.ensures.read (fails_then _ c.in_ok-count.ensures.read
    (fails_first _ (fails (rw c.heard_bytes.ensures at c.in_err-idr.ensures.read))))))

pub returns-in_err-deltas-clause-read : goal.returns-in_err-deltas-clause-read
unfolding tick
returns-in_err-deltas-clause-read g c =
    handed_on c.from_residual-in_err-deltas.ensures.1
    (fails_then _ c.in_ok-time.ensures.read (fails_then _ c.in_ok-heard.ensures.read (fails_then _ c.in_ok-count.ensures.read
    (fails_then _ (rw c.heard_bytes.ensures at c.in_ok-idr.ensures.read)
    (fails_first _ (fails (rw (c.heard_bytes.ensures, c.len.ensures) at c.in_err-deltas.ensures.read)))))))

pub returns-in_err-audio-clause-read : goal.returns-in_err-audio-clause-read
unfolding tick
returns-in_err-audio-clause-read g c =
    handed_on c.from_residual-in_err-audio.ensures.1
    (fails_then _ c.in_ok-time.ensures.read (fails_then _ c.in_ok-heard.ensures.read (fails_then _ c.in_ok-count.ensures.read
    (fails_then _ (rw c.heard_bytes.ensures at c.in_ok-idr.ensures.read)
    (fails_then _ (rw (c.heard_bytes.ensures, c.len.ensures) at c.in_ok-deltas.ensures.read)
    (fails_first _ (fails c.in_err-audio.ensures.read)))))))

pub returns-clause-read : goal.returns-clause-read
unfolding tick
returns-clause-read g c =
    let made : List (List ℕ) → Tick = λ us. record {
      number = c.args.known.number;
      time = c.in_ok-time.time;
      idr = c.in_ok-idr.idr;
      deltas = c.in_ok-deltas.deltas;
      audio = us;
    } in
    reads_then _ c.in_ok-time.ensures.read (reads_then _ c.in_ok-heard.ensures.read (reads_then _ c.in_ok-count.ensures.read
    (reads_then _ (rw c.heard_bytes.ensures at c.in_ok-idr.ensures.read)
    (reads_then _ (rw (c.heard_bytes.ensures, c.len.ensures) at c.in_ok-deltas.ensures.read)
    (reads_made made c.in_ok-audio.ensures.read)))))

pub returns-clause-room : goal.returns-clause-room
returns-clause-room g c =
    room_kept c.args.known.held c.in_ok-heard.heard c.args.audio c.in_ok-idr.idr c.in_ok-deltas.deltas c.in_ok-audio.audio
    (rw (c.heard_bytes.ensures, c.len.ensures) at c.in_ok-deltas.ensures.room) c.in_ok-audio.ensures.count c.in_ok-audio.ensures.whole
