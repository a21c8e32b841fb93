use Rattle.gs_tape.specs.Steps.{head}
use Rattle.gs_tape.proofs.Streams.{fails, fails_first, fails_read, fails_tested, fails_then, handed_on, leaves_as, leaves_handed, leaves_then, reads_then}
use Rattle.gs_tape.proofs.StepReads.{head_read}
use Rattle.gs_tape.proofs.cursor.Cursor.head.Goals as goal

pub returns-in_err-text-clause-read : goal.returns-in_err-text-clause-read
unfolding head
returns-in_err-text-clause-read g c = handed_on c.from_residual.ensures.1 (fails_first _ (fails c.in_err-text.ensures.read))

pub returns-in_err-audio-clause-read : goal.returns-in_err-audio-clause-read
unfolding head
returns-in_err-audio-clause-read g c =
    handed_on c.from_residual-in_err-audio.ensures.1 (fails_then _ c.in_ok-text.ensures.read (fails_first _ (fails c.in_err-audio.ensures.read)))

pub returns-in_err-duration-clause-read : goal.returns-in_err-duration-clause-read
unfolding head
returns-in_err-duration-clause-read g c =
    handed_on c.from_residual-in_err-duration.ensures.1
    (fails_then _ c.in_ok-text.ensures.read (fails_then _ c.in_ok-audio.ensures.read (fails_first _ (fails c.in_err-duration.ensures.read))))

pub returns-in_err-_zero-clause-read : goal.returns-in_err-_zero-clause-read
unfolding head
returns-in_err-_zero-clause-read g c =
    handed_on c.from_residual-in_err-_zero.ensures.1
    (fails_then _ c.in_ok-text.ensures.read (fails_then _ c.in_ok-audio.ensures.read (fails_then _ c.in_ok-duration.ensures.read
    (fails_first _ (fails c.in_err-_zero.ensures.read)))))

pub returns-clause-read : goal.returns-clause-read
unfolding head
returns-clause-read g c =
    reads_then _ c.in_ok-text.ensures.read (reads_then _ c.in_ok-audio.ensures.read (reads_then _ c.in_ok-duration.ensures.read
    (head_read c.in_ok-audio.audio c.in_ok-duration.duration c.in_ok-_zero.ensures.read)))

pub returns-in_err-_zero-clause-source : goal.returns-in_err-_zero-clause-source
returns-in_err-_zero-clause-source g c =
    leaves_then c.in_ok-text.ensures.source (leaves_then c.in_ok-audio.ensures.source (leaves_then c.in_ok-duration.ensures.source
    (leaves_handed c.from_residual-in_err-_zero.ensures.1 c.in_err-_zero.ensures.source)))

pub returns-clause-source : goal.returns-clause-source
returns-clause-source g c =
    leaves_then c.in_ok-text.ensures.source (leaves_then c.in_ok-audio.ensures.source (leaves_then c.in_ok-duration.ensures.source
    (leaves_as c.in_ok-_zero.ensures.source)))
