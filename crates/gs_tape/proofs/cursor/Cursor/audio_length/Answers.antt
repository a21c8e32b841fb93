use Rattle.std.proofs.Common.{refl}
use Rattle.std.proofs.lemmas.Bool.{lt-ltb, le-ltb}
use Rattle.gs_tape.proofs.Streams.{fails, fails_read, fails_tested, fails_test, handed_on, reads_passed}
use Rattle.gs_tape.proofs.cursor.Cursor.audio_length.Goals as goal

pub returns-in_err-length-clause-read : goal.returns-in_err-length-clause-read
returns-in_err-length-clause-read g c = handed_on c.from_residual.ensures.1 (fails_tested _ _ (fails c.in_err-length.ensures.read))

pub returns-then-length-gt-MOST_AUDIO-clause-read : goal.returns-then-length-gt-MOST_AUDIO-clause-read
returns-then-length-gt-MOST_AUDIO-clause-read g c =
    fails_read (fails_test _ _ c.in_ok-length.ensures.read (lt-ltb _ _ c.if-length-gt-MOST_AUDIO.true) refl)

pub returns-clause-read : goal.returns-clause-read
returns-clause-read g c = reads_passed _ _ c.in_ok-length.ensures.read (le-ltb _ _ c.if-length-gt-MOST_AUDIO.false)
