use Rattle.std.proofs.Common.{Err, ap, refl}
use Rattle.gs_tape.specs.declared.error.TapeError.{TapeError}
use Rattle.gs_tape.proofs.Streams.{fails}
use Rattle.gs_tape.proofs.HeadReads.{opens_handed, opens_ok}
use Rattle.gs_tape.proofs.Cuts.{head_handed, takes_head}
use Rattle.gs_tape.proofs.tape.Tape.open.Goals as goal

pub returns-in_err-audio-clause-bytes : goal.returns-in_err-audio-clause-bytes
returns-in_err-audio-clause-bytes g c =
    head_handed c.new-cursor.result.reader _ _ _ _ _ c.new-cursor.ensures.held c.from_residual.ensures.1
    (λ is. c.in_err-audio.ensures.spent (ap (λ (e : TapeError). Err e) is)) c.in_err-audio.ensures.read.front

pub returns-clause-bytes : goal.returns-clause-bytes
returns-clause-bytes g c =
    takes_head c.new-cursor.result.reader _ _ _ _ c.new-cursor.result.place _ _ _ _ c.new-cursor.ensures.held c.new-cursor.ensures.place
    c.in_ok-audio.ensures.read refl refl

pub returns-in_err-audio-clause-opens : goal.returns-in_err-audio-clause-opens
returns-in_err-audio-clause-opens g c =
    opens_handed c.new-cursor.result.reader _ _ _ c.new-cursor.result.place _ _ c.new-cursor.ensures.held c.new-cursor.ensures.place
    c.from_residual.ensures.1 (fails c.in_err-audio.ensures.read)

pub returns-clause-opens : goal.returns-clause-opens
returns-clause-opens g c =
    opens_ok c.new-cursor.result.reader _ _ c.new-cursor.result.place _ _ c.new-cursor.ensures.held c.new-cursor.ensures.place
    c.in_ok-audio.ensures.read refl refl refl
