use Rattle.gs_tape.proofs.Ticks.{ticks_keep_limits, audio_length_keeps, each_tick_keeps, ticks_hold_bytes}
use Rattle.gs_tape.proofs.laws.ticks_keep_limits.Goals as goal

pub returns-clause-ticks : goal.returns-clause-ticks
returns-clause-ticks c = ticks_keep_limits

pub returns-clause-audio_length : goal.returns-clause-audio_length
returns-clause-audio_length c = audio_length_keeps

pub returns-clause-each : goal.returns-clause-each
returns-clause-each c = each_tick_keeps

pub returns-clause-bytes : goal.returns-clause-bytes
returns-clause-bytes c = ticks_hold_bytes
