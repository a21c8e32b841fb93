use Rattle.gs_run.proofs.HoldingRuns.{runs_hold, runs_of_steps_hold, runs_over_bytes_hold, generated_runs_hold}
use Rattle.gs_run.proofs.laws.whole_runs_hold.Goals as goal

pub returns-clause-lines : goal.returns-clause-lines
returns-clause-lines c = runs_hold c.played_units_were_sent.ensures c.packet_is_read.ensures

pub returns-clause-steps : goal.returns-clause-steps
returns-clause-steps c = runs_of_steps_hold c.played_units_were_sent.ensures c.packet_is_read.ensures

pub returns-clause-bytes : goal.returns-clause-bytes
returns-clause-bytes c = runs_over_bytes_hold c.played_units_were_sent.ensures c.packet_is_read.ensures

pub returns-clause-generated : goal.returns-clause-generated
returns-clause-generated c = generated_runs_hold c.played_units_were_sent.ensures c.packet_is_read.ensures
