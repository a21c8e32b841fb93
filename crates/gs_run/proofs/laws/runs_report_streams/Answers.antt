use Rattle.gs_run.proofs.StateLines.{runs_report_handed, runs_report_asked, runs_report_played}
use Rattle.gs_run.proofs.InputLines.{runs_report_inputs}
use Rattle.gs_run.proofs.laws.runs_report_streams.Goals as goal

pub returns-clause-handed : goal.returns-clause-handed
returns-clause-handed c = runs_report_handed

pub returns-clause-asked : goal.returns-clause-asked
returns-clause-asked c = runs_report_asked

pub returns-clause-played : goal.returns-clause-played
returns-clause-played c = runs_report_played

pub returns-clause-inputs : goal.returns-clause-inputs
returns-clause-inputs c = runs_report_inputs
