use Rattle.gs_run.proofs.HostLines.{runs_report_entries, runs_report_closed}
use Rattle.gs_run.proofs.laws.runs_report_hosts.Goals as goal

pub returns-clause-entries : goal.returns-clause-entries
returns-clause-entries c = runs_report_entries

pub returns-clause-closed : goal.returns-clause-closed
returns-clause-closed c = runs_report_closed
