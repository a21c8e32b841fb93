use Rattle.gs_depack.proofs.Arrivals.{changes_nothing, completes_frame, nothing_to_note, since_is_new, keeps_numbers}
use Rattle.gs_depack.proofs.laws.untold_arrivals.Goals as goal

pub returns-clause-nothing : goal.returns-clause-nothing
returns-clause-nothing c = changes_nothing

pub returns-clause-completes : goal.returns-clause-completes
returns-clause-completes c = completes_frame

pub returns-clause-no_note : goal.returns-clause-no_note
returns-clause-no_note c = nothing_to_note

pub returns-clause-since : goal.returns-clause-since
returns-clause-since c = since_is_new

pub returns-clause-numbers : goal.returns-clause-numbers
returns-clause-numbers c = keeps_numbers
