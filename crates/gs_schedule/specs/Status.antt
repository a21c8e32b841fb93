-- How a trial ends: its exit status, and what it says on standard error.
use Rattle.std.specs.Prelude.{ℕ, List, [], ◌++◌, codes}
use Rattle.std.specs.Fmt.{decimal}
use Rattle.gs_schedule.specs.declared.status.TrialStatus.{TrialStatus}
use Rattle.gs_schedule.specs.declared.status.TrialStatus.TheVariants.{Ok, Usage, TapeFault, BadTape, TapeFull}
use Rattle.gs_schedule.specs.declared.status.TrialStatus.TheVariants.{UnitTooLarge, AudioLength, ScheduleFault}
use Rattle.gs_schedule.specs.declared.status.TrialStatus.TheVariants.{BadSchedule, WriteFault, OutOfMemory}

abbrev pub exit_status : TrialStatus → ℕ
exit_status Ok = 0
exit_status (Usage word) = 2
exit_status TapeFault = 3
exit_status (BadTape kind place) = 4
exit_status (TapeFull tick) = 5
exit_status (UnitTooLarge tick) = 6
exit_status (AudioLength length) = 7
exit_status ScheduleFault = 8
exit_status (BadSchedule line) = 9
exit_status WriteFault = 10
exit_status OutOfMemory = 12

-- what ended well says nothing
abbrev pub status_text : TrialStatus → List ℕ
status_text Ok = []
status_text (Usage word) = codes "usage: word " ++ decimal word
status_text TapeFault = codes "tape: read failed"
status_text (BadTape kind place) = codes "tape: kind " ++ decimal kind ++ codes " at " ++ decimal place
status_text (TapeFull tick) = codes "tape: full at tick " ++ decimal tick
status_text (UnitTooLarge tick) = codes "tape: unit too large in tick " ++ decimal tick
status_text (AudioLength length) = codes "tape: audio length " ++ decimal length
status_text ScheduleFault = codes "schedule: read failed"
status_text (BadSchedule line) = codes "schedule: line " ++ decimal line
status_text WriteFault = codes "write failed"
status_text OutOfMemory = codes "out of memory"
