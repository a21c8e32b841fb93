-- The cause of a line that wasn't given, where a read failed.
use Rattle.gs_bytes.specs.declared.failed.Failed.{Failed}
use Rattle.gs_bytes.specs.declared.failed.Failed.TheVariants.{Fault, NoMemory}
use Rattle.gs_schedule.specs.declared.lines_error.LinesError.{LinesError}
use Rattle.gs_schedule.specs.declared.lines_error.LinesError.TheVariants.{ReadFault, OutOfMemory}

abbrev pub lines_error : Failed → LinesError
lines_error Fault = ReadFault
lines_error NoMemory = OutOfMemory
