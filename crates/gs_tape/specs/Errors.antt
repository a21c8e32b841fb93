-- Which fault of a capture file's bytes an answer tells.
use Rattle.std.specs.Prelude.{◌≡◌, Option, Some, None, Result, Err, IfSome}
use Rattle.gs_bytes.specs.declared.failed.Failed.{Failed}
use Rattle.gs_bytes.specs.declared.failed.Failed.TheVariants.{Fault, NoMemory}
use Rattle.gs_tape.specs.declared.error.TapeError.{TapeError}
use Rattle.gs_tape.specs.declared.error.TapeError.TheVariants as error
use Rattle.gs_tape.specs.Reading.{Malformed, Full, UnitTooLarge, AudioLength}
use Rattle.gs_tape.specs.Reading as Reading

abbrev pub read_error : Failed → TapeError
read_error Fault = error.TapeFault
read_error NoMemory = error.OutOfMemory

-- the fault that an answer tells; a source that failed and want of memory tell none
abbrev pub fault_of : TapeError → Option Reading.Fault
fault_of error.TapeFault = None
fault_of (error.BadTape kind place) = Some (Malformed kind place)
fault_of (error.TapeFull tick) = Some (Full tick)
fault_of (error.UnitTooLarge tick) = Some (UnitTooLarge tick)
fault_of (error.AudioLength length) = Some (AudioLength length)
fault_of error.OutOfMemory = None

-- what is read there has the fault that the answer tells
abbrev pub TellsFault : {A : Type 0} → TapeError → Result A Reading.Fault → Type 0
TellsFault e read = IfSome (fault_of e) (λ fault. read ≡ Err fault)
