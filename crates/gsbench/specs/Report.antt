-- What the program answers: its line and its exit status.
use Rattle.std.specs.Prelude.{◌≡◌, ◌⊎◌, ℕ, ◌-◌, false, List, ◌++◌, codes, length, replicate}
use Rattle.std.specs.Fmt.{decimal, digits}
use Rattle.gs_enet.specs.declared.send_error.SendError.{SendError}
use Rattle.gs_enet.specs.declared.send_error.SendError.TheVariants as sends
use Rattle.gs_enet.specs.declared.take_error.TakeError.{TakeError}
use Rattle.gs_enet.specs.declared.take_error.TakeError.TheVariants as takes
use Rattle.gs_tape.specs.declared.error.TapeError.{TapeError}
use Rattle.gs_tape.specs.declared.error.TapeError.TheVariants as tapes
use Rattle.gs_tape.specs.declared.write_error.WriteError.{WriteError}
use Rattle.gs_tape.specs.declared.write_error.WriteError.TheVariants as writes
use Rattle.gsbench.specs.declared.report.Counted.{Counted}
use Rattle.gsbench.specs.declared.report.Counted.TheVariants as counted
use Rattle.gsbench.specs.declared.report.Report.{Report}
use Rattle.gsbench.specs.declared.report.Stop.{Stop}
use Rattle.gsbench.specs.declared.report.Stop.TheVariants as stops

-- eight digits of base 16
abbrev pub hex_word : ℕ → List ℕ
hex_word n = replicate (8 - length (digits 16 false n)) 48 ++ digits 16 false n

-- the word in front of what is counted
abbrev pub counted_word : Counted → List ℕ
counted_word counted.Bytes = codes " bytes "
counted_word counted.Calls = codes " calls "

abbrev pub report_line : Report → List ℕ
report_line report =
    codes "checksum " ++ (hex_word report.checksum ++ (counted_word report.counted ++ decimal report.amount))

abbrev pub stop_line : Stop → List ℕ
stop_line (stops.Usage word) = codes "usage: word " ++ decimal word
stop_line stops.Untold = codes "untold"
stop_line stops.OutOfMemory = codes "out of memory"

abbrev pub stop_status : Stop → ℕ
stop_status (stops.Usage word) = 2
stop_status stops.Untold = 1
stop_status stops.OutOfMemory = 12

-- it blames no word
abbrev pub IsNoUsage : Stop → Type 0
IsNoUsage stop = (stop ≡ stops.Untold) ⊎ (stop ≡ stops.OutOfMemory)

-- why there is no report, where a message could not be given or a datagram not taken
abbrev pub send_stop : SendError → Stop
send_stop sends.NotOpen = stops.Untold
send_stop sends.WindowFull = stops.Untold
send_stop sends.OutOfMemory = stops.OutOfMemory

abbrev pub take_stop : TakeError → Stop
take_stop (takes.BadDatagram place) = stops.Untold
take_stop takes.OutOfMemory = stops.OutOfMemory

-- why there is no report, where a capture file could not be written or read
abbrev pub write_stop : WriteError → Stop
write_stop writes.WriteFault = stops.Untold
write_stop writes.OutOfMemory = stops.OutOfMemory

abbrev pub tape_stop : TapeError → Stop
tape_stop tapes.TapeFault = stops.Untold
tape_stop (tapes.BadTape kind place) = stops.Untold
tape_stop (tapes.TapeFull tick) = stops.Untold
tape_stop (tapes.UnitTooLarge tick) = stops.Untold
tape_stop (tapes.AudioLength length) = stops.Untold
tape_stop tapes.OutOfMemory = stops.OutOfMemory
