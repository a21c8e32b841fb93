-- What a workload counts, and how much of it all turns go through.
use Rattle.std.specs.Prelude.{◌≡◌, ◌*◌, ◌-◌, ◌^◌, ℕ, List, String}
use Rattle.std.specs.List.{sum_by}
use Rattle.std.specs.declared.alloc.Global.{Global}
use Rattle.gs_bytes.specs.Limits.{most_generated, most_unit}
use Rattle.gs_rtp.specs.Limits.{most_frame}
use Rattle.gs_tape.specs.Generated.{generated}
use Rattle.gs_tape.specs.Tick.{unit_bytes}
use Rattle.gsbench.specs.declared.report.Counted.{Counted}
use Rattle.gsbench.specs.declared.report.Counted.TheVariants as counted
use Rattle.gsbench.specs.declared.report.Report.{Report}
use Rattle.gsbench.specs.declared.workload.Workload.{Workload}
use Rattle.gsbench.specs.declared.workload.Workload.TheVariants as workload
use Rattle.gsbench.specs.Words.{word_value}
use Rattle.gsbench.specs.Workloads.{data_count}

-- this is counted, and it is so much
abbrev pub Reports : Counted → ℕ → Report → Type 0
Reports what amount report = (report.counted ≡ what) × (report.amount ≡ amount)

-- how often a workload is done, which the word at a place says
abbrev pub count_at : List (String Global) → ℕ → ℕ
count_at words place = word_value words place 1 (2 ^ 32 - 1)

-- the bytes of a row, each time
abbrev pub mul_add_amount : List (String Global) → ℕ
mul_add_amount words = word_value words 1 1 1048576 * count_at words 2

-- the bytes of all data shards, as often as the word at a place says
abbrev pub code_amount : List (String Global) → ℕ → ℕ
code_amount words place = data_count words * word_value words 3 1 65536 * count_at words place

-- the bytes of each message
abbrev pub messages_amount : List (String Global) → ℕ
messages_amount words = 16 * count_at words 2

-- the bytes of a frame's unit, each time; also where its datagrams are lost
abbrev pub receive_amount : List (String Global) → ℕ
receive_amount words = word_value words 3 1 most_unit * word_value words 5 1 most_frame

abbrev pub split_amount : List (String Global) → ℕ
split_amount words = word_value words 3 1 most_unit * count_at words 4

-- the bytes of all units of a generated capture, each time
abbrev pub tape_amount : List (String Global) → ℕ
tape_amount words =
    count_at words 3
    * sum_by unit_bytes (generated (word_value words 1 0 (2 ^ 32 - 1)) (word_value words 2 1 most_generated))

-- a call for each frame
abbrev pub choose_amount : List (String Global) → ℕ
choose_amount words = word_value words 1 1 most_frame

-- so many calls of each thread, or of each viewer
abbrev pub threads_amount : List (String Global) → ℕ
threads_amount words = word_value words 1 1 16 * count_at words 2

-- a call for each client
abbrev pub new_amount : List (String Global) → ℕ
new_amount words = count_at words 4

abbrev pub counted_of : Workload → Counted
counted_of workload.MulAdd = counted.Bytes
counted_of workload.Encode = counted.Bytes
counted_of workload.Parity = counted.Bytes
counted_of workload.Restore = counted.Bytes
counted_of workload.Messages = counted.Bytes
counted_of workload.Receive = counted.Bytes
counted_of workload.Split = counted.Bytes
counted_of workload.Tape = counted.Bytes
counted_of workload.TapeHeld = counted.Bytes
counted_of workload.Choose = counted.Calls
counted_of workload.Turns = counted.Calls
counted_of workload.Views = counted.Calls
counted_of workload.Take = counted.Bytes
counted_of workload.New = counted.Calls

abbrev pub amount_of : List (String Global) → Workload → ℕ
amount_of words workload.MulAdd = mul_add_amount words
amount_of words workload.Encode = code_amount words 4
amount_of words workload.Parity = code_amount words 5
amount_of words workload.Restore = code_amount words 5
amount_of words workload.Messages = messages_amount words
amount_of words workload.Receive = receive_amount words
amount_of words workload.Split = split_amount words
amount_of words workload.Tape = tape_amount words
amount_of words workload.TapeHeld = tape_amount words
amount_of words workload.Choose = choose_amount words
amount_of words workload.Turns = threads_amount words
amount_of words workload.Views = threads_amount words
amount_of words workload.Take = receive_amount words
amount_of words workload.New = new_amount words

-- that of a workload
abbrev pub ReportsOf : List (String Global) → Workload → Report → Type 0
ReportsOf words named report = Reports (counted_of named) (amount_of words named) report
