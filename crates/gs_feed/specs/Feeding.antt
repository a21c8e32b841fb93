-- A capture file that is read as a run captures: what was captured, what of it is kept, what is still to be read.
use Rattle.std.specs.Prelude.{◌≡◌, ℕ, ◌+◌, ◌-◌, ◌<◌, ◌≤◌, Bool, true, false, List, length, map, take, drop, Option}
use Rattle.std.specs.Prelude.{Some, None, Result, Ok, Err, IfSome, ⊤}
use Rattle.std.specs.List.{All, range_with_len}
use Rattle.gs_tape.specs.Tick.{Tick}
use Rattle.gs_tape.specs.Limits.{most_ticks, IsTickWithinLimits}
use Rattle.gs_tape.specs.Reading.{Fault, CaptureHead, ReadTape, head_at, ticks_of, first_fault, audio_length}
use Rattle.gs_tape.specs.Reading.{audio_duration}
use Rattle.gs_tape.specs.Tape.{Opened, unread_tape}
use Rattle.gs_tape.specs.Errors.{fault_of}
use Rattle.gs_tape.specs.declared.error.TapeError.{TapeError}
use Rattle.gs_tape.specs.declared.stage.Stage.{Stage}
use Rattle.gs_tape.specs.declared.stage.Stage.TheVariants.{Open, Ended, Failed}

-- The open file; whether a tick was read that there was no memory to keep; how many ticks were captured, and the newest
-- of them, oldest first.
pub record Feeding : Type 0 where
  pub tape : Opened
  pub lost : Bool
  pub count : ℕ
  pub kept : List Tick

-- the number of the last tick that isn't kept any more
abbrev pub forgotten : Feeding → ℕ
forgotten feed = feed.count - length feed.kept

-- what is kept is numbered up to the newest tick captured, which is never forgotten, and keeps the file's limits
pub record IsFeedSound (feed : Feeding) : Type 0 where
  pub next : feed.lost ≡ false → feed.tape.stage ≡ Open → feed.tape.before.number ≡ feed.count + 1
  pub few : feed.count ≤ most_ticks
  pub few_kept : length feed.kept ≤ feed.count
  pub has_newest : 0 < feed.count → 0 < length feed.kept
  pub numbers : map (λ t. t.number) feed.kept ≡ range_with_len (forgotten feed + 1) (length feed.kept)
  pub within : All (λ t. IsTickWithinLimits feed.tape.audio t.number t) feed.kept

-- What was captured are the first of these ticks, and what is kept the last of those.
pub record IsOf (feed : Feeding) (ticks : List Tick) : Type 0 where
  pub captured : feed.count ≤ length ticks
  pub kept_are : feed.kept ≡ drop (forgotten feed) (take feed.count ticks)

-- The file has these ticks and then this fault, if there is one; those not captured are still to be read.
pub record IsFeedAt (feed : Feeding) (left : Option (List ℕ)) (ticks : List Tick) (fault : Option Fault) : Type 0 where
  pub is_of : IsOf feed ticks
  pub unread_is : unread_tape feed.tape left ≡ Some (record { ticks = drop feed.count ticks; fault = fault })

-- a feed of a file with these bytes, before the first capture
pub record OpensFeedAs (bytes : List ℕ) (feed : Feeding) (left : Option (List ℕ)) : Type 0 where
  pub head : CaptureHead × List ℕ
  pub head_is : head_at (length bytes) bytes ≡ Ok head
  pub audio_is : feed.tape.audio ≡ audio_length bytes
  pub duration_is : feed.tape.duration ≡ audio_duration bytes
  pub stands : IsFeedAt feed left (ticks_of bytes) (first_fault bytes)

-- a file that is refused has that fault in its head
abbrev pub OpensFeed : Option (List ℕ) → Option (List ℕ) → Result Feeding TapeError → Type 0
OpensFeed None left r = ⊤
OpensFeed (Some bytes) left (Ok feed) = OpensFeedAs bytes feed left
OpensFeed (Some bytes) left (Err e) = IfSome (fault_of e) (λ fault. head_at (length bytes) bytes ≡ Err fault)

-- A tick is captured exactly while the file has one that wasn't. Behind them comes the file's fault, or its end.
abbrev pub Captures : ℕ → List Tick → Option Fault → Result Bool TapeError → Type 0
Captures count ticks fault (Ok true) = count < length ticks
Captures count ticks fault (Ok false) = (length ticks ≡ count) × (fault ≡ None)
Captures count ticks fault (Err e) = IfSome (fault_of e) (λ why. (length ticks ≡ count) × (fault ≡ Some why))

-- where an answer isn't of a source that failed or of want of memory
abbrev pub IfTold : {A : Type 0} → Result A TapeError → Type 0 → Type 0
IfTold (Ok x) P = P
IfTold (Err e) P = IfSome (fault_of e) (λ _. P)

abbrev pub count_behind : ℕ → Result Bool TapeError → ℕ
count_behind count (Ok true) = count + 1
count_behind count (Ok false) = count
count_behind count (Err e) = count

-- whether the file is read on behind an answer
abbrev pub stage_behind : Result Bool TapeError → Stage
stage_behind (Ok true) = Open
stage_behind (Ok false) = Ended
stage_behind (Err e) = Failed e

-- it isn't behind the answer about all its rest
abbrev pub stage_behind_rest : {A : Type 0} → Result A TapeError → Stage
stage_behind_rest (Ok x) = Ended
stage_behind_rest (Err e) = Failed e

-- the file ends with this fault, or with none
abbrev pub EndsWithFault : {A : Type 0} → Option Fault → Result A TapeError → Type 0
EndsWithFault fault (Ok x) = fault ≡ None
EndsWithFault fault (Err e) = IfSome (fault_of e) (λ why. fault ≡ Some why)

-- the same of all that is read of it, where that is told
abbrev pub ReadEndsWith : {A : Type 0} → Option ReadTape → Result A TapeError → Type 0
ReadEndsWith None r = ⊤
ReadEndsWith (Some all) r = EndsWithFault all.fault r
