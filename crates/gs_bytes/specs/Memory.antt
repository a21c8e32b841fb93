-- What contracts see of the objects in memory.
use Rattle.std.specs.Prelude.{ℕ, ◌+◌, ◌-◌, ◌^◌, ◌==◌, min, Bool, false, if◌then◌else◌, List, []}
use Rattle.std.specs.List.{list_any}

-- a count one higher, which stands still at its last value
abbrev pub count_up : ℕ → ℕ
count_up n = min (n + 1) (2 ^ 64 - 1)

-- the numbers, from 1, of the calls that are to fail, how many calls were made, and how many failed
pub record Calls : Type 0 where
  pub fails : List ℕ
  pub made : ℕ
  pub faults : ℕ

-- no call was made yet
abbrev pub no_calls : List ℕ → Calls
no_calls fails = record { fails = fails; made = 0; faults = 0 }

-- whether the next call is to fail
abbrev pub next_fails : Calls → Bool
next_fails c = list_any (λ k. k == count_up c.made) c.fails

-- one more fault
abbrev pub with_fault : Calls → Calls
with_fault c = record { fails = c.fails; made = c.made; faults = count_up c.faults }

-- the next call was made, and failed where it was to fail
abbrev pub after_call : Calls → Calls
after_call c = record {
  fails = c.fails;
  made = count_up c.made;
  faults = if next_fails c then count_up c.faults else c.faults;
}

-- bytes to read: those that are left, those that were read, and whether a read met the end
pub record Reading : Type 0 where
  pub left : List ℕ
  pub taken : List ℕ
  pub met_end : Bool

-- nothing of the bytes was read yet
abbrev pub unread : List ℕ → Reading
unread bytes = record { left = bytes; taken = []; met_end = false }

-- bytes that were written, and how many at most each write takes
pub record Writing : Type 0 where
  pub written : List ℕ
  pub most : ℕ

-- nothing was written yet
abbrev pub unwritten : ℕ → Writing
unwritten most = record { written = []; most = most }

-- a source with calls that are to fail
pub record FailingSource : Type 0 where
  pub bytes : Reading
  pub calls : Calls

-- a sink with calls that are to fail
pub record FailingSink : Type 0 where
  pub bytes : Writing
  pub calls : Calls
