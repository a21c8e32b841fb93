-- A capture that grows: the ticks appended, and what a viewer has read of them.
use Rattle.std.specs.Prelude.{◌≡◌, ℕ, ◌+◌, List, [], ◌∷◌, ◌++◌, length, Bool, false, ⊤}
use Rattle.std.specs.List.{AllByRecursion}
use mathlib.Core.List.{IsPrefix}
use Rattle.logbook.specs.Pages.{Book}
use Rattle.gs_tape.specs.Tick.{Tick}

-- which capture it is (the book of its history), the number of bytes of each audio unit, the ticks, and the
-- history that is known to have been reached
pub record Capture : Type 0 where
  pub book : Book
  pub audio : ℕ
  pub ticks : List Tick
  pub history : List Tick

-- a capture of no ticks
abbrev pub nothing : Capture
nothing = record { book = record { number = 0; log_name = 0; cells_name = 0 }; audio = 0; ticks = []; history = [] }

-- a recorder's capture may have so many ticks; it has those appended, unless one was refused
pub record Recorded : Type 0 where
  pub capture : Book
  pub audio : ℕ
  pub most : ℕ
  pub appended : List Tick
  pub refused : Bool

-- a viewer's last list, and the length of each list that it read, in order
pub record Viewed : Type 0 where
  pub capture : Book
  pub audio : ℕ
  pub read : List Tick
  pub reads : List ℕ

-- before the first append
abbrev pub opened_capture : Book → ℕ → ℕ → Recorded
opened_capture capture audio most =
    record { capture = capture; audio = audio; most = most; appended = []; refused = false }

-- before the first read
abbrev pub unread_capture : Book → ℕ → Viewed
unread_capture capture audio = record { capture = capture; audio = audio; read = []; reads = [] }

-- each audio unit of the tick has so many bytes
abbrev pub HasAudio : ℕ → Tick → Type 0
HasAudio audio t = AllByRecursion (λ unit. length unit ≡ audio) t.audio

-- the ticks are numbered on from this number
abbrev pub AreCapturedFrom : ℕ → ℕ → List Tick → Type 0
AreCapturedFrom audio number [] = ⊤
AreCapturedFrom audio number (t ∷ ts) = (t.number ≡ number) × HasAudio audio t × AreCapturedFrom audio (number + 1) ts

-- the k-th tick has the number k, and each audio unit has so many bytes
abbrev pub AreCaptured : ℕ → List Tick → Type 0
AreCaptured audio ticks = AreCapturedFrom audio 1 ticks

-- one more read: the list read begins with all that was read before
pub record Reads (before after : Viewed) : Type 0 where
  pub capture : after.capture ≡ before.capture
  pub audio : after.audio ≡ before.audio
  pub later : IsPrefix before.read after.read
  pub counted : after.reads ≡ before.reads ++ length after.read ∷ []
  pub captured : AreCaptured after.audio after.read
