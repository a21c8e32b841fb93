-- Cited by private contracts alone: what a host's end counts of its history.
use Rattle.std.specs.Prelude.{ℕ, ◌≡◌, Bool, false, List}
use Rattle.gs_refs.specs.declared.entry.Entry.{Entry}
use Rattle.gs_refs.specs.History.{frames, last_tick}

-- how many frames were sent, and the tick of the last, 0 where none was; after a turn that failed neither is known
pub record AreCounts (lost : Bool) (sent tick : ℕ) (h : List Entry) : Type 0 where
  pub sent_are : lost ≡ false → sent ≡ frames h
  pub last_is : lost ≡ false → tick ≡ last_tick h
