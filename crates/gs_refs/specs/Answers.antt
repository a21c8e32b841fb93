-- What the calls on a session's references answer.
use Rattle.std.specs.Prelude.{ℕ, ◌+◌, ℤ, pos, int_le, unsigned_abs, Bool, ◌&&◌, List, Result, Ok, Err, nat_lt}
use Rattle.std.specs.Prelude.{if◌then◌else◌}
use Rattle.gs_tape.specs.Tick.{Tick}
use Rattle.gs_refs.specs.declared.entry.Entry.{Entry}
use Rattle.gs_refs.specs.declared.entry.Entry.TheVariants as entry
use Rattle.gs_refs.specs.declared.sent.Sent.{Sent}
use Rattle.gs_refs.specs.declared.error.ChooseError.{ChooseError}
use Rattle.gs_refs.specs.declared.error.ChooseError.TheVariants as choose_error
use Rattle.gs_refs.specs.declared.error.InvalidError.{InvalidError}
use Rattle.gs_refs.specs.declared.error.InvalidError.TheVariants as invalid_error
use Rattle.gs_refs.specs.declared.error.EndedError.{EndedError}
use Rattle.gs_refs.specs.declared.error.EndedError.TheVariants as ended_error
use Rattle.gs_refs.specs.History.{frames, tick_of, last_tick, has_ended}
use Rattle.gs_refs.specs.Choice.{Choice, choice}

-- the history, the newest entry first, and for how many more entries there is room
pub record References : Type 0 where
  pub history : List Entry
  pub spare : ℕ

-- a tick as the next frame, by this choice
abbrev pub sent_by : List Entry → Tick → Choice → Sent
sent_by h t c = record {
  frame = frames h + 1;
  tick = t.number;
  kind = c.kind;
  reference = c.reference;
  named = tick_of h c.reference;
}

-- how a tick goes out next
abbrev pub next_sent : List Entry → Tick → Sent
next_sent h t = sent_by h t (choice h t)

-- the entry of a frame
abbrev pub sent_entry : Sent → Entry
sent_entry s = entry.Sent s.tick s.kind s.reference

-- a tick is sent unless the session has ended, where it is above the last one sent
abbrev pub choose_answer : List Entry → Tick → Result Sent ChooseError
choose_answer h t =
    if has_ended h then Err choose_error.Ended
    else (if nat_lt (last_tick h) t.number then Ok (next_sent h t) else Err (choose_error.OldTick (last_tick h)))

-- the range is one of frames that were sent, where there are this many
abbrev pub is_range_sent : ℕ → ℤ → ℤ → Bool
is_range_sent sent first last = int_le (pos 1) first && int_le first last && int_le last (pos sent)

-- the entry of a range that a client named: these frames are invalid, or it is no range and ends the session
abbrev pub named_range : ℕ → ℤ → ℤ → Entry
named_range sent first last =
    if is_range_sent sent first last then entry.Invalid (unsigned_abs first) (unsigned_abs last)
    else entry.Ended first last

-- a range is taken unless the session has ended, where it is one of frames that were sent
abbrev pub invalidate_answer : List Entry → ℤ → ℤ → Result (Unit {0}) InvalidError
invalidate_answer h first last =
    if has_ended h then Err invalid_error.Ended
    else (if is_range_sent (frames h) first last then Ok tt else Err (invalid_error.BadRange (frames h)))

abbrev pub ask_answer : List Entry → Result (Unit {0}) EndedError
ask_answer h = if has_ended h then Err ended_error.Ended else Ok tt
