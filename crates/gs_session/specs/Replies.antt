-- What the calls of a session are answered, and what they leave.
use Rattle.std.specs.Prelude.{◌≡◌, ◌⊎◌, Bool, true, false, List, ◌∷◌, Err, nat_lt, if◌then◌else◌}
use Rattle.std.specs.Arc.{arc_value}
use Rattle.gs_refs.specs.declared.entry.Entry.{Entry}
use Rattle.gs_refs.specs.declared.entry.Entry.TheVariants as entry
use Rattle.gs_refs.specs.History.{frames, last_tick, has_ended}
use Rattle.gs_refs.specs.Answers.{References, next_sent, sent_entry, choose_answer, named_range, invalidate_answer}
use Rattle.gs_refs.specs.Answers.{ask_answer}
use Rattle.gs_session.specs.declared.call.Call.{Call}
use Rattle.gs_session.specs.declared.call.Call.TheVariants.{Choose, Invalidate, AskIdr}
use Rattle.gs_session.specs.declared.call.Reply.{Reply}
use Rattle.gs_session.specs.declared.call.Reply.TheVariants.{Chosen, Taken, Asked}
use Rattle.gs_session.specs.declared.error.ChooseError.TheVariants as choose
use Rattle.gs_session.specs.declared.error.InvalidError.TheVariants as invalid
use Rattle.gs_session.specs.declared.error.EndedError.TheVariants as ended
use Rattle.gs_session.specs.Errors.{choose_error, invalid_error, ended_error, with_error}

-- what the references of one thread answer to a call behind this history
abbrev pub session_reply : List Entry → Call → Reply
session_reply h (Choose tick) = Chosen (with_error choose_error (choose_answer h (arc_value tick)))
session_reply h (Invalidate first last) = Taken (with_error invalid_error (invalidate_answer h first last))
session_reply h AskIdr = Asked (with_error ended_error (ask_answer h))

-- the entry that a call adds where the session hasn't ended
abbrev pub added_by : List Entry → Call → List Entry
added_by h (Choose tick) =
    if nat_lt (last_tick h) (arc_value tick).number then sent_entry (next_sent h (arc_value tick)) ∷ h else h
added_by h (Invalidate first last) = named_range (frames h) first last ∷ h
added_by h AskIdr = entry.IdrAsked ∷ h

-- the history behind it
abbrev pub history_after : List Entry → Call → List Entry
history_after h call = if has_ended h then h else added_by h call

abbrev pub out_of_memory : Call → Reply
out_of_memory (Choose tick) = Chosen (Err choose.OutOfMemory)
out_of_memory (Invalidate first last) = Taken (Err invalid.OutOfMemory)
out_of_memory AskIdr = Asked (Err ended.OutOfMemory)

-- which call a reply is to
abbrev pub is_choice : Reply → Bool
is_choice (Chosen r) = true
is_choice (Taken r) = false
is_choice (Asked r) = false

abbrev pub is_invalidation : Reply → Bool
is_invalidation (Chosen r) = false
is_invalidation (Taken r) = true
is_invalidation (Asked r) = false

abbrev pub is_idr_request : Reply → Bool
is_idr_request (Chosen r) = false
is_idr_request (Taken r) = false
is_idr_request (Asked r) = true

-- the call was answered by the history, which has its entry then
pub record IsAnswered (before : List Entry) (call : Call) (reply : Reply) (after : List Entry) : Type 0 where
  pub answer : reply ≡ session_reply before call
  pub history : after ≡ history_after before call

-- there was no memory for its entry, and none was added
pub record IsRefused (before : List Entry) (call : Call) (reply : Reply) (after : List Entry) : Type 0 where
  pub answer : reply ≡ out_of_memory call
  pub history : after ≡ before

-- what a session's references may do at a call
abbrev pub MayReply : References → Call → Reply → References → Type 0
MayReply before call reply after =
    IsAnswered before.history call reply after.history ⊎ IsRefused before.history call reply after.history
