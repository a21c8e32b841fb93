-- What messages ask of a host, and what a history is behind it.
use Rattle.std.specs.Prelude.{ℕ, ◌≡◌, List, ◌∷◌, if◌then◌else◌, ⊤, Result, Ok, Err}
use Rattle.gs_input.specs.Event.{HasButton}
use Rattle.gs_control.specs.Message.{IsMessage}
use Rattle.gs_control.specs.declared.message.Message.{Message}
use Rattle.gs_control.specs.declared.message.Message.TheVariants as message
use Rattle.gs_refs.specs.declared.entry.Entry.{Entry}
use Rattle.gs_refs.specs.declared.entry.Entry.TheVariants as entry
use Rattle.gs_refs.specs.History.{frames, has_ended}
use Rattle.gs_refs.specs.Answers.{named_range, invalidate_answer, ask_answer}
use Rattle.gs_refs.specs.declared.error.InvalidError.{InvalidError}
use Rattle.gs_refs.specs.declared.error.EndedError.{EndedError}
use Rattle.gs_host_core.specs.declared.error.ToldError.{ToldError}
use Rattle.gs_host_core.specs.declared.error.ToldError.TheVariants as told_error
use Rattle.gs_host_core.specs.Errors.{told_error_of}
use Rattle.gs_host_core.specs.declared.act.Act.{Act}
use Rattle.gs_host_core.specs.declared.act.Act.TheVariants.{Invalidate, AskIdr, Input, Nothing}

-- what a message asks for
abbrev pub act_for : Message → Act
act_for (message.Invalidate first last) = Invalidate first last
act_for message.IdrRequest = AskIdr
act_for (message.Input event) = Input event
act_for _ = Nothing

-- the button of an act's event is one
abbrev pub HasActButton : Act → Type 0
HasActButton (Input event) = HasButton event
HasActButton _ = ⊤

-- what the bytes of a message ask for: nothing where they are none
pub record IsActOf (bytes : List ℕ) (act : Act) : Type 0 where
  pub read : (read : Message) → IsMessage bytes read → act ≡ act_for read
  pub other : ((read : Message) → IsMessage bytes read → ⊥) → act ≡ Nothing

-- the history behind an act, where the session hasn't ended
abbrev pub with_act : List Entry → Act → List Entry
with_act h (Invalidate first last) = named_range (frames h) first last ∷ h
with_act h AskIdr = entry.IdrAsked ∷ h
with_act h (Input event) = h
with_act h Nothing = h

-- a session that has ended stays as it is
abbrev pub history_behind : List Entry → Act → List Entry
history_behind h act = if has_ended h then h else with_act h act

-- what comes of an act: nothing may, in a session that has ended, and a range may be one of frames that weren't sent
abbrev pub range_told : Result (Unit {0}) InvalidError → Result (Unit {0}) ToldError
range_told (Ok done) = Ok done
range_told (Err error) = Err (told_error_of error)

abbrev pub ask_told : Result (Unit {0}) EndedError → Result (Unit {0}) ToldError
ask_told (Ok done) = Ok done
ask_told (Err error) = Err told_error.Ended

abbrev pub applied_answer : List Entry → Act → Result (Unit {0}) ToldError
applied_answer h (Invalidate first last) = range_told (invalidate_answer h first last)
applied_answer h AskIdr = ask_told (ask_answer h)
applied_answer h (Input event) = Ok tt
applied_answer h Nothing = Ok tt

-- the act itself is answered where it was done
abbrev pub answer_with : Act → Result (Unit {0}) ToldError → Result Act ToldError
answer_with act (Ok done) = Ok act
answer_with act (Err error) = Err error

-- an act was done and answered, or refused
pub record IsActTold (before now : List Entry) (act : Act) (result : Result Act ToldError) : Type 0 where
  pub answer : result ≡ answer_with act (applied_answer before act)
  pub history : now ≡ history_behind before act
