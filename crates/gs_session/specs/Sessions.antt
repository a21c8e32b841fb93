-- What a contract sees of a session and of its passes.
use Rattle.std.specs.Prelude.{◌≡◌, ℕ, ◌++◌, ◌⊎◌, List, [], ◌∷◌, true}
use mathlib.Core.List.{IsPrefix}
use Rattle.gs_refs.specs.Answers.{References}
use Rattle.gs_turn.specs.declared.turn_call.TurnCall.{TurnCall}
use Rattle.gs_turn.specs.History.{Leaves, TurnHistory, has_number, turn_call, least_number}
use Rattle.gs_turn.specs.Cells as cell
use Rattle.gs_session.specs.declared.call.Call.{Call}
use Rattle.gs_session.specs.declared.call.Reply.{Reply}
use Rattle.gs_session.specs.declared.session.Session.{Session}
use Rattle.gs_session.specs.declared.pass.SessionPass.{SessionPass}
use Rattle.gs_session.specs.Replies.{MayReply, session_reply, out_of_memory}

-- one call of a session's history, with the number of the pass that made it and its reply
abbrev pub SessionCall : Type 0
SessionCall = TurnCall Call Reply

-- the references with which the session opened
abbrev pub opening_of : Session → References
opening_of s = cell.opening_of s.turn

-- the beginning of the session's history that the pass knows
abbrev pub front : SessionPass → List SessionCall
front p = cell.front p.pass

-- the numbers of the pass, each with the calls made under it
abbrev pub own : SessionPass → List (ℕ × List SessionCall)
own p = cell.own p.pass

-- it is a pass of this session
abbrev pub IsPassOf : Session → SessionPass → Type 0
IsPassOf s p = cell.IsPassOf s.turn p.pass

-- a pass of this session with one number, with nothing seen and no call made
abbrev pub IsNewPass : Session → ℕ → SessionPass → Type 0
IsNewPass s number p = cell.IsNewPass s.turn number p.pass

-- it is a pass of this session and has this number
abbrev pub HasPlace : Session → ℕ → SessionPass → Type 0
HasPlace s number p = IsPassOf s p × (has_number number (own p) ≡ true)

-- made in order from the opening, the calls leave these references
abbrev pub LeavesRefs : Session → List SessionCall → References → Type 0
LeavesRefs s h refs = Leaves MayReply (opening_of s) h refs

-- each reply of the history is one that the references may give behind the calls before it
abbrev pub IsHistory : Session → List SessionCall → Type 0
IsHistory s h = TurnHistory MayReply (opening_of s) h

-- a call of the pass, which counts for its least number
abbrev pub made_by : SessionPass → Call → Reply → SessionCall
made_by p call reply = turn_call (least_number (own p)) call reply

-- What the pass knows ends with the call, behind all that it knew. There the call was answered as the references of one
-- thread answer it, or there was no memory for its entry.
pub record EndsWith (s : Session) (old new : SessionPass) (call : Call) (reply : Reply) : Type 0 where
  pub earlier : List SessionCall
  pub ends : front new ≡ earlier ++ made_by old call reply ∷ []
  pub begins : IsPrefix (front old) earlier
  pub before : References
  pub leaves : LeavesRefs s earlier before
  pub answer : (reply ≡ session_reply before.history call) ⊎ (reply ≡ out_of_memory call)
