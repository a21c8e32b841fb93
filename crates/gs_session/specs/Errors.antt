-- The refusals of a session's references, as this crate answers them.
use Rattle.std.specs.Prelude.{Result, Ok, Err}
use Rattle.gs_refs.specs.declared.error.ChooseError as refs_choose
use Rattle.gs_refs.specs.declared.error.ChooseError.TheVariants as refs_choose_error
use Rattle.gs_refs.specs.declared.error.InvalidError as refs_invalid
use Rattle.gs_refs.specs.declared.error.InvalidError.TheVariants as refs_invalid_error
use Rattle.gs_refs.specs.declared.error.EndedError as refs_ended
use Rattle.gs_refs.specs.declared.error.EndedError.TheVariants as refs_ended_error
use Rattle.gs_session.specs.declared.error.ChooseError.{ChooseError}
use Rattle.gs_session.specs.declared.error.ChooseError.TheVariants as choose
use Rattle.gs_session.specs.declared.error.InvalidError.{InvalidError}
use Rattle.gs_session.specs.declared.error.InvalidError.TheVariants as invalid
use Rattle.gs_session.specs.declared.error.EndedError.{EndedError}
use Rattle.gs_session.specs.declared.error.EndedError.TheVariants as ended

abbrev pub choose_error : refs_choose.ChooseError → ChooseError
choose_error refs_choose_error.Ended = choose.Ended
choose_error (refs_choose_error.OldTick last) = choose.OldTick last

abbrev pub invalid_error : refs_invalid.InvalidError → InvalidError
invalid_error refs_invalid_error.Ended = invalid.Ended
invalid_error (refs_invalid_error.BadRange sent) = invalid.BadRange sent

abbrev pub ended_error : refs_ended.EndedError → EndedError
ended_error refs_ended_error.Ended = ended.Ended

-- the same answer, with the refusal as this crate names it
abbrev pub with_error : {T D E : Type 0} → (D → E) → Result T D → Result T E
with_error f (Ok x) = Ok x
with_error f (Err e) = Err (f e)
