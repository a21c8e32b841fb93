-- Histories of a session, and what its references do at a call.
use Rattle.std.proofs.Common.{◌≡◌, ◌⊎◌, ◌<◌, ◌||◌, ℕ, ℤ, Bool, true, false, length, List, [], ◌∷◌, ◌++◌, Result, Ok, Err, OnOk, OnErr, IfOk, refl, sym, ap}
use Rattle.std.proofs.Common.{subst, ◌∙◌, arith, inl, inr}
use Rattle.std.specs.Prelude.{if◌then◌else◌, nat_lt}
use Rattle.std.specs.List.{AllByRecursion}
use Rattle.std.specs.Arc.{arc_value}
use mathlib.Core.List.{IsPrefix}
use Rattle.std.proofs.lemmas.Bool.{cond-true, cond-false, cases_Bool, cases_eq}
use Rattle.std.proofs.lemmas.List.{length-append}
use Rattle.gs_refs.specs.declared.entry.Entry.{Entry}
use Rattle.gs_refs.specs.declared.entry.Entry.TheVariants as entry
use Rattle.gs_refs.specs.declared.sent.Sent.{Sent}
use Rattle.gs_refs.specs.declared.error.ChooseError as refs_choose
use Rattle.gs_refs.specs.declared.error.ChooseError.TheVariants as refs_choose_error
use Rattle.gs_refs.specs.declared.error.InvalidError as refs_invalid
use Rattle.gs_refs.specs.declared.error.EndedError as refs_ended
use Rattle.gs_refs.specs.declared.error.EndedError.TheVariants as refs_ended_error
use Rattle.gs_refs.specs.History.{frames, last_tick, has_ended}
use Rattle.gs_refs.specs.Answers.{References, next_sent, sent_entry, choose_answer, named_range, invalidate_answer, ask_answer}
use Rattle.gs_turn.specs.declared.turned.Turned.{Ghosts}
use Rattle.gs_turn.specs.declared.pass.Pass.{Pass}
use Rattle.gs_turn.specs.declared.turn.Turn.{Turn}
use Rattle.gs_turn.specs.Cells.{IsNewPass, AreNewPasses}
use Rattle.gs_turn.specs.History.{Leaves, HasOwn, Front, has_number}
use Rattle.gs_session.specs.declared.call.Call.{Call}
use Rattle.gs_session.specs.declared.call.Call.TheVariants.{Choose, Invalidate, AskIdr}
use Rattle.gs_session.specs.declared.call.Reply.{Reply}
use Rattle.gs_session.specs.declared.call.Reply.TheVariants.{Chosen, Taken, Asked}
use Rattle.gs_session.specs.declared.session.Session.{Session}
use Rattle.gs_session.specs.declared.pass.SessionPass.{SessionPass}
use Rattle.gs_session.specs.Errors.{choose_error, invalid_error, ended_error, with_error}
use Rattle.gs_session.specs.Replies.{MayReply, IsAnswered, IsRefused, session_reply, out_of_memory, is_choice, is_invalidation, is_idr_request}
use Rattle.gs_session.specs.Sessions.{SessionCall, opening_of, front, made_by, IsHistory, EndsWith}
use Rattle.gs_bytes.proofs.Lists.{prefix_trans}

-- the last call of a history was answered behind those before it
leaves-last : (s : References) (h : List SessionCall) (e : SessionCall) (t : References) → Leaves MayReply s (h ++ e ∷ []) t
    → (b : References) × Leaves MayReply s h b × MayReply b e.call e.reply t
leaves-last s [] e t (u, step, done) = (s, refl, subst (λ (x : References). MayReply s e.call e.reply x) done step)
leaves-last s (d ∷ ds) e t (u, step, rest) = let last = leaves-last u ds e t rest in (last.0, (u, step, last.1), last.2)

answered : (b : References) (call : Call) (reply : Reply) (t : References) → MayReply b call reply t → (reply ≡ session_reply b.history call)
    ⊎ (reply ≡ out_of_memory call)
answered b call reply t (inl is) = inl is.answer
answered b call reply t (inr is) = inr is.answer

pub ends-with : (s : Session) (old new : SessionPass) (call : Call) (reply : Reply) → IsHistory s (front new)
    → (between : List SessionCall) × (front new ≡ (front old ++ between) ++ made_by old call reply ∷ []) → EndsWith s old new call reply
ends-with s old new call reply (t, leaves) (between, ends) =
    let last = leaves-last (opening_of s) (front old ++ between) (made_by old call reply) t
    (subst (λ (l : List SessionCall). Leaves MayReply (opening_of s) l t) ends leaves) in
    record {
      earlier = front old ++ between;
      ends = ends;
      begins = (between, refl);
      before = last.0;
      leaves = last.1;
      answer = answered last.0 call reply t last.2;
    }

-- ---- each call has replies of its own

pub is-chosen : (s : Session) (old new : SessionPass) (tick : _) (reply : Reply) → EndsWith s old new (Choose tick) reply → is_choice reply ≡ true
is-chosen s old new tick reply ends = elim ends.answer [ inl e ↦ ap is_choice e | inr e ↦ ap is_choice e ]

pub is-taken : (s : Session) (old new : SessionPass) (first last : ℤ) (reply : Reply) → EndsWith s old new (Invalidate first last) reply
    → is_invalidation reply ≡ true
is-taken s old new first last reply ends = elim ends.answer [ inl e ↦ ap is_invalidation e | inr e ↦ ap is_invalidation e ]

pub is-asked : (s : Session) (old new : SessionPass) (reply : Reply) → EndsWith s old new AskIdr reply → is_idr_request reply ≡ true
is-asked s old new reply ends = elim ends.answer [ inl e ↦ ap is_idr_request e | inr e ↦ ap is_idr_request e ]

-- ---- the references at a call

pub refused : (h now : List Entry) (call : Call) → now ≡ h → IsRefused h call (out_of_memory call) now
refused h now call same = record { answer = refl; history = same }

after-choose : (h now : List Entry) (ended later : Bool) (s : Sent) (old : refs_choose.ChooseError) (r : Result Sent refs_choose.ChooseError)
    → r ≡ (if ended then Err refs_choose_error.Ended else (if later then Ok s else Err old)) → OnErr r (now ≡ h) → IfOk r (λ x. now ≡ sent_entry x ∷ h)
    → now ≡ (if ended then h else (if later then sent_entry s ∷ h else h))
after-choose h now true later s old r e err ok = subst (λ (x : Result Sent refs_choose.ChooseError). OnErr x (now ≡ h)) e err
after-choose h now false true s old r e err ok = subst (λ (x : Result Sent refs_choose.ChooseError). IfOk x (λ y. now ≡ sent_entry y ∷ h)) e ok
after-choose h now false false s old r e err ok = subst (λ (x : Result Sent refs_choose.ChooseError). OnErr x (now ≡ h)) e err

pub answered-choose : (h now : List Entry) (tick : _) (r : Result Sent refs_choose.ChooseError) → r ≡ choose_answer h (arc_value tick) → OnErr r (now ≡ h)
    → IfOk r (λ x. now ≡ sent_entry x ∷ h) → IsAnswered h (Choose tick) (Chosen (with_error choose_error r)) now
answered-choose h now tick r e err ok = record {
  answer = ap (λ (x : Result Sent refs_choose.ChooseError). Chosen (with_error choose_error x)) e;
  history = after-choose h now (has_ended h) (nat_lt (last_tick h) (arc_value tick).number) (next_sent h (arc_value tick))
      (refs_choose_error.OldTick (last_tick h)) r e err ok;
}

pub answered-invalidate : (h now : List Entry) (first last : ℤ) (r : Result (Unit {0}) refs_invalid.InvalidError) → r ≡ invalidate_answer h first last
    → (has_ended h ≡ true → now ≡ h) → (has_ended h ≡ false → now ≡ named_range (frames h) first last ∷ h)
    → IsAnswered h (Invalidate first last) (Taken (with_error invalid_error r)) now
answered-invalidate h now first last r e same named = record {
  answer = ap (λ (x : Result (Unit {0}) refs_invalid.InvalidError). Taken (with_error invalid_error x)) e;
  history = elim (cases_Bool (has_ended h)) [
    | inl is ↦ same is ∙ sym (cond-true (has_ended h) h (named_range (frames h) first last ∷ h) is)
    | inr is ↦ named is ∙ sym (cond-false (has_ended h) h (named_range (frames h) first last ∷ h) is)
  ];
}

after-ask : (h now : List Entry) (ended : Bool) (r : Result (Unit {0}) refs_ended.EndedError) → r ≡ (if ended then Err refs_ended_error.Ended else Ok tt)
    → OnErr r (now ≡ h) → OnOk r (now ≡ entry.IdrAsked ∷ h) → now ≡ (if ended then h else entry.IdrAsked ∷ h)
after-ask h now true r e err ok = subst (λ (x : Result (Unit {0}) refs_ended.EndedError). OnErr x (now ≡ h)) e err
after-ask h now false r e err ok = subst (λ (x : Result (Unit {0}) refs_ended.EndedError). OnOk x (now ≡ entry.IdrAsked ∷ h)) e ok

pub answered-ask : (h now : List Entry) (r : Result (Unit {0}) refs_ended.EndedError) → r ≡ ask_answer h → OnErr r (now ≡ h) → OnOk r (now ≡ entry.IdrAsked ∷ h)
    → IsAnswered h AskIdr (Asked (with_error ended_error r)) now
answered-ask h now r e err ok = record {
  answer = ap (λ (x : Result (Unit {0}) refs_ended.EndedError). Asked (with_error ended_error x)) e;
  history = after-ask h now (has_ended h) r e err ok;
}

-- ---- the calls of two passes

own-left : (xs ys : List (ℕ × List SessionCall)) (h : List SessionCall) → HasOwn (xs ++ ys) h → HasOwn xs h
own-left [] ys h all = tt
own-left (x ∷ xs) ys h all = (all.0, own-left xs ys h all.1)

own-right : (xs ys : List (ℕ × List SessionCall)) (h : List SessionCall) → HasOwn (xs ++ ys) h → HasOwn ys h
own-right [] ys h all = all
own-right (x ∷ xs) ys h all = own-right xs ys h all.1

-- the front of two passes that were joined is one of each
pub front-left : (xs both : List SessionCall) (own own' : List (ℕ × List SessionCall)) (h : List SessionCall) → IsPrefix xs both → Front both (own ++ own') h
    → Front xs own h
front-left xs both own own' h begins is = record { begins = prefix_trans xs both h begins is.begins; own_calls = own-left own own' h is.own_calls }

pub front-right : (xs both : List SessionCall) (own own' : List (ℕ × List SessionCall)) (h : List SessionCall) → IsPrefix xs both → Front both (own ++ own') h
    → Front xs own' h
front-right xs both own own' h begins is = record { begins = prefix_trans xs both h begins is.begins; own_calls = own-right own own' h is.own_calls }

-- ---- the two passes

pub two-passes : {S C R : Type 0} {g : Ghosts S C R} (t : Turn S C R) (items rest : List (Pass S C R g)) (first second : Pass S C R g) → AreNewPasses t 0 items
    → length items ≡ 2 → items ≡ (rest ++ first ∷ []) ++ second ∷ [] → IsNewPass t 0 first × IsNewPass t 1 second
two-passes t items [] first second new count is =
    let all = subst (λ (l : List _). AreNewPasses t 0 l) is new in (all.0, all.1.0)
two-passes t items (p ∷ ps) first second new count is =
    let more = ap length is in
    let one = length-append ((p ∷ ps) ++ first ∷ []) (second ∷ []) in
    let two = length-append (p ∷ ps) (first ∷ []) in
    absurd (omega (arith, count, more, one, two))

abbrev pub Numbers : Type 0
Numbers = List (ℕ × List SessionCall)

-- the pass of both has their numbers
pub both-numbers : (keep first second : Numbers) (passes : ℕ) → passes ≡ 2
    → ((number : ℕ) → has_number number keep ≡ (has_number number first || has_number number second)) → has_number 0 first ≡ true → has_number 1 second ≡ true
    → (number : ℕ) → number < passes → has_number number keep ≡ true
both-numbers keep first second passes two both zeroth one number under = elim (cases_eq number 0) [
  | inl is ↦
      subst (λ (n : ℕ). has_number n keep ≡ true) (sym is) (both 0 ∙ ap (λ (b : Bool). b || has_number 0 second) zeroth)
  | inr other ↦
      let is : number ≡ 1 = omega (arith, two) in
      subst (λ (n : ℕ). has_number n keep ≡ true) (sym is) (both 1 ∙ either (has_number 1 first) (has_number 1 second) one)
]
  where
    either : (a b : Bool) → b ≡ true → (a || b) ≡ true
    either true b e = refl
    either false b e = e

pub all-numbered : (keep first second : Numbers) (h : List SessionCall)
    → ((number : ℕ) → has_number number keep ≡ (has_number number first || has_number number second))
    → AllByRecursion (λ (e : SessionCall). has_number e.number keep ≡ true) h
    → AllByRecursion (λ (e : SessionCall). (has_number e.number first || has_number e.number second) ≡ true) h
all-numbered keep first second [] both all = tt
all-numbered keep first second (e ∷ es) both all = (sym (both e.number) ∙ all.0, all-numbered keep first second es both all.1)
