-- Which bytes of the capture file were taken.
use Rattle.std.proofs.Common.{◌≡◌, ◌+◌, ◌∙◌, ℕ, Bool, true, List, Option, Some, Result, Ok, Err, refl, sym, ap, subst}
use Rattle.std.specs.Prelude.{IfErr, IsErrOf, ⊤}
use Rattle.std.specs.Result.{IsErrAnd}
use Rattle.std.proofs.lemmas.Result.{err_from_is_err_and}
use Rattle.gs_tape.specs.Tape.{Opened}
use Rattle.gs_tape.specs.declared.error.TapeError.{TapeError}
use Rattle.gs_tape.specs.declared.error.TapeError.TheVariants as tape_error
use Rattle.gs_feed.specs.Feeding.{Feeding}
use Rattle.gs_feed.specs.Cuts.{CapturesBytes, HasTaken, OpensBytes, StopsBehind, StopsInRest}
use Rattle.gs_schedule.specs.declared.status.TrialStatus.{TrialStatus}
use Rattle.gs_schedule.specs.declared.status.TrialStatus.TheVariants as status
use Rattle.gs_trial.specs.declared.error.StepError.{StepError}
use Rattle.gs_trial.specs.declared.error.StepError.TheVariants as step_error
use Rattle.gs_trial.specs.Standing.{FeedHasTaken}
use Rattle.gs_trial.specs.Stepping.{IsOwn, TakesBytes, tape_status}

-- ---- over the same feed

pub taken_same : (old new : Feeding) (bytes : List ℕ) (left : Option (List ℕ)) → new ≡ old → FeedHasTaken bytes old left → FeedHasTaken bytes new left
taken_same old new bytes left same had = subst (λ (f : Feeding). FeedHasTaken bytes f left) (sym same) had

-- a feed that was opened, before the first capture
pub taken_first : (bytes : List ℕ) (opened feed : Feeding) (left : Option (List ℕ)) → OpensBytes (Some bytes) left (Ok opened) → opened.count ≡ 0
    → feed ≡ opened → FeedHasTaken bytes feed left
taken_first bytes opened feed left opens none same =
    let at : HasTaken bytes opened.tape opened.count left = subst (λ (n : ℕ). HasTaken bytes opened.tape n left) (sym none) opens in
    taken_same opened feed bytes left same at

-- ---- a capture

took : (bytes : List ℕ) (before : ℕ) (tape : Opened) (new : Feeding) (left : Option (List ℕ)) (e : TapeError) → CapturesBytes bytes before tape left (Err e)
    → TakesBytes bytes before new left (Err (step_error.Tape e))
took bytes before tape new left tape_error.TapeFault cut = cut
took bytes before tape new left (tape_error.BadTape kind place) cut = tt
took bytes before tape new left (tape_error.TapeFull tick) cut = tt
took bytes before tape new left (tape_error.UnitTooLarge tick) cut = tt
took bytes before tape new left (tape_error.AudioLength length) cut = tt
took bytes before tape new left tape_error.OutOfMemory cut = tt

-- it has this error
pub takes_failed : (bytes : List ℕ) (before : ℕ) (tape : Opened) (new : Feeding) (left : Option (List ℕ)) (e : TapeError) (r : Result ⊤ StepError)
    → IsErrAnd r (λ y. y ≡ step_error.Tape e) → CapturesBytes bytes before tape left (Err e) → TakesBytes bytes before new left r
takes_failed bytes before tape new left e r is cut =
    let p = err_from_is_err_and r is in
    subst (TakesBytes bytes before new left) (sym (p.1 ∙ ap (λ (y : StepError). Err y) p.2)) (took bytes before tape new left e cut)

-- the next tick was there
pub takes_tick : (bytes : List ℕ) (before : ℕ) (tape : Opened) (new : Feeding) (left : Option (List ℕ)) (more : Bool) → more ≡ true
    → CapturesBytes bytes before tape left (Ok more) → new.tape ≡ tape → new.count ≡ before + 1 → FeedHasTaken bytes new left
takes_tick bytes before tape new left more is captures same count =
    let one : HasTaken bytes tape (before + 1) left = subst (λ (b : Bool). CapturesBytes bytes before tape left (Ok b)) is captures in
    let two : HasTaken bytes new.tape (before + 1) left = subst (λ (t : Opened). HasTaken bytes t (before + 1) left) (sym same) one in
    subst (λ (n : ℕ). HasTaken bytes new.tape n left) (sym count) two

-- ---- a step

-- it reads nothing of the capture file
pub takes_none : (old new : Feeding) (r : Result ⊤ StepError) (bytes : List ℕ) (left : Option (List ℕ)) → new ≡ old → IfErr r IsOwn
    → FeedHasTaken bytes old left → TakesBytes bytes old.count new left r
takes_none old new (Ok done) bytes left same own had = taken_same old new bytes left same had
takes_none old new (Err step_error.BadLine) bytes left same own had = tt
takes_none old new (Err step_error.OutOfMemory) bytes left same own had = tt
takes_none old new (Err (step_error.Tape e)) bytes left same own had = absurd own

-- its source failed
pub cut_step : (e : StepError) (bytes : List ℕ) (old here new : Feeding) (was left : Option (List ℕ)) → here ≡ old
    → e ≡ step_error.Tape tape_error.TapeFault → (FeedHasTaken bytes here was → TakesBytes bytes here.count new left (Err e))
    → FeedHasTaken bytes old was → StopsBehind bytes left old.count
cut_step e bytes old here new was left same is takes had =
    let at : StopsBehind bytes left here.count =
    subst (λ (x : StepError). TakesBytes bytes here.count new left (Err x)) is (takes (taken_same old here bytes was same had)) in
    subst (λ (f : Feeding). StopsBehind bytes left f.count) same at

-- ---- the rest of the file

fault_of_tape : (e : TapeError) → tape_status e ≡ status.TapeFault → e ≡ tape_error.TapeFault
fault_of_tape tape_error.TapeFault is = refl
fault_of_tape (tape_error.BadTape kind place) is = absurd cc
fault_of_tape (tape_error.TapeFull tick) is = absurd cc
fault_of_tape (tape_error.UnitTooLarge tick) is = absurd cc
fault_of_tape (tape_error.AudioLength length) is = absurd cc
fault_of_tape tape_error.OutOfMemory is = absurd cc

-- its source failed
pub cut_rest : (e : TapeError) (bytes : List ℕ) (old here : Feeding) (was left : Option (List ℕ)) (answer : TrialStatus) → here ≡ old
    → answer ≡ tape_status e → answer ≡ status.TapeFault
    → (FeedHasTaken bytes here was → IsErrOf {T = ⊤} (Err e) tape_error.TapeFault → StopsInRest bytes left here.count)
    → FeedHasTaken bytes old was → StopsInRest bytes left old.count
cut_rest e bytes old here was left answer same of is ends had =
    let F : TapeError → Result ⊤ TapeError = λ x. Err x in
    let fault : e ≡ tape_error.TapeFault = fault_of_tape e (sym of ∙ is) in
    subst (λ (f : Feeding). StopsInRest bytes left f.count) same (ends (taken_same old here bytes was same had) (ap F fault))
