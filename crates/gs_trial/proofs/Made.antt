-- A generated schedule over a generated file.
use Rattle.std.proofs.Common.{◌≡◌, ◌≤◌, ◌∙◌, ℕ, List, [], Option, Some, None, Ok, refl, ap, subst}
use Rattle.gs_tape.specs.Capture.{file}
use Rattle.gs_tape.specs.Generated.{generated}
use Rattle.gs_tape.specs.Reading.{ReadTape, read_tape, audio_length, audio_duration}
use Rattle.gs_feed.specs.Feeding.{Feeding, OpensFeed, IsFeedAt}
use Rattle.gs_command.specs.declared.command.Detail.TheVariants.{Sums}
use Rattle.gs_schedule.specs.declared.status.TrialStatus.{TrialStatus}
use Rattle.gs_schedule.specs.declared.status.TrialStatus.TheVariants as status
use Rattle.gs_schedule.specs.declared.step.Step.{Step}
use Rattle.gs_report.specs.Reporting.{Reporting}
use Rattle.gs_run.specs.CaptureFile.{CaptureFile, generated_file}
use Rattle.gs_run.specs.Generated.{generated_steps}
use Rattle.gs_run.specs.WholeRun.{GeneratedRunsHold}
use Rattle.gs_run.specs.Run.{IsStep, finished}
use Rattle.gs_run.specs.Session.{State, start}
use Rattle.gs_trial.specs.declared.trial.Trial.{Trial}
use Rattle.gs_trial.specs.Standing.{IsFeedOf, IsTrialOf}
use Rattle.gs_trial.specs.Running.{EndsRun, LedTo, WritesBehind}
use Rattle.gs_trial.specs.Trial.{AnswersMake}
use Rattle.gs_trial.proofs.OfSteps.{steps_some}
use Rattle.gs_trial.proofs.ReadAgain.{audio_is, duration_is, read_again}
use Rattle.gs_trial.proofs.Scripts.{finishes, quiet}
use Rattle.gs_trial.proofs.Texts.{front_none}

-- the feed of the file
pub made_feed : (number ticks : ℕ) (bytes : List ℕ) (feed : Feeding) (left : Option (List ℕ)) → ticks ≤ 2000 → bytes ≡ file 240 5 (generated number ticks)
    → OpensFeed (Some bytes) left (Ok feed) → IsFeedOf feed (generated_file number ticks) left
made_feed number ticks bytes feed left few is opens =
    let all : read_tape bytes ≡ record { ticks = generated number ticks; fault = None } = ap read_tape is ∙ read_again number ticks few in
    record {
      head = refl;
      stands = subst (λ (r : ReadTape). IsFeedAt feed left r.ticks r.fault) all opens.stands;
      audio = opens.audio_is ∙ ap audio_length is ∙ audio_is (generated number ticks);
      duration = opens.duration_is ∙ ap audio_duration is ∙ duration_is (generated number ticks);
    }

-- nothing was written
pub unmade : GeneratedRunsHold → (number ticks : ℕ) → ticks ≤ 2000 → (a : Option (List ℕ)) → AnswersMake number ticks a a status.OutOfMemory
unmade hold number ticks few a =
    let some = steps_some (generated_file number ticks) 1 (generated_steps ticks) start in
    record {
      run = some.0;
      is_run = some.1;
      writes = quiet Sums some.0 a status.OutOfMemory refl (front_none a []);
      holds = hold number ticks some.0 few some.1;
    }

ends : GeneratedRunsHold → (number ticks : ℕ) → ticks ≤ 2000 → (a b : Option (List ℕ)) (answer : TrialStatus)
    → EndsRun IsStep (record { detail = Sums; text = [] }) (generated_file number ticks) 1 (generated_steps ticks) start a b answer
    → AnswersMake number ticks a b answer
ends hold number ticks few a b answer e =
    record { run = e.run; is_run = e.runs; writes = e.writes; holds = hold number ticks e.run few e.runs }

-- a step ended it
pub make_ends : GeneratedRunsHold → (number ticks : ℕ) (before : Reporting) (bytes : List ℕ) (steps : List Step) (feed : Feeding) (trial : Trial)
    (a b left : Option (List ℕ)) (answer : TrialStatus)
    → ticks ≤ 2000 → bytes ≡ file 240 5 (generated number ticks) → steps ≡ generated_steps ticks → before ≡ record { detail = Sums; text = [] }
    → OpensFeed (Some bytes) left (Ok feed)
    → ((file : CaptureFile) (left : Option (List ℕ)) → IsFeedOf feed file left → IsTrialOf trial file left start)
    → ((file : CaptureFile) (state : State) → IsTrialOf trial file left state → EndsRun IsStep before file 1 steps state a b answer)
    → AnswersMake number ticks a b answer
make_ends hold number ticks before bytes steps feed trial a b left answer few is are sums opens stands run =
    let file = generated_file number ticks in
    ends hold number ticks few a b answer
    (subst (λ (r : Reporting). EndsRun IsStep r file 1 (generated_steps ticks) start a b answer) sums
    (subst (λ (l : List Step). EndsRun IsStep before file 1 l start a b answer) are (run file start (stands file left
    (made_feed number ticks bytes feed left few is opens)))))

-- all were run
pub make_finishes : GeneratedRunsHold → (number ticks : ℕ) (before : Reporting) (bytes : List ℕ) (steps : List Step) (feed : Feeding) (trial new : Trial)
    (a b c left left' : Option (List ℕ))
    (answer : TrialStatus) → ticks ≤ 2000 → bytes ≡ file 240 5 (generated number ticks) → steps ≡ generated_steps ticks
    → before ≡ record { detail = Sums; text = [] } → OpensFeed (Some bytes) left (Ok feed)
    → ((file : CaptureFile) (left : Option (List ℕ)) → IsFeedOf feed file left → IsTrialOf trial file left start)
    → ((file : CaptureFile) (state : State) → IsTrialOf trial file left state → (n : ℕ) × LedTo IsStep before file 1 steps state a b n [] new left')
    → ((file : CaptureFile) (state : State) → IsTrialOf new file left' state → WritesBehind new.reporter (finished file.fault state) b c answer)
    → AnswersMake number ticks a c answer
make_finishes hold number ticks before bytes steps feed trial new a b c left left' answer few is are sums opens stands run finish =
    make_ends hold number ticks before bytes steps feed trial a c left answer few is are sums opens stands
    (λ file state there. by file state (run file state there) (finish file))
  where
    by : (file : CaptureFile) (state : State) → (n : ℕ) × LedTo IsStep before file 1 steps state a b n [] new left'
        → ((state : State) → IsTrialOf new file left' state → WritesBehind new.reporter (finished file.fault state) b c answer)
        → EndsRun IsStep before file 1 steps state a c answer
    by file state led finish = finishes IsStep before file steps state a b c led.0 new left' answer led.1 finish
