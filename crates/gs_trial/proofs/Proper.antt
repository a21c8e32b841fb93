-- What is known of a step that a line spells.
use Rattle.std.proofs.Common.{List, ℕ}
use Rattle.gs_schedule.specs.Step.{Spells}
use Rattle.gs_schedule.specs.declared.step.Step.{Step}
use Rattle.gs_schedule.specs.declared.step.Step.TheVariants as step
use Rattle.gs_trial.specs.Stepping.{IsStepAllowed}

pub proper : (line : List ℕ) (s : Step) → Spells line s → IsStepAllowed s
proper line step.Blank spells = tt
proper line (step.Session packet percentage minimum window) spells = tt
proper line step.Cap spells = tt
proper line (step.Send session) spells = tt
proper line (step.Video session k) spells = tt
proper line (step.Audio session k) spells = tt
proper line (step.Videos session first last) spells = spells.1
proper line (step.Up session k) spells = tt
proper line (step.Down session k) spells = tt
proper line (step.Input session event) spells = (spells.0.known, spells.0.button)
proper line (step.Idr session) spells = tt
proper line (step.Time by) spells = tt
proper line (step.Pump session every) spells = tt
proper line (step.Close session) spells = tt
proper line (step.Reset session) spells = tt
