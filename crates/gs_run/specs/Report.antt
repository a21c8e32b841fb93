-- What a run reports, and its text.
use Rattle.std.specs.Prelude.{ℕ, Bool, true, false, List, [], ◌∷◌, ◌++◌, length, Option, Some, None, if◌then◌else◌}
use Rattle.std.specs.List.{flat_map}
use Rattle.gs_frames.specs.declared.range.Range.{Range}
use Rattle.gs_frames.specs.Handed.{Handed}
use Rattle.gs_schedule.specs.declared.output.Output.{Output}
use Rattle.gs_schedule.specs.declared.output.Output.TheVariants as output
use Rattle.gs_schedule.specs.Output.{output_line}
use Rattle.gs_audio.specs.Played.{PlayedUnit}
use Rattle.gs_command.specs.declared.command.Detail.{Detail}
use Rattle.gs_command.specs.declared.command.Detail.TheVariants.{Bytes, Brief, Sums}

-- a line, and the unit that is handed or played with it
pub record Report : Type 0 where
  pub output : Output
  pub unit : Option (List ℕ)

abbrev pub plain : Output → Report
plain output = record { output = output; unit = None }

abbrev pub ask_report : ℕ → Range → Report
ask_report session range = plain (output.Ask session range.first range.last)

abbrev pub hand_report : ℕ → Handed → Report
hand_report session frame = record {
  output = output.Hand session frame.frame frame.kind (length frame.unit);
  unit = Some frame.unit;
}

abbrev pub play_report : ℕ → PlayedUnit → Report
play_report session played = record {
  output = output.Play session played.number (length played.bytes);
  unit = Some played.bytes;
}

-- a value, and what was reported on the way to it
pub record Acted (A : Type 0) : Type 0 where
  pub value : A
  pub reports : List Report

abbrev pub quietly : {A : Type 0} → A → Acted A
quietly value = record { value = value; reports = [] }

abbrev pub reporting : {A : Type 0} → Output → A → Acted A
reporting output value = record { value = value; reports = plain output ∷ [] }

-- the one and then the other, with the reports of both
infixl 10 ◌>>=◌
abbrev pub ◌>>=◌ : {A B : Type 0} → Acted A → (A → Acted B) → Acted B
first >>= next = record {
  value = (next first.value).value;
  reports = first.reports ++ (next first.value).reports;
}

-- ---- the text

abbrev pub unit_text : Option (List ℕ) → List ℕ
unit_text None = []
unit_text (Some unit) = unit ++ 10 ∷ []

abbrev pub is_sum : Output → Bool
is_sum (output.Total session frames handed asks inputs units) = true
is_sum output.Done = true
is_sum _ = false

-- each line with the unit behind it, each line alone, or no line but the sums and the last
abbrev pub report_text : Detail → Report → List ℕ
report_text Bytes report = output_line report.output ++ unit_text report.unit
report_text Brief report = output_line report.output
report_text Sums report = if is_sum report.output then output_line report.output else []

abbrev pub text_of : Detail → List Report → List ℕ
text_of detail reports = flat_map (report_text detail) reports
