-- A choice that was made: above which tick, and what the session keeps behind it.
use Rattle.std.proofs.Common.{◌≡◌, ◌<◌, ◌≤◌, ◌+◌, refl, List, ◌∷◌, Result, Ok, Err, ◌∙◌, arith, inl, inr}
use Rattle.std.specs.Prelude.{nat_lt, if◌then◌else◌}
use Rattle.std.proofs.lemmas.Bool.{cases_Bool, cond-true, cond-false, ltb-true}
use Rattle.gs_rtp.specs.Stream.{StreamSettings}
use Rattle.gs_tape.specs.Tick.{Tick}
use Rattle.gs_tape.specs.Limits.{most_ticks}
use Rattle.gs_refs.specs.declared.entry.Entry.{Entry}
use Rattle.gs_refs.specs.declared.sent.Sent.{Sent}
use Rattle.gs_refs.specs.declared.error.ChooseError.{ChooseError}
use Rattle.gs_refs.specs.declared.error.ChooseError.TheVariants as choose_error
use Rattle.gs_refs.specs.History.{frames, last_tick, has_ended}
use Rattle.gs_refs.specs.Answers.{next_sent, sent_entry, choose_answer}
use Rattle.gs_audio.specs.Sending.{Sending}
use Rattle.gs_host_core.specs.Hosting.{IsHostingSound}
use Rattle.gs_host_core.proofs.Turns.{last-sent}

abbrev later_answer : List Entry → Tick → Result Sent ChooseError
later_answer h t = if nat_lt (last_tick h) t.number then Ok (next_sent h t) else Err (choose_error.OldTick (last_tick h))

pub chosen-above : (h : List Entry) (t : Tick) (s : Sent) → Ok s ≡ choose_answer h t → last_tick h < t.number
chosen-above h t s e = elim (cases_Bool (has_ended h)) [
  | inl over ↦
      let it : Ok s ≡ Err choose_error.Ended = e ∙ cond-true (has_ended h) (Err choose_error.Ended) (later_answer h t) over in absurd (cc it)
  | inr goes_on ↦
      let it : Ok s ≡ later_answer h t = e ∙ cond-false (has_ended h) (Err choose_error.Ended) (later_answer h t) goes_on in
      elim (cases_Bool (nat_lt (last_tick h) t.number)) [
        | inl above ↦ ltb-true (last_tick h) t.number above
        | inr other ↦
            let old : Ok s ≡ Err (choose_error.OldTick (last_tick h)) =
            it ∙ cond-false (nat_lt (last_tick h) t.number) (Ok (next_sent h t)) (Err (choose_error.OldTick (last_tick h))) other in absurd (cc old)
      ]
]

-- a session that sent a later tick is as sound
pub sound-sent : (s : StreamSettings) (h : List Entry) (x : Sending) (t : Tick) → last_tick h < t.number → t.number ≤ most_ticks → IsHostingSound s h x
    → IsHostingSound s (sent_entry (next_sent h t) ∷ h) x
sound-sent s h x t above most is =
    let last : last_tick (sent_entry (next_sent h t) ∷ h) ≡ t.number = last-sent h (next_sent h t) in
    let sent : frames (sent_entry (next_sent h t) ∷ h) ≡ frames h + 1 = refl in
    record {
      packet = is.packet;
      same_settings = is.same_settings;
      few_frames = omega (arith, is.few_frames, last, sent);
      few_ticks = omega (arith, last);
      few_units = omega (arith, is.few_units, last);
    }
