-- What a host's answer to a message says of the run.
use Rattle.std.specs.Prelude.{ℤ, unsigned_abs, Result, Ok, Err, if◌then◌else◌}
use Rattle.std.proofs.Common.{◌≡◌, ◌⊎◌, inl, inr, ℕ, Bool, true, false, List, [], ◌∷◌, Option, Some, None, refl, sym, ap, subst, ◌∙◌}
use Rattle.gs_rtp.specs.Stream.{StreamSettings}
use Rattle.gs_tape.specs.Tick.{Tick}
use Rattle.gs_refs.specs.declared.entry.Entry.{Entry}
use Rattle.gs_refs.specs.declared.entry.Entry.TheVariants as entry
use Rattle.gs_refs.specs.declared.error.InvalidError.TheVariants as invalid_error
use Rattle.gs_refs.specs.declared.error.EndedError.TheVariants as ended_error
use Rattle.gs_refs.specs.History.{frames, last_tick, has_ended}
use Rattle.gs_refs.specs.Answers.{is_range_sent}
use Rattle.gs_stream.specs.Video.{video_stream}
use Rattle.gs_stream.specs.Audio.{audio_stream, audio_units}
use Rattle.gs_schedule.specs.declared.output.Output.{Output}
use Rattle.gs_schedule.specs.declared.output.Output.TheVariants as output
use Rattle.gs_host_core.specs.declared.act.Act.{Act}
use Rattle.gs_host_core.specs.declared.act.Act.TheVariants as act
use Rattle.gs_host_core.specs.declared.error.ToldError.{ToldError}
use Rattle.gs_host_core.specs.declared.error.ToldError.TheVariants as told_error
use Rattle.gs_host_core.specs.Acts.{IsActTold, history_behind, range_told, ask_told, answer_with}
use Rattle.gs_host_core.specs.ActOf.{act_of}
use Rattle.gs_host_core.specs.Hosting.{Hosting, StandsOver}
use Rattle.gs_host_core.proofs.Acted.{frames-quiet, last-quiet, quiet, video-quiet}
use Rattle.gs_run.specs.Report.{Report, Acted, plain, quietly, reporting}
use Rattle.gs_run.specs.Hearing.{acts_on, entered}
use Rattle.gs_host_end.specs.Heard.{Hears, KeepsHosting, done_line, reported_line}

-- ---- what stays as it was

audio-quiet : (s : StreamSettings) (ticks : List Tick) (h : List Entry) (a : Act)
    → audio_stream s ticks (history_behind h a) ≡ audio_stream s ticks h
unfolding audio_stream audio_units
audio-quiet s ticks h a = quiet (audio_stream s ticks) (λ first last l. refl) (λ l. refl) (λ first last l. refl) h a

pub keeps-same : (old : Hosting) → KeepsHosting old old
keeps-same old = record {
  settings = refl;
  sent = refl;
  last = refl;
  video = λ s ticks. refl;
  audio = λ s ticks. refl;
  stands = λ ticks h. h;
}

pub keeps-then : (old now new : Hosting) → KeepsHosting old now → KeepsHosting now new → KeepsHosting old new
keeps-then old now new k l = record {
  settings = l.settings ∙ k.settings;
  sent = l.sent ∙ k.sent;
  last = l.last ∙ k.last;
  video = λ s ticks. l.video s ticks ∙ k.video s ticks;
  audio = λ s ticks. l.audio s ticks ∙ k.audio s ticks;
  stands = λ ticks h. l.stands ticks (k.stands ticks h);
}

-- by what a host that was told a message says of its act
abbrev pub Told : Hosting → Hosting → Act → Result Act ToldError → Type 0
Told old new a result = IsActTold old.history new.history a result ⊎ ((result ≡ Err told_error.OutOfMemory) × (new ≡ old))

pub keeps-told : (old new : Hosting) (a : Act) (result : Result Act ToldError) → new.settings ≡ old.settings
    → ((ticks : List Tick) → StandsOver old ticks → StandsOver new ticks) → Told old new a result → KeepsHosting old new
keeps-told old new a result settings stands (inr same) = subst (λ (v : Hosting). KeepsHosting old v) (sym same.1) (keeps-same old)
keeps-told old new a result settings stands (inl told) = record {
  settings = settings;
  sent = ap frames told.history ∙ frames-quiet old.history a;
  last = ap last_tick told.history ∙ last-quiet old.history a;
  video = λ s ticks. ap (video_stream s ticks) told.history ∙ video-quiet s ticks old.history a;
  audio = λ s ticks. ap (audio_stream s ticks) told.history ∙ audio-quiet s ticks old.history a;
  stands = stands;
}

told-ok : (old new : Hosting) (a b : Act) → Told old new a (Ok b) → IsActTold old.history new.history a (Ok b)
told-ok old new a b (inl told) = told
told-ok old new a b (inr none) = absurd (let e = none.0 in cc)

told-ended : (old new : Hosting) (a : Act) → Told old new a (Err told_error.Ended) → IsActTold old.history new.history a (Err told_error.Ended)
told-ended old new a (inl told) = told
told-ended old new a (inr none) = absurd (let e = none.0 in cc)

told-bad : (old new : Hosting) (a : Act) (n : ℕ) → Told old new a (Err (told_error.BadRange n))
    → IsActTold old.history new.history a (Err (told_error.BadRange n))
told-bad old new a n (inl told) = told
told-bad old new a n (inr none) = absurd (let e = none.0 in cc)

-- ---- what is done

abbrev Done : ℕ → ℕ → Act → List Entry → List Entry → Option Output → Type 0
Done session channel a h now line = Hears (acts_on session channel a h) now line

-- a history that stays, with what is reported
stays : (over : Bool) (h now : List Entry) (reports : List Report) → now ≡ (if over then h else h)
    → ◌≡◌ {A = Acted (List Entry)} (record { value = h; reports = reports }) (record { value = now; reports = reports })
stays true h now reports e = ap (λ (v : List Entry). record { value = v; reports = reports }) (sym e)
stays false h now reports e = ap (λ (v : List Entry). record { value = v; reports = reports }) (sym e)

-- one that gains an entry, unless it has ended
gains : (over : Bool) (h now : List Entry) (e : Entry) (o : Output) → over ≡ false → now ≡ (if over then h else e ∷ h)
    → (if over then quietly h else reporting o (e ∷ h)) ≡ record { value = now; reports = plain o ∷ [] }
gains true h now e o is same = absurd cc
gains false h now e o is same = ap (λ (v : List Entry). record { value = v; reports = plain o ∷ [] }) (sym same)

over_stays : (over : Bool) (h now : List Entry) (e : Entry) (o : Output) → over ≡ true → now ≡ (if over then h else e ∷ h)
    → (if over then quietly h else reporting o (e ∷ h)) ≡ record { value = now; reports = [] }
over_stays true h now e o is same = ap (λ (v : List Entry). record { value = v; reports = [] }) (sym same)
over_stays false h now e o is same = absurd cc

abbrev asked : Bool → Result (Unit {0}) ToldError
asked over = ask_told (if over then Err ended_error.Ended else Ok tt)

abbrev ranged : Bool → Bool → ℕ → Result (Unit {0}) ToldError
ranged over sent count = range_told (if over then Err invalid_error.Ended else if sent then Ok tt else Err (invalid_error.BadRange count))

asked-ok : (over : Bool) (a b : Act) → Ok b ≡ answer_with a (asked over) → over ≡ false
asked-ok false a b e = refl
asked-ok true a b e = absurd cc

asked-ended : (over : Bool) (a : Act) → Err told_error.Ended ≡ answer_with a (asked over) → over ≡ true
asked-ended true a e = refl
asked-ended false a e = absurd cc

asked-bad : (over : Bool) (a : Act) (n : ℕ) → Err (told_error.BadRange n) ≡ answer_with a (asked over) → ⊥
asked-bad true a n e = cc
asked-bad false a n e = cc

ranged-ok : (over sent : Bool) (count : ℕ) (a b : Act) → Ok b ≡ answer_with a (ranged over sent count) → (over ≡ false) × (sent ≡ true)
ranged-ok false true count a b e = (refl, refl)
ranged-ok true sent count a b e = absurd cc
ranged-ok false false count a b e = absurd cc

ranged-ended : (over sent : Bool) (count : ℕ) (a : Act) → Err told_error.Ended ≡ answer_with a (ranged over sent count) → over ≡ true
ranged-ended true sent count a e = refl
ranged-ended false true count a e = absurd cc
ranged-ended false false count a e = absurd cc

ranged-bad : (over sent : Bool) (count n : ℕ) (a : Act) → Err (told_error.BadRange n) ≡ answer_with a (ranged over sent count)
    → (over ≡ false) × (sent ≡ false)
ranged-bad false false count n a e = (refl, refl)
ranged-bad true sent count n a e = absurd cc
ranged-bad false true count n a e = absurd cc

abbrev named : Bool → ℤ → ℤ → Entry
named sent first last = if sent then entry.Invalid (unsigned_abs first) (unsigned_abs last) else entry.Ended first last

-- an entry that is named by a range, by whether it was sent
as_named : (session : ℕ) (h now : List Entry) (first last : ℤ) (over sent wanted : Bool) (line : Option Output) → sent ≡ wanted
    → (now ≡ (if over then h else named wanted first last ∷ h)
    → (if over then quietly h else entered session (named wanted first last) h) ≡ record { value = now; reports = reported_line line })
    → now ≡ (if over then h else named sent first last ∷ h)
    → (if over then quietly h else entered session (named sent first last) h) ≡ record { value = now; reports = reported_line line }
as_named session h now first last over true true line e f = f
as_named session h now first last over false false line e f = f
as_named session h now first last over true false line e f = absurd cc
as_named session h now first last over false true line e f = absurd cc

pub done : (session channel : ℕ) (h now : List Entry) (a b : Act) → IsActTold h now a (Ok b) → Done session channel a h now (done_line session channel a)
done session channel h now act.Nothing b t = stays (has_ended h) h now [] t.history
done session channel h now (act.Input event) b t =
    stays (has_ended h) h now (plain (output.Input session channel event) ∷ []) t.history
done session channel h now act.AskIdr b t =
    gains (has_ended h) h now entry.IdrAsked (output.Idr session) (asked-ok (has_ended h) act.AskIdr b t.answer) t.history
done session channel h now (act.Invalidate first last) b t =
    let is = ranged-ok (has_ended h) (is_range_sent (frames h) first last) (frames h) (act.Invalidate first last) b t.answer in
    as_named session h now first last (has_ended h) (is_range_sent (frames h) first last) true (done_line session channel (act.Invalidate first last)) is.1
    (gains (has_ended h) h now (entry.Invalid (unsigned_abs first) (unsigned_abs last))
    (output.Invalid session (unsigned_abs first) (unsigned_abs last)) is.0)
    t.history

-- nothing is done in a session that has ended
pub refused : (session channel : ℕ) (h now : List Entry) (a : Act) → IsActTold h now a (Err told_error.Ended) → Done session channel a h now None
refused session channel h now act.Nothing t = absurd (let e = t.answer in cc)
refused session channel h now (act.Input event) t = absurd (let e = t.answer in cc)
refused session channel h now act.AskIdr t =
    over_stays (has_ended h) h now entry.IdrAsked (output.Idr session) (asked-ended (has_ended h) act.AskIdr t.answer) t.history
refused session channel h now (act.Invalidate first last) t =
    let over = ranged-ended (has_ended h) (is_range_sent (frames h) first last) (frames h) (act.Invalidate first last) t.answer in
    by (is_range_sent (frames h) first last) over t.history
  where
    by : (sent : Bool) → has_ended h ≡ true → now ≡ (if has_ended h then h else named sent first last ∷ h)
        → (if has_ended h then quietly h else entered session (named sent first last) h) ≡ record { value = now; reports = [] }
    by true over same = over_stays (has_ended h) h now (named true first last) (output.Invalid session (unsigned_abs first) (unsigned_abs last)) over same
    by false over same = over_stays (has_ended h) h now (named false first last) (output.Ended session first last) over same

-- a range of frames that weren't sent ends the session
pub record Ends (session channel : ℕ) (h now : List Entry) (a : Act) : Type 0 where
  pub first : ℤ
  pub last : ℤ
  pub act_is : a ≡ act.Invalidate first last
  pub done : Done session channel a h now (Some (output.Ended session first last))

pub ended : (session channel : ℕ) (h now : List Entry) (a : Act) (n : ℕ) → IsActTold h now a (Err (told_error.BadRange n)) → Ends session channel h now a
ended session channel h now act.Nothing n t = absurd (let e = t.answer in cc)
ended session channel h now (act.Input event) n t = absurd (let e = t.answer in cc)
ended session channel h now act.AskIdr n t = absurd (asked-bad (has_ended h) act.AskIdr n t.answer)
ended session channel h now (act.Invalidate first last) n t =
    let is = ranged-bad (has_ended h) (is_range_sent (frames h) first last) (frames h) n (act.Invalidate first last) t.answer in
    record {
      first = first;
      last = last;
      act_is = refl;
      done = as_named session h now first last (has_ended h) (is_range_sent (frames h) first last) false (Some (output.Ended session first last)) is.1
          (gains (has_ended h) h now (entry.Ended first last) (output.Ended session first last) is.0) t.history;
    }

-- ---- by the bytes

abbrev Heard : ℕ → ℕ → List ℕ → Hosting → Hosting → Option Output → Type 0
Heard session channel bytes old new line = Hears (acts_on session channel (act_of bytes) old.history) new.history line

pub heard-done : (session channel : ℕ) (bytes : List ℕ) (old new : Hosting) (a : Act) (line : Option Output) → a ≡ act_of bytes
    → Told old new (act_of bytes) (Ok a) → line ≡ done_line session channel a → Heard session channel bytes old new line
heard-done session channel bytes old new a line is told e =
    subst (λ (l : Option Output). Done session channel (act_of bytes) old.history new.history l) (sym (e ∙ ap (done_line session channel) is))
    (done session channel old.history new.history (act_of bytes) a (told-ok old new (act_of bytes) a told))

pub heard-refused : (session channel : ℕ) (bytes : List ℕ) (old new : Hosting) → Told old new (act_of bytes) (Err told_error.Ended)
    → Heard session channel bytes old new None
heard-refused session channel bytes old new told =
    refused session channel old.history new.history (act_of bytes) (told-ended old new (act_of bytes) told)

pub heard-ended : (session channel : ℕ) (bytes : List ℕ) (old new : Hosting) (n : ℕ) (line : Option Output)
    → Told old new (act_of bytes) (Err (told_error.BadRange n))
    → ((first last : ℤ) → act_of bytes ≡ act.Invalidate first last → line ≡ Some (output.Ended session first last))
    → Heard session channel bytes old new line
heard-ended session channel bytes old new n line told named_by =
    let e = ended session channel old.history new.history (act_of bytes) n (told-bad old new (act_of bytes) n told) in
    subst (λ (l : Option Output). Done session channel (act_of bytes) old.history new.history l) (sym (named_by e.first e.last e.act_is)) e.done
