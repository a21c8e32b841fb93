-- Events heard one after the other: what is reported of them, and how many are inputs.
use Rattle.std.specs.Prelude.{if◌then◌else◌, ℤ, unsigned_abs}
use Rattle.std.proofs.Common.{◌≡◌, ◌+◌, ℕ, Bool, true, false, List, [], ◌∷◌, ◌++◌, length, Option, Some, None, refl, sym, ap, ◌∙◌, arith}
use Rattle.std.specs.List.{flat_map}
use Rattle.std.proofs.lemmas.List.{length-append}
use Rattle.gs_refs.specs.declared.entry.Entry.{Entry}
use Rattle.gs_refs.specs.declared.entry.Entry.TheVariants as entry
use Rattle.gs_refs.specs.History.{frames, has_ended}
use Rattle.gs_refs.specs.Answers.{is_range_sent}
use Rattle.gs_enet.specs.declared.event.PeerEvent.{PeerEvent}
use Rattle.gs_enet.specs.declared.event.PeerEvent.TheVariants as event
use Rattle.gs_schedule.specs.declared.output.Output.{Output}
use Rattle.gs_schedule.specs.declared.output.Output.TheVariants as output
use Rattle.gs_run.specs.Report.{Report, Acted, plain, quietly}
use Rattle.gs_run.specs.Message.{Act, Invalidate, AskIdr, Input, Nothing, act_of}
use Rattle.gs_run.specs.Hearing.{acts_on, entered, host_heard, all_heard}
use Rattle.gs_run.specs.Totals.{input_in, input_of}
use Rattle.gs_report.specs.Reporting.{Reporting, Did, with_reports}
use Rattle.gs_report.proofs.Reported.{with_more, with_none}
use Rattle.gs_host_end.specs.Heard.{Hears, reported_line, inputs_in}

-- ---- which lines are of inputs

one_line : (o : Output) (line : Option Output) → plain o ∷ [] ≡ reported_line line → inputs_in (Some o) ≡ inputs_in line
one_line o None e = absurd cc
one_line o (Some p) e = ap (λ (x : Output). inputs_in (Some x)) (let same : plain o ≡ plain p = cc in ap (λ (r : Report). r.output) same)

no_line : (line : Option Output) → [] ≡ reported_line line → 0 ≡ inputs_in line
no_line None e = refl
no_line (Some p) e = absurd cc

abbrev named : Bool → ℤ → ℤ → Entry
named sent first last = if sent then entry.Invalid (unsigned_abs first) (unsigned_abs last) else entry.Ended first last

of_entry : (session : ℕ) (over : Bool) (h : List Entry) (line : Option Output) (e : Entry) (o : Output) → 0 ≡ inputs_in (Some o)
    → (if over then quietly h else record { value = e ∷ h; reports = plain o ∷ [] }).reports ≡ reported_line line → 0 ≡ inputs_in line
of_entry session true h line e o none is = no_line line is
of_entry session false h line e o none is = none ∙ one_line o line is

of_range : (session : ℕ) (over sent : Bool) (h : List Entry) (line : Option Output) (first last : ℤ)
    → (if over then quietly h else entered session (named sent first last) h).reports ≡ reported_line line → 0 ≡ inputs_in line
of_range session over true h line first last is =
    of_entry session over h line (named true first last) (output.Invalid session (unsigned_abs first) (unsigned_abs last)) refl is
of_range session over false h line first last is = of_entry session over h line (named false first last) (output.Ended session first last) refl is

of_act : (session channel : ℕ) (a : Act) (h : List Entry) (line : Option Output) → (acts_on session channel a h).reports ≡ reported_line line
    → length (input_in channel a) ≡ inputs_in line
of_act session channel (Invalidate first last) h line is = of_range session (has_ended h) (is_range_sent (frames h) first last) h line first last is
of_act session channel AskIdr h line is = of_entry session (has_ended h) h line entry.IdrAsked (output.Idr session) refl is
of_act session channel (Input e) h line is = one_line (output.Input session channel e) line is
of_act session channel Nothing h line is = no_line line is

-- an event is an input exactly where its line is
pub counted : (session : ℕ) (e : PeerEvent) (h now : List Entry) (line : Option Output) → Hears (host_heard session e h) now line
    → length (input_of e) ≡ inputs_in line
counted session (event.Message channel number bytes) h now line is =
    of_act session channel (act_of bytes) h line (ap (λ (a : Acted (List Entry)). a.reports) is)
counted session event.PeerClosed h now line is = one_line (output.Closed session) line (ap (λ (a : Acted (List Entry)). a.reports) is)
counted session (event.Lost channel number) h now line is = one_line (output.Lost session) line (ap (λ (a : Acted (List Entry)). a.reports) is)
counted session event.Connected h now line is = no_line line (ap (λ (a : Acted (List Entry)). a.reports) is)
counted session event.Closed h now line is = no_line line (ap (λ (a : Acted (List Entry)). a.reports) is)

-- ---- what is reported

-- an event of which nothing is reported, and one with a line
pub heard-none : (session : ℕ) (e : PeerEvent) (h now : List Entry) (r : Reporting) → Hears (host_heard session e h) now None
    → Did (λ (x : List Entry). now ≡ x) (host_heard session e h) r r
heard-none session e h now r is = record {
  stands = sym (ap (λ (a : Acted (List Entry)). a.value) is);
  text = sym (with_none r) ∙ ap (with_reports r) (sym (ap (λ (a : Acted (List Entry)). a.reports) is));
}

pub heard-some : (session : ℕ) (e : PeerEvent) (h now : List Entry) (line : Output) (r s : Reporting)
    → Hears (host_heard session e h) now (Some line) → s ≡ with_reports r (plain line ∷ [])
    → Did (λ (x : List Entry). now ≡ x) (host_heard session e h) r s
heard-some session e h now line r s is reported = record {
  stands = sym (ap (λ (a : Acted (List Entry)). a.value) is);
  text = reported ∙ ap (with_reports r) (sym (ap (λ (a : Acted (List Entry)). a.reports) is));
}

-- ---- all events

-- What is heard of the rest completes what is heard of all.
pub record HearsTo (session : ℕ) (events rest : List PeerEvent) (old now : List Entry) (before after : Reporting) (m n : ℕ) : Type 0 where
  pub value : (all_heard session rest now).value ≡ (all_heard session events old).value
  pub text : with_reports after (all_heard session rest now).reports ≡ with_reports before (all_heard session events old).reports
  pub count : n + length (flat_map input_of rest) ≡ m + length (flat_map input_of events)

pub hears-start : (session : ℕ) (events : List PeerEvent) (h : List Entry) (r : Reporting) (n : ℕ) → HearsTo session events events h h r r n n
hears-start session events h r n = record { value = refl; text = refl; count = refl }

pub hears-more : (session : ℕ) (events rest next : List PeerEvent) (e : PeerEvent) (old now new : List Entry) (before after later : Reporting) (m n k : ℕ)
    → rest ≡ e ∷ next → Did (λ (x : List Entry). new ≡ x) (host_heard session e now) after later → k ≡ n + length (input_of e)
    → HearsTo session events rest old now before after m n → HearsTo session events next old new before later m k
hears-more session events rest next e old now new before after later m n k is did counts h =
    let all : List Entry → Acted (List Entry) = all_heard session next in
    let first : Acted (List Entry) = host_heard session e now in
    record {
      value = ap (λ (x : List Entry). (all x).value) did.stands ∙ ap (λ (es : List PeerEvent). (all_heard session es now).value) (sym is) ∙ h.value;
      text =
          ap (λ (r : Reporting). with_reports r (all new).reports) did.text
          ∙ with_more after first.reports (all new).reports
          ∙ ap (λ (x : List Entry). with_reports after (first.reports ++ (all x).reports)) did.stands
          ∙ ap (λ (es : List PeerEvent). with_reports after (all_heard session es now).reports) (sym is)
          ∙ h.text;
      count =
          let parts : length (flat_map input_of rest) ≡ length (input_of e) + length (flat_map input_of next) =
          ap (λ (es : List PeerEvent). length (flat_map input_of es)) is ∙ length-append (input_of e) (flat_map input_of next) in
          omega (arith, parts, counts, h.count);
    }

pub hears-end : (session : ℕ) (events rest : List PeerEvent) (old now : List Entry) (before after : Reporting) (m n : ℕ) → rest ≡ []
    → HearsTo session events rest old now before after m n → Did (λ (x : List Entry). now ≡ x) (all_heard session events old) before after
hears-end session events rest old now before after m n is h =
    let e : (all_heard session rest now).value ≡ now = ap (λ (es : List PeerEvent). (all_heard session es now).value) is in
    let f : with_reports after (all_heard session rest now).reports ≡ after =
    ap (λ (es : List PeerEvent). with_reports after (all_heard session es now).reports) is ∙ with_none after in
    record { stands = sym e ∙ h.value; text = sym f ∙ h.text }

pub counted-end : (session : ℕ) (events rest : List PeerEvent) (old now : List Entry) (before after : Reporting) (m n : ℕ) → rest ≡ []
    → HearsTo session events rest old now before after m n → n ≡ m + length (flat_map input_of events)
counted-end session events rest old now before after m n is h =
    let none : length (flat_map input_of rest) ≡ 0 = ap (λ (es : List PeerEvent). length (flat_map input_of es)) is in
    omega (arith, none, h.count)
