-- What the deeds of a session report, by kinds of lines.
use Rattle.std.proofs.Common.{◌≡◌, ℕ, Bool, true, false, cond, List, [], ◌∷◌, ◌++◌, map, refl, sym, ap, ◌∙◌}
use Rattle.std.specs.List.{filter, flat_map}
use Rattle.std.proofs.lemmas.List.{append-nil}
use Rattle.std.proofs.lemmas.List.Elements.{filter-append}
use Rattle.std.proofs.lemmas.Grind.{flat_map-append}
use Rattle.gs_refs.specs.declared.entry.Entry.{Entry}
use Rattle.gs_refs.specs.declared.entry.Entry.TheVariants as entry
use Rattle.gs_refs.specs.History.{frames, has_ended}
use Rattle.gs_frames.specs.Client.{Reset}
use Rattle.gs_input.specs.declared.event.Event.{Event}
use Rattle.gs_enet.specs.declared.event.PeerEvent.{PeerEvent}
use Rattle.gs_enet.specs.declared.event.PeerEvent.TheVariants as event
use Rattle.gs_schedule.specs.declared.output.Output.{Output}
use Rattle.gs_schedule.specs.declared.output.Output.TheVariants as output
use Rattle.gs_run.specs.Report.{Report, plain, Acted, quietly}
use Rattle.gs_run.specs.Message.{Act, Invalidate, AskIdr, Input, Nothing, act_of}
use Rattle.gs_run.specs.Hearing.{entry_output, entered, entered_unless_ended, acts_on, host_heard, all_heard, client_reports}
use Rattle.gs_refs.specs.Answers.{named_range}
use Rattle.gs_run.specs.Totals.{ToldInput, input_in, input_of}

-- those of a kind
abbrev pub of_kind : (Output → Bool) → List Report → List Report
of_kind kind reports = filter (λ r. kind r.output) reports

pub of_kind-append : (kind : Output → Bool) (xs ys : List Report) → of_kind kind (xs ++ ys) ≡ of_kind kind xs ++ of_kind kind ys
of_kind-append kind xs ys = filter-append (λ (r : Report). kind r.output) xs ys

-- a line of this kind is none of the host's but an input event
pub record IsQuiet (kind : Output → Bool) : Type 0 where
  pub entries : (n : ℕ) (h : List Entry) (e : Entry) → kind (entry_output n h e) ≡ false
  pub full : (n c : ℕ) → kind (output.Full n c) ≡ false
  pub closed : (n : ℕ) → kind (output.Closed n) ≡ false
  pub lost : (n : ℕ) → kind (output.Lost n) ≡ false
  pub reset : (n : ℕ) → kind (output.Reset n) ≡ false

pub one_passed : (kind : Output → Bool) (o : Output) → kind o ≡ false → of_kind kind (plain o ∷ []) ≡ []
one_passed kind o isnt = by (kind o) isnt where
  by : (b : Bool) → b ≡ false → cond b (plain o ∷ []) [] ≡ []
  by true e = absurd cc
  by false e = refl

-- the lines of an input event
abbrev pub Picks : (Output → Bool) → (ℕ → ToldInput → List Report) → Type 0
Picks kind pick = (n c : ℕ) (e : Event) → of_kind kind (plain (output.Input n c e) ∷ []) ≡ pick n (record { channel = c; event = e })

-- ---- what the host is told

entered_lines : (kind : Output → Bool) → IsQuiet kind → (n : ℕ) (e : Entry) (h : List Entry) → of_kind kind (entered_unless_ended n e h).reports ≡ []
entered_lines kind quiet n e h = by (has_ended h) where
  by : (b : Bool) → of_kind kind (cond {A = Acted (List Entry)} b (quietly h) (entered n e h)).reports ≡ []
  by true = refl
  by false = one_passed kind (entry_output n h e) (quiet.entries n h e)

act_lines : (kind : Output → Bool) (pick : ℕ → ToldInput → List Report) → IsQuiet kind → Picks kind pick → (n c : ℕ) (a : Act) (h : List Entry)
    → of_kind kind (acts_on n c a h).reports ≡ flat_map (pick n) (input_in c a)
act_lines kind pick quiet picks n c (Invalidate first last) h = entered_lines kind quiet n (named_range (frames h) first last) h
act_lines kind pick quiet picks n c AskIdr h = entered_lines kind quiet n entry.IdrAsked h
act_lines kind pick quiet picks n c (Input e) h = picks n c e ∙ sym (append-nil (pick n (record { channel = c; event = e })))
act_lines kind pick quiet picks n c Nothing h = refl

event_lines : (kind : Output → Bool) (pick : ℕ → ToldInput → List Report) → IsQuiet kind → Picks kind pick → (n : ℕ) (e : PeerEvent) (h : List Entry)
    → of_kind kind (host_heard n e h).reports ≡ flat_map (pick n) (input_of e)
event_lines kind pick quiet picks n (event.Message c number bytes) h = act_lines kind pick quiet picks n c (act_of bytes) h
event_lines kind pick quiet picks n event.PeerClosed h = one_passed kind (output.Closed n) (quiet.closed n)
event_lines kind pick quiet picks n (event.Lost c number) h = one_passed kind (output.Lost n) (quiet.lost n)
event_lines kind pick quiet picks n event.Connected h = refl
event_lines kind pick quiet picks n event.Closed h = refl

pub heard_lines : (kind : Output → Bool) (pick : ℕ → ToldInput → List Report) → IsQuiet kind → Picks kind pick
    → (n : ℕ) (es : List PeerEvent) (h : List Entry)
    → of_kind kind (all_heard n es h).reports ≡ flat_map (pick n) (flat_map input_of es)
heard_lines kind pick quiet picks n [] h = refl
heard_lines kind pick quiet picks n (e ∷ es) h =
    let mid = (host_heard n e h).value in
    of_kind-append kind (host_heard n e h).reports (all_heard n es mid).reports
    ∙ ap (λ (l : List Report). l ++ of_kind kind (all_heard n es mid).reports) (event_lines kind pick quiet picks n e h)
    ∙ ap (λ (l : List Report). flat_map (pick n) (input_of e) ++ l) (heard_lines kind pick quiet picks n es mid)
    ∙ sym (flat_map-append (pick n) (input_of e) (flat_map input_of es))

-- a client's events are reported in no line of the kind
pub client_lines : (kind : Output → Bool) → IsQuiet kind → (n : ℕ) (es : List PeerEvent) → of_kind kind (flat_map (client_reports n) es) ≡ []
client_lines kind quiet n [] = refl
client_lines kind quiet n (event.Lost c number ∷ es) =
    of_kind-append kind (plain (output.Lost n) ∷ []) (flat_map (client_reports n) es)
    ∙ ap (λ (l : List Report). l ++ of_kind kind (flat_map (client_reports n) es)) (one_passed kind (output.Lost n) (quiet.lost n))
    ∙ client_lines kind quiet n es
client_lines kind quiet n (event.Message c number bytes ∷ es) = client_lines kind quiet n es
client_lines kind quiet n (event.Connected ∷ es) = client_lines kind quiet n es
client_lines kind quiet n (event.Closed ∷ es) = client_lines kind quiet n es
client_lines kind quiet n (event.PeerClosed ∷ es) = client_lines kind quiet n es

-- lines of another kind
pub none_passed : {X : Type 0} (kind : Output → Bool) (f : X → Report) → ((x : X) → kind (f x).output ≡ false) → (xs : List X) → of_kind kind (map f xs) ≡ []
none_passed kind f isnt [] = refl
none_passed {X} kind f isnt (x ∷ xs) = by (kind (f x).output) (isnt x) (none_passed kind f isnt xs) where
  by : (b : Bool) → b ≡ false → of_kind kind (map f xs) ≡ [] → cond b (f x ∷ of_kind kind (map f xs)) (of_kind kind (map f xs)) ≡ []
  by true e rest = absurd cc
  by false e rest = rest

-- lines of that kind
pub all_passed : {X : Type 0} (kind : Output → Bool) (f : X → Report) → ((x : X) → kind (f x).output ≡ true) → (xs : List X)
    → of_kind kind (map f xs) ≡ map f xs
all_passed kind f yes' [] = refl
all_passed {X} kind f yes' (x ∷ xs) = by (kind (f x).output) (yes' x) (all_passed kind f yes' xs) where
  by : (b : Bool) → b ≡ true → of_kind kind (map f xs) ≡ map f xs → cond b (f x ∷ of_kind kind (map f xs)) (of_kind kind (map f xs)) ≡ f x ∷ map f xs
  by true e rest = ap (λ (l : List Report). f x ∷ l) rest
  by false e rest = absurd cc
