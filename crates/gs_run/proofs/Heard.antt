-- What a host enters of the messages that it is told, where each of them may be.
use Rattle.std.proofs.Common.{◌≡◌, ◌<◌, ◌^◌, ℕ, Bool, true, false, cond, List, [], ◌∷◌, ◌++◌, pos, refl, sym, ap, subst, ◌∙◌, arith}
use Rattle.std.specs.Prelude.{unsigned_abs, ◌==◌}
use Rattle.std.proofs.lemmas.Bool.{cond-true, eqb-false, false≢true}
use Rattle.std.proofs.lemmas.List.{append_assoc, append-nil}
use Rattle.gs_tape.specs.Tick.{Tick}
use Rattle.gs_rtp.specs.Stream.{StreamSettings}
use Rattle.gs_refs.specs.declared.entry.Entry.{Entry}
use Rattle.gs_refs.specs.declared.entry.Entry.TheVariants as entry
use Rattle.gs_refs.specs.History.{frames, has_ended}
use Rattle.gs_refs.specs.Choice.{IsRange, IsLegal}
use Rattle.gs_frames.specs.declared.range.Range.{Range}
use Rattle.gs_stream.specs.Video.{video_stream}
use Rattle.gs_stream.specs.Audio.{audio_stream, audio_units}
use Rattle.gs_stream.specs.Paired.{invalid_ranges}
use Rattle.gs_enet.specs.declared.event.PeerEvent.{PeerEvent}
use Rattle.gs_enet.specs.declared.event.PeerEvent.TheVariants as event
use Rattle.gs_enet.specs.Record.{messages_on}
use Rattle.gs_enet.proofs.Lists.{Each}
use Rattle.gs_client_core.specs.declared.asker.Owed.TheVariants.{Lost, Idr}
use Rattle.gs_client_core.specs.declared.asker.Owed.{Owed}
use Rattle.gs_run.specs.Message.{Act, Invalidate, AskIdr, Input, Nothing, act_of}
use Rattle.gs_client_core.specs.Owed.{owed_message}
use Rattle.gs_run.specs.Hearing.{entered, entered_unless_ended, acts_on, all_heard}
use Rattle.gs_refs.specs.Answers.{is_range_sent, named_range}
use Rattle.gs_run.proofs.Acts.{IsOfUser, range_is_told, idr_is_told}

-- ---- the ranges among messages

abbrev pub act_ranges : Act → List Range
act_ranges (Invalidate first last) = record { first = unsigned_abs first; last = unsigned_abs last } ∷ []
act_ranges AskIdr = []
act_ranges (Input event) = []
act_ranges Nothing = []

abbrev pub ranges_in : List (List ℕ) → List Range
ranges_in [] = []
ranges_in (m ∷ ms) = act_ranges (act_of m) ++ ranges_in ms

abbrev pub ranges_told : List PeerEvent → List Range
ranges_told [] = []
ranges_told (event.Message c n bytes ∷ es) = act_ranges (act_of bytes) ++ ranges_told es
ranges_told (event.Connected ∷ es) = ranges_told es
ranges_told (event.Closed ∷ es) = ranges_told es
ranges_told (event.PeerClosed ∷ es) = ranges_told es
ranges_told (event.Lost c n ∷ es) = ranges_told es

pub ranges_in-append : (ms ns : List (List ℕ)) → ranges_in (ms ++ ns) ≡ ranges_in ms ++ ranges_in ns
ranges_in-append [] ns = refl
ranges_in-append (m ∷ ms) ns =
    ap (λ (l : List Range). act_ranges (act_of m) ++ l) (ranges_in-append ms ns) ∙ sym (append_assoc (act_ranges (act_of m)) (ranges_in ms) (ranges_in ns))

pub ranges_told-append : (es fs : List PeerEvent) → ranges_told (es ++ fs) ≡ ranges_told es ++ ranges_told fs
ranges_told-append [] fs = refl
ranges_told-append (event.Message c n bytes ∷ es) fs =
    ap (λ (l : List Range). act_ranges (act_of bytes) ++ l) (ranges_told-append es fs)
    ∙ sym (append_assoc (act_ranges (act_of bytes)) (ranges_told es) (ranges_told fs))
ranges_told-append (event.Connected ∷ es) fs = ranges_told-append es fs
ranges_told-append (event.Closed ∷ es) fs = ranges_told-append es fs
ranges_told-append (event.PeerClosed ∷ es) fs = ranges_told-append es fs
ranges_told-append (event.Lost c n ∷ es) fs = ranges_told-append es fs

-- ---- events by what holds of their messages

abbrev pub OfMessage : (ℕ → List ℕ → Type 0) → PeerEvent → Type 0
OfMessage P (event.Message c n bytes) = P c bytes
OfMessage P _ = Unit {0}

-- what holds of the messages of every channel holds of each event
pub of_each_message : (P : ℕ → List ℕ → Type 0) (es : List PeerEvent) → ((c : ℕ) → Each (P c) (messages_on c es)) → Each (OfMessage P) es
of_each_message P [] all = tt
of_each_message P (event.Message d n bytes ∷ es) all =
    (first (d == d) refl (all d), of_each_message P es (λ c. rest c (d == c) (all c)))
  where
    first : (b : Bool) → (d == d) ≡ b → Each (P d) (cond b (bytes ∷ messages_on d es) (messages_on d es)) → P d bytes
    first true e h = h.0
    first false e h = absurd (eqb-false d d e refl)

    rest : (c : ℕ) (b : Bool) → Each (P c) (cond b (bytes ∷ messages_on c es) (messages_on c es)) → Each (P c) (messages_on c es)
    rest c true h = h.1
    rest c false h = h
of_each_message P (event.Connected ∷ es) all = (tt, of_each_message P es all)
of_each_message P (event.Closed ∷ es) all = (tt, of_each_message P es all)
of_each_message P (event.PeerClosed ∷ es) all = (tt, of_each_message P es all)
of_each_message P (event.Lost c n ∷ es) all = (tt, of_each_message P es all)

-- ---- good messages

-- a range of frames that were sent, or no range
abbrev pub IsGoodAct : ℕ → Act → Type 0
IsGoodAct sent (Invalidate first last) = (a : ℕ) × (b : ℕ) × (first ≡ pos a) × (last ≡ pos b) × IsRange sent a b
IsGoodAct sent _ = Unit {0}

abbrev pub IsFitting : ℕ → Owed → Type 0
IsFitting sent (Lost range) = IsRange sent range.first range.last
IsFitting sent Idr = Unit {0}

pub good_of_user : (sent : ℕ) (a : Act) → IsOfUser a → IsGoodAct sent a
good_of_user sent (Input event) of = tt
good_of_user sent Nothing of = tt
good_of_user sent AskIdr of = tt
good_of_user sent (Invalidate first last) of = absurd of

pub good_owed : (sent : ℕ) (o : Owed) → sent < 2 ^ 63 → IsFitting sent o → IsGoodAct sent (act_of (owed_message o))
good_owed sent (Lost range) few fits =
    let small_last : range.last < 2 ^ 63 = omega (arith, few, fits.2) in
    let small_first : range.first < 2 ^ 63 = omega (arith, few, fits.1, fits.2) in
    subst (IsGoodAct sent) (sym (range_is_told range.first range.last small_first small_last)) (range.first, range.last, refl, refl, fits)
good_owed sent Idr few fits = subst (IsGoodAct sent) (sym idr_is_told) tt

-- ---- what is entered

-- what the history keeps, but for the ranges that it gained
pub record Gains (settings : StreamSettings) (ticks : List Tick) (old new : List Entry) (ranges : List Range) : Type 0 where
  pub legal : IsLegal ticks new
  pub goes_on : has_ended new ≡ false
  pub frames_same : frames new ≡ frames old
  pub stream_same : video_stream settings ticks new ≡ video_stream settings ticks old
  pub sound_same : audio_stream settings ticks new ≡ audio_stream settings ticks old
  pub invalid : invalid_ranges new ≡ invalid_ranges old ++ ranges

nothing_gained : (settings : StreamSettings) (ticks : List Tick) (h : List Entry) → IsLegal ticks h → has_ended h ≡ false → Gains settings ticks h h []
nothing_gained settings ticks h legal on = record {
  legal = legal;
  goes_on = on;
  frames_same = refl;
  stream_same = refl;
  sound_same = refl;
  invalid = sym (append-nil (invalid_ranges h));
}

range_is_sent : (sent a b : ℕ) → IsRange sent a b → is_range_sent sent (pos a) (pos b) ≡ true
range_is_sent sent a b is = grind (arith, is.0, is.1, is.2)

-- the value of an entry, where nothing ended
entered_value : (session : ℕ) (e : Entry) (h : List Entry) → has_ended h ≡ false → (entered_unless_ended session e h).value ≡ e ∷ h
entered_value session e h on = by (has_ended h) on where
  by : (b : Bool) → b ≡ false → (cond b (record { value = h; reports = [] }) (entered session e h)).value ≡ e ∷ h
  by true on = absurd (false≢true (sym on))
  by false on = refl

-- a range that was sent is entered
range_gains : (settings : StreamSettings) (ticks : List Tick) (session a b : ℕ) (h : List Entry) → IsLegal ticks h → has_ended h ≡ false
    → IsRange (frames h) a b
    → Gains settings ticks h (entered_unless_ended session (named_range (frames h) (pos a) (pos b)) h).value (record { first = a; last = b } ∷ [])
unfolding video_stream audio_stream audio_units
range_gains settings ticks session a b h legal on is =
    let e = named_range (frames h) (pos a) (pos b) in
    let kind : e ≡ entry.Invalid a b =
    cond-true (is_range_sent (frames h) (pos a) (pos b)) (entry.Invalid a b) (entry.Ended (pos a) (pos b)) (range_is_sent (frames h) a b is) in
    subst (λ (new : List Entry). Gains settings ticks h new (record { first = a; last = b } ∷ []))
    (sym (entered_value session e h on ∙ ap (λ (x : Entry). x ∷ h) kind))
    (record { legal = (legal, on, is); goes_on = on; frames_same = refl; stream_same = refl; sound_same = refl; invalid = refl })

-- so is a request for an IDR frame
idr_gains : (settings : StreamSettings) (ticks : List Tick) (session : ℕ) (h : List Entry) → IsLegal ticks h → has_ended h ≡ false
    → Gains settings ticks h (entered_unless_ended session entry.IdrAsked h).value []
unfolding video_stream audio_stream audio_units
idr_gains settings ticks session h legal on =
    subst (λ (new : List Entry). Gains settings ticks h new []) (sym (entered_value session entry.IdrAsked h on))
    (record { legal = (legal, on, tt); goes_on = on; frames_same = refl; stream_same = refl; sound_same = refl; invalid = sym (append-nil (invalid_ranges h)) })

act_gains : (settings : StreamSettings) (ticks : List Tick) (session channel : ℕ) (a : Act) (h : List Entry) → IsLegal ticks h → has_ended h ≡ false
    → IsGoodAct (frames h) a → Gains settings ticks h (acts_on session channel a h).value (act_ranges a)
act_gains settings ticks session channel (Invalidate first last) h legal on (a, b, is_first, is_last, is) =
    subst (λ (x : _). Gains settings ticks h (acts_on session channel (Invalidate x last) h).value (act_ranges (Invalidate x last))) (sym is_first)
    (subst (λ (x : _). Gains settings ticks h (acts_on session channel (Invalidate (pos a) x) h).value (act_ranges (Invalidate (pos a) x))) (sym is_last)
    (range_gains settings ticks session a b h legal on is))
act_gains settings ticks session channel AskIdr h legal on good = idr_gains settings ticks session h legal on
act_gains settings ticks session channel (Input event) h legal on good = nothing_gained settings ticks h legal on
act_gains settings ticks session channel Nothing h legal on good = nothing_gained settings ticks h legal on

-- one gain after the other
gains_more : (settings : StreamSettings) (ticks : List Tick) (old mid new : List Entry) (first rest : List Range)
    → Gains settings ticks old mid first → Gains settings ticks mid new rest → Gains settings ticks old new (first ++ rest)
gains_more settings ticks old mid new first rest a b = record {
  legal = b.legal;
  goes_on = b.goes_on;
  frames_same = b.frames_same ∙ a.frames_same;
  stream_same = b.stream_same ∙ a.stream_same;
  sound_same = b.sound_same ∙ a.sound_same;
  invalid = b.invalid ∙ ap (λ (l : List Range). l ++ rest) a.invalid ∙ append_assoc (invalid_ranges old) first rest;
}

abbrev pub IsGoodMessage : ℕ → ℕ → List ℕ → Type 0
IsGoodMessage sent c bytes = IsGoodAct sent (act_of bytes)

-- all that is told
pub heard_gains : (settings : StreamSettings) (ticks : List Tick) (session : ℕ) (es : List PeerEvent) (h : List Entry) → IsLegal ticks h → has_ended h ≡ false
    → Each (OfMessage (IsGoodMessage (frames h))) es → Gains settings ticks h (all_heard session es h).value (ranges_told es)
heard_gains settings ticks session [] h legal on good = nothing_gained settings ticks h legal on
heard_gains settings ticks session (event.Message c n bytes ∷ es) h legal on good =
    let mid = (acts_on session c (act_of bytes) h).value in
    let first = act_gains settings ticks session c (act_of bytes) h legal on good.0 in
    let rest = heard_gains settings ticks session es mid first.legal first.goes_on
    (subst (λ (n : ℕ). Each (OfMessage (IsGoodMessage n)) es) (sym first.frames_same) good.1) in
    gains_more settings ticks h mid (all_heard session es mid).value (act_ranges (act_of bytes)) (ranges_told es) first rest
heard_gains settings ticks session (event.Connected ∷ es) h legal on good = heard_gains settings ticks session es h legal on good.1
heard_gains settings ticks session (event.Closed ∷ es) h legal on good = heard_gains settings ticks session es h legal on good.1
heard_gains settings ticks session (event.PeerClosed ∷ es) h legal on good = heard_gains settings ticks session es h legal on good.1
heard_gains settings ticks session (event.Lost c n ∷ es) h legal on good = heard_gains settings ticks session es h legal on good.1
