-- What a turn adds to a history's streams.
use Rattle.std.proofs.Common.{◌≡◌, ◌<◌, ◌≤◌, ◌+◌, ◌-◌, ◌*◌, ◌%◌, ◌^◌, ℕ, zero, suc, Bool, true, ◌||◌, cond, List, [], ◌∷◌, ◌++◌, length, map, take, drop}
use Rattle.std.proofs.Common.{Option, Some, None, refl, sym, ap, subst, ◌∙◌, arith, inl, inr}
use Rattle.std.specs.Prelude.{◌==◌, IsSome}
use Rattle.std.specs.Option.{option_map}
use Rattle.std.specs.List.{All, find, flat_map, list_any, range_with_len, slice_get}
use Rattle.std.proofs.Math.Nat.{mod-add-mod}
use Rattle.std.proofs.lemmas.Bool.{cases_Bool, cases_eq, cond-true, cond-false, eq-eqb, ne_eqb}
use Rattle.std.proofs.lemmas.List.{append-nil, append_assoc, length-append, length-map, map-append}
use Rattle.std.proofs.lemmas.List.Concat.{flat_map-append}
use Rattle.std.proofs.lemmas.List.Elements.{All-head, All-tail, All-cons, All-nil, All-push}
use Rattle.std.proofs.lemmas.List.Folds.{flat_map-map}
use Rattle.std.proofs.lemmas.List.FromFn.{length-range_with_len}
use Rattle.std.proofs.lemmas.Option.{same_Some}
use Rattle.gs_rtp.specs.Stream.{StreamSettings}
use Rattle.gs_rtp.specs.AudioDatagrams.{audio_datagrams}
use Rattle.gs_tape.specs.Tick.{Tick, Delta, tick_numbered}
use Rattle.gs_refs.specs.declared.entry.Entry.{Entry}
use Rattle.gs_refs.specs.declared.entry.Entry.TheVariants as entry
use Rattle.gs_refs.specs.declared.sent.Sent.{Sent}
use Rattle.gs_refs.specs.History.{frames, last_tick, tick_of, sent_as, where_it_refers}
use Rattle.gs_refs.specs.Choice.{choice}
use Rattle.gs_refs.specs.Answers.{next_sent, sent_entry}
use Rattle.gs_refs.proofs.Choices.{choice_is_sound}
use Rattle.gs_refs.proofs.Lookups.{tick_of-sent}
use Rattle.gs_audio.specs.Sending.{Sending, HasPushed}
use Rattle.gs_frames.specs.Datagrams.{OutgoingFrame, frame_datagrams}
use Rattle.gs_frames.specs.ImageLaws.{IsWrittenKind}
use Rattle.gs_split.specs.Splitting.{frame_behind}
use Rattle.gs_stream.specs.Video.{unit_or_none, sent_unit, time_of, video_stream}
use Rattle.gs_stream.specs.Audio.{audio_units, audio_stream}
use Rattle.gs_host_core.specs.Units.{sent_unit_of}
use Rattle.gs_host_core.specs.Hosting.{AreOfCapture, IsSendable, IsTurn, SendsTick, numbers_between}
use Rattle.gs_host_core.specs.Sounds.{sound_behind}
use Rattle.gs_bytes.proofs.Lists.{range_more}
use Rattle.gs_host_core.proofs.Sounds.{sound-stream}

-- ---- the ticks between

past_front : (xs : List Tick) (a : ℕ) → drop a (take a xs) ≡ []
past_front xs zero = refl
past_front [] (suc a) = refl
past_front (x ∷ xs) (suc a) = past_front xs a

one_within : (xs : List Tick) (a n : ℕ) (x : Tick) → slice_get xs a ≡ Some x → a < n → drop a (take n xs) ≡ x ∷ drop (suc a) (take n xs)
one_within [] a n x e h = cc
one_within (y ∷ xs) a zero x e h = absurd (omega arith)
one_within (y ∷ xs) zero (suc n) x e h = let same : y ≡ x = cc in ap (λ (t : Tick). t ∷ take n xs) same
one_within (y ∷ xs) (suc a) (suc n) x e h = one_within xs a n x e (omega arith)

-- ticks of a capture that are numbered on are a part of it
pub numbered-part : (ticks ts : List Tick) (a m : ℕ) → map (λ t. t.number) ts ≡ range_with_len (a + 1) m
    → All (λ t. tick_numbered ticks t.number ≡ Some t) ts → drop a (take (a + m) ticks) ≡ ts
numbered-part ticks [] a zero numbers are =
    let same : a + 0 ≡ a = omega arith in
    ap (λ (n : ℕ). drop a (take n ticks)) same ∙ past_front ticks a
numbered-part ticks [] a (suc m) numbers are = cc
numbered-part ticks (t ∷ ts) a zero numbers are = cc
numbered-part ticks (t ∷ ts) a (suc m) numbers are =
    let first : t.number ≡ a + 1 = cc in
    let number : t.number ≡ suc a = omega (arith, first) in
    let rest : map (λ (x : Tick). x.number) ts ≡ range_with_len ((a + 1) + 1) m = cc in
    let here = All-head (λ x. tick_numbered ticks x.number ≡ Some x) t ts are in
    let at : slice_get ticks a ≡ Some t = ap (tick_numbered ticks) (sym number) ∙ here in
    let from : suc a ≡ a + 1 = omega arith in
    let to : a + suc m ≡ (a + 1) + m = omega arith in
    one_within ticks a (a + suc m) t at (omega arith)
    ∙ ap (λ (l : List Tick). t ∷ l)
    (ap (λ (k : ℕ). drop k (take (a + suc m) ticks)) from
    ∙ ap (λ (n : ℕ). drop (a + 1) (take n ticks)) to
    ∙ numbered-part ticks ts (a + 1) m rest (All-tail (λ x. tick_numbered ticks x.number ≡ Some x) t ts are))

-- ---- the audio of a turn

abbrev pub audio_of : List Tick → List (List ℕ)
audio_of ticks = flat_map (λ t. t.audio) ticks

-- the ticks above the last one sent up to the newest
turn_ticks : (ticks : List Tick) (h : List Entry) (newest : Tick) (between : List Tick) → AreOfCapture ticks newest between
    → map (λ t. t.number) between ≡ numbers_between h newest.number → last_tick h < newest.number
    → drop (cond (frames h == 0) (newest.number - 1) (last_tick h)) (take newest.number ticks) ≡ between ++ newest ∷ []
turn_ticks ticks h newest between of numbers above = elim (cases_Bool (frames h == 0)) [
  | inl first ↦
      let n = newest.number in
      let none : between ≡ [] =
      no_numbers between (numbers ∙ cond-true (frames h == 0) [] (range_with_len (last_tick h + 1) (n - (last_tick h + 1))) first) in
      let after : cond (frames h == 0) (n - 1) (last_tick h) ≡ n - 1 = cond-true (frames h == 0) (n - 1) (last_tick h) first in
      let to : n ≡ (n - 1) + 1 = omega arith in
      ap (λ (k : ℕ). drop k (take n ticks)) after
      ∙ ap (λ (k : ℕ). drop (n - 1) (take k ticks)) to
      ∙ numbered-part ticks (newest ∷ []) (n - 1) 1 (ap (λ (k : ℕ). k ∷ []) to)
      (All-cons (λ t. tick_numbered ticks t.number ≡ Some t) newest [] of.newest_is (All-nil (λ t. tick_numbered ticks t.number ≡ Some t)))
      ∙ ap (λ (l : List Tick). l ++ newest ∷ []) (sym none)
  | inr later ↦
      let n = newest.number in
      let a = last_tick h in
      let m = n - (a + 1) in
      let after : cond (frames h == 0) (n - 1) a ≡ a = cond-false (frames h == 0) (n - 1) a later in
      let to : n ≡ a + (m + 1) = omega arith in
      let last : n ≡ (a + 1) + m = omega arith in
      let are : map (λ (t : Tick). t.number) (between ++ newest ∷ []) ≡ range_with_len (a + 1) (m + 1) =
      map-append (λ (t : Tick). t.number) between (newest ∷ [])
      ∙ ap (λ (l : List ℕ). l ++ n ∷ []) (numbers ∙ cond-false (frames h == 0) [] (range_with_len (a + 1) m) later)
      ∙ ap (λ (k : ℕ). range_with_len (a + 1) m ++ k ∷ []) last
      ∙ sym (range_more (a + 1) m (a + 1 + m) refl) in
      ap (λ (k : ℕ). drop k (take n ticks)) after
      ∙ ap (λ (k : ℕ). drop a (take k ticks)) to
      ∙ numbered-part ticks (between ++ newest ∷ []) a (m + 1) are
      (All-push (λ t. tick_numbered ticks t.number ≡ Some t) between newest of.between_are of.newest_is)
]
  where
    no_numbers : (ts : List Tick) → map (λ (t : Tick). t.number) ts ≡ [] → ts ≡ []
    no_numbers [] e = refl
    no_numbers (t ∷ ts) e = cc

pub audio-more : (ticks : List Tick) (h : List Entry) (newest : Tick) (between : List Tick) → AreOfCapture ticks newest between
    → map (λ t. t.number) between ≡ numbers_between h newest.number → last_tick h < newest.number
    → audio_units ticks (sent_entry (next_sent h newest) ∷ h) ≡ audio_units ticks h ++ (audio_of between ++ newest.audio)
unfolding audio_units
audio-more ticks h newest between of numbers above =
    ap (λ (l : List Tick). audio_units ticks h ++ audio_of l) (turn_ticks ticks h newest between of numbers above)
    ∙ ap (λ (l : List (List ℕ)). audio_units ticks h ++ l)
    (flat_map-append (λ (t : Tick). t.audio) between (newest ∷ []) ∙ ap (λ (l : List (List ℕ)). audio_of between ++ l) (append-nil newest.audio))

-- ---- the frame of a turn

any_found : (p : Delta → Bool) (ds : List Delta) → list_any p ds ≡ true → IsSome (find p ds)
any_found p [] e = cc
any_found p (d ∷ ds) e = elim (cases_Bool (p d)) [
  | inl here ↦ subst IsSome (sym (cond-true (p d) (Some d) (find p ds) here)) refl
  | inr other ↦
      subst IsSome (sym (cond-false (p d) (Some d) (find p ds) other))
      (any_found p ds (ap (λ (b : Bool). b || list_any p ds) (sym other) ∙ e))
]

mapped_some : (o : Option Delta) → IsSome o → IsSome (option_map (λ d. d.unit) o)
mapped_some None some = cc
mapped_some (Some d) some = refl

-- the tick has the unit that is chosen
pub unit-there : (h : List Entry) (t : Tick) → IsSome (sent_unit_of t (next_sent h t))
unit-there h t =
    let c = choice h t in
    let found = option_map (λ (d : Delta). d.unit) (find (λ d. d.named == tick_of h c.reference) t.deltas) in
    elim (cases_eq c.kind 2) [
      | inl idr ↦ subst IsSome (sym (cond-true (c.kind == 2) (Some t.idr) found (eq-eqb c.kind 2 idr))) refl
      | inr other ↦
          subst IsSome (sym (cond-false (c.kind == 2) (Some t.idr) found (ne_eqb c.kind 2 other)))
          (mapped_some (find (λ d. d.named == tick_of h c.reference) t.deltas)
          (any_found (λ d. d.named == tick_of h c.reference) t.deltas ((choice_is_sound h t).refers_to_named other)))
    ]

unit_found : (o : Option Delta) (u : List ℕ) → option_map (λ d. d.unit) o ≡ Some u → unit_or_none o ≡ u
unit_found None u e = cc
unit_found (Some d) u e = cc

-- which is the one that goes out
unit_sent : (t : Tick) (kind number : ℕ) (u : List ℕ) → IsWrittenKind kind
    → cond (kind == 2) (Some t.idr) (option_map (λ d. d.unit) (find (λ d. d.named == number) t.deltas)) ≡ Some u
    → sent_unit (Some t) (where_it_refers kind number) ≡ u
unit_sent t kind number u which is =
    let found = find (λ (d : Delta). d.named == number) t.deltas in
    let P : ℕ → Type 0 = λ k. cond (k == 2) (Some t.idr) (option_map (λ d. d.unit) found) ≡ Some u
    → sent_unit (Some t) (where_it_refers k number) ≡ u in
    elim which [
      | inl one ↦ subst P (sym one) (λ e. unit_found found u e) is
      | inr more ↦ elim more [
        | inl two ↦ subst P (sym two) (λ e. same_Some t.idr u e) is
        | inr five ↦ subst P (sym five) (λ e. unit_found found u e) is
      ]
    ]

pub video-more : (s : StreamSettings) (ticks : List Tick) (h : List Entry) (t : Tick) (u : List ℕ) → tick_numbered ticks t.number ≡ Some t
    → sent_unit_of t (next_sent h t) ≡ Some u
    → video_stream s ticks (sent_entry (next_sent h t) ∷ h)
    ≡ video_stream s ticks h
    ++ frame_datagrams s (frame_behind (length (video_stream s ticks h)) (frames h + 1) (choice h t).kind t.time u)
unfolding video_stream
video-more s ticks h t u here is =
    let c = choice h t in
    let count = length (video_stream s ticks h) in
    let f = sent_as t.number c.kind c.reference (tick_of h c.reference) in
    let against = where_it_refers c.kind (tick_of h c.reference) in
    let out : Option Tick → OutgoingFrame =
    λ o. record { count = count; frame = frames h + 1; kind = c.kind; time = time_of o; unit = sent_unit o against } in
    let with : List ℕ → OutgoingFrame = λ unit. frame_behind count (frames h + 1) c.kind t.time unit in
    ap (λ (o : OutgoingFrame). video_stream s ticks h ++ frame_datagrams s o)
    (ap out here ∙ ap with (unit_sent t c.kind (tick_of h c.reference) u (choice_is_sound h t).known is))

pub video-gain : (s : StreamSettings) (ticks : List Tick) (h : List Entry) (t : Tick) (sent : Sent) (u : List ℕ) → SendsTick ticks h t sent
    → sent_unit_of t sent ≡ Some u
    → video_stream s ticks (sent_entry sent ∷ h)
    ≡ video_stream s ticks h ++ frame_datagrams s (frame_behind (length (video_stream s ticks h)) sent.frame sent.kind t.time u)
video-gain s ticks h t sent u is has =
    let P : Sent → Type 0 = λ x. sent_unit_of t x ≡ Some u
    → video_stream s ticks (sent_entry x ∷ h)
    ≡ video_stream s ticks h ++ frame_datagrams s (frame_behind (length (video_stream s ticks h)) x.frame x.kind t.time u) in
    subst P (sym is.sent_is) (λ e. video-more s ticks h t u is.newest_is e) has

-- how many datagrams went out then
pub count-gain : (old new ds : List (List ℕ)) (before c d : ℕ) → new ≡ old ++ ds → length old % 2 ^ 32 ≡ before → c ≡ before → d ≡ length ds
    → length new % 2 ^ 32 ≡ (c + d) % 2 ^ 32
count-gain old new ds before c d grows is same number =
    ap (λ (l : List (List ℕ)). length l % 2 ^ 32) grows
    ∙ ap (λ (n : ℕ). n % 2 ^ 32) (length-append old ds)
    ∙ sym (mod-add-mod (length old) (2 ^ 32) (length ds))
    ∙ ap (λ (n : ℕ). (n + length ds) % 2 ^ 32) (is ∙ sym same)
    ∙ ap (λ (n : ℕ). (c + n) % 2 ^ 32) (sym number)

-- ---- the audio of a turn, over ticks that are shared

units-gain : {A : Type 0} (ticks : List Tick) (h : List Entry) (newest : Tick) (ts : List A) (val : A → Tick) → IsTurn ticks h newest (map val ts)
    → audio_units ticks (sent_entry (next_sent h newest) ∷ h) ≡ audio_units ticks h ++ (flat_map (λ t. (val t).audio) ts ++ newest.audio)
units-gain ticks h newest ts val is =
    audio-more ticks h newest (map val ts) is.of_capture is.numbers is.above
    ∙ ap (λ (l : List (List ℕ)). audio_units ticks h ++ (l ++ newest.audio)) (flat_map-map (λ (t : Tick). t.audio) val ts)

pub audio-gain : {A : Type 0} (s : StreamSettings) (ticks : List Tick) (h : List Entry) (newest : Tick) (ts : List A) (val : A → Tick)
    → IsTurn ticks h newest (map val ts)
    → audio_stream s ticks (sent_entry (next_sent h newest) ∷ h)
    ≡ audio_stream s ticks h ++ sound_behind s (audio_units ticks h) (flat_map (λ t. (val t).audio) ts ++ newest.audio)
unfolding audio_stream
audio-gain s ticks h newest ts val is =
    ap (audio_datagrams s) (units-gain ticks h newest ts val is)
    ∙ sound-stream s (audio_units ticks h) (flat_map (λ t. (val t).audio) ts ++ newest.audio)

pub pushed-gain : {A : Type 0} (sender : Sending) (ticks : List Tick) (h : List Entry) (newest : Tick) (ts : List A) (val : A → Tick)
    → IsTurn ticks h newest (map val ts) → HasPushed sender ((audio_units ticks h ++ flat_map (λ t. (val t).audio) ts) ++ newest.audio)
    → HasPushed sender (audio_units ticks (sent_entry (next_sent h newest) ∷ h))
pushed-gain sender ticks h newest ts val is p =
    subst (HasPushed sender)
    (append_assoc (audio_units ticks h) (flat_map (λ t. (val t).audio) ts) newest.audio ∙ sym (units-gain ticks h newest ts val is)) p

-- ---- how many units a turn has

-- the last tick is that of the last frame
pub last-sent : (h : List Entry) (s : Sent) → last_tick (sent_entry s ∷ h) ≡ s.tick
last-sent h s = tick_of-sent h s.tick s.kind s.reference (frames h + 1) refl

between_few : {A : Type 0} (ts : List A) (val : A → Tick) (h : List Entry) (n : ℕ) → map (λ t. (val t).number) ts ≡ numbers_between h n
    → length ts ≤ n - (last_tick h + 1)
between_few {A} ts val h n numbers =
    let m = n - (last_tick h + 1) in
    let few : length ts ≡ length (numbers_between h n) = sym (length-map ts (λ t. (val t).number)) ∙ ap length numbers in
    elim (cases_Bool (frames h == 0)) [
      | inl first ↦
          let none : length (numbers_between h n) ≡ 0 =
          ap length (cond-true (frames h == 0) [] (range_with_len (last_tick h + 1) m) first) in
          omega (arith, few, none)
      | inr later ↦
          let all : length (numbers_between h n) ≡ m =
          ap length (cond-false (frames h == 0) [] (range_with_len (last_tick h + 1) m) later) ∙ length-range_with_len (last_tick h + 1) m in
          omega (arith, few, all)
    ]

units_few : {A : Type 0} (ts : List A) (val : A → Tick) (s : StreamSettings) → All (λ t. IsSendable s (val t)) ts
    → length (flat_map (λ t. (val t).audio) ts) ≤ 16 * length ts
units_few [] val s all = omega arith
units_few {A} (t ∷ ts) val s all =
    let f : A → List (List ℕ) = λ x. (val x).audio in
    let here : length (f t) ≤ 16 = (All-head (λ (x : A). IsSendable s (val x)) t ts all).units in
    let rest : length (flat_map f ts) ≤ 16 * length ts = units_few ts val s (All-tail (λ (x : A). IsSendable s (val x)) t ts all) in
    omega (arith, length-append (f t) (flat_map f ts), here, rest)

-- at most sixteen a tick
pub turn-few : {A : Type 0} (ts : List A) (val : A → Tick) (s : StreamSettings) (h : List Entry) (newest : Tick) (pushed : ℕ) → IsSendable s newest
    → All (λ t. IsSendable s (val t)) ts → map (λ t. (val t).number) ts ≡ numbers_between h newest.number → last_tick h < newest.number
    → pushed ≤ 16 * last_tick h → pushed + (length (flat_map (λ t. (val t).audio) ts) + length newest.audio) ≤ 16 * newest.number
turn-few {A} ts val s h newest pushed is all numbers above few =
    let here : length newest.audio ≤ 16 = is.units in
    omega (arith, units_few ts val s all, between_few ts val h newest.number numbers, here)
