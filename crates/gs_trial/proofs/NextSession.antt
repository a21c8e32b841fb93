-- The next session of a trial is opened.
use Rattle.std.proofs.Common.{◌≡◌, ◌+◌, ◌<◌, ◌≤◌, ◌⊎◌, ◌&&◌, ℕ, Bool, true, false, List, [], ◌∷◌, ◌++◌, length, Ok, Err, refl, sym, ap}
use Rattle.std.proofs.Common.{subst, ◌∙◌, arith, inl, inr}
use Rattle.std.specs.Prelude.{nat_le, nat_lt}
use Rattle.std.proofs.lemmas.Bool.{and_parts, le-leb, leb-true, lt-ltb, ltb-true, false_from_ne_true}
use Rattle.gs_rtp.specs.Settings.{AreSettingsWithinLimits, StreamSettings}
use Rattle.gs_rtp.specs.Stream.{numbers_of}
use Rattle.gs_rtp.specs.declared.settings.Settings.{Settings}
use Rattle.gs_frames.specs.Client.{ClientSettings, least_window, most_window}
use Rattle.gs_feed.specs.Feeding.{Feeding}
use Rattle.gs_tape.specs.Tick.{Tick}
use Rattle.gs_tape.specs.Limits.{most_audio}
use Rattle.gs_loopback.specs.declared.session.Loopback.{Loopback}
use Rattle.gs_loopback.specs.Standing.{IsLoopbackOf}
use Rattle.gs_run.specs.CaptureFile.{CaptureFile}
use Rattle.gs_run.specs.Session.{RunSession, State}
use Rattle.gs_run.specs.Report.{Acted, quietly}
use Rattle.gs_run.specs.Deed.{Open}
use Rattle.gs_run.specs.Opening.{client_of, numbers_are_allowed, most_sessions, opened_session, opened_part, session_settings}
use Rattle.gs_run.specs.Refusal.{BadLine, refusal, refused_unless}
use Rattle.gs_run.specs.Done.{after}
use Rattle.gs_trial.specs.declared.error.StepError.TheVariants as step_error
use Rattle.gs_trial.specs.declared.trial.Trial.{Trial}
use Rattle.gs_trial.specs.Standing.{AreSessions, IsFeedOf}
use Rattle.gs_trial.specs.Stepping.{RunsIn}
use Rattle.gs_trial.proofs.OneDeed.{deed_done, deed_refused}
use Rattle.gs_trial.proofs.SessionLists.{session_more, sessions_long}
use Rattle.gs_report.proofs.Reported.{with_none}

-- ---- the numbers of a session

pub record Parts (packet percentage minimum window : ℕ) : Type 0 where
  pub packet_least : nat_le 1024 packet ≡ true
  pub packet_most : nat_le packet 1440 ≡ true
  pub percentage_most : nat_le percentage 100 ≡ true
  pub minimum_most : nat_le minimum 2 ≡ true
  pub window_least : nat_le least_window window ≡ true
  pub window_most : nat_le window most_window ≡ true

parts : (packet percentage minimum window : ℕ) → numbers_are_allowed packet percentage minimum window ≡ true → Parts packet percentage minimum window
parts packet percentage minimum window test =
    let a = and_parts (nat_le 1024 packet && nat_le packet 1440 && nat_le percentage 100 && nat_le minimum 2 && nat_le 1 window) (nat_le window 4) test in
    let b = and_parts (nat_le 1024 packet && nat_le packet 1440 && nat_le percentage 100 && nat_le minimum 2) (nat_le 1 window) a.0 in
    let c = and_parts (nat_le 1024 packet && nat_le packet 1440 && nat_le percentage 100) (nat_le minimum 2) b.0 in
    let d = and_parts (nat_le 1024 packet && nat_le packet 1440) (nat_le percentage 100) c.0 in
    let e = and_parts (nat_le 1024 packet) (nat_le packet 1440) d.0 in
    record { packet_least = e.0; packet_most = e.1; percentage_most = d.1; minimum_most = c.1; window_least = b.1; window_most = a.1 }

-- the settings of the next session's stream
abbrev pub next_settings : (packet percentage minimum duration audio number : ℕ) → StreamSettings
next_settings packet percentage minimum duration audio number = record {
  packet = packet;
  percentage = percentage;
  minimum = minimum;
  fps = 60;
  duration = duration;
  audio = audio;
  ssrc = number;
}

-- where the stream's numbers aren't within their limits
pub no_settings : (packet percentage minimum window duration audio number : ℕ) → audio ≤ most_audio → (duration ≡ 5) ⊎ (duration ≡ 10) → 1 ≤ number
    → number ≤ most_sessions
    → (AreSettingsWithinLimits (next_settings packet percentage minimum duration audio number) → ⊥)
    → numbers_are_allowed packet percentage minimum window ≡ false
no_settings packet percentage minimum window duration audio number least known some few not =
    false_from_ne_true (numbers_are_allowed packet percentage minimum window) (λ test.
    let p = parts packet percentage minimum window test in
    let slow : 1 ≤ 60 = omega arith in
    let quick : 60 ≤ 240 = omega arith in
    let small : number ≤ 9999 = omega (arith, few) in
    not (record {
      packet_least = leb-true 1024 packet p.packet_least;
      packet_greatest = leb-true packet 1440 p.packet_most;
      percentage_greatest = leb-true percentage 100 p.percentage_most;
      minimum_greatest = leb-true minimum 2 p.minimum_most;
      fps_least = slow;
      fps_greatest = quick;
      duration_known = known;
      audio_greatest = least;
      ssrc_least = some;
      ssrc_greatest = small;
    }))

pub no_window : (packet percentage minimum window : ℕ) → (nat_le least_window window && nat_le window most_window) ≡ false
    → numbers_are_allowed packet percentage minimum window ≡ false
no_window packet percentage minimum window not =
    false_from_ne_true (numbers_are_allowed packet percentage minimum window) (λ test.
    let p = parts packet percentage minimum window test in
    let both : (nat_le least_window window && nat_le window most_window) ≡ true = ap (λ (b : Bool). b && nat_le window most_window) p.window_least
    ∙ p.window_most in
    absurd (cc (both, not)))

-- where all are
pub all_settings : (packet percentage minimum window duration audio number : ℕ)
    → AreSettingsWithinLimits (next_settings packet percentage minimum duration audio number)
    → least_window ≤ window → window ≤ most_window → numbers_are_allowed packet percentage minimum window ≡ true
all_settings packet percentage minimum window duration audio number n least most =
    let a = le-leb 1024 packet n.packet_least in
    let b = both (nat_le 1024 packet) (nat_le packet 1440) a (le-leb packet 1440 n.packet_greatest) in
    let c = both (nat_le 1024 packet && nat_le packet 1440) (nat_le percentage 100) b (le-leb percentage 100 n.percentage_greatest) in
    let d = both (nat_le 1024 packet && nat_le packet 1440 && nat_le percentage 100) (nat_le minimum 2) c (le-leb minimum 2 n.minimum_greatest) in
    let e = both (nat_le 1024 packet && nat_le packet 1440 && nat_le percentage 100 && nat_le minimum 2) (nat_le 1 window) d (le-leb 1 window least) in
    both (nat_le 1024 packet && nat_le packet 1440 && nat_le percentage 100 && nat_le minimum 2 && nat_le 1 window) (nat_le window 4) e (le-leb window 4 most)
  where
    both : (x y : Bool) → x ≡ true → y ≡ true → (x && y) ≡ true
    both x y p q = ap (λ (z : Bool). z && y) p ∙ q

-- ---- a session too many, or with other numbers

pub opens_not : (old new : Trial) (packet percentage minimum window : ℕ) → new.reporter ≡ old.reporter
    → (most_sessions ≤ length old.sessions.items) ⊎ (numbers_are_allowed packet percentage minimum window ≡ false)
    → RunsIn old (Open packet percentage minimum window ∷ []) new (Err step_error.BadLine)
unfolding refusal
opens_not old new packet percentage minimum window same not = λ file left state stands.
    let long = sessions_long file.ticks 1 old.sessions.items state.sessions stands.sessions in
    let test : (nat_lt (length state.sessions) most_sessions && numbers_are_allowed packet percentage minimum window) ≡ false = by state.sessions long not in
    deed_refused file (Open packet percentage minimum window) state left new old.reporter new.reporter BadLine step_error.BadLine
    (ap refused_unless test) refl same
  where
    second : (a b : Bool) → b ≡ false → (a && b) ≡ false
    second true b e = e
    second false b e = refl

    by : (ss : List RunSession) → length ss ≡ length old.sessions.items
        → (most_sessions ≤ length old.sessions.items) ⊎ (numbers_are_allowed packet percentage minimum window ≡ false)
        → (nat_lt (length ss) most_sessions && numbers_are_allowed packet percentage minimum window) ≡ false
    by ss long (inl many) =
        let full : nat_lt (length ss) most_sessions ≡ false =
        false_from_ne_true (nat_lt (length ss) most_sessions) (λ less. absurd (omega (arith, many, long, ltb-true (length ss) most_sessions less))) in
        ap (λ (b : Bool). b && numbers_are_allowed packet percentage minimum window) full
    by ss long (inr bad) = second (nat_lt (length ss) most_sessions) (numbers_are_allowed packet percentage minimum window) bad

-- ---- one more

-- the numbers of its stream
pub record AreOf (s : Settings) (packet percentage minimum duration audio number : ℕ) : Type 0 where
  pub packet_is : s.packet ≡ packet
  pub percentage_is : s.percentage ≡ percentage
  pub minimum_is : s.minimum ≡ minimum
  pub fps_is : s.fps ≡ 60
  pub duration_is : s.duration ≡ duration
  pub audio_is : s.audio ≡ audio
  pub ssrc_is : s.ssrc ≡ number

numbers_are : (s : Settings) (file : CaptureFile) (number packet percentage minimum : ℕ)
    → AreOf s packet percentage minimum file.duration file.audio number
    → session_settings file number packet percentage minimum ≡ numbers_of s
numbers_are s file number packet percentage minimum are =
    let a = are.packet_is in
    let b = are.percentage_is in
    let c = are.minimum_is in
    let d = are.fps_is in
    let e = are.duration_is in
    let f = are.audio_is in
    let g = are.ssrc_is in
    cc

pub opens : (old new : Trial) (packet percentage minimum window w : ℕ) (s : Settings) (l : Loopback) → length old.sessions.items < most_sessions
    → numbers_are_allowed packet percentage minimum window ≡ true → w ≡ window
    → AreOf s packet percentage minimum old.feed.tape.duration old.feed.tape.audio (length old.sessions.items + 1)
    → new.feed ≡ old.feed → new.moment ≡ old.moment → new.reporter ≡ old.reporter → new.sessions.items ≡ old.sessions.items ++ l ∷ []
    → ((ticks : List Tick) (c : ClientSettings) → c.stream ≡ numbers_of s → c.stream.ssrc ≡ length old.sessions.items + 1 → c.window ≡ w
    → IsLoopbackOf l (length old.sessions.items + 1) ticks (opened_part (length old.sessions.items + 1) old.moment c))
    → RunsIn old (Open packet percentage minimum window ∷ []) new (Ok tt)
unfolding refusal after opened_session
opens old new packet percentage minimum window w s l room test is are feed moment same items made = λ file left state stands.
    let long = sessions_long file.ticks 1 old.sessions.items state.sessions stands.sessions in
    let number = length old.sessions.items + 1 in
    let settings = client_of (session_settings file number packet percentage minimum) window in
    let may : (nat_lt (length state.sessions) most_sessions && numbers_are_allowed packet percentage minimum window) ≡ true =
    ap (λ (b : Bool). b && numbers_are_allowed packet percentage minimum window) (lt-ltb (length state.sessions) most_sessions (omega (arith, long, room)))
    ∙ test in
    let known : AreOf s packet percentage minimum file.duration file.audio number = record {
      packet_is = are.packet_is;
      percentage_is = are.percentage_is;
      minimum_is = are.minimum_is;
      fps_is = are.fps_is;
      duration_is = are.duration_is ∙ stands.feed.duration;
      audio_is = are.audio_is ∙ stands.feed.audio;
      ssrc_is = are.ssrc_is;
    } in
    let now = opened_part number old.moment settings in
    let part = made file.ticks settings (numbers_are s file number packet percentage minimum known) refl (sym is) in
    let session : RunSession = record { part = now; earlier = [] } in
    let next : State = record state { sessions = state.sessions ++ session ∷ [] } in
    let acted : Acted State = quietly next in
    let S : ℕ → ℕ → Acted State = λ n m. quietly (record state {
      sessions = state.sessions
          ++ record { part = opened_part n m (client_of (session_settings file n packet percentage minimum) window); earlier = [] } ∷ [];
    }) in
    let whole : S (length state.sessions + 1) state.moment ≡ acted =
    ap (λ (n : ℕ). S (n + 1) state.moment) long ∙ ap (λ (m : ℕ). S number m) (sym stands.moment) in
    deed_done file (Open packet percentage minimum window) state left new old.reporter acted (ap refused_unless may) whole
    (record {
      feed = subst (λ (f : Feeding). IsFeedOf f file left) (sym feed) stands.feed;
      captured = ap (λ (f : Feeding). f.count) feed ∙ stands.captured;
      moment = moment ∙ stands.moment;
      sessions = subst (λ (ls : List Loopback). AreSessions file.ticks 1 ls (state.sessions ++ session ∷ [])) (sym items)
          (session_more file.ticks 1 old.sessions.items state.sessions l session stands.sessions
          (record { part = subst (λ (n : ℕ). IsLoopbackOf l n file.ticks now) (omega arith) part; earlier = refl }));
    }) (same ∙ sym (with_none old.reporter))
