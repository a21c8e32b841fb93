use Rattle.std.proofs.Common.{◌≡◌, ℕ, List, [], ◌∷◌, ◌+◌, ◌≤◌, inl, inr, refl, arith, sym, subst, length}
use Rattle.std.specs.List.{All}
use Rattle.std.proofs.lemmas.List.Elements.{All-push}
use Rattle.gs_tape.specs.Tick.{Tick}
use Rattle.gs_rtp.specs.Settings.{AreSettingsWithinLimits}
use Rattle.gs_rtp.specs.Stream.{numbers_of}
use Rattle.gs_frames.specs.Client.{ClientSettings, least_window, most_window}
use Rattle.gs_host_end.specs.Outcomes.{KeepsTicks}
use Rattle.gs_loopback.specs.Standing.{IsLoopbackOf}
use Rattle.gs_run.specs.Deed.{Open}
use Rattle.gs_run.specs.Opening.{opened_part}
use Rattle.gs_trial.proofs.NextSession.{all_settings, next_settings, no_settings, no_window, opens, opens_not}
use Rattle.gs_trial.proofs.OneDeed.{unknown}
use Rattle.gs_trial.proofs.trial.Trial.open.Goals as goal

pub returns-then-len-ge-MOST_SESSIONS-clause-ran : goal.returns-then-len-ge-MOST_SESSIONS-clause-ran
returns-then-len-ge-MOST_SESSIONS-clause-ran c =
    let many : 8 ≤ length c.args.self.now.sessions.items = omega arith in
    opens_not c.args.self.now c.args.self.now c.args.packet c.args.percentage c.args.minimum c.args.window refl (inl many)

pub returns-in_default-clause-ran : goal.returns-in_default-clause-ran
returns-in_default-clause-ran c =
    let feed = c.args.self.now.feed in
    let none = no_settings c.args.packet c.args.percentage c.args.minimum c.args.window feed.tape.duration feed.tape.audio
    (length c.args.self.now.sessions.items + 1) c.requires.ready.audio c.requires.ready.duration (omega arith) (omega arith)
    (λ within. absurd (cc (c.in_default.ensures.within.1 within))) in
    opens_not c.args.self.now c.args.self.now c.args.packet c.args.percentage c.args.minimum c.args.window refl (inr none)

pub returns-in_default-window_of-clause-ran : goal.returns-in_default-window_of-clause-ran
returns-in_default-window_of-clause-ran c =
    let none = no_window c.args.packet c.args.percentage c.args.minimum c.args.window c.in_default-window_of.ensures.none in
    opens_not c.args.self.now c.args.self.now c.args.packet c.args.percentage c.args.minimum c.args.window refl (inr none)

pub returns-clause-ready : goal.returns-clause-ready
returns-clause-ready c =
    let ready = c.requires.ready in
    let old = c.args.self.now in
    let keeps = c.in_ok-opened.ensures.keeps old.feed (sym c.in-Some.ensures.audio) in
    record {
      stage = ready.stage;
      audio = ready.audio;
      duration = ready.duration;
      keep = subst (All (λ l. KeepsTicks old.feed l.host)) (sym c.in_ok-push.ensures.items)
          (All-push (λ l. KeepsTicks old.feed l.host) old.sessions.items c.in_ok-opened.opened ready.keep keeps);
    }

pub returns-clause-ran : goal.returns-clause-ran
returns-clause-ran c =
    let old = c.args.self.now in
    let items = old.sessions.items in
    let s = c.in-Some.settings in
    let is = c.in-Some.ensures in
    let w = c.in-Some-window_of in
    let Made : ℕ → Type 0 = λ n. (ticks : List Tick) (d : ClientSettings) → d.stream ≡ numbers_of s → d.stream.ssrc ≡ n + 1 → d.window ≡ w.window
    → IsLoopbackOf c.in_ok-opened.opened (n + 1) ticks (opened_part (n + 1) old.moment d) in
    let number : c.len-2.result ≡ length items = omega arith in
    let within : AreSettingsWithinLimits
    (next_settings c.args.packet c.args.percentage c.args.minimum old.feed.tape.duration old.feed.tape.audio (length items + 1)) =
    is.within.0 refl in
    let test = all_settings c.args.packet c.args.percentage c.args.minimum c.args.window old.feed.tape.duration old.feed.tape.audio (length items + 1) within
    (subst (λ (k : ℕ). least_window ≤ k) w.ensures.some.0 w.ensures.some.1) (subst (λ (k : ℕ). k ≤ most_window) w.ensures.some.0 w.ensures.some.2) in
    opens old _ c.args.packet c.args.percentage c.args.minimum c.args.window w.window s c.in_ok-opened.opened (omega arith) test w.ensures.some.0
    (record {
      packet_is = is.packet;
      percentage_is = is.percentage;
      minimum_is = is.minimum;
      fps_is = is.fps;
      duration_is = is.duration;
      audio_is = is.audio;
      ssrc_is = is.ssrc;
    }) refl refl refl c.in_ok-push.ensures.items (subst Made number c.in_ok-opened.ensures.stands)

pub returns-in_err-push-clause-ran : goal.returns-in_err-push-clause-ran
returns-in_err-push-clause-ran c =
    unknown c.args.self.now _ (Open c.args.packet c.args.percentage c.args.minimum c.args.window ∷ []) c.from_residual-in_err-push.result
    c.from_residual-in_err-push.ensures.1
