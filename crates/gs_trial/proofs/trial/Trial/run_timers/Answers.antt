use Rattle.std.proofs.Common.{◌≡◌, ◌<◌, ◌∙◌, ℕ, List, length, refl, sym, subst, arith}
use Rattle.std.proofs.lemmas.List.{length-set}
use Rattle.std.proofs.lemmas.List.Elements.{All-set}
use Rattle.gs_host_end.specs.Outcomes.{KeepsTicks}
use Rattle.gs_loopback.specs.declared.session.Loopback.{Loopback}
use Rattle.gs_loopback.proofs.Parts.{still_keeps}
use Rattle.gs_report.specs.Reporting.{Did}
use Rattle.gs_report.proofs.Reported.{with_none}
use Rattle.gs_run.specs.Report.{Acted}
use Rattle.gs_run.specs.Session.{RunSession}
use Rattle.gs_trial.specs.Standing.{AreSessions}
use Rattle.gs_trial.proofs.SessionLists.{sessions_long}
use Rattle.gs_trial.proofs.Timers.{timed_all, timed_more, timed_none, timed_to}
use Rattle.gs_trial.proofs.trial.Trial.run_timers.Goals as goal

pub sessions-init : goal.sessions-init
sessions-init c =
    let ready = c.requires.ready in
    record {
      ready = record { stage = ready.stage; audio = ready.audio; duration = ready.duration; keep = ready.keep };
      feed = (refl, refl);
      long = refl;
      timed = λ ticks ss are.
          subst (λ (a : Acted (List RunSession)). Did (AreSessions ticks 1 c.args.self.now.sessions.items) a c.args.self.now.reporter c.args.self.now.reporter)
          (sym (timed_none 1 c.args.moment ss)) (record { stands = are; text = sym (with_none c.args.self.now.reporter) });
    }

pub sessions-preserved : goal.sessions-preserved
sessions-preserved c =
    let inv = c.sessions.invariant in
    let before = c.sessions.self in
    let items = before.sessions.items in
    let ready = inv.ready in
    let within : c.sessions.place < length items = omega arith in
    let was = c.index_mut-session.result.now in
    let keeps : KeepsTicks before.feed was.host =
    subst (λ (l : Loopback). KeepsTicks before.feed l.host) (sym c.index_mut-session.ensures.value) (ready.keep c.sessions.place was within) in
    let timed = still_keeps before.feed was.host c.timer.new.self.host c.in_ok-timer.ensures.sent keeps in
    let settled = still_keeps before.feed c.timer.new.self.host c.settle.new.self.host c.in_ok-settle.ensures.sent timed in
    record {
      ready = record {
        stage = ready.stage;
        audio = ready.audio;
        duration = ready.duration;
        keep = All-set (λ l. KeepsTicks before.feed l.host) items c.sessions.place c.settle.new.self settled ready.keep;
      };
      feed = inv.feed;
      long = length-set items c.sessions.place c.settle.new.self ∙ inv.long;
      timed = λ ticks ss are.
          timed_more ticks c.args.moment c.sessions.place items ss was c.timer.new.self c.settle.new.self c.args.self.now.reporter before.reporter
          c.timer.new.reporter (inv.timed ticks ss are) within c.index_mut-session.ensures.value c.in_ok-timer.ensures.timed c.in_ok-settle.ensures.settled;
    }

pub returns-clause-timed : goal.returns-clause-timed
returns-clause-timed c = λ ticks ss are.
    let did = c.sessions.invariant.timed ticks ss are in
    let long = sessions_long ticks 1 c.args.self.now.sessions.items ss are in
    let all : c.sessions.place ≡ length ss = omega arith in
    subst (λ (a : Acted (List RunSession)). Did (AreSessions ticks 1 c.sessions.self.sessions.items) a c.args.self.now.reporter c.sessions.self.reporter)
    (timed_all 1 c.args.moment ss)
    (subst (λ (k : ℕ). Did (AreSessions ticks 1 c.sessions.self.sessions.items)
    (timed_to 1 c.args.moment k ss) c.args.self.now.reporter c.sessions.self.reporter)
    all did)
