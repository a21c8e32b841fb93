use Rattle.std.proofs.Common.{◌≡◌, ℕ, sym, ap, subst, ◌∙◌, refl, Bool, [], ◌∷◌}
use Rattle.gs_run.specs.Deed.{Mark}
use Rattle.gs_run.specs.Session.{PartMarks}
use Rattle.gs_run.specs.Pump.{ends_of, next_pumped}
use Rattle.gs_loopback.specs.Standing.{run_marks}
use Rattle.gs_loopback.specs.Running.{run_delivery, pumped_deed, run_pumping}
use Rattle.gs_loopback.specs.Outcomes.{RanAll}
use Rattle.gs_loopback.proofs.Turns.{one_done}
use Rattle.gs_loopback.proofs.Parts.{sent_nothing}
use Rattle.gs_loopback.proofs.Pumps.{pump_moves, pump_ends, pump_stops}
use Rattle.gs_report.proofs.Reported.{with_none}
use Rattle.gs_loopback.proofs.session.Loopback.pump.Goals as goal

pub returns-in_default-clause-pumped : goal.returns-in_default-clause-pumped
returns-in_default-clause-pumped c =
    λ scene part at h.
    let far = c.deliveries.invariant.far scene part at h in
    let is : Mark ≡ next_pumped c.args.every (run_pumping c.deliveries.pumping) (ends_of scene far.part) =
    sym (ap pumped_deed c.in_default.is) ∙ c.next.ensures
    ∙ ap (λ (n : ℕ). next_pumped n (run_pumping c.deliveries.pumping) (run_marks c.ends.result)) c.from.ensures
    ∙ ap (λ (m : PartMarks). next_pumped c.args.every (run_pumping c.deliveries.pumping) m) (c.ends.ensures scene far.part far.stands) in
    pump_ends scene c.args.every part (run_pumping c.deliveries.pumping) c.args.reporter.now c.deliveries.self c.mark.new.self
    c.deliveries.reporter c.deliveries.reporter far is
    (one_done scene Mark far.part c.mark.new.self c.deliveries.reporter c.deliveries.reporter refl
    (c.in_ok-mark.ensures.marked scene far.part at far.stands) (sym (with_none c.deliveries.reporter)))

pub returns-then-not-branch-clause-pumped : goal.returns-then-not-branch-clause-pumped
returns-then-not-branch-clause-pumped c =
    λ scene part at h.
    let far = c.deliveries.invariant.far scene part at h in
    let is : run_delivery c.in-Some.delivery ≡ next_pumped c.args.every (run_pumping c.deliveries.pumping) (ends_of scene far.part) =
    sym (ap pumped_deed c.in-Some.is) ∙ c.next.ensures
    ∙ ap (λ (n : ℕ). next_pumped n (run_pumping c.deliveries.pumping) (run_marks c.ends.result)) c.from.ensures
    ∙ ap (λ (m : PartMarks). next_pumped c.args.every (run_pumping c.deliveries.pumping) m) (c.ends.ensures scene far.part far.stands) in
    pump_stops scene c.args.every part (run_pumping c.deliveries.pumping) c.args.reporter.now c.deliveries.self c.deliver.new.self
    c.deliveries.reporter c.deliver.new.reporter far c.in-Some.delivery is
    (subst (λ (b : Bool). RanAll scene (run_delivery c.in-Some.delivery ∷ []) far.part b c.deliver.new.self c.deliveries.reporter c.deliver.new.reporter)
    c.if-not-branch.true (c.in_ok-deliver.ensures.ran scene far.part at far.stands))

pub deliveries-preserved : goal.deliveries-preserved
deliveries-preserved c =
    record {
      far = λ scene part at h.
          let far = c.deliveries.invariant.far scene part at h in
          let is : run_delivery c.in-Some.delivery ≡ next_pumped c.args.every (run_pumping c.deliveries.pumping) (ends_of scene far.part) =
          sym (ap pumped_deed c.in-Some.is) ∙ c.next.ensures
          ∙ ap (λ (n : ℕ). next_pumped n (run_pumping c.deliveries.pumping) (run_marks c.ends.result)) c.from.ensures
          ∙ ap (λ (m : PartMarks). next_pumped c.args.every (run_pumping c.deliveries.pumping) m) (c.ends.ensures scene far.part far.stands) in
          pump_moves scene c.args.every part (run_pumping c.deliveries.pumping) (run_pumping c.move_behind.new.self) c.args.reporter.now
          c.deliveries.self c.deliver.new.self c.deliveries.reporter c.deliver.new.reporter far c.in-Some.delivery is c.move_behind.ensures
          (subst (λ (b : Bool). RanAll scene (run_delivery c.in-Some.delivery ∷ []) far.part b c.deliver.new.self c.deliveries.reporter c.deliver.new.reporter)
          c.if-not-branch.false (c.in_ok-deliver.ensures.ran scene far.part at far.stands));
      sent = sent_nothing c.args.self.now.host c.deliveries.self.host c.deliver.new.self.host c.deliveries.invariant.sent c.in_ok-deliver.ensures.sent;
    }
