use Rattle.std.proofs.Common.{◌≤◌, ◌+◌, ◌-◌, subst, refl, Bool, [], ◌∷◌, arith}
use Rattle.gs_run.specs.Deed.{TakeVideo}
use Rattle.gs_loopback.specs.Outcomes.{RanAll}
use Rattle.gs_loopback.proofs.Parts.{sent_nothing}
use Rattle.gs_loopback.proofs.Videos.{videos_begin, videos_move, videos_end, videos_stop}
use Rattle.gs_loopback.proofs.session.Loopback.deliver_videos.Goals as goal

pub returns-then-not-branch-clause-ran : goal.returns-then-not-branch-clause-ran
returns-then-not-branch-clause-ran c =
    λ scene part at h.
    let far = c.videos.invariant.far scene part at h in
    videos_stop scene c.args.first c.args.last c.videos.number part c.args.reporter.now c.videos.self c.deliver.new.self
    c.videos.reporter c.deliver.new.reporter c.videos.invariant.begun c.videos-test.true far
    (subst (λ (b : Bool). RanAll scene (TakeVideo c.videos.number ∷ []) far.part b c.deliver.new.self c.videos.reporter c.deliver.new.reporter)
    c.if-not-branch.true (c.in_ok-deliver.ensures.ran scene far.part at far.stands))

pub videos-preserved : goal.videos-preserved
videos-preserved c =
    let begun : c.args.first ≤ c.videos.number = c.videos.invariant.begun in
    let test : c.videos.number ≤ c.args.last = c.videos-test.true in
    record {
      begun = omega (arith, begun);
      within = omega (arith, begun, test);
      far = λ scene part at h.
          let far = c.videos.invariant.far scene part at h in
          videos_move scene c.args.first c.videos.number (c.videos.number + 1) part c.args.reporter.now c.videos.self c.deliver.new.self
          c.videos.reporter c.deliver.new.reporter c.videos.invariant.begun refl far
          (subst (λ (b : Bool). RanAll scene (TakeVideo c.videos.number ∷ []) far.part b c.deliver.new.self c.videos.reporter c.deliver.new.reporter)
          c.if-not-branch.false (c.in_ok-deliver.ensures.ran scene far.part at far.stands));
      sent = sent_nothing c.args.self.now.host c.videos.self.host c.deliver.new.self.host c.videos.invariant.sent c.in_ok-deliver.ensures.sent;
    }

pub returns-clause-ran : goal.returns-clause-ran
returns-clause-ran c =
    λ scene part at h.
    let within : c.videos.number - c.args.first ≤ c.args.last + 1 - c.args.first = c.videos.invariant.within in
    let test = c.videos-test.false in
    videos_end scene c.args.first c.args.last c.videos.number part c.args.reporter.now c.videos.self c.videos.reporter
    (omega (arith, within, test)) (c.videos.invariant.far scene part at h)

pub returns-else-not-branch-clause-ran : goal.returns-else-not-branch-clause-ran
returns-else-not-branch-clause-ran c =
    λ scene part at h.
    let far = c.videos.invariant.far scene part at h in
    let begun : c.args.first ≤ c.videos.number = c.videos.invariant.begun in
    let test : c.videos.number ≤ c.args.last = c.videos-test.true in
    let next = videos_move scene c.args.first c.videos.number (c.videos.number + 1) part c.args.reporter.now c.videos.self c.deliver.new.self
    c.videos.reporter c.deliver.new.reporter c.videos.invariant.begun refl far
    (subst (λ (b : Bool). RanAll scene (TakeVideo c.videos.number ∷ []) far.part b c.deliver.new.self c.videos.reporter c.deliver.new.reporter)
    c.if-not-branch.false (c.in_ok-deliver.ensures.ran scene far.part at far.stands)) in
    videos_end scene c.args.first c.args.last (c.videos.number + 1) part c.args.reporter.now c.deliver.new.self c.deliver.new.reporter
    (omega (arith, begun, test, c.videos.auto.number-end)) next

pub videos-init : goal.videos-init
videos-init c = record {
  begun = omega arith;
  within = omega arith;
  far = λ scene part at h. videos_begin scene c.args.first part c.args.reporter.now c.args.self.now h;
  sent = record { audio = refl; frames = refl; last_tick = refl };
}
