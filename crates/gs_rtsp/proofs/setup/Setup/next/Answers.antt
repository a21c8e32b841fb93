use Rattle.std.proofs.Common.{◌≡◌, ◌∙◌, Option, None, Some, refl}
use Rattle.std.specs.Prelude.{is_some, option_map}
use Rattle.std.specs.Option.{option_copied}
use Rattle.gs_rtsp.specs.Asking.{with_reply}
use Rattle.gs_rtsp.proofs.Steps.{asked_is, next_is}
use Rattle.gs_rtsp.proofs.setup.Setup.next.Goals as goal

is_some_map : {A B : Type 0} (f : A → B) (o : Option A) → is_some (option_map f o) ≡ is_some o
is_some_map f None = refl
is_some_map f (Some x) = refl

pub returns-in_ok-step-in-Ok-clause-next : goal.returns-in_ok-step-in-Ok-clause-next
returns-in_ok-step-in-Ok-clause-next c = λ want host replies a.
    let reply = option_copied c.args.reply in
    let setup = c.args.self.now in
    let j = c.in-Ok.ensures.judged want host replies a in
    next_is setup want host (with_reply reply replies) c.in-Ok.settings c.in_ok-step-in-Ok.step a.host_is
    (asked_is setup want host replies reply (is_some_map (λ x. x.now) c.args.reply ∙ c.requires.reply) c.in-Ok.ensures.faultless a) j.0 j.1
    c.in_ok-step-in-Ok.ensures.step
