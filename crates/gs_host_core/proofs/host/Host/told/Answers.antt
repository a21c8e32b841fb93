use Rattle.std.proofs.Common.{◌≡◌, ◌⊎◌, Err, sym, subst, ◌∙◌}
use Rattle.std.proofs.lemmas.Result.{IfOk-weaker}
use Rattle.gs_host_core.specs.declared.act.Act.{Act}
use Rattle.gs_host_core.specs.declared.error.ToldError.TheVariants as told_error
use Rattle.gs_host_core.specs.Acts.{HasActButton, IsActTold}
use Rattle.gs_host_core.specs.ActOf.{act_of}
use Rattle.gs_host_core.proofs.host.Host.told.Goals as goal

pub returns-clause-told : goal.returns-clause-told
returns-clause-told c =
    subst (λ (x : Act). IsActTold c.args.self.now.history c.apply.new.self.history x c.apply.result
    ⊎ ((c.apply.result ≡ Err told_error.OutOfMemory) × (c.apply.new.self ≡ c.args.self.now)))
    c.act_of-act.ensures.value c.apply.ensures.told

pub returns-clause-act : goal.returns-clause-act
returns-clause-act c =
    let act = c.act_of-act.result in
    let bytes = c.args.message.now in
    IfOk-weaker c.apply.result (λ done. done ≡ act) (λ done. (done ≡ act_of bytes) × HasActButton done)
    (λ done e. (e ∙ c.act_of-act.ensures.value, subst HasActButton (sym e) c.act_of-act.ensures.button))
    c.apply.ensures.same
