use Rattle.std.specs.Prelude.{Err}
use Rattle.std.proofs.Common.{subst}
use Rattle.std.proofs.lemmas.Result.{IfOk-weaker}
use Rattle.gs_host_core.specs.declared.error.ToldError.{ToldError}
use Rattle.gs_host_core.specs.ActOf.{act_of}
use Rattle.gs_host_end.proofs.Acting.{Told, keeps-told, heard-done, heard-refused, heard-ended}
use Rattle.gs_host_end.proofs.heard.act_on.Goals as goal

pub returns-in-Ok-clause-heard : goal.returns-in-Ok-clause-heard
returns-in-Ok-clause-heard c =
    let old = c.args.host.now in
    let new = c.told.new.self in
    IfOk-weaker c.done_line.result _ _ (λ line e.
    heard-done c.args.session c.args.channel c.args.message.now old new c.in-Ok.act line c.in-Ok.ensures.act.0
    c.in-Ok.ensures.told e)
    c.done_line.ensures

pub returns-in-Err-BadRange-clause-heard : goal.returns-in-Err-BadRange-clause-heard
returns-in-Err-BadRange-clause-heard c =
    let old = c.args.host.now in
    let new = c.told.new.self in
    heard-ended c.args.session c.args.channel c.args.message.now old new c.in-Err-BadRange.field-0-0 c.ended_line.result
    (subst (λ (x : ToldError). Told old new (act_of c.args.message.now) (Err x)) c.in-Err-BadRange.field-0-is c.in-Err-BadRange.ensures.told)
    c.ended_line.ensures

pub returns-in-Err-Ended-clause-heard : goal.returns-in-Err-Ended-clause-heard
returns-in-Err-Ended-clause-heard c =
    let old = c.args.host.now in
    let new = c.told.new.self in
    heard-refused c.args.session c.args.channel c.args.message.now old new
    (subst (λ (x : ToldError). Told old new (act_of c.args.message.now) (Err x)) c.in-Err-Ended.field-0-is c.in-Err-Ended.ensures.told)

pub returns-in-Ok-clause-keeps : goal.returns-in-Ok-clause-keeps
returns-in-Ok-clause-keeps c =
    keeps-told c.args.host.now c.told.new.self (act_of c.args.message.now) c.told.result c.told.ensures.settings c.told.ensures.stands c.told.ensures.told

pub returns-in-Err-BadRange-clause-keeps : goal.returns-in-Err-BadRange-clause-keeps
returns-in-Err-BadRange-clause-keeps c =
    keeps-told c.args.host.now c.told.new.self (act_of c.args.message.now) c.told.result c.told.ensures.settings c.told.ensures.stands c.told.ensures.told

pub returns-in-Err-Ended-clause-keeps : goal.returns-in-Err-Ended-clause-keeps
returns-in-Err-Ended-clause-keeps c =
    keeps-told c.args.host.now c.told.new.self (act_of c.args.message.now) c.told.result c.told.ensures.settings c.told.ensures.stands c.told.ensures.told

pub returns-in-Err-OutOfMemory-clause-keeps : goal.returns-in-Err-OutOfMemory-clause-keeps
returns-in-Err-OutOfMemory-clause-keeps c =
    keeps-told c.args.host.now c.told.new.self (act_of c.args.message.now) c.told.result c.told.ensures.settings c.told.ensures.stands c.told.ensures.told
