use Rattle.std.proofs.Common.{◌∙◌, inr, refl, subst, sym}
use Rattle.gs_schedule.specs.declared.status.TrialStatus.{TrialStatus}
use Rattle.gs_schedule.specs.declared.status.TrialStatus.TheVariants as status
use Rattle.gs_run.specs.Run.{finished}
use Rattle.gs_trial.specs.Running.{WritesBehind}
use Rattle.gs_bytes.proofs.Cases.{from_ok}
use Rattle.gs_trial.proofs.Leading.{front_of, same_stands}
use Rattle.std.proofs.lemmas.Result.{err_from_is_err_and, IfErr-weaker}
use Rattle.gs_trial.proofs.Keeping.{ready_still}
use Rattle.gs_trial.proofs.Stopped.{never_tape}
use Rattle.gs_trial.proofs.Taking.{cut_rest}
use Rattle.gs_trial.proofs.Scripts.{finish_fails, finish_writes}
use Rattle.gs_trial.proofs.Texts.{front_all}
use Rattle.gs_trial.proofs.trial.Trial.finish.Goals as goal

pub returns-clause-finishes : goal.returns-clause-finishes
returns-clause-finishes g c = λ file state stands.
    let old = c.args.self.now.reporter in
    let wrote = c.in_ok-write_text.ensures in
    let here = same_stands c.args.self.now c.write_text.new.self file _ state wrote.kept stands in
    let sums = from_ok c.report_sums.result _ (sym c.is_err.ensures.value ∙ c.if-is_err.false) c.report_sums.ensures.sums in
    finish_writes old c.write_text.new.self.reporter c.report_sums.new.self.reporter file.fault state _ _ (g.K.Outside.written c.write_text-2.new.out)
    c.write_text-2.result wrote.ok wrote.kept.detail wrote.empty (c.in_default.ensures.ends file.ticks file.fault here.feed.stands)
    (sums file.ticks state.sessions here.sessions)
    c.write_text-2.ensures.ok c.write_text-2.ensures.err c.write_text-2.ensures.cause

pub returns-in-Err-clause-finishes : goal.returns-in-Err-clause-finishes
returns-in-Err-clause-finishes g c = λ file state stands.
    let old = c.args.self.now.reporter in
    let wrote = c.in_ok-write_text.ensures in
    let here = same_stands c.args.self.now c.write_text.new.self file _ state wrote.kept stands in
    subst (λ (s : TrialStatus). WritesBehind old (finished file.fault state) (g.K.Outside.written c.args.out.now) (g.K.Outside.written c.write_text.new.out) s)
    (sym c.tape_status.ensures)
    (finish_fails old file.fault state _ _ c.in-Err.error (c.in-Err.ensures.ends file.ticks file.fault here.feed.stands) wrote.ok)

pub returns-then-is_err-clause-finishes : goal.returns-then-is_err-clause-finishes
returns-then-is_err-clause-finishes g c = λ file state stands.
    let old = c.args.self.now.reporter in
    front_of old (finished file.fault state) _ _ status.OutOfMemory refl (front_all _ _ old.text c.in_ok-write_text.ensures.ok)

pub returns-in_err-write_text-clause-at_rest : goal.returns-in_err-write_text-clause-at_rest
returns-in_err-write_text-clause-at_rest g c =
    let p = err_from_is_err_and c.from_residual.result c.from_residual.ensures.1 in
    rw (p.1, p.2) (λ is. never_tape _ _ c.in_err-write_text.ensures.cause is)

pub returns-in-Err-clause-at_rest : goal.returns-in-Err-clause-at_rest
returns-in-Err-clause-at_rest g c = λ is. c.in_ok-write_text.ensures.ok

pub returns-then-is_err-clause-at_rest : goal.returns-then-is_err-clause-at_rest
returns-then-is_err-clause-at_rest g c = λ is. c.in_ok-write_text.ensures.ok

pub returns-clause-at_rest : goal.returns-clause-at_rest
returns-clause-at_rest g c = IfErr-weaker c.write_text-2.result _ _ (λ answer cause is. never_tape answer _ cause is) c.write_text-2.ensures.cause

pub returns-in_err-write_text-clause-cut : goal.returns-in_err-write_text-clause-cut
returns-in_err-write_text-clause-cut g c =
    let p = err_from_is_err_and c.from_residual.result c.from_residual.ensures.1 in
    rw (p.1, p.2) (λ is. never_tape _ _ c.in_err-write_text.ensures.cause is)

pub returns-in-Err-clause-cut : goal.returns-in-Err-clause-cut
returns-in-Err-clause-cut g c = λ is bytes had.
    let wrote = c.in_ok-write_text.ensures in
    let here = c.write_text.new.self in
    let ready = ready_still c.args.self.now here wrote.kept c.requires.ready in
    cut_rest c.in-Err.error bytes c.args.self.now.feed here.feed _ _ c.tape_status.result wrote.kept.feed c.tape_status.ensures is
    (c.in-Err.ensures.bytes bytes ready.stage) had

pub returns-then-is_err-clause-cut : goal.returns-then-is_err-clause-cut
returns-then-is_err-clause-cut g c = λ is. never_tape status.OutOfMemory _ (inr refl) is

pub returns-clause-cut : goal.returns-clause-cut
returns-clause-cut g c = IfErr-weaker c.write_text-2.result _ _ (λ answer cause is. never_tape answer _ cause is) c.write_text-2.ensures.cause
