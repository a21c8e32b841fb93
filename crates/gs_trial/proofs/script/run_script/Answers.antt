use Rattle.std.proofs.lemmas.Result.{err_from_is_err_and}
use Rattle.std.proofs.Common.{refl, sym, ◌∙◌}
use Rattle.gs_trial.proofs.Heads.{head_of_open, in_any_case, not_of_schedule}
use Rattle.gs_trial.proofs.Scripts.{script_ends, script_finishes, script_unopened}
use Rattle.gs_trial.proofs.Stopped.{script_stops, script_stops_behind, stops_unopened}
use Rattle.gs_trial.proofs.script.run_script.Goals as goal

pub returns-in-Err-clause-answers : goal.returns-in-Err-clause-answers
returns-in-Err-clause-answers g c =
    script_unopened c.whole_runs_hold.ensures.bytes c.args.detail (g.S.Outside.left c.args.tape.now) (g.T.Outside.left c.args.schedule.now)
    (g.K.Outside.written c.args.out.now) _ c.in-Err.error
    c.tape_status.result c.tape_status.ensures c.in-Err.ensures.opens

pub returns-in_err-run_lines-clause-answers : goal.returns-in_err-run_lines-clause-answers
returns-in_err-run_lines-clause-answers g c =
    let p = err_from_is_err_and c.from_residual.result c.from_residual.ensures.1 in
    let trial = c.new-trial.result in
    rw (p.1, p.2)
    (script_ends c.whole_runs_hold.ensures.bytes c.args.detail trial.reporter (g.S.Outside.left c.args.tape.now) (g.T.Outside.left c.args.schedule.now)
    (g.K.Outside.written c.args.out.now) (g.K.Outside.written c.run_lines.new.out) _ c.in-Ok.feed trial c.in_err-run_lines.field-0.0
    c.new-trial.ensures.text c.in-Ok.ensures.opens c.new-trial.ensures.stands c.in_err-run_lines.ensures.ends)

pub returns-clause-answers : goal.returns-clause-answers
returns-clause-answers g c =
    let trial = c.new-trial.result in
    script_finishes c.whole_runs_hold.ensures.bytes c.args.detail trial.reporter (g.S.Outside.left c.args.tape.now) (g.T.Outside.left c.args.schedule.now)
    (g.K.Outside.written c.args.out.now) (g.K.Outside.written c.run_lines.new.out) (g.K.Outside.written c.finish.new.out) _ _ c.in-Ok.feed trial
    c.run_lines.new.self _ c.new-trial.ensures.text c.in-Ok.ensures.opens c.new-trial.ensures.stands c.in_ok-run_lines.ensures.led c.finish.ensures.finishes

pub returns-in-Err-clause-head_first : goal.returns-in-Err-clause-head_first
returns-in-Err-clause-head_first g c = λ is. not_of_schedule c.in-Err.error _ (sym c.tape_status.ensures ∙ is)

pub returns-in_err-run_lines-clause-head_first : goal.returns-in_err-run_lines-clause-head_first
returns-in_err-run_lines-clause-head_first g c =
    in_any_case c.from_residual.result _ (head_of_open (g.S.Outside.left c.args.tape.now) _ c.in-Ok.feed c.in-Ok.ensures.opens)

pub returns-clause-head_first : goal.returns-clause-head_first
returns-clause-head_first g c =
    in_any_case c.finish.result _ (head_of_open (g.S.Outside.left c.args.tape.now) _ c.in-Ok.feed c.in-Ok.ensures.opens)

pub returns-in-Err-clause-stops : goal.returns-in-Err-clause-stops
returns-in-Err-clause-stops g c =
    stops_unopened c.args.detail (g.S.Outside.left c.args.tape.now) (g.T.Outside.left c.args.schedule.now) _ _ (g.K.Outside.written c.args.out.now)
    c.in-Err.error c.tape_status.result c.tape_status.ensures c.in-Err.ensures.bytes

pub returns-in_err-run_lines-clause-stops : goal.returns-in_err-run_lines-clause-stops
returns-in_err-run_lines-clause-stops g c =
    let p = err_from_is_err_and c.from_residual.result c.from_residual.ensures.1 in
    let trial = c.new-trial.result in
    rw (p.1, p.2)
    (script_stops c.args.detail trial.reporter (g.S.Outside.left c.args.tape.now) (g.T.Outside.left c.args.schedule.now) _ _ _
    (g.K.Outside.written c.args.out.now) (g.K.Outside.written c.run_lines.new.out) c.in-Ok.feed trial c.in_err-run_lines.field-0.0
    c.new-trial.ensures.text c.in-Ok.ensures.opens c.in-Ok.ensures.bytes c.in-Ok.ensures.first.0 c.new-trial.ensures.feed c.new-trial.ensures.stands
    c.in_err-run_lines.ensures.stops)

pub returns-clause-stops : goal.returns-clause-stops
returns-clause-stops g c =
    let trial = c.new-trial.result in
    script_stops_behind c.args.detail trial.reporter (g.S.Outside.left c.args.tape.now) (g.T.Outside.left c.args.schedule.now) _ _ _ _
    (g.K.Outside.written c.args.out.now) (g.K.Outside.written c.run_lines.new.out) (g.K.Outside.written c.finish.new.out) c.in-Ok.feed trial
    c.run_lines.new.self c.finish.result c.new-trial.ensures.text c.in-Ok.ensures.opens c.in-Ok.ensures.bytes c.in-Ok.ensures.first.0
    c.new-trial.ensures.feed c.new-trial.ensures.stands c.in_ok-run_lines.ensures.led c.in_ok-run_lines.ensures.taken c.finish.ensures.at_rest
    c.finish.ensures.cut c.finish.ensures.not_schedule

pub returns-in-Err-clause-headless : goal.returns-in-Err-clause-headless
returns-in-Err-clause-headless g c = λ no. (refl, refl)

pub returns-in_err-run_lines-clause-headless : goal.returns-in_err-run_lines-clause-headless
returns-in_err-run_lines-clause-headless g c = λ no.
    absurd (no (head_of_open (g.S.Outside.left c.args.tape.now) _ c.in-Ok.feed c.in-Ok.ensures.opens))

pub returns-clause-headless : goal.returns-clause-headless
returns-clause-headless g c = λ no. absurd (no (head_of_open (g.S.Outside.left c.args.tape.now) _ c.in-Ok.feed c.in-Ok.ensures.opens))
